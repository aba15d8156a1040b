use Rattle.aircraft_core.proofs.OneList.{same_downlinks}
use Rattle.aircraft_core.proofs.laws.a_journal_has_one_list_of_downlinks.Goals as goal

pub returns : goal.returns
returns c = same_downlinks
