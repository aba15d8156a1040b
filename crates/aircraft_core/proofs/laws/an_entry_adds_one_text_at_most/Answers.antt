use Rattle.aircraft_core.proofs.LiveLaws.{few_added}
use Rattle.aircraft_core.proofs.laws.an_entry_adds_one_text_at_most.Goals as goal

pub returns : goal.returns
returns c = few_added
