use Rattle.aircraft_core.proofs.LiveLaws.{one_addition}
use Rattle.aircraft_core.proofs.laws.an_entry_adds_one_list_of_texts.Goals as goal

pub returns : goal.returns
returns c = one_addition
