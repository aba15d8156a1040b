use Rattle.aircraft_core.proofs.LiveLaws.{added_behind}
use Rattle.aircraft_core.proofs.laws.what_is_added_stands_behind.Goals as goal

pub returns : goal.returns
returns c = added_behind
