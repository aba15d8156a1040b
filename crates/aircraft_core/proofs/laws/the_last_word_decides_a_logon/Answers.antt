use Rattle.aircraft_core.proofs.LookingBack.{looked_back}
use Rattle.aircraft_core.proofs.laws.the_last_word_decides_a_logon.Goals as goal

pub returns : goal.returns
returns c = looked_back
