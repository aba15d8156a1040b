use Rattle.aircraft_core.proofs.Independence.{same_for_link}
use Rattle.aircraft_core.proofs.laws.links_are_independent.Goals as goal

pub returns : goal.returns
returns c = same_for_link
