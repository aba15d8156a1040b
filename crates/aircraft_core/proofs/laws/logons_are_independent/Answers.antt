use Rattle.aircraft_core.proofs.LogonLaws.{same_logon}
use Rattle.aircraft_core.proofs.laws.logons_are_independent.Goals as goal

pub returns : goal.returns
returns c = same_logon
