use Rattle.contract_rules.proofs.CrewOff.{emergency_off_at_crew_off}
use Rattle.contract_rules.proofs.emergency_off_at_crew_off.Goals as goal

pub returns : goal.returns
returns c = emergency_off_at_crew_off
