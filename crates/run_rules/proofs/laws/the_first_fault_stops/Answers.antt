use Rattle.run_rules.proofs.FirstFaults.{first_fault_stops}
use Rattle.run_rules.proofs.laws.the_first_fault_stops.Goals as goal

pub returns : goal.returns
returns c = first_fault_stops
