use Rattle.run_rules.proofs.OneReading.{one_reading}
use Rattle.run_rules.proofs.Scripts.{one_script}
use Rattle.run_rules.proofs.laws.a_line_has_one_reading.Goals as goal

pub returns-clause-line : goal.returns-clause-line
returns-clause-line c = one_reading

pub returns-clause-script : goal.returns-clause-script
returns-clause-script c = one_script
