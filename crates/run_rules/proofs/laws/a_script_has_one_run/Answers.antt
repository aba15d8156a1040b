use Rattle.run_rules.proofs.OneRun.{one_output, one_run}
use Rattle.run_rules.proofs.laws.a_script_has_one_run.Goals as goal

pub returns-clause-run : goal.returns-clause-run
returns-clause-run c = one_run

pub returns-clause-output : goal.returns-clause-output
returns-clause-output c = one_output
