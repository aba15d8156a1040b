use Rattle.run_rules.proofs.EachRun.{each_run}
use Rattle.run_rules.proofs.laws.a_script_has_a_run_under_each_order.Goals as goal

pub returns : goal.returns
returns c = each_run
