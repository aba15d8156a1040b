use Rattle.run_rules.proofs.Scripts.{each_script}
use Rattle.run_rules.proofs.laws.each_input_is_a_script.Goals as goal

pub returns : goal.returns
returns c = each_script
