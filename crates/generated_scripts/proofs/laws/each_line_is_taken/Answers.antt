use Rattle.generated_scripts.proofs.MadeRuns.{script_taken}
use Rattle.generated_scripts.proofs.laws.each_line_is_taken.Goals as goal

pub returns : goal.returns
returns c = script_taken
