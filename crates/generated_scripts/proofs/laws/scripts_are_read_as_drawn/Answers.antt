use Rattle.generated_scripts.proofs.MadeScripts.{script_read}
use Rattle.generated_scripts.proofs.laws.scripts_are_read_as_drawn.Goals as goal

pub returns : goal.returns
returns c = script_read
