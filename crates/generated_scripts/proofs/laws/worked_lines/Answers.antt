use Rattle.std.proofs.Common.{refl}
use Rattle.generated_scripts.specs.Draws.{given_by, next_state}
use Rattle.generated_scripts.proofs.laws.worked_lines.Goals as goal

pub returns : goal.returns
unfolding given_by next_state
returns c = refl
