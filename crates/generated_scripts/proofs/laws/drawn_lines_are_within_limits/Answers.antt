use Rattle.generated_scripts.proofs.MadeLines.{lines_within}
use Rattle.generated_scripts.proofs.laws.drawn_lines_are_within_limits.Goals as goal

pub returns : goal.returns
returns c = lines_within
