use Rattle.generated_scripts.proofs.MadeLines.{lines_read}
use Rattle.generated_scripts.proofs.laws.drawn_lines_are_read_as_drawn.Goals as goal

pub returns : goal.returns
returns c = lines_read
