use Rattle.shown_lines.proofs.OneText.{one_text}
use Rattle.shown_lines.proofs.laws.lines_have_one_shown_text.Goals as goal

pub returns : goal.returns
returns c = one_text
