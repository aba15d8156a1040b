use Rattle.shown_lines.proofs.LineLaws.{long_is_shown}
use Rattle.shown_lines.proofs.show.ShownText.show_long.Goals as goal

pub returns : goal.returns
returns c line long = long_is_shown _ _ _ _ long c.show_refusal.ensures.text c.show_refusal.ensures.way
