use Rattle.shown_lines.proofs.LineLaws.{form_is_shown, text_is_shown}
use Rattle.shown_lines.proofs.show.ShownText.show_line.Goals as goal

pub returns-in-Some : goal.returns-in-Some
returns-in-Some c = text_is_shown _ _ _ _ _ _ c.requires c.in-Some.ensures.some c.show_text.ensures

pub returns-in-None : goal.returns-in-None
returns-in-None c = form_is_shown _ _ _ _ c.requires c.in-None.ensures.none c.show_refusal.ensures.text c.show_refusal.ensures.way
