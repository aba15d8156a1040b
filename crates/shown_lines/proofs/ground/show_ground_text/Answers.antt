use Rattle.shown_lines.proofs.GroundLaws.{reading_is_shown, text_within}
use Rattle.shown_lines.proofs.ground.show_ground_text.Goals as goal

pub returns-in-Refused : goal.returns-in-Refused
returns-in-Refused c = reading_is_shown _ _ _ c.read_ground_text.result _ _ c.read_ground_text.ensures c.in-Refused.is c.show_refusal.ensures.text c.show_refusal.ensures.way

pub returns-in-Ads : goal.returns-in-Ads
returns-in-Ads c = reading_is_shown _ _ _ c.read_ground_text.result _ _ c.read_ground_text.ensures c.in-Ads.is c.show_uplink.ensures.text c.show_uplink.ensures.way

pub returns-in-Afn : goal.returns-in-Afn
returns-in-Afn c = reading_is_shown _ _ _ c.read_ground_text.result _ _ c.read_ground_text.ensures c.in-Afn.is c.show_answer.ensures.text c.show_answer.ensures.way
