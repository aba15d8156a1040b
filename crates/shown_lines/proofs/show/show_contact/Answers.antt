use Rattle.shown_lines.proofs.AircraftLaws.{contact_is_shown, mismatch_is_shown}
use Rattle.shown_lines.proofs.show.show_contact.Goals as goal

pub returns-in-Ok : goal.returns-in-Ok
returns-in-Ok c = contact_is_shown _ _ _ _ _ c.in-Ok.ensures.found c.append_contact_text.ensures

pub returns-in-Err : goal.returns-in-Err
returns-in-Err c = mismatch_is_shown _ _ _ _ _ _ c.in-Err.ensures.fault c.show_mismatch.ensures.text c.show_mismatch.ensures.way
