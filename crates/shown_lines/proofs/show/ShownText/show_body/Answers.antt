use Rattle.shown_lines.proofs.AircraftLaws.{characters_are_shown, payload_is_shown}
use Rattle.shown_lines.proofs.show.ShownText.show_body.Goals as goal

pub returns-in-Ads : goal.returns-in-Ads
returns-in-Ads c = payload_is_shown _ _ _ _ _ _ _ _ c.in-Ads.is c.as_slice.ensures.value c.show_downlink.ensures

pub returns-in-Afn : goal.returns-in-Afn
returns-in-Afn c = characters_are_shown _ _ _ _ _ _ _ c.in-Afn.is c.as_slice-in-Afn.ensures.value c.show_contact.ensures
