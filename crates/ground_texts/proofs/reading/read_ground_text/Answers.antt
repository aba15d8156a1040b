use Rattle.std.proofs.Common.{refl}
use Rattle.ground_texts.proofs.reading.read_ground_text.Goals as goal

pub returns-in-Ads : goal.returns-in-Ads
returns-in-Ads c =
    let reads = rw c.as_slice.ensures.value at c.read_payload-asked.ensures in
    (c.in-Ok.envelope, c.in-Ok.ensures.found, rw c.in-Ads.is (refl, refl, refl, reads))

pub returns-in-Afn : goal.returns-in-Afn
returns-in-Afn c =
    let reads = rw c.as_slice-in-Afn.ensures.value at c.read_characters.ensures in
    (c.in-Ok.envelope, c.in-Ok.ensures.found, rw c.in-Afn.is (refl, reads))
