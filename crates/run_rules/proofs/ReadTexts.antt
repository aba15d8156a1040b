-- What a text that was read carries: a payload of 1 to 255 bytes, an answer with a code of one digit.
use Rattle.std.proofs.Common.{◌≡◌, ◌≤◌, ℕ, true, List, length, sym, subst, arith}
use Rattle.std.specs.Prelude.{nat_le}
use Rattle.std.proofs.lemmas.Bool.{and_parts}
use Rattle.std.proofs.lemmas.Bool.Decides.{nat_tests}
use Rattle.arrayvec.specs.ArrayVec.{ArrayVec}
use Rattle.hex.specs.Hex.{IsBytes}
use Rattle.acars_envelope.specs.Bodies.{HasItsForms, is_well_formed}
use Rattle.acars_envelope.specs.declared.texts.Body.{Body}
use Rattle.acars_envelope.specs.declared.texts.Body.TheVariants as body
use Rattle.ground_texts.specs.Readings.{ReadsBody, ReadsText}
use Rattle.ground_texts.specs.declared.ground_text.AdsUplink.{AdsUplink}
use Rattle.ground_texts.specs.declared.ground_text.GroundText.{GroundText}
use Rattle.ground_texts.specs.declared.ground_text.GroundText.TheVariants as text

-- The payload has 1 to 255 octets, and they are bytes.
pub record IsPayload (octets : List ℕ) : Type 0 where
  pub some : 1 ≤ length octets
  pub few : length octets ≤ 255
  pub bytes : IsBytes octets

-- What an uplink carries is a payload.
abbrev pub CarriesPayload : GroundText → Type 0
CarriesPayload (text.Ads uplink) = IsPayload uplink.octets.items
CarriesPayload reading = Unit {0}

uplink_carries : (address : List ℕ) (found : Body) (uplink : AdsUplink) → is_well_formed found ≡ true → HasItsForms found
    → ReadsBody address found (text.Ads uplink) → IsPayload uplink.octets.items
uplink_carries address (body.Ads registration payload) uplink formed forms reads =
    subst (λ (octets : ArrayVec ℕ). IsPayload octets.items) (sym reads.2)
    (record { some = grind (arith, nat_tests, sizes.0); few = grind (arith, nat_tests, sizes.1); bytes = forms.1 })
  where
    sizes : (nat_le 1 (length payload.items) ≡ true) × (nat_le (length payload.items) 255 ≡ true)
    sizes = and_parts (nat_le 1 (length payload.items)) (nat_le (length payload.items) 255) formed
uplink_carries address (body.Afn found) uplink formed forms reads = absurd reads

-- A text that is read as an uplink carries a payload.
pub read_text_carries : (characters : List ℕ) (reading : GroundText) → ReadsText characters reading → CarriesPayload reading
read_text_carries characters (text.Ads uplink) (envelope, is, reads) =
    uplink_carries envelope.address envelope.body uplink envelope.well_formed is.body reads
read_text_carries characters (text.Afn notice) reads = tt
read_text_carries characters (text.Refused fault) reads = tt
