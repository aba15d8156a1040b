-- What a text says to a centre. Texts follow ARINC 622, downlinks and the facilities notification (AFN) RTCA DO-258A / EUROCAE
-- ED-100A; the order of the rules is this project's profile.
use Rattle.std.specs.Prelude.{◌≡◌, ◌≢◌, ℕ, ◌+◌, List, length}
use Rattle.bit_terms.specs.Octets.{octets_bits}
use Rattle.acars_envelope.specs.declared.texts.Body.{Body}
use Rattle.acars_envelope.specs.declared.texts.Body.TheVariants.{Ads, Afn}
use Rattle.acars_envelope.specs.declared.texts.Envelope.{Envelope}
use Rattle.acars_envelope.specs.Faults.{IsFirstEnvelopeFault}
use Rattle.acars_envelope.specs.Texts.{IsEnvelopeText}
use Rattle.adsc_downlink.specs.Encodings.{EncodesDownlink}
use Rattle.adsc_downlink.specs.Faults.{IsFirstDownlinkFault}
use Rattle.adsc_downlink.specs.Items.{ItemData}
use Rattle.afn_logon.specs.Contents.{ContactData}
use Rattle.afn_logon.specs.Forms.{IsContactText, IsSomeContact}
use Rattle.afn_logon.specs.Mismatch.{IsFirstMismatch}
use Rattle.centre_core.specs.View.{CentreView}
use Rattle.centre_core.specs.declared.heard.Ignored.{Ignored}
use Rattle.centre_core.specs.declared.heard.Ignored.TheVariants as ignored

-- What a text says: nothing to this centre, for this reason; this contact; or these items of a downlink.
pub data Hearing : Type 0 where
  Ignores : Ignored → Hearing
  Greets : ContactData → Hearing
  Tells : List ItemData → Hearing

-- Where the registration stands in an ADS text: behind the head, and the letters `ADS`.
abbrev pub downlink_registration_place : ℕ
downlink_registration_place = 12

-- Where the registration stands in the text of a contact: behind the head, the letters `AFN`, `/FMH`, the flight and a comma.
abbrev pub contact_registration_place : List ℕ → ℕ
contact_registration_place flight = 12 + 4 + length flight + 1

-- A payload has a first fault, or is an encoding of items.
abbrev pub SaysInPayload : List ℕ → Hearing → Type 0
SaysInPayload octets (Ignores (ignored.Bits refusal)) = IsFirstDownlinkFault (octets_bits octets) refusal.bit refusal.why
SaysInPayload octets (Tells items) = EncodesDownlink items (octets_bits octets)
SaysInPayload octets hearing = ⊥

-- A contact is that of another aircraft, or the centre's own greets it.
abbrev pub SaysInContact : List ℕ → ContactData → Hearing → Type 0
SaysInContact registration contact (Ignores (ignored.OtherRegistration place)) =
    (contact.registration ≢ registration) × (place ≡ contact_registration_place contact.flight)
SaysInContact registration contact (Greets found) = (contact.registration ≡ registration) × (found ≡ contact)
SaysInContact registration contact hearing = ⊥

-- The characters of an AFN text have a first mismatch, or say what the contact says that they are.
abbrev pub SaysInCharacters : List ℕ → List ℕ → Hearing → Type 0
SaysInCharacters registration characters (Ignores (ignored.Afn refusal)) = IsFirstMismatch IsSomeContact characters refusal.place
SaysInCharacters registration characters hearing =
    (contact : ContactData) × IsContactText contact characters × SaysInContact registration contact hearing

-- An ADS body bears another registration, or says what its payload says; an AFN body says what its characters say.
abbrev pub SaysInBody : List ℕ → Body → Hearing → Type 0
SaysInBody registration (Ads other payload) (Ignores (ignored.OtherRegistration place)) =
    (other ≢ registration) × (place ≡ downlink_registration_place)
SaysInBody registration (Ads other payload) hearing = (other ≡ registration) × SaysInPayload payload.items hearing
SaysInBody registration (Afn characters) hearing = SaysInCharacters registration characters.items hearing

-- An envelope bears another address, or says what its body says.
abbrev pub SaysInEnvelope : List ℕ → List ℕ → Envelope → Hearing → Type 0
SaysInEnvelope address registration envelope (Ignores ignored.OtherAddress) = envelope.address ≢ address
SaysInEnvelope address registration envelope hearing = (envelope.address ≡ address) × SaysInBody registration envelope.body hearing

-- What a text says to the centre at this address, whose aircraft has this registration: the text has a first bad place, or says
-- what its envelope says.
abbrev pub Says : List ℕ → List ℕ → List ℕ → Hearing → Type 0
Says address registration text (Ignores (ignored.Envelope refusal)) = IsFirstEnvelopeFault text refusal
Says address registration text hearing =
    (envelope : Envelope) × IsEnvelopeText envelope text × SaysInEnvelope address registration envelope hearing

-- What a text says to a centre.
abbrev pub SaysTo : CentreView → List ℕ → Hearing → Type 0
SaysTo centre text hearing = Says centre.address centre.registration text hearing
