-- What a line of texts means: what the text from the ground or from the aircraft says, of the application ADS or AFN, or what
-- is wrong with the line first (this project's profile).
use Rattle.std.specs.Prelude.{◌≡◌, ℕ, ◌+◌, ◌<◌, ◌≤◌, ◌⊎◌, Bool, true, false, List, [], ◌∷◌, ◌++◌, length, codes, Result, Ok, Err}
use Rattle.bit_terms.specs.Octets.{octets_bits}
use Rattle.adsc_io.specs.declared.limits.TheConstants.{MAX_LINE_BYTES}
use Rattle.acars_envelope.specs.declared.texts.Body.{Body}
use Rattle.acars_envelope.specs.declared.texts.Body.TheVariants.{Ads, Afn}
use Rattle.acars_envelope.specs.declared.texts.Envelope.{Envelope}
use Rattle.acars_envelope.specs.declared.refusal.EnvelopeRefusal.{EnvelopeRefusal}
use Rattle.acars_envelope.specs.Faults.{IsFirstEnvelopeFault}
use Rattle.acars_envelope.specs.Texts.{IsEnvelopeText}
use Rattle.adsc_downlink.specs.Items.{ItemData}
use Rattle.adsc_downlink.specs.Encodings.{EncodesDownlink}
use Rattle.adsc_downlink.specs.Faults.{IsFirstDownlinkFault}
use Rattle.adsc_downlink.specs.declared.refusal.DownRefusal.{DownRefusal}
use Rattle.adsc_requests.specs.declared.message.Uplink.{Uplink}
use Rattle.adsc_requests.specs.declared.refusal.Refusal.{Refusal}
use Rattle.afn_logon.specs.Contents.{AnswerData, ContactData, answer_data}
use Rattle.afn_logon.specs.Forms.{IsContactText, IsSomeContact}
use Rattle.afn_logon.specs.Mismatch.{IsFirstMismatch}
use Rattle.afn_logon.specs.declared.answer.Answer.{Answer}
use Rattle.afn_logon.specs.declared.refusal.AfnRefusal.{AfnRefusal}
use Rattle.ground_texts.specs.Readings.{ReadsText}
use Rattle.ground_texts.specs.declared.ground_text.GroundText.{GroundText}
use Rattle.ground_texts.specs.declared.ground_text.GroundText.TheVariants as ground
use Rattle.shown_lines.specs.declared.direction.Direction.{Direction}
use Rattle.shown_lines.specs.declared.direction.Direction.TheVariants.{Up, Down}
use Rattle.shown_lines.specs.declared.refusal.TextRefusal.{TextRefusal}
use Rattle.shown_lines.specs.declared.refusal.TextRefusal.TheVariants as refusal

-- A meaning: what a text of one of the two applications says, and between which ground facility and aircraft, or what is wrong
-- with the line. What an uplink asks is a value of its type; all else that is said is plain data.
pub data Meaning : Type 0 where
  uplink : (address registration : List ℕ) (asked : Uplink) → Meaning
  answer : (address : List ℕ) (said : AnswerData) → Meaning
  downlink : (address registration : List ℕ) (items : List ItemData) → Meaning
  contact : (address : List ℕ) (said : ContactData) → Meaning
  refused : TextRefusal → Meaning

-- ---- what a text from the ground means

-- Where the characters of an AFN text begin, counted in the whole text.
abbrev pub characters_place : ℕ
characters_place = 12

-- What an uplink of the application ADS means: what its payload asks, or the payload's first fault.
abbrev pub uplink_meaning : List ℕ → List ℕ → Result Uplink Refusal → Meaning
uplink_meaning address registration (Ok asked) = uplink address registration asked
uplink_meaning address registration (Err fault) = refused (refusal.Request fault)

-- What an AFN text from the ground means: the answer that its characters are, or their first mismatch.
abbrev pub answer_meaning : List ℕ → Result Answer AfnRefusal → Meaning
answer_meaning address (Ok said) = answer address (answer_data said)
answer_meaning address (Err mismatch) = refused (refusal.Characters (characters_place + mismatch.place))

-- What a text from the ground means that is read so.
abbrev pub reading_meaning : GroundText → Meaning
reading_meaning (ground.Refused fault) = refused (refusal.Envelope fault)
reading_meaning (ground.Ads found) = uplink_meaning found.address found.registration found.asked
reading_meaning (ground.Afn found) = answer_meaning found.address found.answer

-- A text from the ground means what it is read as.
abbrev pub GroundTextMeans : List ℕ → Meaning → Type 0
GroundTextMeans text meaning = (reading : GroundText) × ReadsText text reading × (meaning ≡ reading_meaning reading)

-- ---- what a text from the aircraft means

-- What the payload of a downlink means: the items that it encodes, or its first fault.
abbrev pub DownlinkMeans : List ℕ → List ℕ → List ℕ → Meaning → Type 0
DownlinkMeans address registration payload meaning =
    ((items : List ItemData) × EncodesDownlink items (octets_bits payload) × (meaning ≡ downlink address registration items))
    ⊎ ((fault : DownRefusal) × IsFirstDownlinkFault (octets_bits payload) fault.bit fault.why × (meaning ≡ refused (refusal.Payload fault)))

-- What the characters of an AFN text from the aircraft mean: the contact that they are, or their first mismatch.
abbrev pub ContactMeans : List ℕ → List ℕ → Meaning → Type 0
ContactMeans address characters meaning =
    ((said : ContactData) × IsContactText said characters × (meaning ≡ contact address said))
    ⊎ ((place : ℕ) × IsFirstMismatch IsSomeContact characters place × (meaning ≡ refused (refusal.Characters (characters_place + place))))

-- What the body of an envelope to this address means.
abbrev pub BodyMeans : List ℕ → Body → Meaning → Type 0
BodyMeans address (Ads registration payload) meaning = DownlinkMeans address registration payload.items meaning
BodyMeans address (Afn characters) meaning = ContactMeans address characters.items meaning

-- What a text from the aircraft means: its first bad place, or what its envelope carries.
abbrev pub AircraftTextMeans : List ℕ → Meaning → Type 0
AircraftTextMeans text meaning =
    ((fault : EnvelopeRefusal) × IsFirstEnvelopeFault text fault × (meaning ≡ refused (refusal.Envelope fault)))
    ⊎ ((envelope : Envelope) × IsEnvelopeText envelope text × BodyMeans envelope.address envelope.body meaning)

-- ---- what a line means

-- What a text means that goes this way.
abbrev pub TextMeans : Direction → List ℕ → Meaning → Type 0
TextMeans Up text meaning = GroundTextMeans text meaning
TextMeans Down text meaning = AircraftTextMeans text meaning

-- The letter that says which way a text goes.
abbrev pub letter_of : Direction → List ℕ
letter_of Up = codes "U"
letter_of Down = codes "D"

-- The line begins with this letter and a comma, and this text stands behind.
abbrev pub IsLineOf : List ℕ → List ℕ → List ℕ → Type 0
IsLineOf letter line text = line ≡ letter ++ codes "," ++ text

-- The line begins with this letter and a comma.
abbrev pub BeginsWith : List ℕ → List ℕ → Type 0
BeginsWith letter line = (text : List ℕ) × IsLineOf letter line text

-- A text stands in the line behind the letter of this direction, and means this.
abbrev pub CarriesText : Direction → List ℕ → Meaning → Type 0
CarriesText direction line meaning = (text : List ℕ) × IsLineOf (letter_of direction) line text × TextMeans direction text meaning

-- What a line means: too long, of no known form, or what its text means.
abbrev pub Means : List ℕ → Meaning → Type 0
Means line meaning =
    ((MAX_LINE_BYTES < length line) × (meaning ≡ refused refusal.Long))
    ⊎ ((length line ≤ MAX_LINE_BYTES) × ((direction : Direction) → BeginsWith (letter_of direction) line → ⊥) × (meaning ≡ refused refusal.Form))
    ⊎ ((length line ≤ MAX_LINE_BYTES) × ((direction : Direction) × CarriesText direction line meaning))

-- The line means this, and nothing else.
pub record IsMeaning (line : List ℕ) (meaning : Meaning) : Type 0 where
  pub means : Means line meaning
  pub only : (other : Meaning) → Means line other → other ≡ meaning

-- The meaning is a refusal.
abbrev pub is_refusal : Meaning → Bool
is_refusal (uplink address registration asked) = false
is_refusal (answer address said) = false
is_refusal (downlink address registration items) = false
is_refusal (contact address said) = false
is_refusal (refused fault) = true

-- These are the meanings of the lines, one after the other.
abbrev pub AreMeanings : List (List ℕ) → List Meaning → Type 0
AreMeanings [] meanings = meanings ≡ []
AreMeanings (line ∷ lines) [] = ⊥
AreMeanings (line ∷ lines) (meaning ∷ meanings) = IsMeaning line meaning × AreMeanings lines meanings

-- Some line is refused.
pub record HasRefused (lines : List (List ℕ)) : Type 0 where
  pub before : List (List ℕ)
  pub line : List ℕ
  pub behind : List (List ℕ)
  pub meaning : Meaning
  pub joined : lines ≡ before ++ line ∷ behind
  pub means : Means line meaning
  pub passes : is_refusal meaning ≡ true
