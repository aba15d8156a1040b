-- The forms of the fields of a line. The script language is this project's profile; the names follow ARINC 622.
use Rattle.std.specs.Prelude.{◌≡◌, ◌==◌, ◌⊎◌, ◌-◌, ◌^◌, ◌<◌, ◌≤◌, ℕ, ℤ, List, [], ◌∷◌, codes, length, if◌then◌else◌}
use Rattle.hex.specs.Hex.{IsBytes, encode_upper}
use Rattle.acars_envelope.specs.Names.{IsAddress, IsFlight, IsMark}
use Rattle.acars_envelope.specs.Texts.{six_digits}
use Rattle.adsc_requests.specs.Grammar.{EncodesUplink}
use Rattle.adsc_requests.specs.declared.kind.Kind.TheVariants.{Demand, Periodic, Event, Emergency}
use Rattle.adsc_requests.specs.declared.message.Message.{Message}
use Rattle.adsc_requests.specs.declared.message.Message.TheVariants as message
use Rattle.adsc_requests.specs.declared.message.Uplink.{Uplink}
use Rattle.due_event.specs.declared.profile.Profile.{Profile}
use Rattle.due_event.specs.declared.profile.Profile.TheVariants.{One, Two}
use Rattle.flight_samples.specs.Columns.{IsIn}
use Rattle.flight_samples.specs.Decimals.{IsNaturalText, IsNumberText}
use Rattle.flight_samples.specs.SampleText.{range_at}
use Rattle.net_script.specs.Addresses.{IsListed}
use Rattle.net_script.specs.Fields.{field_at}
use Rattle.net_script.specs.declared.letter.Letter.{Letter}
use Rattle.net_script.specs.declared.letter.Letter.TheVariants as letter
use Rattle.net_script.specs.declared.limits.TheConstants.{MAX_TIME, MAX_PLACE}
use Rattle.net_script.specs.declared.line.Cancel.{Cancel}
use Rattle.net_script.specs.declared.line.Cancel.TheVariants.{Of, EmergencyMode, All}

-- ---- the text of one value

-- A natural number of the range as a decimal text.
pub record IsNumberOf (low high n : ℕ) (text : List ℕ) : Type 0 where
  pub written : IsNaturalText n text
  pub least : low ≤ n
  pub most : n ≤ high

-- `P`, `V`, `M` cancel the periodic, event, emergency contract, `X` the emergency mode, `A` all. No text cancels a demand.
abbrev pub IsCancelText : Cancel → List ℕ → Type 0
IsCancelText (Of Demand) text = ⊥
IsCancelText (Of Periodic) text = text ≡ codes "P"
IsCancelText (Of Event) text = text ≡ codes "V"
IsCancelText (Of Emergency) text = text ≡ codes "M"
IsCancelText EmergencyMode text = text ≡ codes "X"
IsCancelText All text = text ≡ codes "A"

-- The message asks for a contract, and its number is 0: the centre gives it one later.
abbrev pub AsksWithoutNumber : Message → Type 0
AsksWithoutNumber message.CancelAll = ⊥
AsksWithoutNumber (message.Cancel n) = ⊥
AsksWithoutNumber (message.CancelEmergency n) = ⊥
AsksWithoutNumber (message.Periodic n interval groups intent) = n ≡ 0
AsksWithoutNumber (message.Event n limits) = n ≡ 0
AsksWithoutNumber (message.Emergency n interval groups intent) = n ≡ 0

-- The text is a payload in hexadecimal digits, capital letters, that is an encoding of this one message, which asks for a
-- contract and has number 0.
pub record IsRequestText (asked : Message) (text : List ℕ) : Type 0 where
  pub octets : List ℕ
  pub uplink : Uplink
  pub bytes : IsBytes octets
  pub few : length octets ≤ 255
  pub digits : text ≡ encode_upper octets
  pub encoding : EncodesUplink uplink octets
  pub sole : uplink.messages.items ≡ asked ∷ []
  pub asks : AsksWithoutNumber asked

-- `1` names profile 1, `2` profile 2.
abbrev pub IsProfileText : Profile → List ℕ → Type 0
IsProfileText One text = text ≡ codes "1"
IsProfileText Two text = text ≡ codes "2"

-- `1` where it is on, `0` where it is off.
abbrev pub IsSwitchText : List ℕ → Type 0
IsSwitchText text = (text ≡ codes "1") ⊎ (text ≡ codes "0")

-- ---- the form of a field

-- What a field is.
pub data Form : Type 0 where
  a_mark : Form
  a_flight : Form
  an_airframe : Form
  a_profile : Form
  an_address : Form
  a_column : ℕ → Form
  a_time : Form
  a_switch : Form
  a_request : Form
  a_cancel : Form
  a_place : Form

-- The text has the form: it is the text of some such value.
abbrev pub HasForm : Form → List ℕ → Type 0
HasForm a_mark text = IsMark text
HasForm a_flight text = IsFlight text
HasForm an_airframe text = (airframe : ℕ) × (airframe < 2 ^ 24) × (text ≡ six_digits airframe)
HasForm a_profile text = (profile : Profile) × IsProfileText profile text
HasForm an_address text = IsAddress text
HasForm (a_column place) text = (z : ℤ) × IsNumberText (range_at place).low z text × IsIn (range_at place) z
HasForm a_time text = (n : ℕ) × IsNumberOf 0 MAX_TIME n text
HasForm a_switch text = IsSwitchText text
HasForm a_request text = (asked : Message) × IsRequestText asked text
HasForm a_cancel text = (cancel : Cancel) × IsCancelText cancel text
HasForm a_place text = (n : ℕ) × IsNumberOf 1 MAX_PLACE n text

-- ---- the fields behind a letter

-- The form of a field of an `A` line: registration, flight, airframe, profile.
abbrev pub aircraft_form : ℕ → Form
aircraft_form place =
    if place == 1 then a_mark else if place == 2 then a_flight else if place == 3 then an_airframe else a_profile

-- An address, and this form behind it.
abbrev pub behind_address : Form → ℕ → Form
behind_address form place = if place == 1 then an_address else form

-- The field at the place, from 1 on, is right in a line of this letter. The text of a `U` line may be any.
abbrev pub IsRight : Letter → List (List ℕ) → ℕ → Type 0
IsRight letter.Aircraft fields place = HasForm (aircraft_form place) (field_at fields place)
IsRight letter.Ground fields place = IsListed fields place
IsRight letter.Sample fields place = HasForm (a_column (place - 1)) (field_at fields place)
IsRight letter.Time fields place = HasForm a_time (field_at fields place)
IsRight letter.Emergency fields place = HasForm a_switch (field_at fields place)
IsRight letter.Logon fields place = HasForm an_address (field_at fields place)
IsRight letter.Uplink fields place = Unit {0}
IsRight letter.Request fields place = HasForm (behind_address a_request place) (field_at fields place)
IsRight letter.Cancel fields place = HasForm (behind_address a_cancel place) (field_at fields place)
IsRight letter.Bring fields place = HasForm (behind_address a_place place) (field_at fields place)
IsRight letter.Receive fields place = HasForm (behind_address a_place place) (field_at fields place)

-- Each field behind the letter and before the place is right.
abbrev pub AreRightBefore : Letter → List (List ℕ) → ℕ → Type 0
AreRightBefore letter fields place = (k : ℕ) → 1 ≤ k → k < place → IsRight letter fields k
