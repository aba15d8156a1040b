-- The lines of a script by their fields. This project's profile.
use Rattle.std.specs.Prelude.{◌≡◌, ◌⊎◌, ℕ, List, Option, ◌++◌, codes, drop, length, if◌then◌else◌}
use Rattle.acars_envelope.specs.Names.{IsAddress, IsFlight, IsMark, with_dots}
use Rattle.acars_envelope.specs.Texts.{six_digits}
use Rattle.aircraft_core.specs.declared.who.Who.{Who}
use Rattle.due_event.specs.declared.profile.Profile.{Profile}
use Rattle.due_event.specs.declared.profile.Profile.TheVariants.{One}
use Rattle.flight_samples.specs.SampleText.{AreSampleValues}
use Rattle.flight_samples.specs.Samples.{values_of}
use Rattle.net_script.specs.Addresses.{AreDifferent, IsReserved, listed_addresses}
use Rattle.net_script.specs.Counts.{HasCount}
use Rattle.net_script.specs.Fields.{field_at, fields_of}
use Rattle.net_script.specs.Forms.{AreRightBefore, IsCancelText, IsNumberOf, IsProfileText, IsRequestText}
use Rattle.net_script.specs.Letters.{HasLetter}
use Rattle.net_script.specs.declared.letter.Letter.{Letter}
use Rattle.net_script.specs.declared.letter.Letter.TheVariants.{Aircraft, Ground, Sample, Time, Emergency, Logon, Uplink, Request, Cancel, Bring, Receive}
use Rattle.net_script.specs.declared.limits.TheConstants.{AIRCRAFT_FIELDS, MAX_TIME, MAX_PLACE}
use Rattle.net_script.specs.declared.line.ScriptLine.{ScriptLine}
use Rattle.net_script.specs.declared.line.ScriptLine.TheVariants as line

-- ---- the value of a line

-- The letter of the line that says this.
abbrev pub letter_of : ScriptLine → Letter
letter_of (line.A who) = Aircraft
letter_of (line.G addresses reserved) = Ground
letter_of (line.S sample) = Sample
letter_of (line.T time) = Time
letter_of (line.E on) = Emergency
letter_of (line.L address) = Logon
letter_of (line.U from) = Uplink
letter_of (line.C address asked) = Request
letter_of (line.K address cancel) = Cancel
letter_of (line.B address place) = Bring
letter_of (line.R address place) = Receive

-- The field behind the letter is this address.
pub record IsAddressed (fields : List (List ℕ)) (address : List ℕ) : Type 0 where
  pub is_address : IsAddress address
  pub written : field_at fields 1 ≡ address

-- The profile is the one that the fifth field says, or profile 1 where there is none.
abbrev pub SaysProfile : List (List ℕ) → Profile → Type 0
SaysProfile fields profile =
    ((length fields ≡ AIRCRAFT_FIELDS) × (profile ≡ One)) ⊎ IsProfileText profile (field_at fields 4)

-- The fields behind the letter say who the aircraft is: its mark, which is the registration without the dots before it, its
-- flight, its address of 24 bits, and its profile.
pub record SaysWho (fields : List (List ℕ)) (who : Who) : Type 0 where
  pub is_mark : IsMark (field_at fields 1)
  pub registration : who.registration ≡ with_dots (field_at fields 1)
  pub is_flight : IsFlight (field_at fields 2)
  pub flight : who.flight ≡ field_at fields 2
  pub airframe : field_at fields 3 ≡ six_digits who.airframe
  pub profile : SaysProfile fields who.profile

-- The fields behind the letter list these addresses, all different, of which the first with a star stands at this place.
pub record SaysAddresses (fields addresses : List (List ℕ)) (reserved : Option ℕ) : Type 0 where
  pub right : AreRightBefore Ground fields (length fields)
  pub listed : listed_addresses fields ≡ addresses
  pub star : IsReserved fields reserved
  pub different : AreDifferent addresses

-- The fields behind the letter say this.
abbrev pub Says : ScriptLine → List (List ℕ) → Type 0
Says (line.A who) fields = SaysWho fields who
Says (line.G addresses reserved) fields = SaysAddresses fields addresses.items reserved
Says (line.S sample) fields = AreSampleValues (drop 1 fields) (values_of sample)
Says (line.T time) fields = IsNumberOf 0 MAX_TIME time (field_at fields 1)
Says (line.E on) fields = field_at fields 1 ≡ (if on then codes "1" else codes "0")
Says (line.L address) fields = IsAddressed fields address
Says (line.U from) fields = from ≡ 2
Says (line.C address asked) fields = IsAddressed fields address × IsRequestText asked (field_at fields 2)
Says (line.K address cancel) fields = IsAddressed fields address × IsCancelText cancel (field_at fields 2)
Says (line.B address place) fields = IsAddressed fields address × IsNumberOf 1 MAX_PLACE place (field_at fields 2)
Says (line.R address place) fields = IsAddressed fields address × IsNumberOf 1 MAX_PLACE place (field_at fields 2)

-- The line says this: it has the letter, and its fields are as many as they should be and say it.
pub record IsScriptLine (value : ScriptLine) (bytes : List ℕ) : Type 0 where
  pub letter : HasLetter bytes (letter_of value)
  pub count : HasCount (letter_of value) (length (fields_of bytes))
  pub says : Says value (fields_of bytes)

-- A `U` line is its letter, a comma, and the text that begins at this place.
abbrev pub TextBegins : ScriptLine → List ℕ → Type 0
TextBegins (line.U from) bytes = bytes ≡ codes "U," ++ drop from bytes
TextBegins _ bytes = Unit {0}
