-- The lines of a ground log by their fields: those that a script has too, and the lines `H` and `Z`. This project's profile.
use Rattle.std.specs.Prelude.{◌≡◌, ◌⊎◌, ℕ, ◌+◌, ◌<◌, ◌≤◌, List, Option, ◌++◌, codes, drop, length}
use Rattle.acars_envelope.specs.Names.{IsAddress}
use Rattle.ground_rules.specs.declared.line.GroundLine.{GroundLine}
use Rattle.ground_rules.specs.declared.line.GroundLine.TheVariants as ground
use Rattle.net_script.specs.Faults.{IsFirstLineFault}
use Rattle.net_script.specs.Fields.{field_at, fields_of}
use Rattle.net_script.specs.Letters.{HasLetter}
use Rattle.net_script.specs.Lines.{IsAddressed, IsScriptLine}
use Rattle.net_script.specs.declared.letter.Letter.{Letter}
use Rattle.net_script.specs.declared.letter.Letter.TheVariants.{Aircraft, Ground, Time, Request, Cancel}
use Rattle.net_script.specs.Addresses.{AddressList}
use Rattle.net_script.specs.declared.line.ScriptLine.TheVariants as line
use Rattle.net_script.specs.declared.refusal.Code.{Code}
use Rattle.net_script.specs.declared.refusal.Code.TheVariants as code
use Rattle.net_script.specs.declared.refusal.LineRefusal.{LineRefusal}
use Rattle.net_script.specs.declared.refusal.LineRefusal.TheVariants.{Bad, NoMemory}

-- ---- letters

-- A line of this letter stands in a ground log as it stands in a script.
abbrev pub IsShared : Letter → Type 0
IsShared Aircraft = Unit {0}
IsShared Ground = Unit {0}
IsShared Time = Unit {0}
IsShared Request = Unit {0}
IsShared Cancel = Unit {0}
IsShared letter = ⊥

-- The line has such a letter.
pub record HasShared (bytes : List ℕ) : Type 0 where
  pub letter : Letter
  pub has : HasLetter bytes letter
  pub shared : IsShared letter

-- A centre hears a text: field 0 is the letter `H`.
abbrev pub HasHearing : List ℕ → Type 0
HasHearing bytes = field_at (fields_of bytes) 0 ≡ codes "H"

-- The centres start again: the line is the letter `Z` and nothing else.
abbrev pub IsRestart : List ℕ → Type 0
IsRestart bytes = bytes ≡ codes "Z"

-- ---- what a line says

-- The fewest fields of an `H` line: its letter, an address, and a text, which may have commas.
abbrev pub hearing_fields : ℕ
hearing_fields = 3

-- The line is the letter `H`, an address, and the text that begins at this place, all that stands behind the second comma.
pub record IsHearingLine (address : List ℕ) (from : ℕ) (bytes : List ℕ) : Type 0 where
  pub letter : HasHearing bytes
  pub count : hearing_fields ≤ length (fields_of bytes)
  pub addressed : IsAddressed (fields_of bytes) address
  pub text : bytes ≡ codes "H," ++ address ++ codes "," ++ drop from bytes
  pub place : from ≡ 10

-- The line lists these addresses, whichever has a star.
pub record ListsAddresses (addresses : AddressList) (bytes : List ℕ) : Type 0 where
  pub reserved : Option ℕ
  pub says : IsScriptLine (line.G addresses reserved) bytes

-- The line of a ground log says this.
abbrev pub IsGroundLine : GroundLine → List ℕ → Type 0
IsGroundLine (ground.A who) bytes = IsScriptLine (line.A who) bytes
IsGroundLine (ground.G addresses) bytes = ListsAddresses addresses bytes
IsGroundLine (ground.T time) bytes = IsScriptLine (line.T time) bytes
IsGroundLine (ground.C address asked) bytes = IsScriptLine (line.C address asked) bytes
IsGroundLine (ground.K address cancel) bytes = IsScriptLine (line.K address cancel) bytes
IsGroundLine (ground.H address from) bytes = IsHearingLine address from bytes
IsGroundLine ground.Z bytes = IsRestart bytes

-- ---- the first fault of a line

-- The faults of an `H` line: too few fields, told by the number of commas; or else an address that is none.
abbrev pub IsHearingFault : List ℕ → Code → ℕ → Type 0
IsHearingFault bytes code.Count value = (length (fields_of bytes) < hearing_fields) × (length (fields_of bytes) ≡ value + 1)
IsHearingFault bytes code.Field value =
    (hearing_fields ≤ length (fields_of bytes)) × ¬ IsAddress (field_at (fields_of bytes) 1) × (value ≡ 1)
IsHearingFault bytes found value = ⊥

-- The line is of no letter of a ground log.
abbrev pub HasNoLetter : List ℕ → Type 0
HasNoLetter bytes = ¬ HasShared bytes × ¬ HasHearing bytes × ¬ IsRestart bytes

-- The first fault of the line, with its value: no letter of a ground log; or the first fault of a line of a script with this letter;
-- or that of an `H` line.
abbrev pub IsGroundFault : List ℕ → Code → ℕ → Type 0
IsGroundFault bytes code.Kind value = HasNoLetter bytes × (value ≡ 0)
IsGroundFault bytes found value = (HasShared bytes × IsFirstLineFault bytes found value) ⊎ (HasHearing bytes × IsHearingFault bytes found value)

-- A refusal tells the first fault, or want of memory.
abbrev pub IsGroundRefusal : List ℕ → LineRefusal → Type 0
IsGroundRefusal bytes (Bad found value) = IsGroundFault bytes found value
IsGroundRefusal bytes NoMemory = Unit {0}
