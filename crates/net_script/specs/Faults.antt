-- The first fault of a line, by the rules in their order. This project's profile.
use Rattle.std.specs.Prelude.{◌≡◌, ◌≢◌, ◌+◌, ◌-◌, ◌<◌, ◌≤◌, ℕ, List, length}
use Rattle.net_script.specs.Addresses.{IsFirstRepeat, listed_addresses}
use Rattle.net_script.specs.Bytes.{AreClean, IsFirstBarred}
use Rattle.net_script.specs.Counts.{HasCount}
use Rattle.net_script.specs.Fields.{fields_of}
use Rattle.net_script.specs.Forms.{AreRightBefore, IsRight}
use Rattle.net_script.specs.Letters.{HasLetter}
use Rattle.net_script.specs.declared.letter.Letter.{Letter}
use Rattle.net_script.specs.declared.letter.Letter.TheVariants.{Ground, Uplink}
use Rattle.net_script.specs.declared.refusal.Code.{Code as CodeValue}
use Rattle.net_script.specs.declared.refusal.Code.TheVariants as code
use Rattle.net_script.specs.declared.refusal.LineRefusal.{LineRefusal as LineRefusalValue}
use Rattle.net_script.specs.declared.refusal.LineRefusal.TheVariants.{Bad, NoMemory}

-- ---- the fields of a line whose letter, bytes and number of fields are right

-- The first wrong field stands at the place.
pub record IsFirstWrong (right : List (List ℕ) → ℕ → Type 0) (fields : List (List ℕ)) (place : ℕ) : Type 0 where
  pub some : 1 ≤ place
  pub inside : place < length fields
  pub wrong : ¬ right fields place
  pub before : (k : ℕ) → 1 ≤ k → k < place → right fields k

-- The refusal tells the first wrong field.
abbrev pub IsWrongField : (List (List ℕ) → ℕ → Type 0) → List (List ℕ) → LineRefusalValue → Type 0
IsWrongField right fields (Bad code.Field value) = IsFirstWrong right fields value
IsWrongField right fields _ = ⊥

-- All fields of a `G` line are right, and the field at the place lists the first address that stands again.
pub record IsFirstTwice (letter : Letter) (fields : List (List ℕ)) (place : ℕ) : Type 0 where
  pub ground : letter ≡ Ground
  pub right : AreRightBefore letter fields (length fields)
  pub some : 1 ≤ place
  pub again : IsFirstRepeat (listed_addresses fields) (place - 1)

-- The fields have this fault.
abbrev pub IsFieldsFault : Letter → List (List ℕ) → CodeValue → ℕ → Type 0
IsFieldsFault letter fields code.Field value = IsFirstWrong (IsRight letter) fields value
IsFieldsFault letter fields code.Twice value = IsFirstTwice letter fields value
IsFieldsFault letter fields _ value = ⊥

-- This reading is refused: with a fault of the fields, or for want of memory.
abbrev pub IsFieldsRefusal : Letter → List (List ℕ) → LineRefusalValue → Type 0
IsFieldsRefusal letter fields (Bad code value) = IsFieldsFault letter fields code value
IsFieldsRefusal letter fields NoMemory = Unit {0}

-- ---- the faults of a line

-- A line of this letter holds only bytes that it may: it is clean, if it is no `U` line.
abbrev pub MayHold : Letter → List ℕ → Type 0
MayHold letter line = letter ≢ Uplink → AreClean line

-- A line of another letter than `U` has a byte that it may not hold, first at the place.
pub record IsByteFault (line : List ℕ) (place : ℕ) : Type 0 where
  pub letter : Letter
  pub has : HasLetter line letter
  pub other : letter ≢ Uplink
  pub first : IsFirstBarred line place

-- The line has too few or too many fields, and so many commas.
pub record IsCountFault (line : List ℕ) (commas : ℕ) : Type 0 where
  pub letter : Letter
  pub has : HasLetter line letter
  pub clean : MayHold letter line
  pub wrong : ¬ HasCount letter (length (fields_of line))
  pub counted : length (fields_of line) ≡ commas + 1

-- The fields of the line have a fault.
pub record IsContentFault (line : List ℕ) (found : CodeValue) (value : ℕ) : Type 0 where
  pub letter : Letter
  pub has : HasLetter line letter
  pub clean : MayHold letter line
  pub count : HasCount letter (length (fields_of line))
  pub fault : IsFieldsFault letter (fields_of line) found value

-- The first fault of the line, with its value: no letter, then a wrong byte, then a wrong number of fields, then a wrong
-- field, then an address that stands twice.
abbrev pub IsFirstLineFault : List ℕ → CodeValue → ℕ → Type 0
IsFirstLineFault line code.Kind value = ((letter : Letter) → ¬ HasLetter line letter) × (value ≡ 0)
IsFirstLineFault line code.Byte value = IsByteFault line value
IsFirstLineFault line code.Count value = IsCountFault line value
IsFirstLineFault line fault value = IsContentFault line fault value

-- A refusal tells the first fault, or want of memory.
abbrev pub IsLineRefusal : List ℕ → LineRefusalValue → Type 0
IsLineRefusal line (Bad fault value) = IsFirstLineFault line fault value
IsLineRefusal line NoMemory = Unit {0}
