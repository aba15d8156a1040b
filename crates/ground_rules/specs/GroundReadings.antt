-- What the lines of a ground log say at their places (this project's profile).
use Rattle.std.specs.Prelude.{◌≡◌, ◌⊎◌, ◌↔◌, ℕ, ◌+◌, ◌<◌, ◌≤◌, ◌==◌, Bool, IsTrue, List, [], ◌∷◌, Option, Some, None, drop, length, if◌then◌else◌}
use Rattle.adsc_io.specs.Inputs.{IsOverLimit, lines_before_limit}
use Rattle.adsc_io.specs.Limits.{max_line_bytes}
use Rattle.centre_core.specs.Hearing.{Hearing, Says}
use Rattle.ground_rules.specs.GroundLines.{IsGroundFault, IsGroundLine}
use Rattle.ground_rules.specs.declared.line.GroundLine.{GroundLine}
use Rattle.ground_rules.specs.declared.line.GroundLine.TheVariants as ground
use Rattle.net_script.specs.declared.letter.Letter.{Letter}
use Rattle.net_script.specs.declared.letter.Letter.TheVariants.{Aircraft, Ground}
use Rattle.net_script.specs.declared.refusal.Code.{Code}
use Rattle.net_script.specs.declared.refusal.Code.TheVariants as code
use Rattle.run_rules.specs.Places.{IsMisplacedBy}

-- What a line says: it is bad, with this code and value; or it says this; or the centre at this address hears a text that says this.
pub data GroundReading : Type 0 where
  bad : Code → ℕ → GroundReading
  says : GroundLine → GroundReading
  hears : List ℕ → Hearing → GroundReading

-- ---- places

-- The letter that the line of this number has to have: the first line says who the aircraft is, the second its ground addresses. No
-- other line may have one of these two letters.
abbrev pub letter_due : ℕ → Option Letter
letter_due number = if number == 1 then Some Aircraft else if number == 2 then Some Ground else None

-- ---- one line

-- The line of this number is bad, with this code and value: too long; else misplaced; else by the first fault of its form.
abbrev pub IsBadGroundLine : ℕ → List ℕ → Code → ℕ → Type 0
IsBadGroundLine number bytes code.Long value = (max_line_bytes < length bytes) × (value ≡ max_line_bytes)
IsBadGroundLine number bytes found value =
    (length bytes ≤ max_line_bytes)
    × ((IsMisplacedBy (letter_due number) bytes found × (value ≡ 0))
    ⊎ (((other : Code) → IsMisplacedBy (letter_due number) bytes other → ⊥) × IsGroundFault bytes found value))

-- The line of this number isn't too long, stands where it may, and says this.
pub record IsGoodGroundLine (number : ℕ) (bytes : List ℕ) (value : GroundLine) : Type 0 where
  pub fits : length bytes ≤ max_line_bytes
  pub placed : (other : Code) → IsMisplacedBy (letter_due number) bytes other → ⊥
  pub line : IsGroundLine value bytes

-- No centre hears a text.
abbrev pub HearsNoText : GroundLine → Type 0
HearsNoText (ground.H address from) = ⊥
HearsNoText value = Unit {0}

-- The line of this number is read so, in the log of an aircraft with this registration.
abbrev pub ReadsGroundLine : List ℕ → ℕ → List ℕ → GroundReading → Type 0
ReadsGroundLine registration number bytes (bad found value) = IsBadGroundLine number bytes found value
ReadsGroundLine registration number bytes (says value) = IsGoodGroundLine number bytes value × HearsNoText value
ReadsGroundLine registration number bytes (hears address hearing) =
    (from : ℕ) × IsGoodGroundLine number bytes (ground.H address from) × Says address registration (drop from bytes) hearing

-- ---- a log

-- A ground log: how its lines before the limit are read, and whether the limit is met behind them.
pub record GroundLog : Type 0 where
  pub readings : List GroundReading
  pub over : Bool

-- The registration of the aircraft, which the first line says.
abbrev pub registration_in : List GroundReading → List ℕ
registration_in (says (ground.A who) ∷ readings) = who.registration
registration_in readings = []

-- These lines, of which the first has this number, are read so.
abbrev pub ReadsGroundLines : List ℕ → ℕ → List (List ℕ) → List GroundReading → Type 0
ReadsGroundLines registration number [] readings = readings ≡ []
ReadsGroundLines registration number (line ∷ lines) [] = ⊥
ReadsGroundLines registration number (line ∷ lines) (reading ∷ readings) =
    ReadsGroundLine registration number line reading × ReadsGroundLines registration (number + 1) lines readings

-- The bytes are this ground log.
pub record IsGroundLog (bytes : List ℕ) (log : GroundLog) : Type 0 where
  pub limit : IsTrue log.over ↔ IsOverLimit bytes
  pub lines : ReadsGroundLines (registration_in log.readings) 1 (lines_before_limit bytes) log.readings
