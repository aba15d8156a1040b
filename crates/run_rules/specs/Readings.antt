-- What the lines of a script say at their places. The script language is this project's profile.
use Rattle.std.specs.Prelude.{◌≡◌, ◌⊎◌, ℕ, ◌<◌, ◌≤◌, List, drop, length}
use Rattle.adsc_io.specs.Limits.{max_line_bytes}
use Rattle.ground_texts.specs.Readings.{ReadsText}
use Rattle.net_script.specs.Faults.{IsFirstLineFault}
use Rattle.net_script.specs.Lines.{IsScriptLine}
use Rattle.net_script.specs.declared.line.ScriptLine.{ScriptLine}
use Rattle.net_script.specs.declared.line.ScriptLine.TheVariants as line
use Rattle.net_script.specs.declared.refusal.Code.{Code}
use Rattle.net_script.specs.declared.refusal.Code.TheVariants as code
use Rattle.run_rules.specs.Places.{IsMisplaced, IsInPlace}
use Rattle.run_rules.specs.declared.reading.Reading.{Reading}
use Rattle.run_rules.specs.declared.reading.Reading.TheVariants.{Bad, Says, Brings}

-- The line of this number is bad, with this code and value: too long; else misplaced; else by the first fault of its form.
abbrev pub IsBadLine : ℕ → List ℕ → Code → ℕ → Type 0
IsBadLine number bytes code.Long value = (max_line_bytes < length bytes) × (value ≡ max_line_bytes)
IsBadLine number bytes found value =
    (length bytes ≤ max_line_bytes)
    × ((IsMisplaced number bytes found × (value ≡ 0)) ⊎ (IsInPlace number bytes × IsFirstLineFault bytes found value))

-- The line of this number isn't too long, stands where it may, and says this.
pub record IsGoodLine (number : ℕ) (bytes : List ℕ) (value : ScriptLine) : Type 0 where
  pub fits : length bytes ≤ max_line_bytes
  pub placed : IsInPlace number bytes
  pub says : IsScriptLine value bytes

-- the line is of another letter than `U`
abbrev pub BringsNoText : ScriptLine → Type 0
BringsNoText (line.U from) = ⊥
BringsNoText value = Unit {0}

-- The line of this number is read so.
abbrev pub ReadsLine : ℕ → List ℕ → Reading → Type 0
ReadsLine number bytes (Bad found value) = IsBadLine number bytes found value
ReadsLine number bytes (Says value) = IsGoodLine number bytes value × BringsNoText value
ReadsLine number bytes (Brings reading) = (from : ℕ) × IsGoodLine number bytes (line.U from) × ReadsText (drop from bytes) reading
