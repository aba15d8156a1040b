-- How the lines of a log are read. A log has the lines of a script but those of centres, and lines with recorded downlinks besides (this
-- project's profile).
use Rattle.std.specs.Prelude.{◌≡◌, ℕ, ◌==◌, ◌&&◌, Bool, if◌then◌else◌, nat_le, nat_lt, List, [], ◌∷◌, length}
use Rattle.adsc_io.specs.Limits.{max_line_bytes}
use Rattle.net_script.specs.Letters.{letter_code}
use Rattle.net_script.specs.declared.letter.Letter.TheVariants.{Request, Cancel, Bring, Receive}
use Rattle.net_script.specs.declared.refusal.Code.TheVariants as code
use Rattle.output_fields.specs.Fields.{comma}
use Rattle.run_rules.specs.Readings.{ReadsLine}
use Rattle.run_rules.specs.declared.reading.Reading.{Reading}
use Rattle.run_rules.specs.declared.reading.Reading.TheVariants.{Bad}

-- How a line is read: as a line of a script; or it records that this text came down.
pub data LogReading : Type 0 where
  Reads : Reading → LogReading
  Records : List ℕ → LogReading

-- ---- sorts of lines

-- What a line is by its field 0: a line of a centre, which no log has; a recorded text, with its comma or without one; or any other.
pub data Sort : Type 0 where
  of_centre : Sort
  recorded : List ℕ → Sort
  without_comma : Sort
  of_script : Sort

-- the letter of a recorded text, `D`
abbrev pub record_letter : ℕ
record_letter = 68

-- whether the letter is one of a centre's lines
abbrev pub is_letter_of_centre : ℕ → Bool
is_letter_of_centre letter =
    if letter == letter_code Request then Bool.true else if letter == letter_code Cancel then Bool.true
    else if letter == letter_code Bring then Bool.true else letter == letter_code Receive

-- A line with this letter, a comma and this text.
abbrev pub sort_with : ℕ → List ℕ → Sort
sort_with letter text = if letter == record_letter then recorded text else if is_letter_of_centre letter then of_centre else of_script

-- A line with this letter alone.
abbrev pub sort_alone : ℕ → Sort
sort_alone letter = if letter == record_letter then without_comma else if is_letter_of_centre letter then of_centre else of_script

-- The sort of a line: field 0 is what stands before the first comma.
abbrev pub sort_of : List ℕ → Sort
sort_of [] = of_script
sort_of (letter ∷ []) = sort_alone letter
sort_of (letter ∷ next ∷ text) = if next == comma then sort_with letter text else of_script

-- ---- readings

-- Whether a line of this number stands behind the three lines of the head and isn't too long.
abbrev pub is_behind_head : ℕ → List ℕ → Bool
is_behind_head number bytes = nat_lt 3 number && nat_le (length bytes) max_line_bytes

-- The sort of the line of this number. In the head, and where it is too long, a line is judged as in a script.
abbrev pub sort_at : ℕ → List ℕ → Sort
sort_at number bytes = if is_behind_head number bytes then sort_of bytes else of_script

-- A line of this sort is read so: a line of a centre has no letter of a log; a recorded text needs its comma and may hold any bytes; any
-- other line is read as in a script.
abbrev pub ReadsSort : Sort → ℕ → List ℕ → LogReading → Type 0
ReadsSort of_centre number bytes reading = reading ≡ Reads (Bad code.Kind 0)
ReadsSort (recorded text) number bytes reading = reading ≡ Records text
ReadsSort without_comma number bytes reading = reading ≡ Reads (Bad code.Count 0)
ReadsSort of_script number bytes (Reads reading) = ReadsLine number bytes reading
ReadsSort of_script number bytes (Records text) = ⊥

-- The line of this number of a log is read so.
abbrev pub ReadsLogLine : ℕ → List ℕ → LogReading → Type 0
ReadsLogLine number bytes reading = ReadsSort (sort_at number bytes) number bytes reading
