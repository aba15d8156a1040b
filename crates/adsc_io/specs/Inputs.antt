-- The lines of an input one by one, counted from 1, and where the limit is met (this project's profile).
use Rattle.std.specs.Prelude.{◌≡◌, ℕ, ◌+◌, ◌<◌, ◌≤◌, ◌==◌, ◌&&◌, Bool, false, IsTrue, nat_le, min, if◌then◌else◌, List, [], ◌∷◌, ◌++◌, length, take}
use Rattle.adsc_io.specs.declared.limits.TheConstants.{MAX_SCRIPT_LINES, MAX_SCRIPT_BYTES, MAX_LINE_BYTES}
use Rattle.adsc_io.specs.declared.line.Line.{Line}
use Rattle.adsc_io.specs.declared.line.Line.TheVariants.{Text, End, TooLong, Limit}
use Rattle.adsc_io.specs.Lines.{newline, script_lines, ended_lines}

-- ---- one line

-- The input has a line of this number, and this is it.
pub record HasLine (bytes : List ℕ) (number : ℕ) (line : List ℕ) : Type 0 where
  pub before : List (List ℕ)
  pub behind : List (List ℕ)
  pub joined : script_lines bytes ≡ before ++ line ∷ behind
  pub counted : number ≡ length before + 1

-- How many bytes the input has up to the end of this line, its newline among them where it has one.
abbrev pub line_end : List ℕ → ℕ → ℕ
line_end bytes number = min (length (ended_lines (take number (script_lines bytes)))) (length bytes)

-- The line of this number is within the limits of a script: by its number, and by the place of its last byte.
abbrev pub is_within_limits : List ℕ → ℕ → Bool
is_within_limits bytes number = nat_le number MAX_SCRIPT_LINES && nat_le (line_end bytes number) MAX_SCRIPT_BYTES

-- What stands at this number of the input, and its text where it is one.
abbrev pub IsLineAt : List ℕ → ℕ → Line → List ℕ → Type 0
-- Text: a line within the limits that isn't too long.
IsLineAt bytes number Text text = HasLine bytes number text × IsTrue (is_within_limits bytes number) × (length text ≤ MAX_LINE_BYTES)
-- TooLong: a line within the limits that is too long.
IsLineAt bytes number TooLong text =
    (line : List ℕ) × HasLine bytes number line × IsTrue (is_within_limits bytes number) × (MAX_LINE_BYTES < length line)
-- Limit: a line, and it isn't within the limits.
IsLineAt bytes number (Limit line) text =
    (line ≡ number) × (number ≤ length (script_lines bytes)) × (is_within_limits bytes number ≡ false)
-- End: no line, since the input has fewer.
IsLineAt bytes number End text = length (script_lines bytes) < number

-- ---- the lines before the limit

-- The limit is met at some line of the input.
abbrev pub IsOverLimit : List ℕ → Type 0
IsOverLimit bytes = (number : ℕ) × IsLineAt bytes number (Limit number) []

-- Those of some lines of the input, of which the first has this number, that stand before the limit.
abbrev pub lines_within : List ℕ → ℕ → List (List ℕ) → List (List ℕ)
lines_within bytes number [] = []
lines_within bytes number (line ∷ lines) = if is_within_limits bytes number then line ∷ lines_within bytes (number + 1) lines else []

-- The lines before the limit.
abbrev pub lines_before_limit : List ℕ → List (List ℕ)
lines_before_limit bytes = lines_within bytes 1 (script_lines bytes)

-- ---- the lines that were wholly read

-- A byte before the first of these lines; before no line it is part of none.
abbrev pub onto_whole : ℕ → List (List ℕ) → List (List ℕ)
onto_whole byte [] = []
onto_whole byte (line ∷ lines) = (byte ∷ line) ∷ lines

-- The lines of these bytes that a newline ends, in order, each without its newline.
abbrev pub whole_lines : List ℕ → List (List ℕ)
whole_lines [] = []
whole_lines (byte ∷ bytes) = if byte == newline then [] ∷ whole_lines bytes else onto_whole byte (whole_lines bytes)
