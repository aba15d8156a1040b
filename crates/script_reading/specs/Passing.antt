-- How far the lines of a source were passed, one after the other (this project's profile).
use Rattle.std.specs.Prelude.{◌≡◌, ℕ, ◌+◌, ◌<◌, IsTrue, List, [], ◌∷◌, ◌++◌, length, drop, IfSome}
use Rattle.std.specs.declared.option.Option.{Option}
use Rattle.std.specs.Io.KnownBytes.{Consumes, IsAtEnd}
use Rattle.adsc_io.specs.Inputs.{IsOverLimit, lines_before_limit}
use Rattle.adsc_io.specs.Readers.{LinesRead, StandsIn}
use Rattle.adsc_io.specs.declared.limits.TheConstants.{MAX_LINE_BYTES}
use Rattle.adsc_io.specs.declared.line.Line.{Line}
use Rattle.adsc_io.specs.declared.line.Line.TheVariants.{Text, TooLong, End, Limit}

-- Of a source that told these bytes before and tells those now, some bytes were read, and so many lines passed. In each input that begins
-- with the bytes that were read, the reader stands behind those lines, and this holds of that input.
pub record HasPassed (before now : Option (List ℕ)) (reader : LinesRead) (count : ℕ) (holds : List ℕ → Type 0) : Type 0 where
  pub read : List ℕ
  pub consumed : Consumes before now read
  pub at_end : IsTrue reader.ended → IsAtEnd now
  pub counted : reader.number ≡ count
  pub stands : (rest : List ℕ) → (IsTrue reader.ended → rest ≡ []) → StandsIn (read ++ rest) rest reader
  pub told : (rest : List ℕ) → (IsTrue reader.ended → rest ≡ []) → holds (read ++ rest)

-- The lines of an input before the limit that stand behind so many.
abbrev pub lines_behind : ℕ → List ℕ → List (List ℕ)
lines_behind count bytes = drop count (lines_before_limit bytes)

-- Behind so many lines of the input this one is the next, and a reader answered it: with this text, or because it is too long.
abbrev pub IsNextLine : Line → List ℕ → ℕ → List ℕ → List ℕ → Type 0
IsNextLine Text text count bytes line = (lines_behind count bytes ≡ line ∷ lines_behind (count + 1) bytes) × (line ≡ text)
IsNextLine TooLong text count bytes line = (lines_behind count bytes ≡ line ∷ lines_behind (count + 1) bytes) × (MAX_LINE_BYTES < length line)
IsNextLine answer text count bytes line = ⊥

-- Behind so many lines the input has no line before the limit: it ends, or the limit is met.
abbrev pub IsNoLine : Line → ℕ → List ℕ → Type 0
IsNoLine End count bytes = (lines_behind count bytes ≡ []) × (IsOverLimit bytes → ⊥)
IsNoLine (Limit line) count bytes = (lines_behind count bytes ≡ []) × IsOverLimit bytes
IsNoLine answer count bytes = ⊥
