-- How far `show` has come with an input (this project's profile).
use Rattle.std.specs.Prelude.{◌≡◌, ℕ, ◌+◌, ◌==◌, if◌then◌else◌, IsTrue, List, [], ◌++◌, length, take}
use Rattle.std.specs.Io.KnownBytes.{Appends, Consumes, IsAtEnd}
use Rattle.adsc_io.specs.Inputs.{HasLine, IsOverLimit, is_within_limits}
use Rattle.adsc_io.specs.Lines.{script_lines}
use Rattle.adsc_io.specs.Readers.{LinesRead, StandsIn}
use Rattle.shown_lines.specs.Shown.{AreShown, IsShown}
use Rattle.shown_lines.specs.declared.show.LineShown.{LineShown}
use Rattle.adsc_bench.specs.Seen.{Seen, Faultless}
use Rattle.adsc_bench.specs.declared.status.Status.{Status}
use Rattle.adsc_bench.specs.declared.status.Status.TheVariants.{Done, Refused}

-- The reader stands in each input that begins with the bytes that were read, and so many first lines of that input are
-- shown by the text that was written; so many of them are refused. No fault came.
pub record HasShown (before now : Seen) (reader : LinesRead) (count refused : ℕ) : Type 0 where
  pub read : List ℕ
  pub consumed : Consumes before.left now.left read
  pub at_end : IsTrue reader.ended → IsAtEnd now.left
  pub stands : (rest : List ℕ) → (IsTrue reader.ended → rest ≡ []) → StandsIn (read ++ rest) rest reader
  pub text : List ℕ
  pub shown : (rest : List ℕ) → (IsTrue reader.ended → rest ≡ []) → AreShown (take count (script_lines (read ++ rest))) text refused
  pub written : Appends before.written now.written text
  pub unfaulted : Faultless before now

-- The input has a line of this number within the limits, and the text is what shows it, in this way.
pub record IsLineShown (bytes : List ℕ) (number : ℕ) (text : List ℕ) (way : LineShown) : Type 0 where
  pub line : List ℕ
  pub has : HasLine bytes number line
  pub within : IsTrue (is_within_limits bytes number)
  pub shown : IsShown number line text way

-- The lines before the one that was read last are shown, and this text is what shows that one, in this way.
pub record HasReadLine (before now : Seen) (reader : LinesRead) (refused : ℕ) (text : List ℕ) (way : LineShown) : Type 0 where
  pub count : ℕ
  pub next : reader.number ≡ count + 1
  pub so_far : HasShown before now reader count refused
  pub line : (rest : List ℕ) → (IsTrue reader.ended → rest ≡ []) → IsLineShown (so_far.read ++ rest) reader.number text way

-- The whole input was read, its limit isn't met, and its lines are shown, so many of which are refused. No fault came.
pub record HasReadAll (before now : Seen) (count refused : ℕ) : Type 0 where
  pub read : List ℕ
  pub consumed : Consumes before.left now.left read
  pub at_end : IsAtEnd now.left
  pub within : IsOverLimit read → ⊥
  pub counted : count ≡ length (script_lines read)
  pub text : List ℕ
  pub shown : AreShown (script_lines read) text refused
  pub written : Appends before.written now.written text
  pub unfaulted : Faultless before now

-- The status where the whole shown text was written, by how many lines are refused.
abbrev pub status_of_whole : ℕ → Status
status_of_whole refused = if refused == 0 then Done else Refused
