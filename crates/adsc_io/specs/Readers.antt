-- What a reader of lines does with its input (this project's profile).
use Rattle.std.specs.Prelude.{◌≡◌, ℕ, ◌+◌, ◌<◌, ◌≤◌, Bool, false, not, IsTrue, List, [], ◌++◌, length, drop, Result, Ok, IfOk, OnErr}
use Rattle.std.specs.declared.option.Option.{Option}
use Rattle.std.specs.Io.KnownBytes.{Consumes, IsAtEnd}
use Rattle.adsc_io.specs.declared.failures.ReadFault.{ReadFault}
use Rattle.adsc_io.specs.declared.limits.TheConstants.{MAX_LINE_BYTES, MAX_SCRIPT_BYTES}
use Rattle.adsc_io.specs.declared.line.Line.{Line}
use Rattle.adsc_io.specs.declared.line.Line.TheVariants.{Text, End, TooLong, Limit}
use Rattle.adsc_io.specs.Inputs.{IsLineAt, is_within_limits, line_end}
use Rattle.adsc_io.specs.Lines.{script_lines, IsUnbroken}

-- A reader of lines: how many lines it has answered; the text of the last of them, or of the next one as far as it was
-- read; how many bytes were taken of the next line, and how many of the whole input; the bytes that the reader holds
-- behind those; whether it has seen the end of the input, and whether it has met the limit.
pub record LinesRead : Type 0 where
  pub number : ℕ
  pub text : List ℕ
  pub begun : ℕ
  pub taken : ℕ
  pub held : List ℕ
  pub ended : Bool
  pub over : Bool

-- The reader stands in this input, of which `rest` is still to be read: behind the lines that it has answered the input
-- goes on with the beginning of the next line, then with what the reader holds, and then with the rest.
pub record StandsIn (bytes rest : List ℕ) (reader : LinesRead) : Type 0 where
  pub beginning : List ℕ
  pub behind : drop (line_end bytes reader.number) bytes ≡ beginning ++ reader.held ++ rest
  pub unbroken : IsUnbroken beginning
  pub begun : reader.begun ≡ length beginning
  pub kept : 0 < reader.begun → reader.begun ≤ MAX_LINE_BYTES → reader.text ≡ beginning
  pub taken : reader.taken ≡ line_end bytes reader.number + reader.begun
  pub few : reader.number ≤ length (script_lines bytes)
  pub within : IsTrue (is_within_limits bytes reader.number)
  pub ended : IsTrue reader.ended → rest ≡ []
  pub over : IsTrue reader.over → IsLineAt bytes (reader.number + 1) (Limit (reader.number + 1)) []

-- How many lines an answer passes.
abbrev pub lines_passed : Line → ℕ
lines_passed Text = 1
lines_passed TooLong = 1
lines_passed End = 0
lines_passed (Limit line) = 0

-- A call of the reader, by what its source had left and has left: it took some bytes more, and whatever input the reader
-- stood in, it answered the next line of that input and stands behind it. After a fault it stands where it stood, with
-- what it took. Where it has seen the end, nothing more comes.
pub record ReadsNext (before now : LinesRead) (left left' : Option (List ℕ)) (result : Result Line ReadFault) : Type 0 where
  pub took : List ℕ
  pub consumed : Consumes left left' took
  pub at_end : (IsTrue before.ended → IsAtEnd left) → IsTrue now.ended → IsAtEnd left'
  pub still : IsTrue before.ended → IsTrue now.ended × (took ≡ [])
  pub stands : (bytes rest : List ℕ) → (IsTrue now.ended → rest ≡ []) → StandsIn bytes (took ++ rest) before → StandsIn bytes rest now
  pub line : IfOk result (λ line. (bytes rest : List ℕ) → (IsTrue now.ended → rest ≡ []) → StandsIn bytes (took ++ rest) before
      → IsLineAt bytes (before.number + 1) line now.text)
  pub passed : IfOk result (λ line. now.number ≡ before.number + lines_passed line)
  pub last : result ≡ Ok End → IsTrue now.ended
  pub faulted : OnErr result ((now.number ≡ before.number) × (now.held ≡ []) × (now.ended ≡ false))

-- ---- the steps of a call

-- Nothing is left of the last line where the next one is not begun yet.
abbrev pub IsReady : LinesRead → Type 0
IsReady reader = reader.begun ≡ 0 → reader.text ≡ []

-- The reader answers this for the next line, by what it holds alone, and stands behind it.
pub record Answers (before now : LinesRead) (answer : Line) : Type 0 where
  pub stands : (bytes rest : List ℕ) → StandsIn bytes rest before → StandsIn bytes rest now
  pub line : (bytes rest : List ℕ) → StandsIn bytes rest before → IsLineAt bytes (before.number + 1) answer now.text
  pub passed : now.number ≡ before.number + lines_passed answer
  pub ended : now.ended ≡ before.ended
  pub last : answer ≡ End → IsTrue now.ended
  pub met : (number : ℕ) → answer ≡ Limit number → IsTrue now.over

-- The reader takes all that it holds into the next line.
pub record GoesOn (before now : LinesRead) : Type 0 where
  pub stands : (bytes rest : List ℕ) → StandsIn bytes rest before → StandsIn bytes rest now
  pub ready : IsReady now
  pub same : now ≡ record before { text = now.text; begun = now.begun; taken = now.taken; held = [] }
  pub taken : now.taken ≡ before.taken + length before.held
  pub size : now.taken ≤ MAX_SCRIPT_BYTES

-- The reader, which held nothing, read a piece of its source, or saw that there is none.
pub record ReadsPiece (before now : LinesRead) (left left' : Option (List ℕ)) (more : Bool) : Type 0 where
  pub same : now ≡ record before { held = now.held; ended = not more }
  pub fresh : IsTrue more → before.ended ≡ false
  pub some : IsTrue more → 0 < length now.held
  pub none : more ≡ false → now.held ≡ []
  pub at_end : more ≡ false → (IsTrue before.ended → IsAtEnd left) → IsAtEnd left'
