-- How far the script of a source was read (this project's profile).
use Rattle.std.specs.Prelude.{◌≡◌, ℕ, ◌+◌, Bool, true, false, IsTrue, List, [], ◌∷◌, ◌++◌, length, drop, IfSome}
use Rattle.std.specs.declared.option.Option.{Option}
use Rattle.std.specs.Io.KnownBytes.{Consumes, IsAtEnd}
use Rattle.adsc_io.specs.Inputs.{lines_before_limit}
use Rattle.adsc_io.specs.Readers.{LinesRead, StandsIn}
use Rattle.run_rules.specs.Runs.{IsScript, ReadsLines}
use Rattle.run_rules.specs.declared.reading.Reading.{Reading}
use Rattle.script_reading.specs.Readable.{IsReadable}
use Rattle.adsc_run.specs.declared.feed.Next.{Next}
use Rattle.adsc_run.specs.declared.feed.Next.TheVariants.{Line, End, Limit}

-- Of a source that told these bytes before and tells those now, some bytes were read, and their first lines are read so. In each input
-- that begins with the bytes that were read, the reader stands behind those lines.
pub record HasRead (before now : Option (List ℕ)) (reader : LinesRead) (readings : List Reading) : Type 0 where
  pub read : List ℕ
  pub consumed : Consumes before now read
  pub at_end : IsTrue reader.ended → IsAtEnd now
  pub counted : reader.number ≡ length readings
  pub stands : (rest : List ℕ) → (IsTrue reader.ended → rest ≡ []) → StandsIn (read ++ rest) rest reader
  pub lines : (rest : List ℕ) → (IsTrue reader.ended → rest ≡ []) → (behind : List Reading)
      → ReadsLines (length readings + 1) (drop (length readings) (lines_before_limit (read ++ rest))) behind
      → ReadsLines 1 (lines_before_limit (read ++ rest)) (readings ++ behind)

-- The source's bytes are this script.
abbrev pub IsWhole : Option (List ℕ) → List Reading → Bool → Type 0
IsWhole before readings over = IfSome before (λ bytes. IsScript bytes (record { readings = readings; over = over }))

-- What stands next: a line that is read so; or the script has no more lines, at its end, or at the limit.
pub data Found : Type 0 where
  line_read : Reading → Found
  end_met : Found
  limit_met : Found

-- What stands next, where the line that was read last is read so.
abbrev pub found_in : Reading → Next → Found
found_in reading Line = line_read reading
found_in reading End = end_met
found_in reading Limit = limit_met

-- It stands next in the source.
abbrev pub IsNext : Option (List ℕ) → Option (List ℕ) → LinesRead → List Reading → Found → Type 0
IsNext before now reader readings (line_read reading) = HasRead before now reader (readings ++ reading ∷ [])
IsNext before now reader readings end_met = IsWhole before readings false × IsAtEnd now
IsNext before now reader readings limit_met = IsWhole before readings true

-- A line that stands next was read.
abbrev pub IsReadableNext : Found → Type 0
IsReadableNext (line_read reading) = IsReadable reading
IsReadableNext found = Unit {0}

-- How many lines it passes.
abbrev pub passed : Found → ℕ
passed (line_read reading) = 1
passed found = 0
