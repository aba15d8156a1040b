-- What a log tells: the entries of an aircraft's journal, and the texts that were recorded behind each (this project's profile).
use Rattle.std.specs.Prelude.{ℕ, Bool, true, false, if◌then◌else◌, List, [], ◌∷◌, ◌++◌, Option, Some, None, drop, take}
use Rattle.aircraft_core.specs.Setting.{Setting}
use Rattle.aircraft_core.specs.declared.entry.Entry.{Entry}
use Rattle.net_script.specs.declared.line.ScriptLine.{ScriptLine}
use Rattle.net_script.specs.declared.line.ScriptLine.TheVariants as line
use Rattle.net_script.specs.declared.refusal.Code.{Code}
use Rattle.net_script.specs.declared.refusal.Code.TheVariants as code
use Rattle.run_rules.specs.Happenings.{entries}
use Rattle.run_rules.specs.Lines.{flight_step, step_of}
use Rattle.run_rules.specs.Stages.{Stage, begun, flying, Step, does, receives, stops, stage_after}
use Rattle.run_rules.specs.Texts.{link_to}
use Rattle.run_rules.specs.declared.reading.Reading.{Reading}
use Rattle.run_rules.specs.declared.reading.Reading.TheVariants.{Says}
use Rattle.audit_rules.specs.LogReadings.{LogReading, Reads, Records}

-- A text that was recorded on this link of the aircraft.
pub record RecordedText : Type 0 where
  pub link : ℕ
  pub text : List ℕ

-- An entry of the journal, and the texts that were recorded behind it and before the next one, in their order.
pub record LoggedEntry : Type 0 where
  pub entry : Entry
  pub records : List RecordedText

-- How far a log has come, and the entries that its lines made, the newest first.
pub record LogState : Type 0 where
  pub stage : Stage
  pub logged : List LoggedEntry

-- The journal of these entries, the oldest first.
abbrev pub journal_of : List LoggedEntry → List Entry
journal_of [] = []
journal_of (newest ∷ earlier) = journal_of earlier ++ newest.entry ∷ []

-- ---- lines

-- What a line does: the log goes on from this state; or the line is bad, with this code and value, and the log ends.
pub data LogStep : Type 0 where
  goes : LogState → LogStep
  ends : Code → ℕ → LogStep

-- These entries are logged too; nothing is recorded behind them yet.
abbrev pub with_entries : List Entry → List LoggedEntry → List LoggedEntry
with_entries [] logged = logged
with_entries (made ∷ others) logged = with_entries others (record { entry = made; records = [] } ∷ logged)

-- A line of a centre: it asks, cancels, brings or receives. Such a line is bad by its letter, so it is never read as saying something.
abbrev pub is_of_centre : ScriptLine → Bool
is_of_centre (line.C address request) = true
is_of_centre (line.K address cancel) = true
is_of_centre (line.B address place) = true
is_of_centre (line.R address place) = true
is_of_centre value = false

-- What a line does that is read so: what it does in a script in which no address is a centre's. Then no line depends on what stood before.
abbrev pub line_step_in : Stage → ℕ → Reading → Step
line_step_in (flying setting) number (Says value) = if is_of_centre value then stops code.Kind 0 else flight_step setting [] number value
line_step_in stage number reading = step_of stage [] number reading

-- A line that does this and leads to this stage: the entries that it makes are logged.
abbrev pub script_step : Stage → Step → List LoggedEntry → LogStep
script_step stage (does happenings) logged = goes (record { stage = stage; logged = with_entries (entries happenings) logged })
script_step stage (stops found value) logged = ends found value
script_step stage (receives setting link place) logged = ends code.Kind 0

-- The address of a recorded text, in its places 1 to 7.
abbrev pub recorded_address : List ℕ → List ℕ
recorded_address text = take 7 (drop 1 text)

-- A text that is recorded on this link belongs to the last entry; before the first one it comes too early.
abbrev pub joins : Stage → ℕ → List ℕ → List LoggedEntry → LogStep
joins stage link text [] = ends code.Early 0
joins stage link text (newest ∷ earlier) =
    goes (record { stage = stage; logged = record newest { records = newest.records ++ record { link = link; text = text } ∷ [] } ∷ earlier })

-- A text is recorded whose address is that of this link, if it is listed.
abbrev pub joins_on : Stage → Option ℕ → List ℕ → List LoggedEntry → LogStep
joins_on stage None text logged = ends code.Address 1
joins_on stage (Some link) text logged = joins stage link text logged

-- A recorded text stands behind the head alone.
abbrev pub record_step : Stage → List ℕ → List LoggedEntry → LogStep
record_step (flying setting) text logged = joins_on (flying setting) (link_to setting (recorded_address text)) text logged
record_step stage text logged = ends code.Head 0

-- What the line of this number does that is read so.
abbrev pub log_step : LogState → ℕ → LogReading → LogStep
log_step state number (Reads reading) = script_step (stage_after state.stage reading) (line_step_in state.stage number reading) state.logged
log_step state number (Records text) = record_step state.stage text state.logged

-- Nothing was read yet.
abbrev pub no_line : LogState
no_line = record { stage = begun; logged = [] }
