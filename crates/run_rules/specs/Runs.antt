-- The run of a script under an order of its entries (this project's profile).
use Rattle.std.specs.Prelude.{◌≡◌, ◌↔◌, ◌-◌, ℕ, ◌+◌, Bool, true, false, IsTrue, List, [], ◌∷◌, ◌++◌, length, Option, Some, None, slice_get}
use Rattle.adsc_io.specs.Inputs.{IsOverLimit, lines_before_limit}
use Rattle.aircraft_core.specs.Downlinks.{AreDownlinks}
use Rattle.aircraft_core.specs.Setting.{Setting, address_of}
use Rattle.aircraft_core.specs.declared.entry.Entry.{Entry}
use Rattle.centre_core.specs.Hearing.{Hearing, Says}
use Rattle.net_script.specs.declared.refusal.Code.{Code}
use Rattle.net_script.specs.declared.refusal.Code.TheVariants as code
use Rattle.run_rules.specs.Happenings.{Happening, Heard, entries}
use Rattle.run_rules.specs.Orders.{IsOrderOf, IsOrdered, journal_of}
use Rattle.run_rules.specs.Readings.{ReadsLine}
use Rattle.run_rules.specs.Stages.{Stage, begun, flying, Step, does, receives, stops, stage_after}
use Rattle.run_rules.specs.Lines.{step_of}
use Rattle.run_rules.specs.declared.end.End.{End}
use Rattle.run_rules.specs.declared.end.End.TheVariants.{Done, Bad, Limit}
use Rattle.run_rules.specs.declared.reading.Reading.{Reading}

-- ---- scripts

-- A script: how its lines before the limit are read, and whether the limit is met behind them.
pub record Script : Type 0 where
  pub readings : List Reading
  pub over : Bool

-- These lines, of which the first has this number, are read so.
abbrev pub ReadsLines : ℕ → List (List ℕ) → List Reading → Type 0
ReadsLines number [] readings = readings ≡ []
ReadsLines number (line ∷ lines) [] = ⊥
ReadsLines number (line ∷ lines) (reading ∷ readings) = ReadsLine number line reading × ReadsLines (number + 1) lines readings

-- The bytes are this script.
pub record IsScript (bytes : List ℕ) (script : Script) : Type 0 where
  pub limit : IsTrue script.over ↔ IsOverLimit bytes
  pub lines : ReadsLines 1 (lines_before_limit bytes) script.readings

-- ---- runs

-- A run: what the aircraft was made with, where the script came so far; what happened, the newest first; and how it ended.
pub record Run : Type 0 where
  pub setting : Option Setting
  pub log : List Happening
  pub end : End

-- the aircraft of a stage
abbrev pub setting_at : Stage → Option Setting
setting_at (flying setting) = Some setting
setting_at stage = None

-- the ground addresses of the aircraft's links
abbrev pub addresses_in : Option Setting → List (List ℕ)
addresses_in None = []
addresses_in (Some setting) = setting.addresses

-- a run that ends at this stage
abbrev pub ended_run : Stage → List Happening → End → Run
ended_run stage log end = record { setting = setting_at stage; log = log; end = end }

-- a run that ends with a bad line
abbrev pub stopped_run : Stage → List Happening → ℕ → Code → ℕ → Run
stopped_run stage log number found value = ended_run stage log (Bad (record { line = number; code = found; value = value }))

-- How a run ends behind the last line before the limit, where the line of this number would be next: at the limit, where there is
-- more; else the script is done, where its head is there; else a line of the head isn't.
abbrev pub end_behind : Bool → Stage → ℕ → End
end_behind true stage number = Limit number
end_behind false (flying setting) number = Done
end_behind false stage number = Bad (record { line = number; code = code.Head; value = 0 })

-- The journal at the end of a log.
abbrev pub journal_at : List ℕ → List Happening → List Entry
journal_at order log = journal_of order (entries log)

-- The run that a delivery to a centre leads to, with this downlink, if there is one at its place; there are so many.
abbrev pub DeliveryRuns : (List Happening → Run → Type 0) → Stage → List Happening → ℕ → Setting → ℕ → ℕ → ℕ → Option (List ℕ) → Run → Type 0
DeliveryRuns Behind stage log number setting link place count None run = run ≡ stopped_run stage log number code.Number count
DeliveryRuns Behind stage log number setting link place count (Some text) run =
    (hearing : Hearing) × Says (address_of setting link) setting.registration text hearing × Behind (Heard number link place hearing ∷ log) run

-- The run that a step leads to: its happenings join the log, and the script goes on; or a downlink of the journal so far, by its
-- place, counted from 1, is heard; or the run ends with a bad line.
abbrev pub StepRuns : (List Happening → Run → Type 0) → List ℕ → Stage → List Happening → ℕ → Step → Run → Type 0
StepRuns Behind order stage log number (does happenings) run = Behind (happenings ++ log) run
StepRuns Behind order stage log number (stops found value) run = run ≡ stopped_run stage log number found value
StepRuns Behind order stage log number (receives setting link place) run =
    (texts : List (List ℕ)) × AreDownlinks setting (journal_at order log) link texts
    × DeliveryRuns Behind stage log number setting link place (length texts) (slice_get texts (place - 1)) run

-- The run of lines from this stage and this log on, of which the first has this number: each line does its step, up to the one that
-- ends the run.
abbrev pub LinesRun : Bool → List ℕ → Stage → List Happening → ℕ → List Reading → Run → Type 0
LinesRun over order stage log number [] run = run ≡ ended_run stage log (end_behind over stage number)
LinesRun over order stage log number (reading ∷ readings) run =
    StepRuns (λ now behind. LinesRun over order (stage_after stage reading) now (number + 1) readings behind) order stage log number
    (step_of stage log number reading) run

-- The run of a script under an order of entries. Only deliveries to centres see the order: they look at the journal so far.
abbrev pub ScriptRun : Script → List ℕ → Run → Type 0
ScriptRun script order run = LinesRun script.over order begun [] 1 script.readings run

-- ---- allowed orders

-- So many workers may take the entries of the run of a script in this order: each entry's line stands in it once, and nothing else;
-- and a later line stands before an earlier one only where it may pass it. With one worker the order rises.
pub record IsAllowedOrder (script : Script) (run : Run) (workers : ℕ) (order : List ℕ) : Type 0 where
  pub ordered : IsOrdered (addresses_in run.setting) script.readings workers order
  pub lines : IsOrderOf (entries run.log) order
