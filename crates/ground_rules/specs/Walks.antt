-- What the lines of a ground log do, one after the other (this project's profile).
use Rattle.std.specs.Prelude.{ℕ, ◌+◌, Bool, true, false, List, [], ◌∷◌, ◌++◌, map, Some, None}
use Rattle.aircraft_core.specs.declared.who.Who.{Who}
use Rattle.centre_core.specs.Hearing.{Hearing}
use Rattle.ground_rules.specs.GroundHappenings.{GroundHappening, Ticked, Did, Names, events_at, hears_text}
use Rattle.ground_rules.specs.GroundReadings.{GroundReading, bad, says, hears}
use Rattle.ground_rules.specs.declared.line.GroundLine.{GroundLine}
use Rattle.ground_rules.specs.declared.line.GroundLine.TheVariants as ground
use Rattle.net_script.specs.declared.refusal.Code.{Code}
use Rattle.net_script.specs.declared.refusal.Code.TheVariants as code
use Rattle.run_rules.specs.Lines.{ask_step, cancel_step}
use Rattle.run_rules.specs.Stages as scripts
use Rattle.run_rules.specs.Texts.{link_from}
use Rattle.run_rules.specs.declared.end.End.{End}
use Rattle.run_rules.specs.declared.end.End.TheVariants.{Done, Bad, Limit}

-- How far a log has come: nothing was said; who the aircraft is; and with its ground addresses its centres are watched.
pub data GroundStage : Type 0 where
  begun : GroundStage
  named : Who → GroundStage
  watching : Names → GroundStage

-- What a line does: these happenings, the newest first; or the line is bad, with this code and value, and the walk ends.
pub data GroundStep : Type 0 where
  does : List GroundHappening → GroundStep
  stops : Code → ℕ → GroundStep

-- What a centre does at a line, as in the run of a script. No line of a ground log takes a downlink from a journal.
abbrev pub centre_step : scripts.Step → GroundStep
centre_step (scripts.does happenings) = does (map Did happenings)
centre_step (scripts.stops found value) = stops found value
centre_step (scripts.receives setting link place) = does []

-- A line with this address: it does what it does at the centre there; an address that isn't listed is bad, in the field of number 1.
abbrev pub at_centre : Names → List ℕ → (ℕ → GroundStep) → GroundStep
at_centre names address step = elim (link_from 0 names.addresses address) [
  | None ↦ stops code.Address 1
  | Some link ↦ step link
]

-- What a line does that starts the centres again, by its number and the log so far. With a keeper of records they start from what was
-- kept; in a watch there is none, and the line is bad.
abbrev pub Restarting : Type 0
Restarting = ℕ → List GroundHappening → GroundStep

abbrev pub no_restart : Restarting
no_restart number log = stops code.Kind 0

-- What a line behind the first two does, a row for each letter. A line of the first two letters is bad before what it says is looked at.
abbrev pub watch_step : Restarting → Names → List GroundHappening → ℕ → GroundLine → GroundStep
watch_step restart names log number (ground.T t) = does (Ticked number t ∷ [])
watch_step restart names log number (ground.C address request) =
    at_centre names address (λ link. centre_step (ask_step (events_at link log) number link request))
watch_step restart names log number (ground.K address cancel) =
    at_centre names address (λ link. centre_step (cancel_step (events_at link log) number link cancel))
watch_step restart names log number ground.Z = restart number log
watch_step restart names log number value = stops code.Kind 0

-- A text is heard by the centre at this address.
abbrev pub hear_step : Names → ℕ → List ℕ → Hearing → GroundStep
hear_step names number address hearing = at_centre names address (λ link. does (hears_text number link hearing ∷ []))

-- What the line of this number does that is read so: the first two lines make no happening.
abbrev pub ground_step : Restarting → GroundStage → List GroundHappening → ℕ → GroundReading → GroundStep
ground_step restart stage log number (bad found value) = stops found value
ground_step restart begun log number (says (ground.A who)) = does []
ground_step restart (named who) log number (says (ground.G addresses)) = does []
ground_step restart (watching names) log number (says value) = watch_step restart names log number value
ground_step restart (watching names) log number (hears address hearing) = hear_step names number address hearing
ground_step restart stage log number reading = stops code.Head 0

-- The stage behind a line that is read so.
abbrev pub stage_behind : GroundStage → GroundReading → GroundStage
stage_behind begun (says (ground.A who)) = named who
stage_behind (named who) (says (ground.G addresses)) =
    watching (record { registration = who.registration; addresses = addresses.items })
stage_behind stage reading = stage

-- ---- walks

-- Where a walk ended: how far the log had come, what happened, the newest first, and how it ended.
pub record Walked : Type 0 where
  pub stage : GroundStage
  pub log : List GroundHappening
  pub end : End

-- How a walk ends behind the last line before the limit, where the line of this number would be next: at the limit, where there is
-- more; else it is done, where its first two lines are there; else one of them isn't.
abbrev pub end_of_lines : Bool → GroundStage → ℕ → End
end_of_lines true stage number = Limit number
end_of_lines false (watching names) number = Done
end_of_lines false stage number = Bad (record { line = number; code = code.Head; value = 0 })

-- What a step leads to: its happenings join the log, and the walk goes on; or it ends with a bad line.
abbrev pub goes_on : (List GroundHappening → Walked) → GroundStage → List GroundHappening → ℕ → GroundStep → Walked
goes_on behind stage log number (does happenings) = behind (happenings ++ log)
goes_on behind stage log number (stops found value) =
    record { stage = stage; log = log; end = Bad (record { line = number; code = found; value = value }) }

-- The walk over lines that are read so, from this stage and this log on; the first has this number. Each does its step, up to the first
-- that is bad.
abbrev pub walk : Restarting → Bool → GroundStage → List GroundHappening → ℕ → List GroundReading → Walked
walk restart over stage log number [] = record { stage = stage; log = log; end = end_of_lines over stage number }
walk restart over stage log number (reading ∷ readings) =
    goes_on (λ now. walk restart over (stage_behind stage reading) now (number + 1) readings) stage log number
    (ground_step restart stage log number reading)
