-- How far a script has come, and what one line makes of it (this project's profile).
use Rattle.std.specs.Prelude.{ℕ, List, [], ◌∷◌, Option}
use Rattle.aircraft_core.specs.Setting.{Setting}
use Rattle.aircraft_core.specs.declared.entry.Entry.{Entry}
use Rattle.aircraft_core.specs.declared.who.Who.{Who}
use Rattle.due_event.specs.RuleTerms.{rules_profile}
use Rattle.flight_samples.specs.declared.sample.Sample.{Sample as FlightSample}
use Rattle.net_script.specs.declared.line.ScriptLine.{ScriptLine}
use Rattle.net_script.specs.declared.line.ScriptLine.TheVariants as line
use Rattle.net_script.specs.declared.refusal.Code.{Code}
use Rattle.run_rules.specs.Happenings.{Happening, Entered}
use Rattle.run_rules.specs.declared.reading.Reading.{Reading}
use Rattle.run_rules.specs.declared.reading.Reading.TheVariants.{Says}

-- How far a script has come: nothing was said; who the aircraft is; its ground addresses too, and the one for which a connection is
-- kept, if any; and with its first sample it flies.
pub data Stage : Type 0 where
  begun : Stage
  named : Who → Stage
  linked : Who → List (List ℕ) → Option ℕ → Stage
  flying : Setting → Stage

-- What a line does: these happenings, the newest first; or the downlink at this place of this link of the aircraft is brought to its
-- centre; or the line is bad, with this code and value, and the script ends.
pub data Step : Type 0 where
  does : List Happening → Step
  receives : Setting → ℕ → ℕ → Step
  stops : Code → ℕ → Step

-- the line makes this entry and nothing else
abbrev pub enters : Entry → Step
enters made = does (Entered made ∷ [])

-- The aircraft that three lines make.
abbrev pub setting_with : Who → List (List ℕ) → Option ℕ → FlightSample → Setting
setting_with who addresses kept first =
    record {
      registration = who.registration;
      flight = who.flight;
      airframe = who.airframe;
      profile = rules_profile who.profile;
      addresses = addresses;
      kept = kept;
      first = first;
    }

-- The stage behind a line of the head that says this.
abbrev pub stage_behind : Stage → ScriptLine → Stage
stage_behind begun (line.A who) = named who
stage_behind (named who) (line.G addresses reserved) = linked who addresses.items reserved
stage_behind (linked who addresses kept) (line.S sample) = flying (setting_with who addresses kept sample)
stage_behind stage value = stage

-- The stage behind a line that is read so.
abbrev pub stage_after : Stage → Reading → Stage
stage_after stage (Says value) = stage_behind stage value
stage_after stage reading = stage
