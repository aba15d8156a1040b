-- Worked scripts that are no longer than their head. A script is this project's profile.
use Rattle.std.specs.Prelude.{◌≡◌, true, [], ◌∷◌, Some, None}
use Rattle.aircraft_core.specs.declared.who.Who.{Who}
use Rattle.flight_samples.specs.declared.sample.Sample.{Sample as FlightSample}
use Rattle.net_script.specs.declared.line.ScriptLine.TheVariants as line
use Rattle.net_script.specs.declared.refusal.Code.TheVariants as code
use Rattle.run_rules.specs.Histories.Words.{RunsTo, aircraft_of, ground, head, logs_on, script_of}
use Rattle.run_rules.specs.Runs.{Run}
use Rattle.run_rules.specs.declared.end.End.{End}
use Rattle.run_rules.specs.declared.end.End.TheVariants.{Bad, Done, Limit}
use Rattle.run_rules.specs.declared.reading.Reading.TheVariants.{Says}

-- The run of a script without an aircraft: nothing happened, and it ended so.
abbrev pub EndsInHead : End → Run → Type 0
EndsInHead end run = (run.setting ≡ None) × (run.log ≡ []) × (run.end ≡ end)

-- Without a line, or where the second or the third line of the head is missing, that line is a fault of the head.
abbrev pub HeadCutOff : Type 0
HeadCutOff = (who : Who) →
    RunsTo (script_of []) [] (EndsInHead (Bad (record { line = 1; code = code.Head; value = 0 })))
    × RunsTo (script_of (Says (line.A who) ∷ [])) [] (EndsInHead (Bad (record { line = 2; code = code.Head; value = 0 })))
    × RunsTo (script_of (Says (line.A who) ∷ Says (line.G (record { items = ground ∷ [] }) None) ∷ [])) []
    (EndsInHead (Bad (record { line = 3; code = code.Head; value = 0 })))

-- So is a line of another letter.
abbrev pub OtherLetter : Type 0
OtherLetter = (who : Who) →
    RunsTo (script_of (logs_on ∷ [])) [] (EndsInHead (Bad (record { line = 1; code = code.Head; value = 0 })))
    × RunsTo (script_of (Says (line.A who) ∷ logs_on ∷ [])) [] (EndsInHead (Bad (record { line = 2; code = code.Head; value = 0 })))

-- A script of the head alone is done, and nothing happened; the aircraft is what the head says.
abbrev pub HeadAlone : Type 0
HeadAlone = (who : Who) (sample : FlightSample) → RunsTo (script_of (head who (ground ∷ []) sample)) [] (λ run.
    (run.setting ≡ Some (aircraft_of who sample)) × (run.log ≡ []) × (run.end ≡ Done))

-- Where the limit is met behind the head, the run ends there.
abbrev pub LimitBehindHead : Type 0
LimitBehindHead = (who : Who) (sample : FlightSample)
    → RunsTo (record { readings = head who (ground ∷ []) sample; over = true }) [] (λ run. run.end ≡ Limit 4)
