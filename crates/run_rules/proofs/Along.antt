-- Along a run: what holds at its begin and is kept by each line holds at its end.
use Rattle.std.proofs.Common.{◌≡◌, ◌-◌, ℕ, ◌+◌, Bool, List, [], ◌∷◌, ◌++◌, length, Option, Some, None, refl, sym, ap, subst}
use Rattle.std.specs.List.{slice_get}
use Rattle.aircraft_core.specs.Downlinks.{AreDownlinks}
use Rattle.aircraft_core.specs.Setting.{Setting, address_of}
use Rattle.centre_core.specs.Hearing.{Hearing, Says}
use Rattle.run_rules.specs.Happenings.{Happening, Heard}
use Rattle.run_rules.specs.Lines.{step_of}
use Rattle.run_rules.specs.Readings.{ReadsLine}
use Rattle.run_rules.specs.Runs.{DeliveryRuns, LinesRun, ReadsLines, Run, StepRuns, journal_at, setting_at}
use Rattle.run_rules.specs.Stages.{Stage, Step, does, receives, stops, stage_after}
use Rattle.run_rules.specs.declared.reading.Reading.{Reading}

-- A delivery that is heard: the link has this downlink at the place, and it says this to the centre.
pub record IsHeard (order : List ℕ) (log : List Happening) (setting : Setting) (link place : ℕ) (hearing : Hearing) : Type 0 where
  pub texts : List (List ℕ)
  pub text : List ℕ
  pub are_downlinks : AreDownlinks setting (journal_at order log) link texts
  pub there : slice_get texts (place - 1) ≡ Some text
  pub says : Says (address_of setting link) setting.registration text hearing

-- The log that a step goes on to.
abbrev pub GoesTo : List ℕ → List Happening → ℕ → Step → List Happening → Type 0
GoesTo order log number (does happenings) now = now ≡ happenings ++ log
GoesTo order log number (receives setting link place) now =
    (hearing : Hearing) × IsHeard order log setting link place hearing × (now ≡ Heard number link place hearing ∷ log)
GoesTo order log number (stops found value) now = ⊥

-- It holds of the stage, the log and the next line's number at the end of the run.
pub record AtEnd (P : Stage → List Happening → ℕ → Type 0) (run : Run) : Type 0 where
  pub stage : Stage
  pub number : ℕ
  pub setting : run.setting ≡ setting_at stage
  pub holds : P stage run.log number

-- Each line keeps it.
abbrev pub IsKept : List ℕ → (Stage → List Happening → ℕ → Type 0) → Type 0
IsKept order P = (stage : Stage) (log : List Happening) (number : ℕ) (line : List ℕ) (reading : Reading) (now : List Happening)
    → ReadsLine number line reading → GoesTo order log number (step_of stage log number reading) now
    → P stage log number → P (stage_after stage reading) now (number + 1)

at_end : (P : Stage → List Happening → ℕ → Type 0) (stage : Stage) (log : List Happening) (number : ℕ) (run : Run)
    → run.setting ≡ setting_at stage → run.log ≡ log → P stage log number → AtEnd P run
at_end P stage log number run same logs holds =
    record { stage = stage; number = number; setting = same; holds = subst (λ l. P stage l number) (sym logs) holds }

-- What holds at the begin of lines and is kept by each of them holds at the end of their run.
pub along : (order : List ℕ) (P : Stage → List Happening → ℕ → Type 0) → IsKept order P
    → (over : Bool) (lines : List (List ℕ)) (readings : List Reading) (stage : Stage) (log : List Happening) (number : ℕ) (run : Run)
    → ReadsLines number lines readings → LinesRun over order stage log number readings run → P stage log number → AtEnd P run
along order P kept over [] [] stage log number run reads runs holds =
    at_end P stage log number run (ap (λ (r : Run). r.setting) runs) (ap (λ (r : Run). r.log) runs) holds
along order P kept over [] (reading ∷ readings) stage log number run reads runs holds = absurd (cc)
along order P kept over (line ∷ lines) [] stage log number run reads runs holds = absurd reads
along order P kept over (line ∷ lines) (reading ∷ readings) stage log number run reads runs holds =
    at (step_of stage log number reading) runs
    (λ now goes. kept stage log number line reading now reads.0 goes holds)
    (λ now behind next. along order P kept over lines readings (stage_after stage reading) now (number + 1) run reads.1 behind next)
  where
    Behind : List Happening → Run → Type 0
    Behind now behind = LinesRun over order (stage_after stage reading) now (number + 1) readings behind

    at : (step : Step) → StepRuns Behind order stage log number step run
        → ((now : List Happening) → GoesTo order log number step now → P (stage_after stage reading) now (number + 1))
        → ((now : List Happening) → Behind now run → P (stage_after stage reading) now (number + 1) → AtEnd P run) → AtEnd P run
    at (does happenings) runs goes rest = rest (happenings ++ log) runs (goes (happenings ++ log) refl)
    at (stops found value) runs goes rest = at_end P stage log number run (ap (λ (r : Run). r.setting) runs) (ap (λ (r : Run). r.log) runs) holds
    at (receives setting link place) runs goes rest = delivered (slice_get runs.0 (place - 1)) refl runs.2
      where
        delivered : (text : Option (List ℕ)) → slice_get runs.0 (place - 1) ≡ text
            → DeliveryRuns Behind stage log number setting link place (length runs.0) text run → AtEnd P run
        delivered None there ends = at_end P stage log number run (ap (λ (r : Run). r.setting) ends) (ap (λ (r : Run). r.log) ends) holds
        delivered (Some text) there heard =
            rest (Heard number link place heard.0 ∷ log) heard.2
            (goes (Heard number link place heard.0 ∷ log)
            (heard.0, record { texts = runs.0; text = text; are_downlinks = runs.1; there = there; says = heard.1 }, refl))
