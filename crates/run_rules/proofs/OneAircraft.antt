-- Which aircraft flies in a script doesn't depend on the order of its entries: the head says it.
use Rattle.std.proofs.Common.{◌≡◌, ◌-◌, ◌+◌, ℕ, Bool, List, [], ◌∷◌, ◌++◌, length, Option, Some, None, slice_get, refl, sym, ap, ◌∙◌, subst}
use Rattle.aircraft_core.specs.Setting.{Setting}
use Rattle.run_rules.specs.Happenings.{Happening, Heard}
use Rattle.run_rules.specs.Lines.{step_of}
use Rattle.run_rules.specs.Runs.{DeliveryRuns, LinesRun, Run, Script, ScriptRun, StepRuns}
use Rattle.run_rules.specs.Stages.{Stage, Step, begun, does, flying, receives, stops, stage_after}
use Rattle.run_rules.specs.declared.reading.Reading.{Reading}
use Rattle.run_rules.proofs.EarlierLines.{stays}
use Rattle.run_rules.proofs.LogEntries.{head_receives_nothing}

-- Behind the head the aircraft stays.
flies_on : (over : Bool) (order : List ℕ) (setting : Setting) (log : List Happening) (number : ℕ) (readings : List Reading) (run : Run)
    → LinesRun over order (flying setting) log number readings run → run.setting ≡ Some setting
flies_on over order setting log number [] run runs = ap (λ (r : Run). r.setting) runs
flies_on over order setting log number (reading ∷ rest) run runs =
    at (step_of (flying setting) log number reading) runs
    (λ now behind. flies_on over order setting now (number + 1) rest run
    (subst (λ stage. LinesRun over order stage now (number + 1) rest run) (stays setting reading) behind))
  where
    Behind : List Happening → Run → Type 0
    Behind now behind = LinesRun over order (stage_after (flying setting) reading) now (number + 1) rest behind

    at : (step : Step) → StepRuns Behind order (flying setting) log number step run
        → ((now : List Happening) → Behind now run → run.setting ≡ Some setting) → run.setting ≡ Some setting
    at (does happenings) runs recur = recur (happenings ++ log) runs
    at (stops found value) runs recur = ap (λ (r : Run). r.setting) runs
    at (receives other link place) runs recur = delivered (slice_get runs.0 (place - 1)) runs.2
      where
        delivered : (text : Option (List ℕ)) → DeliveryRuns Behind (flying setting) log number other link place (length runs.0) text run
            → run.setting ≡ Some setting
        delivered None ends = ap (λ (r : Run). r.setting) ends
        delivered (Some text) heard = recur (Heard number link place heard.0 ∷ log) heard.2

-- Runs of the same lines have one aircraft, or none.
module _ (over : Bool) (order other_order : List ℕ) where
  lines_aircraft : (stage : Stage) (log : List Happening) (number : ℕ) (readings : List Reading) (run other : Run)
      → LinesRun over order stage log number readings run → LinesRun over other_order stage log number readings other → run.setting ≡ other.setting
  lines_aircraft (flying setting) log number readings run other runs others =
      flies_on over order setting log number readings run runs ∙ sym (flies_on over other_order setting log number readings other others)
  lines_aircraft stage log number [] run other runs others = ap (λ (r : Run). r.setting) runs ∙ sym (ap (λ (r : Run). r.setting) others)
  lines_aircraft stage log number (reading ∷ rest) run other runs others =
      at (step_of stage log number reading) refl runs others
      (λ now. lines_aircraft (stage_after stage reading) now (number + 1) rest run other)
    where
      Behind : List ℕ → List Happening → Run → Type 0
      Behind under now behind = LinesRun over under (stage_after stage reading) now (number + 1) rest behind

      at : (step : Step) → step_of stage log number reading ≡ step
          → StepRuns (Behind order) order stage log number step run → StepRuns (Behind other_order) other_order stage log number step other
          → ((now : List Happening) → Behind order now run → Behind other_order now other → run.setting ≡ other.setting) → run.setting ≡ other.setting
      at (does happenings) step runs others recur = recur (happenings ++ log) runs others
      at (stops found value) step runs others recur = ap (λ (r : Run). r.setting) runs ∙ sym (ap (λ (r : Run). r.setting) others)
      at (receives setting link place) step runs others recur = absurd (head_receives_nothing stage log number reading setting link place tt step)

pub one_aircraft : (script : Script) (order other_order : List ℕ) (run other : Run) → ScriptRun script order run → ScriptRun script other_order other
    → run.setting ≡ other.setting
one_aircraft script order other_order run other runs others =
    lines_aircraft script.over order other_order begun [] 1 script.readings run other runs others
