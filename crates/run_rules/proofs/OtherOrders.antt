-- A run under an order is a run under another one, where the deliveries to centres find the same downlinks.
use Rattle.std.proofs.Common.{◌≡◌, ◌≤◌, ◌-◌, ◌+◌, ℕ, Bool, List, [], ◌∷◌, ◌++◌, length, Option, Some, None, slice_get, refl, sym, ap, ◌∙◌, subst, append_assoc, length-append, arith}
use Rattle.aircraft_core.specs.Downlinks.{AreDownlinks}
use Rattle.aircraft_core.specs.Setting.{Setting}
use Rattle.run_rules.specs.Happenings.{Happening, Heard, entries}
use Rattle.run_rules.specs.Lines.{step_of}
use Rattle.run_rules.specs.Orders.{IsRising, line_order, reading_at}
use Rattle.run_rules.specs.Runs.{DeliveryRuns, LinesRun, Run, StepRuns, journal_at, setting_at}
use Rattle.run_rules.specs.Stages.{Stage, Step, begun, does, flying, receives, stops, named, linked, stage_after}
use Rattle.run_rules.specs.declared.reading.Reading.{Reading}
use Rattle.run_rules.proofs.EarlierLines.{by_step, stays}
use Rattle.run_rules.proofs.GoingOn.{newest_reading}
use Rattle.run_rules.proofs.LineEntries.{own_downlinks}
use Rattle.run_rules.proofs.LogEntries.{LogFits, StageFits, head_receives_nothing, heard_fits, line_fits}

-- In the log of a run that ends so, at whatever line, the one order finds what the other finds.
pub record FindsSame (readings : List Reading) (order other : List ℕ) (run : Run) : Type 0 where
  pub finds : (setting : Setting) (log : List Happening) (number : ℕ) (later : List Happening)
      → run.setting ≡ Some setting → run.log ≡ later ++ log → LogFits setting readings log number → IsRising (line_order (entries run.log))
      → (link : ℕ) (texts : List (List ℕ)) → AreDownlinks setting (journal_at order log) link texts → AreDownlinks setting (journal_at other log) link texts

-- What is known of the run from this stage and log on: the log goes on, what is so far stands at its end, and the run is one under the
-- other order.
pub record RunsUnder (readings : List Reading) (over : Bool) (other : List ℕ) (stage : Stage) (log : List Happening) (number : ℕ) (rest : List Reading) (run : Run) : Type 0 where
  pub later : List Happening
  pub joined : run.log ≡ later ++ log
  pub flies : (setting : Setting) → stage ≡ flying setting → run.setting ≡ Some setting
  pub last : Stage
  pub count : ℕ
  pub setting : run.setting ≡ setting_at last
  pub fits : StageFits readings last run.log count
  pub runs : LinesRun over other stage log number rest run

rising_at_end : (readings : List Reading) (stage : Stage) (log : List Happening) (number : ℕ) → StageFits readings stage log number → IsRising (line_order (entries log))
rising_at_end readings begun log number fits = subst (λ l. IsRising (line_order (entries l))) (sym fits) tt
rising_at_end readings (named who) log number fits = subst (λ l. IsRising (line_order (entries l))) (sym fits) tt
rising_at_end readings (linked who addresses kept) log number fits = subst (λ l. IsRising (line_order (entries l))) (sym fits) tt
rising_at_end readings (flying setting) log number fits = fits.rising

pub end_rises : {readings : List Reading} {over : Bool} {other : List ℕ} {stage : Stage} {log : List Happening} {number : ℕ} {rest : List Reading} {run : Run}
    → RunsUnder readings over other stage log number rest run → IsRising (line_order (entries run.log))
end_rises {readings} {run = run} under = rising_at_end readings under.last run.log under.count under.fits

flying_setting : (stage : Stage) (setting : Setting) → stage ≡ flying setting → setting_at stage ≡ Some setting
flying_setting stage setting e = ap setting_at e

-- A run that ends here.
stopped_here : (readings : List Reading) (over : Bool) (other : List ℕ) (stage : Stage) (log : List Happening) (number : ℕ) (rest : List Reading) (run : Run)
    → run.setting ≡ setting_at stage → run.log ≡ log → StageFits readings stage log number → LinesRun over other stage log number rest run
    → RunsUnder readings over other stage log number rest run
stopped_here readings over other stage log number rest run settings logs fits runs =
    record {
      later = [];
      joined = logs;
      flies = λ setting e. settings ∙ flying_setting stage setting e;
      last = stage;
      count = number;
      setting = settings;
      fits = subst (λ l. StageFits readings stage l number) (sym logs) fits;
      runs = runs;
    }

-- A line whose run goes on behind it.
goes_on : (readings : List Reading) (over : Bool) (other : List ℕ) (stage : Stage) (log : List Happening) (number : ℕ) (reading : Reading) (rest : List Reading) (run : Run)
    → (happenings : List Happening) → (under : RunsUnder readings over other (stage_after stage reading) (happenings ++ log) (number + 1) rest run)
    → LinesRun over other stage log number (reading ∷ rest) run
    → RunsUnder readings over other stage log number (reading ∷ rest) run
goes_on readings over other stage log number reading rest run happenings under runs =
    record {
      later = under.later ++ happenings;
      joined = under.joined ∙ sym (append_assoc under.later happenings log);
      flies = λ setting e. under.flies setting (ap (λ s. stage_after s reading) e ∙ stays setting reading);
      last = under.last;
      count = under.count;
      setting = under.setting;
      fits = under.fits;
      runs = runs;
    }

-- Downlinks are brought in the flight alone, those of its aircraft.
flies_on : (stage : Stage) (log : List Happening) (number : ℕ) (reading : Reading) (setting : Setting) (link place : ℕ)
    → step_of stage log number reading ≡ receives setting link place → stage ≡ flying setting
flies_on begun log number reading setting link place step = absurd (head_receives_nothing begun log number reading setting link place tt step)
flies_on (named who) log number reading setting link place step = absurd (head_receives_nothing (named who) log number reading setting link place tt step)
flies_on (linked who addresses kept) log number reading setting link place step =
    absurd (head_receives_nothing (linked who addresses kept) log number reading setting link place tt step)
flies_on (flying its) log number reading setting link place step = ap flying (sym (own_downlinks its log number reading setting link place step))

-- A line that brings a downlink.
delivery : (readings : List Reading) (over : Bool) (order other : List ℕ) (run : Run) → FindsSame readings order other run
    → (stage : Stage) (log : List Happening) (number : ℕ) (reading : Reading) (rest : List Reading) (setting : Setting) (link place : ℕ)
    → stage ≡ flying setting → reading_at readings number ≡ Some reading → StageFits readings stage log number → step_of stage log number reading ≡ receives setting link place
    → StepRuns (λ now behind. LinesRun over order (stage_after stage reading) now (number + 1) rest behind) order stage log number (receives setting link place) run
    → ((now : List Happening) → StageFits readings (stage_after stage reading) now (number + 1) → LinesRun over order (stage_after stage reading) now (number + 1) rest run
    → RunsUnder readings over other (stage_after stage reading) now (number + 1) rest run)
    → RunsUnder readings over other stage log number (reading ∷ rest) run
delivery readings over order other run same stage log number reading rest setting link place flies is_there fits step runs recur =
    delivered (slice_get runs.0 (place - 1)) refl runs.2
  where
    its : LogFits setting readings log number
    its = subst (λ s. StageFits readings s log number) flies fits

    delivered : (text : Option (List ℕ)) → slice_get runs.0 (place - 1) ≡ text
        → DeliveryRuns (λ now behind. LinesRun over order (stage_after stage reading) now (number + 1) rest behind) stage log number setting link place (length runs.0) text run
        → RunsUnder readings over other stage log number (reading ∷ rest) run
    delivered None there ends =
        let logs : run.log ≡ log = ap (λ (r : Run). r.log) ends in
        let settings : run.setting ≡ setting_at stage = ap (λ (r : Run). r.setting) ends in
        let are = same.finds setting log number [] (settings ∙ flying_setting stage setting flies) logs its
        (subst (λ l. IsRising (line_order (entries l))) (sym logs) its.rising) link runs.0 runs.1 in
        stopped_here readings over other stage log number (reading ∷ rest) run settings logs fits
        (by_step over other stage log number reading rest run (receives setting link place) step
        (runs.0, are, subst (λ text. DeliveryRuns (λ now behind. LinesRun over other (stage_after stage reading) now (number + 1) rest behind) stage log number setting link place (length runs.0) text run) (sym there) ends))
    delivered (Some text) there heard =
        let happening = Heard number link place heard.0 in
        let stage_now : stage_after stage reading ≡ flying setting = ap (λ s. stage_after s reading) flies ∙ stays setting reading in
        let fits_now = subst (λ s. StageFits readings s (happening ∷ log) (number + 1)) (sym stage_now)
        (heard_fits setting readings log number reading link place heard.0 is_there (subst (λ s. step_of s log number reading ≡ receives setting link place) flies step) its) in
        let under = recur (happening ∷ log) fits_now heard.2 in
        let are = same.finds setting log number (under.later ++ happening ∷ []) (under.flies setting stage_now)
        (under.joined ∙ sym (append_assoc under.later (happening ∷ []) log)) its (end_rises under) link runs.0 runs.1 in
        goes_on readings over other stage log number reading rest run (happening ∷ []) under
        (by_step over other stage log number reading rest run (receives setting link place) step (
          runs.0,
          are,
          subst (λ text. DeliveryRuns (λ now behind. LinesRun over other (stage_after stage reading) now (number + 1) rest behind) stage log number setting link place (length runs.0) text run) (sym there)
              (heard.0, heard.1, under.runs),
        ))

pub runs_under : (readings : List Reading) (over : Bool) (order other : List ℕ) (run : Run) → FindsSame readings order other run
    → (before rest : List Reading) → readings ≡ before ++ rest → (stage : Stage) (log : List Happening) (number : ℕ) → number ≡ length before + 1
    → StageFits readings stage log number → LinesRun over order stage log number rest run
    → RunsUnder readings over other stage log number rest run
runs_under readings over order other run same before [] all stage log number place fits runs =
    stopped_here readings over other stage log number [] run (ap (λ (r : Run). r.setting) runs) (ap (λ (r : Run). r.log) runs) fits runs
runs_under readings over order other run same before (reading ∷ rest) all stage log number place fits runs =
    at (step_of stage log number reading) refl runs
    (λ now. runs_under readings over order other run same (before ++ reading ∷ []) rest (all ∙ sym (append_assoc before (reading ∷ []) rest))
    (stage_after stage reading) now (number + 1) next)
  where
    next : number + 1 ≡ length (before ++ reading ∷ []) + 1
    next = let longer : length (before ++ reading ∷ []) ≡ length before + 1 = length-append before (reading ∷ []) in omega arith

    upto : number ≤ length readings
    upto =
        let whole : length readings ≡ length before + length (reading ∷ rest) = ap length all ∙ length-append before (reading ∷ rest) in
        let some : length (reading ∷ rest) ≡ length rest + 1 = omega arith in omega arith

    there : reading_at readings number ≡ Some reading
    there = ap (λ all. reading_at all number) all ∙ ap (reading_at (before ++ reading ∷ rest)) place ∙ newest_reading before reading rest

    from : 1 ≤ number
    from = omega arith

    at : (step : Step) → step_of stage log number reading ≡ step
        → StepRuns (λ now behind. LinesRun over order (stage_after stage reading) now (number + 1) rest behind) order stage log number step run
        → ((now : List Happening) → StageFits readings (stage_after stage reading) now (number + 1) → LinesRun over order (stage_after stage reading) now (number + 1) rest run
        → RunsUnder readings over other (stage_after stage reading) now (number + 1) rest run)
        → RunsUnder readings over other stage log number (reading ∷ rest) run
    at (does happenings) step runs recur =
        let under = recur (happenings ++ log) (line_fits readings stage log number reading happenings from upto there step fits) runs in
        goes_on readings over other stage log number reading rest run happenings under
        (by_step over other stage log number reading rest run (does happenings) step under.runs)
    at (stops found value) step runs recur =
        stopped_here readings over other stage log number (reading ∷ rest) run (ap (λ (r : Run). r.setting) runs) (ap (λ (r : Run). r.log) runs) fits
        (by_step over other stage log number reading rest run (stops found value) step runs)
    at (receives setting link place) step runs recur =
        delivery readings over order other run same stage log number reading rest setting link place (flies_on stage log number reading setting link place step) there fits step runs recur
