-- Each script has a run under an order that rises, and that order is allowed for every number of workers.
use Rattle.std.proofs.Common.{◌≡◌, ◌⊎◌, ◌<◌, ◌≤◌, ◌+◌, ℕ, zero, suc, inl, inr, List, [], ◌∷◌, ◌++◌, length, refl, sym, ◌∙◌, subst, arith}
use Rattle.std.proofs.lemmas.Bool.{cases_lt}
use Rattle.aircraft_core.specs.Downlinks.{AreDownlinks}
use Rattle.aircraft_core.specs.Entries.{line_of}
use Rattle.aircraft_core.specs.Setting.{Setting}
use Rattle.aircraft_core.specs.declared.entry.Entry.{Entry}
use Rattle.run_rules.specs.Among.{IsAmong}
use Rattle.run_rules.specs.Happenings.{Happening, entries}
use Rattle.run_rules.specs.Orders.{IsOrderOf, IsOrdered, IsRising, line_order}
use Rattle.run_rules.specs.Runs.{IsAllowedOrder, IsScript, Run, Script, ScriptRun, addresses_in, journal_at}
use Rattle.run_rules.specs.Stages.{begun}
use Rattle.run_rules.specs.declared.reading.Reading.{Reading}
use Rattle.run_rules.proofs.EachRun.{each_run}
use Rattle.run_rules.proofs.LogEntries.{LogFits}
use Rattle.run_rules.proofs.Journals.{entries-append}
use Rattle.run_rules.proofs.Members.{among_front, among_map, among_mapped}
use Rattle.run_rules.proofs.OtherOrders.{FindsSame, RunsUnder, end_rises, runs_under}
use Rattle.run_rules.proofs.Projection.{arranged, rising_stands}

-- ---- the order of the lines

-- An entry so far is one at the end.
pub entry_at_end : (run : Run) (later log : List Happening) → run.log ≡ later ++ log → (entry : Entry) → IsAmong entry (entries log) → IsAmong entry (entries run.log)
entry_at_end run later log joined entry among =
    subst (λ l. IsAmong entry (entries l)) (sym joined)
    (subst (IsAmong entry) (sym (entries-append later log)) (among_front entry (entries log) (entries later) among))

-- In an order that rises and names the entries' lines they are taken in the order of their lines.
pub rising_journal : {setting : Setting} {readings : List Reading} {number : ℕ} → (order : List ℕ) (log : List Happening) → LogFits setting readings log number → IsRising order
    → ((entry : Entry) → IsAmong entry (entries log) → IsAmong (line_of entry) order) → journal_at order log ≡ entries log
rising_journal order log fits rises listed = arranged order (entries log) fits.rising listed (rising_stands order (entries log) rises)

-- So they are in the order of all lines of the run.
pub line_journal : {setting : Setting} {readings : List Reading} {number : ℕ} → (run : Run) (later log : List Happening) → run.log ≡ later ++ log
    → LogFits setting readings log number → IsRising (line_order (entries run.log)) → journal_at (line_order (entries run.log)) log ≡ entries log
line_journal run later log joined fits rises =
    rising_journal (line_order (entries run.log)) log fits rises
    (λ entry among. among_map line_of entry (entries run.log) (entry_at_end run later log joined entry among))

-- ---- all lines of a script, in their order

-- So many numbers, the first of which is this one.
numbers_from : ℕ → ℕ → List ℕ
numbers_from first zero = []
numbers_from first (suc count) = first ∷ numbers_from (first + 1) count

numbers_above : (first count number : ℕ) → IsAmong number (numbers_from first count) → first ≤ number
unfolding numbers_from
numbers_above first zero number among = absurd among
numbers_above first (suc count) number (inl e) = omega arith
numbers_above first (suc count) number (inr among) = let above : first + 1 ≤ number = numbers_above (first + 1) count number among in omega arith

numbers_rise : (first count : ℕ) → IsRising (numbers_from first count)
unfolding numbers_from
numbers_rise first zero = tt
numbers_rise first (suc count) =
    ((λ number among. let above : first + 1 ≤ number = numbers_above (first + 1) count number among in omega arith), numbers_rise (first + 1) count)

numbers_hold : (first count number : ℕ) → first ≤ number → number < first + count → IsAmong number (numbers_from first count)
unfolding numbers_from
numbers_hold first zero number from below = absurd (omega arith)
numbers_hold first (suc count) number from below =
    at (cases_lt first number) (λ later. numbers_hold (first + 1) count number later (omega arith))
  where
    at : (first < number) ⊎ (number ≤ first) → (first + 1 ≤ number → IsAmong number (numbers_from (first + 1) count))
        → (first ≡ number) ⊎ IsAmong number (numbers_from (first + 1) count)
    at (inl above) later = inr (later (let next : first + 1 ≤ number = omega arith in next))
    at (inr upto) later = inl (let same : first ≡ number = omega arith in same)

-- All lines of a script, in their order.
pub all_lines : Script → List ℕ
all_lines script = numbers_from 1 (length script.readings)

-- In this order the entries are taken in the order of their lines.
pub all_lines_journal : {setting : Setting} {number : ℕ} → (script : Script) (log : List Happening) → LogFits setting script.readings log number
    → journal_at (all_lines script) log ≡ entries log
unfolding all_lines
all_lines_journal script log fits = rising_journal (numbers_from 1 (length script.readings)) log fits (numbers_rise 1 (length script.readings)) listed
  where
    listed : (entry : Entry) → IsAmong entry (entries log) → IsAmong (line_of entry) (numbers_from 1 (length script.readings))
    listed entry among =
        let from : 1 ≤ line_of entry = (fits.each entry among).from in
        let upto : line_of entry ≤ length script.readings = (fits.each entry among).upto in
        numbers_hold 1 (length script.readings) (line_of entry) from (omega arith)

-- ---- rising orders are allowed

rising_ordered : (addresses : List (List ℕ)) (readings : List Reading) (workers : ℕ) (order : List ℕ) → IsRising order → IsOrdered addresses readings workers order
rising_ordered addresses readings workers [] rises = tt
rising_ordered addresses readings workers (first ∷ order) rises =
    ((λ number among. inl (rises.0 number among)), rising_ordered addresses readings workers order rises.1)

-- The lines of entries hold them and no others.
lines_of_entries : (made : List Entry) → IsOrderOf made (line_order made)
lines_of_entries made =
    record {
      whole = λ entry among. among_map line_of entry made among;
      only = λ number among. among_mapped line_of number made among;
    }

pub line_order_is_allowed : (script : Script) (run : Run) (workers : ℕ) → IsRising (line_order (entries run.log))
    → IsAllowedOrder script run workers (line_order (entries run.log))
line_order_is_allowed script run workers rises =
    record {
      ordered = rising_ordered (addresses_in run.setting) script.readings workers (line_order (entries run.log)) rises;
      lines = lines_of_entries (entries run.log);
    }

-- A run under the order of all lines is one under the order of the entries' lines.
has_rising_order : (script : Script) → ((order : List ℕ) → (run : Run) × ScriptRun script order run)
    → (order : List ℕ) × (run : Run) × ScriptRun script order run × IsRising order × ((workers : ℕ) → IsAllowedOrder script run workers order)
has_rising_order script each =
    (line_order (entries run.log), run, under.runs, end_rises under, λ workers. line_order_is_allowed script run workers (end_rises under))
  where
    run : Run
    run = (each (all_lines script)).0

    finds : FindsSame script.readings (all_lines script) (line_order (entries run.log)) run
    finds = record {
      finds = λ setting log number later its joined fits rises link texts are.
          subst (λ journal. AreDownlinks setting journal link texts)
          (all_lines_journal script log fits ∙ sym (line_journal run later log joined fits rises)) are;
    }

    under : RunsUnder script.readings script.over (line_order (entries run.log)) begun [] 1 script.readings run
    under = runs_under script.readings script.over (all_lines script) (line_order (entries run.log)) run finds
        [] script.readings refl begun [] 1 refl refl (each (all_lines script)).1

pub rising_is_allowed : (bytes : List ℕ) (script : Script) → IsScript bytes script
    → (order : List ℕ) × (run : Run) × ScriptRun script order run × IsRising order × ((workers : ℕ) → IsAllowedOrder script run workers order)
rising_is_allowed bytes script is_script = has_rising_order script (λ order. each_run bytes script order is_script)
