-- How far a script was judged: what stands so far of its order, its entries and its log, while the lines are read one by one. Entries
-- of a burst may wait, until its workers enter them. It serves the program's loop and its proof.
use Rattle.std.specs.Prelude.{◌≡◌, ◌≤◌, ◌<◌, ◌+◌, ◌%◌, ◌==◌, ℕ, Bool, true, List, [], ◌++◌, filter, length, Some, slice_get}
use Rattle.aircraft_core.specs.Entries.{line_of}
use Rattle.aircraft_core.specs.Setting.{Setting}
use Rattle.aircraft_core.specs.declared.entry.Entry.{Entry}
use Rattle.aircraft_core.specs.declared.entry.Entry.TheVariants.{Uplink, Answer}
use Rattle.run_rules.specs.Among.{IsAmong}
use Rattle.run_rules.specs.Happenings.{Happening, entries}
use Rattle.run_rules.specs.Orders.{IsOrderOf, IsOrdered, IsRising, is_burst_line, journal_of, line_order, place_on, reading_at}
use Rattle.run_rules.specs.Runs.{LinesRun, Run, ScriptRun}
use Rattle.run_rules.specs.Stages.{Stage, flying}
use Rattle.run_rules.specs.declared.reading.Reading.{Reading}

-- ---- workers

-- The link on which a text came that made this entry; no text makes any other entry, and this gives 0 for it.
abbrev pub text_link : Entry → ℕ
text_link (Uplink line link bytes) = link
text_link (Answer line link code) = link
text_link made = 0

-- Those of the waiting entries that this one of so many workers takes, in order: the texts of its links.
abbrev pub taken_by : ℕ → ℕ → List Entry → List Entry
taken_by workers worker waiting = filter (λ entry. text_link entry % workers == worker) waiting

-- The list of each worker, of which the first has number 0, holds what it takes of the waiting entries.
pub record AreWorkersLists (workers : ℕ) (waiting : List Entry) (lists : List (List Entry)) : Type 0 where
  pub some : 1 ≤ workers
  pub count : length lists ≡ workers
  pub each : (worker : ℕ) (list : List Entry) → slice_get lists worker ≡ Some list → list ≡ taken_by workers worker waiting

-- Workers took the waiting entries in this order: each took what it takes of them, in their order.
abbrev pub AreTaken : ℕ → List Entry → List Entry → Type 0
AreTaken workers waiting woven = (worker : ℕ) → taken_by workers worker woven ≡ taken_by workers worker waiting

-- ---- how far a script was judged

-- No line of these is before this one.
abbrev pub AreFrom : ℕ → List ℕ → Type 0
AreFrom start lines = (number : ℕ) → IsAmong number lines → start ≤ number

-- Whatever readings follow, and whatever lines from this one on follow in the order: where they lead from this log on, the script leads.
abbrev pub LeadsOn : Setting → List Reading → List ℕ → ℕ → List Happening → Type 0
LeadsOn setting readings order start log =
    (late : List ℕ) → AreFrom start late → (over : Bool) (rest : List Reading) (run : Run)
    → LinesRun over (order ++ late) (flying setting) log (length readings + 1) rest run
    → ScriptRun (record { readings = readings ++ rest; over = over }) (order ++ late) run

-- The script was judged up to these readings, the head with them, under an order so far. A burst may be waiting: entries of its lines
-- that are not yet in the order.
pub record HasGone (workers : ℕ) (setting : Setting) (readings : List Reading) (order : List ℕ) (entered waiting : List Entry)
    (log : List Happening) : Type 0 where
  pub made : entries log ≡ entered ++ waiting
  -- the first line of the burst, or the next line
  pub start : ℕ
  pub inside : start ≤ length readings + 1
  pub burst : (number : ℕ) → start ≤ number → number ≤ length readings → is_burst_line (reading_at readings number) ≡ true
  pub below : (number : ℕ) → IsAmong number order → number < start
  pub behind : (entry : Entry) → IsAmong entry waiting → (start ≤ line_of entry) × (line_of entry ≤ length readings)
  pub places : (entry : Entry) → IsAmong entry waiting → place_on setting.addresses (reading_at readings (line_of entry)) ≡ Some (text_link entry)
  pub rising : IsRising (line_order waiting)
  pub ordered : IsOrdered setting.addresses readings workers order
  pub lines : IsOrderOf entered order
  pub journal : line_order (journal_of order entered) ≡ order
  pub runs : LeadsOn setting readings order start log

-- The script was judged up to these readings, all of its head: nothing happened yet.
pub record HasHead (readings : List Reading) (stage : Stage) : Type 0 where
  pub runs : (order : List ℕ) (over : Bool) (rest : List Reading) (run : Run)
      → LinesRun over order stage [] (length readings + 1) rest run
      → ScriptRun (record { readings = readings ++ rest; over = over }) order run
