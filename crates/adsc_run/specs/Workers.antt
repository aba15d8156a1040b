-- The workers of a burst, and what they leave (this project's profile).
use Rattle.std.specs.Prelude.{◌≡◌, ℕ, List, ◌++◌, map, All, OnOk}
use Rattle.aircraft_core.specs.Aircraft.{Aircraft}
use Rattle.aircraft_core.specs.Entries.{IsTakenBy}
use Rattle.aircraft_core.specs.declared.entry.Entry.{Entry}
use Rattle.link_threads.specs.Passes.{IsPassOf, PassState, SharedState}
use Rattle.run_rules.specs.EarlierLines.{AreTaken}
use Rattle.adsc_run.specs.declared.workers.Worker.{Worker}

-- The entries that a worker takes, and the passes of workers.
abbrev pub entries_of : Worker → List Entry
entries_of worker = worker.entries.items

abbrev pub passes_in : List Worker → List PassState
passes_in crew = map (λ worker. worker.pass) crew

-- The worker has a pass of this shared aircraft, which takes each of the worker's entries.
abbrev pub IsReady : SharedState → Worker → Type 0
IsReady shared worker = IsPassOf shared worker.pass × All (IsTakenBy shared.setting) (entries_of worker)

-- The worker has taken its entries, in their order, unless there was no memory.
pub record HasWorked (shared : SharedState) (before after : Worker) : Type 0 where
  pub own : IsPassOf shared after.pass
  pub mine : OnOk after.taken (after.pass.mine ≡ before.pass.mine ++ entries_of before)

-- The workers entered the waiting entries into the aircraft's journal: each took its own, in the order of their lines.
pub record HaveEntered (workers : ℕ) (waiting : List Entry) (before after : Aircraft) : Type 0 where
  pub woven : List Entry
  pub taken : AreTaken workers waiting woven
  pub journal : after.journal ≡ before.journal ++ woven
  pub setting : after.setting ≡ before.setting
