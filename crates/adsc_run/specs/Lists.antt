-- What each worker takes of a burst (this project's profile).
use Rattle.std.specs.Prelude.{◌≡◌, ◌%◌, ℕ, Bool, true, false, All, List, [], ◌∷◌, map, filter}
use Rattle.std.specs.declared.vec.Vec.{Vec}
use Rattle.aircraft_core.specs.declared.entry.Entry.{Entry}
use Rattle.run_rules.specs.EarlierLines.{AreWorkersLists, text_link}

-- The lists in these vectors.
abbrev pub lists_in : {E A : Type 0} → List (Vec E A) → List (List E)
lists_in vectors = map (λ vector. vector.items) vectors

-- Whether the list has an entry.
abbrev pub is_filled : List Entry → Bool
is_filled [] = false
is_filled (entry ∷ list) = true

-- One of so many workers takes all of these entries.
abbrev pub AreOfOneWorker : ℕ → List Entry → Type 0
AreOfOneWorker workers waiting = (worker : ℕ) × All (λ entry. text_link entry % workers ≡ worker) waiting

-- These are the lists of what each of so many workers takes of the waiting entries, without those of workers that take none.
pub record AreBusyLists (workers : ℕ) (waiting : List Entry) (busy : List (List Entry)) : Type 0 where
  pub lists : List (List Entry)
  pub each : AreWorkersLists workers waiting lists
  pub filled : busy ≡ filter is_filled lists
