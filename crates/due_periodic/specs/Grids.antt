-- A grid of report moments as a caller sees it: where it is anchored, and how far time has come along it.
-- Which moments a grid has, and what crosses it, the contract rules say. This project's profile.
use Rattle.std.specs.Prelude.{◌≡◌, ℕ, List, [], ◌∷◌}

-- A grid: its anchor and its interval in seconds, and the last moment that it was given.
pub record GridState : Type 0 where
  pub anchor : ℕ
  pub interval : ℕ
  pub last : ℕ

-- The last of the moments given to a grid, the newest first; its anchor, where none was.
abbrev pub last_moment : ℕ → List ℕ → ℕ
last_moment anchor [] = anchor
last_moment anchor (moment ∷ earlier) = moment

-- The grid of this anchor and interval that was given these moments, the newest first.
abbrev pub grid_after : ℕ → ℕ → List ℕ → GridState
grid_after anchor interval moments =
    record { anchor = anchor; interval = interval; last = last_moment anchor moments }

-- A grid stands for the moments that it was given, the newest first.
abbrev pub StandsFor : GridState → List ℕ → Type 0
StandsFor grid moments = grid ≡ grid_after grid.anchor grid.interval moments
