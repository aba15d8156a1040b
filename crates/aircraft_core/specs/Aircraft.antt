-- What contracts see of an aircraft.
use Rattle.std.specs.Prelude.{ℕ, List}
use Rattle.aircraft_core.specs.declared.entry.Entry.{Entry}
use Rattle.aircraft_core.specs.Setting.{Setting}

-- what it was made with, its journal, and for how many further entries room is kept
pub record Aircraft : Type 0 where
  pub setting : Setting
  pub journal : List Entry
  pub spare : ℕ
