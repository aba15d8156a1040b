-- A text that grows into room that was taken before (this project's profile).
use Rattle.std.specs.Prelude.{ℕ, List}

-- Its bytes, and how many can still be appended.
pub record TextWithRoom : Type 0 where
  pub bytes : List ℕ
  pub spare : ℕ
