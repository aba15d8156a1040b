-- The first mismatch of a text that isn't of a form: how far the text goes along with some text of the form (this project's
-- profile).
use Rattle.std.specs.Prelude.{ℕ, ◌≤◌, List, ◌++◌, length, take}

-- Some text of the form begins with these characters.
abbrev pub BeginsSome : (List ℕ → Type 0) → List ℕ → Type 0
BeginsSome Form front = (rest : List ℕ) × Form (front ++ rest)

-- The text isn't of the form, and the place, counted from 0, is the length of its longest beginning with which some text of the
-- form begins.
pub record IsFirstMismatch (Form : List ℕ → Type 0) (text : List ℕ) (place : ℕ) : Type 0 where
  pub none : Form text → ⊥
  pub within : place ≤ length text
  pub shared : BeginsSome Form (take place text)
  pub longest : (longer : ℕ) → longer ≤ length text → BeginsSome Form (take longer text) → longer ≤ place
