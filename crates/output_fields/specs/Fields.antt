-- The fields of an output line (this project's profile): a comma stands before each, and numbers are decimal.
use Rattle.std.specs.Prelude.{ℕ, List, ◌∷◌, decimal}

-- The byte between two fields.
abbrev pub comma : ℕ
comma = 44

-- A comma and a number.
abbrev pub number_field : ℕ → List ℕ
number_field n = comma ∷ decimal n
