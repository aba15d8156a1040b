-- The signed fields of a line of text (this project's profile): a comma stands before each, and numbers are decimal.
use Rattle.std.specs.Prelude.{ℕ, ℤ, List, ◌∷◌, flat_map}
use Rattle.std.specs.Fmt.{signed_decimal}
use Rattle.output_fields.specs.Fields.{comma}

-- A comma and a signed number.
abbrev pub signed_field : ℤ → List ℕ
signed_field z = comma ∷ signed_decimal z

-- A comma and a number, for each of these.
abbrev pub value_fields : List ℤ → List ℕ
value_fields values = flat_map signed_field values
