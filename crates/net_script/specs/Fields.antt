-- The fields of a script line: the pieces between its commas, counted from 0. This project's profile.
use Rattle.std.specs.Prelude.{ℕ, List, [], ◌==◌, slice_index_or}
use Rattle.std.specs.List.{slice_split}

-- The byte between two fields.
abbrev pub comma : ℕ
comma = 44

-- The fields of a line; an empty line has one field, which is empty.
unfoldable pub fields_of : List ℕ → List (List ℕ)
fields_of line = slice_split (λ byte. byte == comma) line

-- The field at the place, empty where there is none.
abbrev pub field_at : List (List ℕ) → ℕ → List ℕ
field_at fields place = slice_index_or fields place []
