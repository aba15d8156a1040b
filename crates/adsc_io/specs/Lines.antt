-- The lines of an input, which are this project's profile: the bytes, cut at newlines. A last line without a newline is
-- a line, a newline at the very end begins none, and an empty input has no line.
use Rattle.std.specs.Prelude.{◌≡◌, ◌≢◌, ℕ, List, [], ◌∷◌, ◌++◌, ◌==◌, if◌then◌else◌, ◌⊎◌, All}
use Rattle.std.specs.List.{onto_first}

-- the byte that ends a line
abbrev pub newline : ℕ
newline = 10

-- the lines of these bytes, in order, each without its newline
abbrev pub script_lines : List ℕ → List (List ℕ)
script_lines [] = []
script_lines (byte ∷ bytes) =
    if byte == newline then [] ∷ script_lines bytes else onto_first byte (script_lines bytes)

-- a text and the newline that ends it
abbrev pub ended : List ℕ → List ℕ
ended text = text ++ newline ∷ []

-- these lines as bytes, each ended by a newline
abbrev pub ended_lines : List (List ℕ) → List ℕ
ended_lines [] = []
ended_lines (line ∷ lines) = line ++ newline ∷ ended_lines lines

-- no newline is in this line
abbrev pub IsUnbroken : List ℕ → Type 0
IsUnbroken line = All (λ byte. byte ≢ newline) line

-- The bytes are this line and then the rest: the line has no newline in it, and either a newline stands between the two,
-- or the line ends with the input and isn't empty.
pub record BeginsWithLine (bytes line rest : List ℕ) : Type 0 where
  pub unbroken : IsUnbroken line
  pub cut : (bytes ≡ line ++ newline ∷ rest) ⊎ ((bytes ≡ line) × (rest ≡ []) × (line ≢ []))
