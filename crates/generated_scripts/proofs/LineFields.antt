-- The fields of the lines that are made, and that they stand where they may.
use Rattle.std.proofs.Common.{◌≡◌, ◌≢◌, ℕ, ◌==◌, ◌≤◌, ℤ, false, List, [], ◌∷◌, ◌++◌, All, flat_map, map, None, inl, inr, refl, ap, subst, arith, append-nil}
use Rattle.std.specs.Fmt.{signed_decimal}
use Rattle.std.specs.List.{join_with_byte}
use Rattle.std.proofs.lemmas.Bool.{ne_eqb}
use Rattle.std.proofs.lemmas.List.Splits.{slice_split_at, slice_split_none}
use Rattle.net_script.specs.Fields.{comma, fields_of}
use Rattle.net_script.specs.Letters.{HasLetter}
use Rattle.net_script.specs.declared.letter.Letter.{Letter}
use Rattle.net_script.specs.declared.letter.Letter.TheVariants.{Aircraft, Ground}
use Rattle.net_script.specs.declared.refusal.Code.{Code}
use Rattle.net_script.specs.declared.refusal.Code.TheVariants as code
use Rattle.net_script.proofs.LineLaws.{letter_same}
use Rattle.run_rules.specs.Places.{IsInPlace, IsMisplacedBy, head_letter}
use Rattle.generated_scripts.specs.Texts.{column_field}

-- ---- fields

-- A byte that is no comma.
abbrev pub NoComma : ℕ → Type 0
NoComma byte = (byte == comma) ≡ false

-- A comma behind a field without commas cuts it off.
pub cut : (first rest : List ℕ) → All NoComma first → fields_of (first ++ comma ∷ rest) ≡ first ∷ fields_of rest
unfolding fields_of
cut first rest none = slice_split_at (λ byte. byte == comma) first comma rest none refl

-- A text without commas is one field.
pub whole : (text : List ℕ) → All NoComma text → fields_of text ≡ text ∷ []
unfolding fields_of
whole text none = slice_split_none (λ byte. byte == comma) text none

-- Columns with a comma before each are a comma, and the columns with commas between them.
pub columns_joined : (z : ℤ) (zs : List ℤ) → flat_map column_field (z ∷ zs) ≡ comma ∷ join_with_byte comma (map signed_decimal (z ∷ zs))
columns_joined z [] = append-nil (column_field z)
columns_joined z (y ∷ ys) = ap (λ rest. column_field z ++ rest) (columns_joined y ys)

-- ---- places

behind_head : (number : ℕ) → 4 ≤ number → head_letter number ≡ None
behind_head number behind = rw (ne_eqb number 1 (omega (arith, behind)), ne_eqb number 2 (omega (arith, behind)), ne_eqb number 3 (omega (arith, behind))) refl

placed_by : (bytes : List ℕ) (letter : Letter) → HasLetter bytes letter → letter ≢ Aircraft → letter ≢ Ground → (found : Code)
    → IsMisplacedBy None bytes found → ⊥
placed_by bytes letter has one other code.Kind (inl is) = one (letter_same bytes letter Aircraft has is)
placed_by bytes letter has one other code.Kind (inr is) = other (letter_same bytes letter Ground has is)
placed_by bytes letter has one other found misplaced = misplaced

-- Behind the head each line may stand that has another letter than the first two.
pub in_place : (number : ℕ) (bytes : List ℕ) (letter : Letter) → 4 ≤ number → HasLetter bytes letter → letter ≢ Aircraft → letter ≢ Ground
    → IsInPlace number bytes
in_place number bytes letter behind has one other found misplaced =
    placed_by bytes letter has one other found (subst (λ due. IsMisplacedBy due bytes found) (behind_head number behind) misplaced)
