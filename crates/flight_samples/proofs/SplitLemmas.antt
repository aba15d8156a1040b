-- Lemmas on a row that is seen to have the columns of a text.
use Rattle.std.proofs.Common.{◌≡◌, ◌≢◌, ◌==◌, ◌+◌, ◌<◌, ℕ, false, List, [], ◌∷◌, ◌++◌, length, take, get_or, refl, sym, ap, ◌∙◌, arith, append_assoc, append-nil}
use Rattle.std.proofs.lemmas.Bool.{ne_eqb}
use Rattle.std.proofs.lemmas.List.{same_lists, get_or_default, take_all, take_more, nil_from_length}
use Rattle.std.proofs.lemmas.List.Elements.{All-from_get_or}
use Rattle.std.proofs.lemmas.List.Splits.{slice_split_at, slice_split_none}
use Rattle.flight_samples.specs.SampleText.{HasNoComma, columns_of}

-- Bytes of which none is a comma.
pub no_comma : (field : List ℕ) → ((k : ℕ) → k < length field → get_or field k 0 ≢ 44) → HasNoComma field
no_comma field none = All-from_get_or (λ byte. (byte == 44) ≡ false) field 0 (λ k within. ne_eqb _ _ (none k within))

-- A text that begins with the field, byte by byte, is the field and what stands behind it.
pub begins : (field front behind text : List ℕ) → length front ≡ length field → text ≡ front ++ behind
    → ((k : ℕ) → k < length field → get_or field k 0 ≡ get_or front k 0) → text ≡ field ++ behind
begins field front behind text size is same =
    is ∙ ap (λ bytes. bytes ++ behind) (sym (same_lists field front (sym size) (λ k d within.
    get_or_default field k d 0 within ∙ same k within ∙ get_or_default front k 0 d (omega arith))))

-- A field with a comma behind it is one more column.
pub one_more : (fields : List (List ℕ)) (text rest more : List ℕ) (place : ℕ) → place < length fields → HasNoComma (get_or fields place [])
    → rest ≡ get_or fields place [] ++ 44 ∷ more → columns_of text ≡ take place fields ++ columns_of rest
    → columns_of text ≡ take (place + 1) fields ++ columns_of more
one_more fields text rest more place inside none is so_far =
    so_far ∙ ap (λ r. take place fields ++ columns_of r) is
    ∙ ap (λ columns. take place fields ++ columns) (slice_split_at (λ b. b == 44) (get_or fields place []) 44 more none refl)
    ∙ sym (append_assoc (take place fields) (get_or fields place [] ∷ []) (columns_of more))
    ∙ ap (λ front. front ++ columns_of more) (sym (take_more fields place [] inside))

-- The last field, with nothing behind it, is the last column.
pub last_one : (fields : List (List ℕ)) (text rest behind : List ℕ) (place : ℕ) → place + 1 ≡ length fields → HasNoComma (get_or fields place [])
    → rest ≡ get_or fields place [] ++ behind → length behind ≡ 0 → columns_of text ≡ take place fields ++ columns_of rest
    → fields ≡ columns_of text
last_one fields text rest behind place last none is empty so_far =
    let whole : rest ≡ get_or fields place [] = is ∙ ap (λ b. get_or fields place [] ++ b) (nil_from_length behind empty) ∙ append-nil (get_or fields place []) in
    sym (so_far ∙ ap (λ r. take place fields ++ columns_of r) whole
    ∙ ap (λ columns. take place fields ++ columns) (slice_split_none (λ b. b == 44) (get_or fields place []) none)
    ∙ sym (take_more fields place [] (omega arith)) ∙ take_all (place + 1) fields (omega arith))

-- An empty text is its one column.
pub one_column : (text : List ℕ) → text ≡ [] → text ∷ [] ≡ columns_of text
one_column [] empty = refl
one_column (byte ∷ text) empty = absurd cc
