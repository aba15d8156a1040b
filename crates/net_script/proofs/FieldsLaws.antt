-- The laws of the fields of a line.
use Rattle.std.proofs.Common.{◌≡◌, ◌≢◌, ◌==◌, ℕ, ◌+◌, ◌-◌, ◌<◌, ◌≤◌, zero, suc, List, [], ◌∷◌, ◌++◌, false, count_by, length, take, drop, get_or, sym, ◌∙◌, ap, refl, arith, All, inl, inr}
use Rattle.std.proofs.lemmas.Bool.{ne_eqb, cases_lt}
use Rattle.std.proofs.lemmas.List.{take-append-drop, drop_more, get_or-take, length-take-le, get_or_past, take_all}
use Rattle.std.proofs.lemmas.List.Elements.{All-from_get_or}
use Rattle.std.proofs.lemmas.List.Splits.{slice_split_at, slice_split_none, length-slice_split}
use Rattle.net_script.specs.Fields.{comma, field_at, fields_of}

-- No byte before the place is a comma.
abbrev pub NoneBefore : List ℕ → ℕ → Type 0
NoneBefore text end = (k : ℕ) → k < end → get_or text k 0 ≢ comma

-- No comma stands before the end of the field.
unbroken_front : (text : List ℕ) (end : ℕ) → end ≤ length text → NoneBefore text end → All (λ byte. (byte == comma) ≡ false) (take end text)
unbroken_front text end within before =
    All-from_get_or (λ byte. (byte == comma) ≡ false) (take end text) 0 (λ k lt.
    let low : k < end = omega (arith, length-take-le end text within) in
    rw (get_or-take end text k 0 low) (ne_eqb _ _ (before k low)))

-- A comma cuts the line.
cut-joined : (text : List ℕ) (end : ℕ) → end < length text → get_or text end 0 ≡ comma → text ≡ take end text ++ comma ∷ drop (end + 1) text
cut-joined text end inside here =
    sym (take-append-drop end text) ∙ ap (λ behind. take end text ++ behind) (drop_more text end 0 inside ∙ ap (λ b. b ∷ drop (end + 1) text) here)

-- The bytes up to the first comma are the first field, and the other fields are those of the bytes behind it.
pub fields-cut : (text : List ℕ) (end : ℕ) → end < length text → NoneBefore text end → get_or text end 0 ≡ comma
    → fields_of text ≡ take end text ∷ fields_of (drop (end + 1) text)
unfolding fields_of
fields-cut text end inside before here =
    ap fields_of (cut-joined text end inside here) ∙ slice_split_at (λ byte. byte == comma) (take end text) comma (drop (end + 1) text) (unbroken_front text end (omega arith) before) refl

-- Where no byte is a comma the line is its one field.
pub fields-whole : (text : List ℕ) → NoneBefore text (length text) → fields_of text ≡ text ∷ []
unfolding fields_of
fields-whole text before =
    slice_split_none (λ byte. byte == comma) text (All-from_get_or (λ byte. (byte == comma) ≡ false) text 0 (λ k lt. ne_eqb _ _ (before k lt)))

-- A line has one field more than commas.
pub length-fields : (line : List ℕ) → length (fields_of line) ≡ count_by (λ byte. byte == comma) line + 1
unfolding fields_of
length-fields line = length-slice_split (λ byte. byte == comma) line

-- The first field and the others.
pub field-first : (line first : List ℕ) (others : List (List ℕ)) → fields_of line ≡ first ∷ others → field_at (fields_of line) 0 ≡ first
field-first line first others cut = ap (λ fields. field_at fields 0) cut

-- The field at a place is the one before it of what stands behind the first comma.
pub field-behind : (text rest : List ℕ) (place : ℕ) → fields_of text ≡ field_at (fields_of text) 0 ∷ fields_of rest → 1 ≤ place
    → field_at (fields_of rest) (place - 1) ≡ field_at (fields_of text) place
field-behind text rest zero cut some = absurd (omega arith)
field-behind text rest (suc place) cut some = let back : suc place - 1 ≡ place = omega arith in
    ap (field_at (fields_of rest)) back ∙ sym (ap (λ fields. field_at fields (suc place)) cut)

-- A line of one field has no field at other places.
pub no-field : (text : List ℕ) (place : ℕ) → length (fields_of text) ≡ 1 → 1 ≤ place → field_at (fields_of text) place ≡ []
no-field text place one some = get_or_past (fields_of text) place [] (omega arith)

-- The fields of what stands behind the first comma, and the field before it, as the code takes them.
pub fields-behind : (text : List ℕ) (end : ℕ) → end < length text → NoneBefore text end → get_or text end 0 ≡ comma
    → fields_of text ≡ field_at (fields_of text) 0 ∷ fields_of (drop (end + 1) text)
fields-behind text end inside before here =
    let cut = fields-cut text end inside before here in
    cut ∙ ap (λ first. first ∷ fields_of (drop (end + 1) text)) (sym (field-first text (take end text) (fields_of (drop (end + 1) text)) cut))

-- The bytes up to the first comma or the end are the first field.
pub first-field : (text : List ℕ) (end : ℕ) → end ≤ length text → NoneBefore text end → (end < length text → get_or text end 0 ≡ comma)
    → take end text ≡ field_at (fields_of text) 0
first-field text end within before here = elim (cases_lt end (length text)) [
  | inl inside ↦ sym (field-first text (take end text) (fields_of (drop (end + 1) text)) (fields-cut text end inside before (here inside)))
  | inr past ↦
      let all : take end text ≡ text = take_all end text past in
      all ∙ sym (field-first text text [] (fields-whole text (λ k lt. before k (omega arith))))
]

-- The line is its first field, a comma, and what stands behind it.
pub first-joined : (text : List ℕ) (end : ℕ) → end < length text → NoneBefore text end → get_or text end 0 ≡ comma
    → text ≡ field_at (fields_of text) 0 ++ comma ∷ drop (end + 1) text
first-joined text end inside before here =
    let first = field-first text (take end text) (fields_of (drop (end + 1) text)) (fields-cut text end inside before here) in
    cut-joined text end inside here ∙ ap (λ field. field ++ comma ∷ drop (end + 1) text) (sym first)

-- A field behind the first one.
pub field-drop : (fields : List (List ℕ)) (k : ℕ) → field_at (drop 1 fields) k ≡ field_at fields (suc k)
field-drop [] k = refl
field-drop (first ∷ others) k = refl
