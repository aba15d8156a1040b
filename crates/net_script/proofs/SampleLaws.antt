-- The laws of the columns of a sample line.
use Rattle.std.proofs.Common.{◌≡◌, ◌≢◌, ◌⊎◌, ◌==◌, ◌+◌, ◌-◌, ◌<◌, ◌≤◌, ℕ, ℤ, zero, suc, Bool, true, false, List, [], ◌∷◌, ◌++◌, All, length, drop, get_or, refl, sym, ap, ◌∙◌, subst, arith, inl, inr}
use Rattle.std.specs.Prelude.{◌||◌}
use Rattle.std.proofs.lemmas.Bool.{cases_lt, lt-ltb}
use Rattle.std.proofs.lemmas.List.{get_or-append-add, get_or_default, length-append}
use Rattle.flight_samples.specs.Decimals.{IsIntegerFault, IsNumberText}
use Rattle.flight_samples.specs.SampleText.{IsColumnFault, IsFirstBadColumn, IsPlain, IsSampleFault, IsValueAt, columns_of, range_at}
use Rattle.flight_samples.specs.declared.decimal.NumberFault.{NumberFault}
use Rattle.flight_samples.specs.declared.read.SampleRefusal.TheVariants.{Count, Column}
use Rattle.flight_samples.proofs.DecimalLemmas.{no_integer_fault}
use Rattle.net_script.specs.Bytes.{AreClean, is_barred}
use Rattle.net_script.specs.Faults.{IsFirstWrong}
use Rattle.net_script.specs.Fields.{comma, field_at, fields_of}
use Rattle.net_script.specs.Forms.{HasForm, IsRight, a_column}
use Rattle.net_script.specs.declared.letter.Letter.TheVariants.{Sample}
use Rattle.net_script.proofs.FieldsLaws.{field-drop}

-- ---- plain bytes

true_behind : (b : Bool) → (b || true) ≡ false → ⊥
true_behind true e = cc
true_behind false e = cc

-- A byte that isn't barred is neither of these.
not_barred : (byte : ℕ) → is_barred byte ≡ false → (byte ≤ 0x7E) × (byte ≢ 34) × (byte ≢ 13)
not_barred byte clean = (low (cases_lt 0x7E byte), (λ quote. at 34 refl (subst (λ b. is_barred b ≡ false) quote clean)), (λ carriage. at 13 refl (subst (λ b. is_barred b ≡ false) carriage clean)))
  where
    at : (b : ℕ) → is_barred b ≡ true → is_barred b ≡ false → ⊥
    at b one other = cc

    low : (0x7E < byte) ⊎ (byte ≤ 0x7E) → byte ≤ 0x7E
    low (inl above) = absurd (true_behind ((byte == 34) || (byte == 13)) (rw (lt-ltb 0x7E byte above) at clean))
    low (inr under) = under

-- The bytes behind a comma of a clean line are plain.
pub plain_behind : (line field rest : List ℕ) → line ≡ field ++ comma ∷ rest → AreClean line → All (λ byte. byte ≢ 10) line → All IsPlain rest
plain_behind line field rest joined clean ends k d near =
    let place = length field + suc k in
    let inside : place < length line = omega (arith, ap length joined, length-append field (comma ∷ rest)) in
    let same : get_or line place d ≡ get_or rest k d = ap (λ bytes. get_or bytes place d) joined ∙ get_or-append-add field (comma ∷ rest) (suc k) d in
    let byte = not_barred (get_or line place 0) (clean place inside) in
    let moved : get_or line place 0 ≡ get_or rest k d = get_or_default line place 0 d inside ∙ same in
    let low : get_or rest k d ≤ 0x7E = subst (λ b. b ≤ 0x7E) moved byte.0 in
    (low, (λ e. byte.1 (moved ∙ e)), (λ e. byte.2 (moved ∙ e)), (λ e. ends place d inside (same ∙ e)))

-- What stands behind a comma is no longer than the line.
pub length-behind : (line field rest : List ℕ) → line ≡ field ++ comma ∷ rest → length rest ≤ length line
length-behind line field rest joined = omega (arith, ap length joined, length-append field (comma ∷ rest))

-- ---- columns and fields

-- The columns of a text are its fields.
pub columns-are-fields : (text : List ℕ) → columns_of text ≡ fields_of text
unfolding fields_of
columns-are-fields text = refl

-- A value at a place of the columns is what the field should have.
pub form_of_value : (fields : List (List ℕ)) (k : ℕ) (z : ℤ) → IsValueAt (drop 1 fields) k z → HasForm (a_column k) (field_at fields (suc k))
form_of_value fields k z value =
    (z, subst (IsNumberText (range_at k).low z) (field-drop fields k) value.written, value.within)

-- A column with a fault is a field that hasn't its form.
no_form : (fields : List (List ℕ)) (k : ℕ) (why : NumberFault) → IsColumnFault (drop 1 fields) k why → ¬ HasForm (a_column k) (field_at fields (suc k))
no_form fields k why fault has =
    no_integer_fault (range_at k).low (range_at k).high has.0 (field_at fields (suc k)) why has.1 has.2.0 has.2.1
    (subst (λ text. IsIntegerFault (range_at k).low (range_at k).high text why) (field-drop fields k) fault)

-- The first bad column is the first wrong field.
pub wrong_column : (fields columns : List (List ℕ)) (index : ℕ) (why : NumberFault) → length fields ≡ 27 → drop 1 fields ≡ columns
    → IsSampleFault columns (Column index why) → IsFirstWrong (IsRight Sample) fields index
wrong_column fields columns zero why count are fault = absurd (omega (arith, fault.1))
wrong_column fields columns (suc k) why count are fault =
    let back : suc k - 1 ≡ k = omega arith in
    let first : IsFirstBadColumn (drop 1 fields) k why = subst (λ p. IsFirstBadColumn (drop 1 fields) p why) back (subst (λ cs. IsFirstBadColumn cs (suc k - 1) why) (sym are) fault.2) in
    record {
      some = omega arith;
      inside = omega (arith, first.inside);
      wrong = λ has. no_form fields k why first.bad (subst (λ p. HasForm (a_column p) (field_at fields (suc k))) back has);
      before = right first;
    }
  where
    right : IsFirstBadColumn (drop 1 fields) k why → (j : ℕ) → 1 ≤ j → j < suc k → HasForm (a_column (j - 1)) (field_at fields j)
    right first zero from below = absurd (omega arith)
    right first (suc j) from below =
        let back : suc j - 1 ≡ j = omega arith in
        let read = first.before j (omega arith) in
        subst (λ p. HasForm (a_column p) (field_at fields (suc j))) (sym back) (form_of_value fields j read.0 read.1)

-- As many columns as a sample has are counted right.
pub no_count : (fields columns : List (List ℕ)) (found : ℕ) → length fields ≡ 27 → drop 1 fields ≡ columns → IsSampleFault columns (Count found) → ⊥
no_count fields columns found count are fault =
    fault.1 (fault.0 ∙ ap length (sym are) ∙ after fields count)
  where
    after : (fields : List (List ℕ)) → length fields ≡ 27 → length (drop 1 fields) ≡ 26
    after [] e = absurd (omega arith)
    after (first ∷ others) e = omega arith
