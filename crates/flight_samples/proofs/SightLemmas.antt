-- Lemmas on columns that are read while their text is.
use Rattle.std.proofs.Common.{◌≡◌, ◌≢◌, ◌+◌, ◌-◌, ◌*◌, ◌^◌, ◌<◌, ◌≤◌, ℕ, zero, suc, ℤ, pos, negsuc, neg_ℤ, List, [], ◌∷◌, ◌++◌, length, take, get_or, set, w32, to_z, of_z, inl, inr, refl, sym, ap, ◌∙◌, subst, arith, add-one}
use Rattle.std.specs.Int.{IsInRange}
use Rattle.std.specs.Str.Parse.{AllDigits, digits_value}
use Rattle.std.proofs.lemmas.Bool.{cases_order}
use Rattle.std.proofs.lemmas.Int.Digits.{digits_value_more}
use Rattle.std.proofs.lemmas.List.{length-append, length-take, length-take-le, length-set, get_or-set_same, get_or-set_other, get_or-append_right}
use Rattle.std.proofs.lemmas.Str.Parse.{IsNumeralModel, digit_at, digits_value_short, numerals_by_value, tells_digits}
use Rattle.flight_samples.specs.Columns.{IsIn}
use Rattle.flight_samples.specs.Decimals.{IsIntegerText, IsNaturalText, IsNumberText}
use Rattle.flight_samples.specs.SampleText.{AreSampleValues, HasNoComma, IsValueAt, column_count, range_at}
use Rattle.flight_samples.proofs.ColumnLemmas.{kept_value}
use Rattle.flight_samples.proofs.DecimalLemmas.{digit_value_is}
use Rattle.flight_samples.proofs.SplitLemmas.{no_comma}

own : IsNumeralModel (AllDigits 10) (digits_value 10)
own = numerals_by_value (AllDigits 10) tells_digits

-- At most eight digits write a number of eight digits.
pub small_value : (ds : List ℕ) → AllDigits 10 ds → length ds ≤ 8 → digits_value 10 ds < 10 ^ 8
small_value ds digits few = digits_value_short own ds 8 digits few

-- Before the last of them there is room for one more digit.
pub room_for_digit : (ds : List ℕ) (i v : ℕ) → i < length ds → length ds ≤ 8 → AllDigits 10 (take i ds) → v ≡ digits_value 10 (take i ds) → v < 10 ^ 7
room_for_digit ds i v within few digits is =
    subst (λ n. n < 10 ^ 7) (sym is) (digits_value_short own (take i ds) 7 digits (omega (arith, length-take-le i ds (omega arith))))

-- One more digit.
pub value_more : (ds : List ℕ) (i v : ℕ) → IsInRange 48 57 (get_or ds i 0) → i < length ds → v ≡ digits_value 10 (take i ds)
    → v * 10 + (get_or ds i 0 - 48) ≡ digits_value 10 (take (i + 1) ds)
value_more ds i v digit within is =
    let at = digit_value_is (get_or ds i 0) digit in
    omega (arith, digits_value_more 10 ds i within, at, is)

-- The number below 0 whose text is these digits after a `-`.
pub negative_is : (v : ℕ) (w : ℤ) (digits : List ℕ) → IsNaturalText v digits → v ≢ 0 → w ≡ neg_ℤ (pos v)
    → (m : ℕ) × (w ≡ negsuc m) × IsNaturalText (m + 1) digits
negative_is zero w digits text some is = absurd (some refl)
negative_is (suc m) w digits text some is = (m, is, rw add-one text)

-- Where the columns are so many of them, this one, and those behind it, this one stands at that place.
pub column_here : (columns behind : List (List ℕ)) (column : List ℕ) (place : ℕ) → columns ≡ take place columns ++ column ∷ behind
    → (place < length columns) × (get_or columns place [] ≡ column)
column_here columns behind column place are =
    let size = ap length are ∙ length-append (take place columns) (column ∷ behind) in
    let front = length-take place columns in
    let before : length (take place columns) ≡ place = omega (arith, size, front) in
    let first : place - place ≡ 0 = omega arith in (
      omega (arith, size, before),
      ap (λ all. get_or all place []) are
          ∙ get_or-append_right (take place columns) (column ∷ behind) place place [] before (omega arith) ∙ ap (λ k. get_or (column ∷ behind) k []) first,
    )

-- What is read of that column is read at its place.
pub column_read : (columns : List (List ℕ)) (column : List ℕ) (place : ℕ) (z : ℤ) → get_or columns place [] ≡ column
    → IsNumberText (range_at place).low z column → IsIn (range_at place) z → IsValueAt columns place z
column_read columns column place z here number within =
    record { written = subst (IsNumberText (range_at place).low z) (sym here) number; within = within }

-- The text of a number has no comma.
natural_has_no_comma : (n : ℕ) (text : List ℕ) → IsNaturalText n text → HasNoComma text
natural_has_no_comma n text written = no_comma text (λ k within.
    let digit = digit_at text k written.form.numeral.1 within in λ e. absurd (omega (arith, digit.0, e)))

signed_has_no_comma : (z : ℤ) (text : List ℕ) → IsIntegerText z text → HasNoComma text
signed_has_no_comma (pos n) text written = natural_has_no_comma n text written
signed_has_no_comma (negsuc n) text (digits, is, written) =
    no_comma text (subst (λ t. (k : ℕ) → k < length t → get_or t k 0 ≢ 44) (sym is) (behind digits written.form.numeral.1))
  where
    behind : (ds : List ℕ) → AllDigits 10 ds → (k : ℕ) → k < length (45 ∷ ds) → get_or (45 ∷ ds) k 0 ≢ 44
    behind ds all zero within = λ e. absurd (omega (arith, e))
    behind ds all (suc k) within = λ e. let digit = digit_at ds k all (omega arith) in absurd (omega (arith, digit.0, e))

pub number_has_no_comma : (low z : ℤ) (text : List ℕ) → IsNumberText low z text → HasNoComma text
number_has_no_comma low z text number = signed_has_no_comma z text number.written

-- One more value, which a word of 32 bits keeps as it is.
pub read_more : (fields : List (List ℕ)) (values : List ℤ) (place : ℕ) (z : ℤ) → length values ≡ column_count → place < column_count
    → IsValueAt fields place z
    → ((earlier : ℕ) → earlier < place → IsValueAt fields earlier (get_or values earlier (pos 0)))
    → (earlier : ℕ) → earlier < place + 1 → IsValueAt fields earlier (get_or (set values place (to_z w32 (of_z w32 z))) earlier (pos 0))
read_more fields values place z count inside here before earlier below = elim (cases_order earlier place) [
  | inl e ↦
      subst (λ k. IsValueAt fields k (get_or (set values place (to_z w32 (of_z w32 z))) k (pos 0))) (sym e)
      (subst (IsValueAt fields place) (sym (get_or-set_same values place (to_z w32 (of_z w32 z)) (pos 0) (omega (arith, count)) ∙ kept_value z place inside here.within)) here)
  | inr (inl under) ↦
      subst (IsValueAt fields earlier) (sym (get_or-set_other values place earlier (to_z w32 (of_z w32 z)) (pos 0) (λ e. absurd (omega (arith, e))))) (before earlier under)
  | inr (inr over) ↦ absurd (omega arith)
]

-- The columns have the values that were read, up to the last.
pub all_read : (columns : List (List ℕ)) (values : List ℤ) (place : ℕ) (z : ℤ) → length columns ≡ column_count
    → length values ≡ column_count → place + 1 ≡ column_count → IsValueAt columns place z
    → ((earlier : ℕ) → earlier < place → IsValueAt columns earlier (get_or values earlier (pos 0)))
    → AreSampleValues columns (set values place (to_z w32 (of_z w32 z)))
all_read columns values place z column_count_is value_count last here before = record {
  field_count = column_count_is;
  value_count = length-set values place (to_z w32 (of_z w32 z)) ∙ value_count;
  each = λ k within. read_more columns values place z value_count (omega (arith, last)) here before k (omega (arith, last, within));
}
