-- Fields give one sample, or have one fault.
use Rattle.std.proofs.Common.{◌≡◌, ◌⊎◌, ◌-◌, ◌<◌, ℕ, ℤ, pos, List, [], Result, Ok, Err, IfOk, IfErr, MatchResult, length, get_or, inl, inr, sym, ◌∙◌, ap, subst, arith}
use Rattle.std.proofs.lemmas.Bool.{cases_order}
use Rattle.std.proofs.lemmas.List.{same_lists, get_or_default}
use Rattle.flight_samples.specs.SampleText.{AreSampleValues, IsColumnFault, IsFirstBadColumn, IsSampleFault, IsValueAt, column_count, range_at}
use Rattle.flight_samples.specs.Samples.{values_of}
use Rattle.flight_samples.specs.declared.decimal.NumberFault.{NumberFault}
use Rattle.flight_samples.specs.declared.sample.Sample.{Sample}
use Rattle.flight_samples.specs.declared.read.SampleRefusal.{SampleRefusal}
use Rattle.flight_samples.specs.declared.read.SampleRefusal.TheVariants.{Count, Column, NoMemory}
use Rattle.flight_samples.proofs.DecimalLemmas.{integer_text_same, no_integer_fault, integer_fault_same}

value_same : (fields : List (List ℕ)) (place : ℕ) (y z : ℤ) → IsValueAt fields place y → IsValueAt fields place z → y ≡ z
value_same fields place y z one other = integer_text_same y z (get_or fields place []) one.written.written other.written.written

no_fault : (fields : List (List ℕ)) (place : ℕ) (z : ℤ) (why : NumberFault) → IsValueAt fields place z → IsColumnFault fields place why → ⊥
no_fault fields place z why value fault =
    no_integer_fault (range_at place).low (range_at place).high z (get_or fields place []) why value.written value.within.0 value.within.1 fault

values_same : (fields : List (List ℕ)) (ys zs : List ℤ) → AreSampleValues fields ys → AreSampleValues fields zs → ys ≡ zs
values_same fields ys zs one other =
    same_lists ys zs (one.value_count ∙ sym other.value_count) (λ k d within.
    let place : k < column_count = omega (arith, one.value_count) in
    let inside : k < length zs = omega (arith, other.value_count) in
    get_or_default ys k d (pos 0) within ∙ value_same fields k _ _ (one.each k place) (other.each k place)
    ∙ get_or_default zs k (pos 0) d inside)

first_bad_same : (fields : List (List ℕ)) (k m : ℕ) (v w : NumberFault) → IsFirstBadColumn fields k v → IsFirstBadColumn fields m w → (k ≡ m) × (v ≡ w)
first_bad_same fields k m v w one other = elim (cases_order k m) [
  | inl e ↦ (e, integer_fault_same _ _ (get_or fields m []) v w (subst (λ place. IsColumnFault fields place v) e one.bad) other.bad)
  | inr (inl below) ↦ let read = other.before k below in absurd (no_fault fields k read.0 v read.1 one.bad)
  | inr (inr above) ↦ let read = one.before m above in absurd (no_fault fields m read.0 w read.1 other.bad)
]

-- Fields that are a sample have no fault.
values_no_fault : (fields : List (List ℕ)) (values : List ℤ) (e : SampleRefusal) → AreSampleValues fields values → IsSampleFault fields e → ⊥
values_no_fault fields values (Count found) are (is, other) = other (is ∙ are.field_count)
values_no_fault fields values (Column index why) are (count, from, first) =
    no_fault fields (index - 1) _ why (are.each (index - 1) first.inside) first.bad
values_no_fault fields values NoMemory are fault = fault

-- Fields have one fault.
fault_same : (fields : List (List ℕ)) (e f : SampleRefusal) → IsSampleFault fields e → IsSampleFault fields f → e ≡ f
fault_same fields (Count m) (Count n) one other = ap Count (one.0 ∙ sym other.0)
fault_same fields (Count m) (Column index why) one other = absurd (one.1 (one.0 ∙ other.0))
fault_same fields (Column index why) (Count n) one other = absurd (other.1 (other.0 ∙ one.0))
fault_same fields (Column i v) (Column j w) one other =
    let same = first_bad_same fields (i - 1) (j - 1) v w one.2 other.2 in
    let e : i ≡ j = omega (arith, same.0, one.1, other.1) in
    subst (λ k. Column i v ≡ Column k w) e (ap (Column i) same.1)
fault_same fields NoMemory f one other = absurd one
fault_same fields e NoMemory one other = absurd other

-- What a reading of a row that gives a sample or tells a fault answers where the row's fields are a sample, or have a fault.
pub reads : (fields columns : List (List ℕ)) (r : Result Sample SampleRefusal) → fields ≡ columns
    → IfOk r (λ s. AreSampleValues fields (values_of s)) → IfErr r (IsSampleFault fields)
    → (values : List ℤ) → AreSampleValues columns values → MatchResult r (λ s. values_of s ≡ values) (λ e. e ≡ NoMemory)
reads fields columns (Ok s) is ok err values are =
    values_same fields (values_of s) values ok (subst (λ f. AreSampleValues f values) (sym is) are)
reads fields columns (Err e) is ok err values are =
    absurd (values_no_fault columns values e are (subst (λ f. IsSampleFault f e) is err))

pub tells : (fields columns : List (List ℕ)) (r : Result Sample SampleRefusal) → fields ≡ columns
    → IfOk r (λ s. AreSampleValues fields (values_of s)) → IfErr r (IsSampleFault fields)
    → (e : SampleRefusal) → IsSampleFault columns e → (r ≡ Err e) ⊎ (r ≡ Err NoMemory)
tells fields columns (Ok s) is ok err e fault =
    absurd (values_no_fault fields (values_of s) e ok (subst (λ f. IsSampleFault f e) (sym is) fault))
tells fields columns (Err f) is ok err e fault =
    inl (ap Err (fault_same columns f e (subst (λ g. IsSampleFault g f) is err) fault))
