-- Lemmas on decimal texts.
use Rattle.std.proofs.Common.{◌≡◌, ◌+◌, ◌-◌, ◌*◌, ◌<◌, ◌≤◌, ℕ, min, length, List, [], ◌∷◌, take, get_or, refl, arith, sym, ap, ◌∙◌, subst, zero, suc, ℤ, pos, negsuc, neg_ℤ, inl, inr, add-one, lit<, ◌≢◌, Option, Some, None, IfNone, drop, ◌≤ℤ◌}
use Rattle.std.proofs.lemmas.Bool.Decides.{nat_tests}
use Rattle.std.specs.Char.{digit_value}
use Rattle.std.specs.Int.{IsInRange, IsOutOfRange}
use Rattle.std.specs.Str.Parse.{AllDigits, digits_value}
use Rattle.std.proofs.lemmas.Str.Parse.{digit_at}
use Rattle.std.proofs.lemmas.Int.Digits.{digits_value_more}
use Rattle.std.proofs.lemmas.Int.{ints}
use Rattle.std.proofs.lemmas.Bool.{cases_lt}
use Rattle.flight_samples.specs.Decimals.{AgreeWithin, IsIntegerFault, IsIntegerText, IsNaturalText, IsNumberText}
use Rattle.flight_samples.specs.declared.decimal.NumberFault.{NumberFault}
use Rattle.flight_samples.specs.declared.decimal.NumberFault.TheVariants.{NotNumber, Range}

pub digit_value_is : (c : ℕ) → IsInRange 48 57 c → digit_value c ≡ c - 48
digit_value_is c h = grind (arith, nat_tests)

-- One more digit, where the value stops at a limit.
pub value_step : (ds : List ℕ) (i v limit : ℕ) → IsInRange 48 57 (get_or ds i 0) → i < length ds → 1 ≤ limit
    → v ≡ min (digits_value 10 (take i ds)) limit
    → min limit (v * 10 + (get_or ds i 0 - 48)) ≡ min (digits_value 10 (take (i + 1) ds)) limit
value_step ds i v limit digit within some is =
    let at = digit_value_is (get_or ds i 0) digit in
    omega (arith, digits_value_more 10 ds i within, at, is)

-- A byte that is no digit stands in no text of digits.
pub not_digits : (ds : List ℕ) (i : ℕ) → i < length ds → IsOutOfRange 48 57 (get_or ds i 0) → AllDigits 10 ds → ⊥
not_digits ds i within out digits = let at = digit_at ds i digits within in omega arith

pub below_ten : (c : ℕ) → IsInRange 48 57 c → digit_value c < 10
below_ten c h = omega (arith, digit_value_is c h)

-- The value of a number below 0, from the number after its sign.
pub negative_agrees : (limit m v : ℕ) (w : ℤ) → v ≡ min (suc m) limit → w ≡ neg_ℤ (pos v) → AgreeWithin limit (negsuc m) w
negative_agrees limit m v w is sign =
    elim (cases_lt limit (suc m)) [
      | inl above ↦ inr (inr (omega (arith, ints), omega (arith, ints)))
      | inr below ↦ inl (omega (arith, ints))
    ]

pub negative_some : (limit n v : ℕ) (w : ℤ) (digits : List ℕ) → IsNaturalText n digits → v ≡ min n limit → v ≢ 0 → w ≡ neg_ℤ (pos v)
    → (m : ℕ) × IsNaturalText (m + 1) digits × AgreeWithin limit (negsuc m) w
negative_some limit zero v w digits text is some sign = absurd (some (omega arith))
negative_some limit (suc m) v w digits text is some sign =
    (m, rw add-one text, negative_agrees limit m v w is sign)

-- A text of digits does not begin with a sign.
pub no_sign_in_digits : (n : ℕ) (text digits : List ℕ) → text ≡ 45 ∷ digits → IsNaturalText n text → ⊥
no_sign_in_digits n text digits is written =
    let numeral : AllDigits 10 (45 ∷ digits) = subst (AllDigits 10) is written.form.numeral.1 in
    not_digits (45 ∷ digits) 0 (omega arith) (inl (lit< tt)) numeral

-- A text with a sign is that of no integer where the digits after it are no number above 0.
pub no_integer : (text digits : List ℕ) → text ≡ 45 ∷ digits → ((n : ℕ) → ¬ IsNaturalText (n + 1) digits) → (z : ℤ) → ¬ IsIntegerText z text
no_integer text digits is none (pos n) written = no_sign_in_digits n text digits is written
no_integer text digits is none (negsuc n) (other, same, written) =
    let e : other ≡ digits = cc in
    none n (subst (IsNaturalText (n + 1)) e written)

-- The same of a text whose first byte is the sign, where reading the digits after it gave r.
pub no_integer_if : (r : Option ℤ) (text : List ℕ) → 1 ≤ length text → get_or text 0 0 ≡ 45
    → IfNone r ((n : ℕ) → ¬ IsNaturalText (n + 1) (drop 1 text)) → IfNone r ((z : ℤ) → ¬ IsIntegerText z text)
no_integer_if (Some v) text some first none = tt
no_integer_if None (byte ∷ digits) some first none = no_integer (byte ∷ digits) digits (ap (λ b. b ∷ digits) first) none
no_integer_if None [] some first none = absurd (omega arith)

-- A text is the text of one integer.
pub integer_text_same : (y z : ℤ) (text : List ℕ) → IsIntegerText y text → IsIntegerText z text → y ≡ z
integer_text_same (pos m) (pos n) text one other = ap pos (sym one.value ∙ other.value)
integer_text_same (pos m) (negsuc n) text one (digits, is, other) = absurd (no_sign_in_digits m text digits is one)
integer_text_same (negsuc m) (pos n) text (digits, is, one) other = absurd (no_sign_in_digits n text digits is other)
integer_text_same (negsuc m) (negsuc n) text (ds, is, one) (es, same, other) =
    let e : ds ≡ es = cc in
    let value : digits_value 10 ds ≡ n + 1 = ap (digits_value 10) e ∙ other.value in
    let equal : m ≡ n = omega (arith, one.value, value) in
    ap negsuc equal

-- A text that gives a number of the range has no fault.
pub no_integer_fault : (low high z : ℤ) (text : List ℕ) (why : NumberFault) → IsNumberText low z text → low ≤ℤ z → z ≤ℤ high
    → IsIntegerFault low high text why → ⊥
no_integer_fault low high z text NotNumber number above below none = none z number
no_integer_fault low high z text Range number above below (y, other, out) =
    let e = integer_text_same y z text other.written number.written in
    elim out [ inl under ↦ absurd (omega (arith, ints)) | inr over ↦ absurd (omega (arith, ints)) ]

-- A text has one fault.
pub integer_fault_same : (low high : ℤ) (text : List ℕ) (e f : NumberFault) → IsIntegerFault low high text e → IsIntegerFault low high text f → e ≡ f
integer_fault_same low high text NotNumber NotNumber one other = refl
integer_fault_same low high text NotNumber Range none (z, number, out) = absurd (none z number)
integer_fault_same low high text Range NotNumber (z, number, out) none = absurd (none z number)
integer_fault_same low high text Range Range one other = refl
