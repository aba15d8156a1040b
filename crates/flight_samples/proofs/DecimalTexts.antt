-- The decimal text of a number is what std writes for it.
use Rattle.std.proofs.Common.{◌≡◌, ◌↔◌, ◌+◌, ◌<◌, ◌^◌, ℕ, zero, suc, ℤ, pos, negsuc, List, ◌∷◌, length, get_or, refl, sym, ◌∙◌, ap, subst, arith, add-one}
use Rattle.std.specs.Fmt.{decimal, signed_decimal}
use Rattle.std.specs.Prelude.{FitsSigned}
use Rattle.std.specs.Int.{w64}
use Rattle.std.specs.Str.Parse.{AllDigits, digits_value}
use Rattle.std.proofs.lemmas.Fmt.{decimal_digit, decimal_is_IsNumeral, decimal-digits_value, first_decimal}
use Rattle.std.proofs.lemmas.Str.Parse.{IsNumeralModel, numerals_by_value, tells_digits}
use Rattle.flight_samples.specs.Decimals.{IsIntegerText, IsNaturalText}

own : IsNumeralModel (AllDigits 10) (digits_value 10)
own = numerals_by_value (AllDigits 10) tells_digits

no_leading_zero : (n : ℕ) → n < 2 ^ 64 → get_or (decimal n) 0 0 ≡ 48 → length (decimal n) ≡ 1
no_leading_zero zero small zero_first = ap length (decimal_digit 0 (omega arith))
no_leading_zero (suc n) small zero_first = absurd (omega (arith, first_decimal (suc n) (omega arith) small))

-- What std writes for a natural number is its text.
natural_text-decimal : (n : ℕ) → n < 2 ^ 64 → IsNaturalText n (decimal n)
natural_text-decimal n small =
    let is = decimal_is_IsNumeral n small in
    record { form = record { numeral = is.0; no_leading_zero = no_leading_zero n small }; value = is.1 }

-- And its text is what std writes for it.
decimal_from_natural_text : (n : ℕ) (text : List ℕ) → n < 2 ^ 64 → IsNaturalText n text → text ≡ decimal n
decimal_from_natural_text n text small written =
    let numeral = written.form.numeral in
    let is = decimal-digits_value own text numeral.1 numeral.0 written.form.no_leading_zero (omega (arith, written.value)) in
    sym is ∙ ap decimal written.value

pub one_natural_text : (n : ℕ) (text : List ℕ) → n < 2 ^ 64 → IsNaturalText n text ↔ (text ≡ decimal n)
one_natural_text n text small =
    (decimal_from_natural_text n text small, λ is. subst (IsNaturalText n) (sym is) (natural_text-decimal n small))

-- The same of integers.
pub integer_text-signed_decimal : (z : ℤ) → FitsSigned w64 z → IsIntegerText z (signed_decimal z)
integer_text-signed_decimal (pos n) fits = natural_text-decimal n (omega (arith, fits.sfits))
integer_text-signed_decimal (negsuc n) fits =
    let text : IsNaturalText (n + 1) (decimal (suc n)) = rw add-one (natural_text-decimal (suc n) (omega (arith, fits.sfits))) in
    (decimal (suc n), refl, text)

pub signed_decimal_from_integer_text : (z : ℤ) (text : List ℕ) → FitsSigned w64 z → IsIntegerText z text → text ≡ signed_decimal z
signed_decimal_from_integer_text (pos n) text fits written = decimal_from_natural_text n text (omega (arith, fits.sfits)) written
signed_decimal_from_integer_text (negsuc n) text fits (digits, is, written) =
    let after : digits ≡ decimal (n + 1) = decimal_from_natural_text (n + 1) digits (omega (arith, fits.sfits)) written in
    is ∙ ap (λ d. 45 ∷ d) (after ∙ ap decimal (add-one n))

pub one_integer_text : (z : ℤ) (text : List ℕ) → FitsSigned w64 z → IsIntegerText z text ↔ (text ≡ signed_decimal z)
one_integer_text z text fits =
    (signed_decimal_from_integer_text z text fits, λ is. subst (IsIntegerText z) (sym is) (integer_text-signed_decimal z fits))
