-- Numbers of bounded range are read digit by digit, as the standard positional writing of their digits.
use Rattle.std.proofs.Common.{◌≡◌, ℕ, suc, ◌+◌, ◌*◌, ◌/◌, ◌%◌, ◌≤◌, ◌<◌, ◌==◌, Bool, true, false, List, [], ◌∷◌, ◌++◌, length, Option, Some, None, unwrap_or, is_some, Ok, Err, ◌⊎◌, inl, inr, refl, sym, ap, ◌∙◌, arith, lit<, zero-add, add-zero}
use Rattle.std.specs.Prelude.{nat_le, nat_lt, ◌&&◌, if◌then◌else◌}
use Rattle.std.proofs.Math.Nat.{div-lt_iff_lt-mul, div-add-mod, mul-le-mul_right, mul_comm}
use Rattle.std.proofs.lemmas.Nat.{div-mul-add, mod-mul-add, mod_below}
use Rattle.std.proofs.lemmas.Bool.{agree_below_at, and_from, and_parts, cases_Bool, eqb-true, ltb-true}
use Rattle.std.proofs.lemmas.Bool.Decides.{nat_tests}
use Rattle.bit_terms.proofs.ReadingLaws.{bind_ok, bind_err, ok_same, ok_is_no_err, err_same}
use Rattle.acars_envelope.specs.Names.{is_digit}
use Rattle.afn_logon.specs.Reading.{counted, digit_reading, digits_reading, value_of}
use Rattle.afn_logon.specs.declared.numbers.Digit.{Digit}
use Rattle.afn_logon.proofs.Readers.{Stops, IsReader}

-- ---- one digit

-- the digit with this value, as a character
abbrev pub digit_character : ℕ → ℕ
digit_character v = if nat_lt v 10 then 48 + v else 55 + v

-- whether the digit with this value has this value
abbrev reads_back : ℕ → Bool
reads_back v = is_some (value_of (digit_character v)) && (unwrap_or (value_of (digit_character v)) 0 == v)

some_of : (o : Option ℕ) (v : ℕ) → (is_some o && (unwrap_or o 0 == v)) ≡ true → o ≡ Some v
some_of (Some u) v same = ap Some (eqb-true u v same)
some_of None v same = absurd (cc)

value-back : (v : ℕ) → v < 16 → value_of (digit_character v) ≡ Some v
value-back v below = some_of (value_of (digit_character v)) v (agree_below_at reads_back (λ _. true) 16 v refl below)

-- whether a character is no digit, or the digit of its value
abbrev is_its_digit : ℕ → Option ℕ → Bool
is_its_digit c None = true
is_its_digit c (Some v) = nat_lt v 16 && (digit_character v == c)

digits_end : (c v : ℕ) → value_of c ≡ Some v → c < 71
digits_end c v is = tested (cases_Bool (is_digit c)) (cases_Bool (nat_le 65 c && nat_le c 70))
  where
    none : ◌≡◌ {A = Option ℕ} None (Some v) → ⊥
    none e = cc

    tested : (is_digit c ≡ true) ⊎ (is_digit c ≡ false) → ((nat_le 65 c && nat_le c 70) ≡ true) ⊎ ((nat_le 65 c && nat_le c 70) ≡ false) → c < 71
    tested (inl digit) _ = grind (arith, nat_tests)
    tested (inr other) (inl letter) = grind (arith, nat_tests)
    tested (inr other) (inr neither) = absurd (none (rw (other, neither) at is))

-- the character that has a value is its digit
pub record IsDigit (c v : ℕ) : Type 0 where
  pub below : v < 16
  pub written : c ≡ digit_character v

value-found : (c v : ℕ) → value_of c ≡ Some v → IsDigit c v
value-found c v is =
    let test : is_its_digit c (value_of c) ≡ true = agree_below_at (λ k. is_its_digit k (value_of k)) (λ _. true) 71 c refl (digits_end c v is) in
    let parts = and_parts _ _ (rw is at test) in
    record { below = ltb-true _ _ parts.0; written = sym (eqb-true _ _ parts.1) }

-- ---- a digit of a number

-- A digit with this value was read, and the number with it.
pub record Counts (digit : Digit) (limit so_far number : ℕ) (t rest : List ℕ) : Type 0 where
  pub value : ℕ
  pub below : value < 16
  pub allowed : value ≤ digit.greatest
  pub sum : number ≡ so_far + value * digit.weight
  pub limited : number ≤ limit
  pub text : t ≡ digit_character value ∷ rest

digit-again : (digit : Digit) (limit so_far value : ℕ) (rest : List ℕ) → value < 16 → value ≤ digit.greatest → so_far + value * digit.weight ≤ limit
    → digit_reading digit limit so_far (digit_character value ∷ rest) ≡ Ok (so_far + value * digit.weight, rest)
unfolding digit_reading
digit-again digit limit so_far value rest below allowed limited =
    let small : nat_le value digit.greatest ≡ true = grind (arith, nat_tests) in
    let within : nat_le (so_far + value * digit.weight) limit ≡ true = grind (arith, nat_tests) in
    let fits : (nat_le value digit.greatest && nat_le (so_far + value * digit.weight) limit) ≡ true = and_from _ _ small within in
    rw (value-back value below, fits) refl

-- whether a digit goes on
abbrev goes_on : Digit → ℕ → ℕ → ℕ → Bool
goes_on digit limit so_far value = nat_le value digit.greatest && nat_le (so_far + value * digit.weight) limit

digit-sound : (digit : Digit) (limit so_far number : ℕ) (t rest : List ℕ) → digit_reading digit limit so_far t ≡ Ok (number, rest) → Counts digit limit so_far number t rest
unfolding digit_reading
digit-sound digit limit so_far number [] rest ok = absurd (ok_is_no_err _ _ (sym ok))
digit-sound digit limit so_far number (c ∷ t) rest ok = of_value (value_of c) refl ok
  where
    tested : (v : ℕ) → IsDigit c v → counted digit limit so_far (Some v) t ≡ Ok (number, rest)
        → (goes_on digit limit so_far v ≡ true) ⊎ (goes_on digit limit so_far v ≡ false) → Counts digit limit so_far number (c ∷ t) rest
    tested v found ok (inr stops) = absurd (ok_is_no_err _ _ (sym (rw stops at ok)))
    tested v found ok (inl goes) =
        let parts : (nat_le v digit.greatest ≡ true) × (nat_le (so_far + v * digit.weight) limit ≡ true) =
        and_parts (nat_le v digit.greatest) (nat_le (so_far + v * digit.weight) limit) goes in
        let small : nat_le v digit.greatest ≡ true = parts.0 in
        let within : nat_le (so_far + v * digit.weight) limit ≡ true = parts.1 in
        let read : Ok (so_far + v * digit.weight, t) ≡ Ok (number, rest) = rw goes at ok in
        let same : (so_far + v * digit.weight, t) ≡ (number, rest) = ok_same (so_far + v * digit.weight, t) (number, rest) read in
        let sum : number ≡ so_far + v * digit.weight = sym (ap (λ (y : ℕ × List ℕ). y.0) same) in
        record {
          value = v;
          below = found.below;
          allowed = grind (arith, nat_tests);
          sum = sum;
          limited = rw sum (grind (arith, nat_tests));
          text = let left : t ≡ rest = ap (λ (y : ℕ × List ℕ). y.1) same in rw (found.written, left) refl;
        }

    of_value : (o : Option ℕ) → value_of c ≡ o → counted digit limit so_far o t ≡ Ok (number, rest) → Counts digit limit so_far number (c ∷ t) rest
    of_value None is ok = absurd (ok_is_no_err _ _ (sym ok))
    of_value (Some v) is ok = tested v (value-found c v is) ok (cases_Bool (goes_on digit limit so_far v))

-- a digit was due and the text ends, or has a character with which the number doesn't go on
digit-refused : (digit : Digit) (limit so_far : ℕ) (t : List ℕ) (left : ℕ) → digit_reading digit limit so_far t ≡ Err left
    → (left ≡ length t) × ((c : ℕ) (after other : List ℕ) → t ≡ c ∷ after → digit_reading digit limit so_far (c ∷ other) ≡ Err (suc (length other)))
unfolding digit_reading
digit-refused digit limit so_far [] left err = (sym (err_same 0 left err), λ c after other is. absurd (cc))
digit-refused digit limit so_far (c ∷ t) left err = of_value (value_of c) refl err
  where
    tested : (v : ℕ) → value_of c ≡ Some v → counted digit limit so_far (Some v) t ≡ Err left → (goes_on digit limit so_far v ≡ true) ⊎ (goes_on digit limit so_far v ≡ false)
        → (left ≡ length (c ∷ t)) × ((d : ℕ) (after other : List ℕ) → c ∷ t ≡ d ∷ after → counted digit limit so_far (value_of d) other ≡ Err (suc (length other)))
    tested v is err (inl goes) = absurd (ok_is_no_err _ _ (rw goes at err))
    tested v is err (inr stops) = (sym (err_same _ left (rw stops at err)), λ d after other same. let first : c ≡ d = cc in rw (← first, is, stops) refl)

    of_value : (o : Option ℕ) → value_of c ≡ o → counted digit limit so_far o t ≡ Err left
        → (left ≡ length (c ∷ t)) × ((d : ℕ) (after other : List ℕ) → c ∷ t ≡ d ∷ after → counted digit limit so_far (value_of d) other ≡ Err (suc (length other)))
    of_value None is err = (sym (err_same _ left err), λ d after other same. let first : c ≡ d = cc in rw (← first, is) refl)
    of_value (Some v) is err = tested v is err (cases_Bool (goes_on digit limit so_far v))

-- ---- the digits of a number

-- how many values digits have together
abbrev pub span : List Digit → ℕ
span [] = 1
span (digit ∷ digits) = (digit.greatest + 1) * digit.weight

-- each digit counts as much as those behind it have values together
abbrev pub IsRadix : List Digit → Type 0
IsRadix [] = Unit {0}
IsRadix (digit ∷ digits) = (digit.weight ≡ span digits) × (digit.greatest < 16) × IsRadix digits

-- the digits of a value
abbrev pub digits_text : List Digit → ℕ → List ℕ
digits_text [] v = []
digits_text (digit ∷ digits) v = digit_character (v / digit.weight) ∷ digits_text digits (v % digit.weight)

span_above_0 : (digits : List Digit) → IsRadix digits → 0 < span digits
span_above_0 [] radix = lit< tt
span_above_0 (digit ∷ digits) radix =
    let weight : 0 < digit.weight = rw radix.0 (span_above_0 digits radix.2) in
    grind (arith)

-- a value as its first digit and the rest of it
pub record IsSplit (digit : Digit) (v q r : ℕ) : Type 0 where
  pub whole : v ≡ q * digit.weight + r
  pub rest : r < digit.weight
  pub first : q ≤ digit.greatest

split : (digit : Digit) (v : ℕ) → 0 < digit.weight → v < (digit.greatest + 1) * digit.weight → IsSplit digit v (v / digit.weight) (v % digit.weight)
split digit v positive below = record {
  whole = let e = div-add-mod v digit.weight in let swap = mul_comm digit.weight (v / digit.weight) in omega arith;
  rest = mod_below v digit.weight positive;
  first = let e : v / digit.weight < digit.greatest + 1 = (div-lt_iff_lt-mul positive).1 below in omega arith;
}

-- the digits of a value that is put together
joined : (digit : Digit) (digits : List Digit) (q r : ℕ) → r < digit.weight
    → digits_text (digit ∷ digits) (q * digit.weight + r) ≡ digit_character q ∷ digits_text digits r
joined digit digits q r below = rw (div-mul-add q digit.weight r below, mod-mul-add q digit.weight r below) refl

joined_below : (digit : Digit) (q r : ℕ) → q ≤ digit.greatest → r < digit.weight → q * digit.weight + r < (digit.greatest + 1) * digit.weight
joined_below digit q r first rest = let most : q * digit.weight ≤ digit.greatest * digit.weight = mul-le-mul_right digit.weight first in omega arith

-- A value fits digits, behind so much, up to a limit.
pub record FitsBehind (digits : List Digit) (limit so_far v : ℕ) : Type 0 where
  pub spanned : v < span digits
  pub limited : so_far + v ≤ limit

digits-again : (digits : List Digit) (limit so_far v : ℕ) (rest : List ℕ) → IsRadix digits → FitsBehind digits limit so_far v
    → digits_reading digits limit so_far (digits_text digits v ++ rest) ≡ Ok (so_far + v, rest)
unfolding digits_reading
digits-again [] limit so_far v rest radix fits =
    let none : so_far ≡ so_far + v = omega (arith, fits.spanned) in
    ap (λ (n : ℕ). Ok (n, rest)) none
digits-again (digit ∷ digits) limit so_far v rest radix fits =
    let positive : 0 < digit.weight = rw radix.0 (span_above_0 digits radix.2) in
    let parts = split digit v positive fits.spanned in
    let q = v / digit.weight in
    let r = v % digit.weight in
    let small : q < 16 = omega (arith, parts.first, radix.1) in
    let within : so_far + q * digit.weight ≤ limit = omega (arith, parts.whole, fits.limited) in
    let behind : FitsBehind digits limit (so_far + q * digit.weight) r =
    record { spanned = rw (← radix.0) parts.rest; limited = omega (arith, parts.whole, fits.limited) } in
    let sum : so_far + q * digit.weight + r ≡ so_far + v = omega (arith, parts.whole) in
    rw (digit-again digit limit so_far q (digits_text digits r ++ rest) small parts.first within)
    (digits-again digits limit (so_far + q * digit.weight) r rest radix.2 behind ∙ ap (λ (n : ℕ). Ok (n, rest)) sum)

-- A number was read, which is so much and a value that fits.
pub record Reads (digits : List Digit) (limit so_far number : ℕ) (t rest : List ℕ) : Type 0 where
  pub value : ℕ
  pub fits : FitsBehind digits limit so_far value
  pub sum : number ≡ so_far + value
  pub text : t ≡ digits_text digits value ++ rest

digits-sound : (digits : List Digit) (limit so_far number : ℕ) (t rest : List ℕ) → IsRadix digits → so_far ≤ limit
    → digits_reading digits limit so_far t ≡ Ok (number, rest) → Reads digits limit so_far number t rest
unfolding digits_reading
digits-sound [] limit so_far number t rest radix within ok =
    let same : (so_far, t) ≡ (number, rest) = ok_same _ _ ok in
    record {
      value = 0;
      fits = record { spanned = lit< tt; limited = omega arith };
      sum = sym (ap (λ (y : ℕ × List ℕ). y.0) same) ∙ sym (add-zero so_far);
      text = ap (λ (y : ℕ × List ℕ). y.1) same;
    }
digits-sound (digit ∷ digits) limit so_far number t rest radix within ok =
    let found = bind_ok (digit_reading digit limit so_far t) (λ n. digits_reading digits limit n.0 n.1) (number, rest) ok in
    let first = digit-sound digit limit so_far found.0.0 t found.0.1 found.1 in
    let others = digits-sound digits limit found.0.0 number found.0.1 rest radix.2 first.limited found.2 in
    let below : others.value < digit.weight = omega (arith, radix.0, others.fits.spanned) in
    record {
      value = first.value * digit.weight + others.value;
      fits = record {
        spanned = joined_below digit first.value others.value first.allowed below;
        limited = omega (arith, first.sum, others.fits.limited);
      };
      sum = omega (arith, first.sum, others.sum);
      text = first.text ∙ ap (λ (u : List ℕ). digit_character first.value ∷ u) others.text
          ∙ ap (λ (u : List ℕ). u ++ rest) (sym (joined digit digits first.value others.value below));
    }

digits-stops : (digits : List Digit) (limit so_far : ℕ) (t : List ℕ) (left : ℕ) → IsRadix digits → so_far ≤ limit
    → digits_reading digits limit so_far t ≡ Err left → Stops (FitsBehind digits limit so_far) (digits_text digits) (digits_reading digits limit so_far) t left
unfolding digits_reading
digits-stops [] limit so_far t left radix within err = absurd (ok_is_no_err _ _ err)
digits-stops (digit ∷ digits) limit so_far t left radix within err =
    in_part (λ number rest. digits-stops digits limit number rest left radix.2)
    (bind_err (digit_reading digit limit so_far t) (λ n. digits_reading digits limit n.0 n.1) left err)
  where
    further : (number : ℕ) (rest : List ℕ) → digit_reading digit limit so_far t ≡ Ok (number, rest)
        → Stops (FitsBehind digits limit number) (digits_text digits) (digits_reading digits limit number) rest left
        → Stops (FitsBehind (digit ∷ digits) limit so_far) (digits_text (digit ∷ digits)) (digits_reading (digit ∷ digits) limit so_far) t left
    further number rest ok s =
        let first = digit-sound digit limit so_far number t rest ok in
        let below : s.value < digit.weight = rw radix.0 s.fits.spanned in
        let begins : digits_text digits s.value ≡ s.front ++ s.more = s.begins in
        record {
          front = digit_character first.value ∷ s.front;
          rest = s.rest;
          value = first.value * digit.weight + s.value;
          more = s.more;
          cut = first.text ∙ ap (λ (u : List ℕ). digit_character first.value ∷ u) s.cut;
          size = s.size;
          fits = record {
            spanned = joined_below digit first.value s.value first.allowed below;
            limited = omega (arith, first.sum, s.fits.limited);
          };
          begins = joined digit digits first.value s.value below ∙ ap (λ (u : List ℕ). digit_character first.value ∷ u) begins;
          alike = λ c after other is.
              let stop = s.alike c after other is in
              let sum : so_far + first.value * digit.weight ≡ number = sym first.sum in
              let limited : so_far + first.value * digit.weight ≤ limit = rw sum first.limited in
              (stop.0, rw (digit-again digit limit so_far first.value (s.front ++ c ∷ other) first.below first.allowed limited, sum) stop.1);
        }

    in_part : ((number : ℕ) (rest : List ℕ) → number ≤ limit → digits_reading digits limit number rest ≡ Err left
        → Stops (FitsBehind digits limit number) (digits_text digits) (digits_reading digits limit number) rest left)
        → (digit_reading digit limit so_far t ≡ Err left)
        ⊎ ((n : ℕ × List ℕ) × (digit_reading digit limit so_far t ≡ Ok n) × (digits_reading digits limit n.0 n.1 ≡ Err left))
        → Stops (FitsBehind (digit ∷ digits) limit so_far) (digits_text (digit ∷ digits)) (digits_reading (digit ∷ digits) limit so_far) t left
    in_part deeper (inl refused) =
        let stop = digit-refused digit limit so_far t left refused in
        record {
          front = [];
          rest = t;
          value = 0;
          more = digits_text (digit ∷ digits) 0;
          cut = refl;
          size = stop.0;
          fits = record { spanned = span_above_0 (digit ∷ digits) radix; limited = omega arith };
          begins = refl;
          alike = λ c after other is. (suc (length other), rw (stop.1 c after other is) refl);
        }
    in_part deeper (inr found) =
        let first = digit-sound digit limit so_far found.0.0 t found.0.1 found.1 in
        further found.0.0 found.0.1 found.1 (deeper found.0.0 found.0.1 first.limited found.2)

-- A value has so many digits and isn't above the limit.
pub record FitsDigits (digits : List Digit) (limit v : ℕ) : Type 0 where
  pub spanned : v < span digits
  pub limited : v ≤ limit

-- A number of bounded range is read as its digits.
pub reads_number : (digits : List Digit) (limit : ℕ) → IsRadix digits → IsReader (FitsDigits digits limit) (digits_text digits) (digits_reading digits limit 0)
reads_number digits limit radix = record {
  sample = 0;
  sample_fits = record { spanned = span_above_0 digits radix; limited = omega arith };
  again = λ v rest fits.
      digits-again digits limit 0 v rest radix (record { spanned = fits.spanned; limited = omega (arith, fits.limited) })
      ∙ ap (λ (n : ℕ). Ok (n, rest)) (zero-add v);
  sound = λ t rest v ok.
      let read = digits-sound digits limit 0 v t rest radix (omega arith) ok in
      let same : v ≡ read.value = read.sum ∙ zero-add read.value in
      (record { spanned = rw same read.fits.spanned; limited = omega (arith, read.fits.limited) }, rw same read.text);
  stops = λ t left err.
      let s = digits-stops digits limit 0 t left radix (omega arith) err in
      record {
        front = s.front;
        rest = s.rest;
        value = s.value;
        more = s.more;
        cut = s.cut;
        size = s.size;
        fits = record { spanned = s.fits.spanned; limited = omega (arith, s.fits.limited) };
        begins = s.begins;
        alike = s.alike;
      };
}
