-- Hexadecimal digits with capital letters.
use Rattle.std.proofs.Common.{◌≡◌, ℕ, zero, suc, ◌+◌, ◌*◌, ◌/◌, ◌%◌, ◌<◌, ◌≤◌, ◌==◌, Bool, true, List, [], ◌∷◌, length, slice_index, map, refl, sym, ap, ◌∙◌, arith}
use Rattle.std.specs.Char.{to_ascii_uppercase}
use Rattle.std.proofs.lemmas.Bool.{agree_below_at, and_parts, eqb-true, ltb-true}
use Rattle.std.proofs.lemmas.Bool.Decides.{nat_tests}
use Rattle.std.proofs.Common.{Option, Some, None, Result, Ok, Err, unwrap_or, is_some}
use Rattle.std.specs.Prelude.{◌&&◌, nat_lt, if◌then◌else◌, IsOk, MatchResult}
use Rattle.std.specs.List.{AllPass}
use Rattle.std.proofs.lemmas.List.Elements.{All-cons, All-head, All-nil, All-tail}
use Rattle.std.specs.Prelude.{◌↔◌, IfSome, IsSome, IsSomeAnd}
use Rattle.arrayvec.specs.ArrayVec.{ArrayVec}
use Rattle.hex.specs.declared.error.FromHexError.{FromHexError}
use Rattle.hex.specs.Hex.{IsBytes, decode_pairs, decode_of, decode_sized, encode_with, encode_lower, encode_upper, hex_digit_value, lower_digits, upper_digits}
use Rattle.hex.proofs.HexLemmas.{decode_of-encode_upper, decode_of-even, decode_of-same, decode_sized-twice, length-encode_with}
use Rattle.acars_envelope.specs.Faults.{is_capital_digit}

-- the capital form of a digit is the digit of the other table
capital_digit : (d : ℕ) → d < 16 → to_ascii_uppercase (slice_index lower_digits d) ≡ slice_index upper_digits d
capital_digit d below =
    eqb-true _ _ (agree_below_at (λ k. to_ascii_uppercase (slice_index lower_digits k) == slice_index upper_digits k) (λ _. true) 16 d refl below)

-- the capital form of digits with small letters
pub capital_digits : (xs : List ℕ) → IsBytes xs → map to_ascii_uppercase (encode_lower xs) ≡ encode_upper xs
unfolding encode_with
capital_digits [] bytes = refl
capital_digits (b ∷ xs) bytes =
    let byte : b < 256 = bytes 0 in
    let rest = capital_digits xs (λ i. bytes (suc i)) in
    cc (capital_digit (b / 16) (omega arith), capital_digit (b % 16) (omega arith))

-- ---- reading

-- whether c is no digit with capital letters, or stands in the table at the place of its value
abbrev reads_back : ℕ → Bool
reads_back c =
    if is_capital_digit c then is_some (hex_digit_value c) && (nat_lt (unwrap_or (hex_digit_value c) 0) 16
    && (slice_index upper_digits (unwrap_or (hex_digit_value c) 0) == c)) else true

-- the value of a digit with capital letters
record Digit (c : ℕ) : Type 0 where
  value : ℕ
  below : value < 16
  reads : hex_digit_value c ≡ Some value
  written : slice_index upper_digits value ≡ c

some_of : (o : Option ℕ) → is_some o ≡ true → o ≡ Some (unwrap_or o 0)
some_of (Some v) h = refl
some_of None h = cc

digit_of : (c : ℕ) → is_capital_digit c ≡ true → Digit c
digit_of c capital =
    let small : c < 71 = grind (arith, nat_tests) in
    let test : reads_back c ≡ true = agree_below_at reads_back (λ _. true) 71 c refl small in
    let parts = and_parts _ _ (rw capital at test) in
    let more = and_parts _ _ parts.1 in
    record {
      value = unwrap_or (hex_digit_value c) 0;
      below = ltb-true _ _ more.0;
      reads = some_of (hex_digit_value c) parts.0;
      written = eqb-true _ _ more.1;
    }

-- pairs of digits with capital letters read as octets whose digits they are
pub record Octets (place : ℕ) (digits : List ℕ) : Type 0 where
  pub octets : List ℕ
  pub reads : decode_pairs place digits ≡ Ok octets
  pub written : encode_upper octets ≡ digits
  pub bytes : IsBytes octets

IsBytes-cons : (b : ℕ) (rest : List ℕ) → b < 256 → IsBytes rest → IsBytes (b ∷ rest)
IsBytes-cons b rest h hs zero = h
IsBytes-cons b rest h hs (suc i) = hs i

pub octets_of : (place : ℕ) (digits : List ℕ) → length digits % 2 ≡ 0 → AllPass is_capital_digit digits → Octets place digits
unfolding decode_pairs encode_with
octets_of place [] even capital = record { octets = []; reads = refl; written = refl; bytes = λ i. omega arith }
octets_of place (a ∷ []) even capital = absurd (omega arith)
octets_of place (a ∷ b ∷ digits) even capital =
    let passes : ℕ → Type 0 = λ c. is_capital_digit c ≡ true in
    let tail = All-tail passes a (b ∷ digits) capital in
    let high = digit_of a (All-head passes a (b ∷ digits) capital) in
    let low = digit_of b (All-head passes b digits tail) in
    let rest = octets_of (place + 2) digits (omega arith) (All-tail passes b digits tail) in
    let above : (high.value * 16 + low.value) / 16 ≡ high.value = omega (arith, low.below) in
    let beneath : (high.value * 16 + low.value) % 16 ≡ low.value = omega (arith, low.below) in
    record {
      octets = (high.value * 16 + low.value) ∷ rest.octets;
      reads = rw (high.reads, low.reads, rest.reads) refl;
      written = rw (above, beneath, high.written, low.written, rest.written) refl;
      bytes = IsBytes-cons _ rest.octets (omega (arith, high.below, low.below)) rest.bytes;
    }

-- what hex answers for digits with capital letters, twice as many as there is room for octets
pub record Decoded (digits out : List ℕ) (r : Result Unit FromHexError) : Type 0 where
  pub ok : IsOk r
  pub octets : digits ≡ encode_upper out
  pub bytes : IsBytes out

pub decoded : (digits out : List ℕ) (n : ℕ) (r : Result Unit FromHexError) → length digits ≡ 2 * n → AllPass is_capital_digit digits
    → MatchResult (decode_sized digits n) (λ bytes. (r ≡ Ok tt) × (out ≡ bytes)) (λ e. r ≡ Err e)
    → Decoded digits out r
decoded digits out n r size capital answer =
    let read = octets_of 0 digits (omega arith) capital in
    let sized : decode_sized digits n ≡ Ok read.octets =
    decode_sized-twice digits n size ∙ decode_of-even digits (omega arith) ∙ read.reads in
    let given : (r ≡ Ok tt) × (out ≡ read.octets) = rw sized at answer in
    record {
      ok = rw given.0 refl;
      octets = rw given.1 (sym read.written);
      bytes = rw given.1 read.bytes;
    }

-- ---- what digits spell

-- the digits of octets are digits with capital letters
capital_of : (d : ℕ) → d < 16 → is_capital_digit (slice_index upper_digits d) ≡ true
capital_of d below = agree_below_at (λ k. is_capital_digit (slice_index upper_digits k)) (λ _. true) 16 d refl below

pub digits_are_capital : (octets : List ℕ) → IsBytes octets → AllPass is_capital_digit (encode_upper octets)
unfolding encode_with
digits_are_capital [] bytes = let passes : ℕ → Type 0 = λ c. is_capital_digit c ≡ true in All-nil passes
digits_are_capital (b ∷ octets) bytes =
    let passes : ℕ → Type 0 = λ c. is_capital_digit c ≡ true in
    let byte : b < 256 = bytes 0 in
    All-cons passes (slice_index upper_digits (b / 16)) (slice_index upper_digits (b % 16) ∷ encode_upper octets) (capital_of (b / 16) (omega arith))
    (All-cons passes (slice_index upper_digits (b % 16)) (encode_upper octets) (capital_of (b % 16) (omega arith)) (digits_are_capital octets (λ i. bytes (suc i))))

-- octets are told by their digits
pub same_octets : (a b : List ℕ) → IsBytes a → IsBytes b → encode_upper a ≡ encode_upper b → a ≡ b
same_octets a b bytes_a bytes_b same =
    decode_of-same (encode_upper a) a b (decode_of-encode_upper a bytes_a) (ap decode_of same ∙ decode_of-encode_upper b bytes_b)

-- what spells octets has digits with capital letters alone, twice as many
pub spelled_digits : (text octets : List ℕ) → IsBytes octets → text ≡ encode_upper octets
    → AllPass is_capital_digit text × (length text ≡ 2 * length octets)
spelled_digits text octets bytes spelled =
    (rw spelled (digits_are_capital octets bytes), rw spelled (length-encode_with upper_digits octets))

-- a reader that takes exactly digits with capital letters in pairs reads whatever octets are spelled
pub right_octets : (text : List ℕ) (o : Option (ArrayVec ℕ))
    → IsSome o ↔ ((length text ≤ 510) × (length text % 2 ≡ 0) × AllPass is_capital_digit text)
    → IfSome o (λ found. text ≡ encode_upper found.items) → IfSome o (λ found. IsBytes found.items)
    → (octets : List ℕ) → IsBytes octets → length octets ≤ 255 → text ≡ encode_upper octets
    → IsSomeAnd o (λ found. found.items ≡ octets)
right_octets text (Some found) taken spelled bytes octets are_bytes few is = same_octets found.items octets bytes are_bytes (sym spelled ∙ is)
right_octets text None taken spelled bytes octets are_bytes few is =
    let digits = spelled_digits text octets are_bytes is in
    let some = taken.1 (omega (arith, digits.1), omega (arith, digits.1), digits.0) in
    absurd (cc some)
