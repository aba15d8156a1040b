-- The laws of signed fields.
use Rattle.std.proofs.Common.{◌≡◌, ℕ, suc, ◌+◌, ◌-◌, ◌*◌, ◌^◌, ◌<◌, ◌≤◌, length, ℤ, pos, negsuc, ◌-ℤ◌, refl, sym, ap, ◌∙◌, ⊎_elim, arith, pow-suc, lt-ltb, le-ltb}
use Rattle.std.proofs.lemmas.Int.{ints}
use Rattle.std.proofs.lemmas.Bool.{cases_lt}
use Rattle.bit_terms.specs.Signed.{twos_complement, signed_bits, FitsSigned, signed_of}
use Rattle.bit_terms.proofs.BitsLaws.{length-unsigned_bits}

pub length-signed_bits : (width : ℕ) (value : ℤ) → length (signed_bits width value) ≡ width
length-signed_bits width value = length-unsigned_bits width (twos_complement width value)

-- Half of two to the width and the other half make it whole.
halves : (width : ℕ) → 1 ≤ width → 2 ^ width ≡ 2 * 2 ^ (width - 1)
halves width some = ap (λ n. 2 ^ n) (let e : width ≡ suc (width - 1) = omega arith in e) ∙ omega (arith, pow-suc 2 (width - 1))

-- The number of a signed value that fits a field fits it too.
pub twos_complement-lt : (width : ℕ) (value : ℤ) → 1 ≤ width → FitsSigned width value → twos_complement width value < 2 ^ width
twos_complement-lt width (pos n) some fits = omega (arith, ints, halves width some)
twos_complement-lt width (negsuc n) some fits = omega (arith, ints, halves width some)

-- A number that fits a field stands for a signed value that fits it.
pub FitsSigned-signed_of : (width number : ℕ) → 1 ≤ width → number < 2 ^ width → FitsSigned width (signed_of width number)
FitsSigned-signed_of width number some fits = ⊎_elim below above (cases_lt number (2 ^ (width - 1)))
  where
    below : number < 2 ^ (width - 1) → FitsSigned width (signed_of width number)
    below h = rw (lt-ltb number (2 ^ (width - 1)) h) (omega (arith, ints), omega (arith, ints))

    above : 2 ^ (width - 1) ≤ number → FitsSigned width (signed_of width number)
    above h = rw (le-ltb number (2 ^ (width - 1)) h) (omega (arith, ints, halves width some), omega (arith, ints, halves width some))

-- The two are inverse to each other.
pub signed_of-twos_complement : (width : ℕ) (value : ℤ) → 1 ≤ width → FitsSigned width value → signed_of width (twos_complement width value) ≡ value
signed_of-twos_complement width (pos n) some fits =
    let below : n < 2 ^ (width - 1) = omega (arith, ints) in
    rw (lt-ltb n (2 ^ (width - 1)) below) refl
signed_of-twos_complement width (negsuc n) some fits =
    let above : 2 ^ (width - 1) ≤ 2 ^ width - (n + 1) = omega (arith, ints, halves width some) in
    rw (le-ltb (2 ^ width - (n + 1)) (2 ^ (width - 1)) above) (omega (arith, ints, halves width some))

pub twos_complement-signed_of : (width number : ℕ) → 1 ≤ width → number < 2 ^ width → twos_complement width (signed_of width number) ≡ number
twos_complement-signed_of width number some fits = ⊎_elim below above (cases_lt number (2 ^ (width - 1)))
  where
    minus : (a b : ℕ) → a < b → (pos a -ℤ pos b) ≡ negsuc (b - (a + 1))
    minus a b h = omega (arith, ints)

    below : number < 2 ^ (width - 1) → twos_complement width (signed_of width number) ≡ number
    below h = rw (lt-ltb number (2 ^ (width - 1)) h) refl

    above : 2 ^ (width - 1) ≤ number → twos_complement width (signed_of width number) ≡ number
    above h = rw (le-ltb number (2 ^ (width - 1)) h) (rw (minus number (2 ^ width) fits) (omega arith))
