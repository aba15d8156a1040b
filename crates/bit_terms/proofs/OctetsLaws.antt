-- The laws of the bits of octets, and of the number that bits spell.
use Rattle.std.proofs.Common.{◌≡◌, ℕ, zero, suc, ◌+◌, ◌*◌, ◌/◌, ◌%◌, ◌^◌, ◌<◌, List, [], ◌∷◌, ◌++◌, length, get_or, take, drop, Bool, true, false, ◌==◌, refl, sym, ap, ap₂, ◌∙◌, arith, pow-suc, mod-eq_of_lt, length-append}
use Rattle.std.proofs.lemmas.Nat.{mod-pow-add, shr_high}
use Rattle.std.proofs.lemmas.Nat.Bits.{bit_at-lt}
use Rattle.std.proofs.lemmas.List.{take_at, drop_at}
use Rattle.std.proofs.lemmas.List.Concat.{flat_map-append}
use Rattle.std.specs.Int.{bit_at}
use Rattle.bit_terms.specs.Bits.{unsigned_bits}
use Rattle.bit_terms.specs.Octets.{octets_bits, number_spelled}
use Rattle.bit_terms.proofs.BitsLaws.{length-unsigned_bits, unsigned_bits-low}

-- ---- the number that bits spell

-- The number is below two to the number of bits.
pub number_spelled-lt : (bits : List Bool) → number_spelled bits < 2 ^ length bits
unfolding number_spelled
number_spelled-lt [] = omega arith
number_spelled-lt (true ∷ bits) = omega (arith, number_spelled-lt bits, pow-suc 2 (length bits))
number_spelled-lt (false ∷ bits) = omega (arith, number_spelled-lt bits, pow-suc 2 (length bits))

-- One more bit in front counts two to the number of the others.
number_spelled-cons : (bit : ℕ) (bits : List Bool) → bit < 2 → number_spelled ((bit == 1) ∷ bits) ≡ bit * 2 ^ length bits + number_spelled bits
unfolding number_spelled
number_spelled-cons zero bits below = omega arith
number_spelled-cons (suc zero) bits below = omega arith
number_spelled-cons (suc (suc bit)) bits below = omega arith

-- The bits of a field spell its value, or what is left of it at the field's width.
pub number_spelled-unsigned_bits-mod : (width value : ℕ) → number_spelled (unsigned_bits width value) ≡ value % 2 ^ width
unfolding number_spelled unsigned_bits
number_spelled-unsigned_bits-mod zero value = omega arith
number_spelled-unsigned_bits-mod (suc width) value =
    let front = number_spelled-cons (bit_at value width) (unsigned_bits width value) (bit_at-lt value width) in
    let size : 2 ^ length (unsigned_bits width value) ≡ 2 ^ width = ap (λ n. 2 ^ n) (length-unsigned_bits width value) in
    let top : bit_at value width * 2 ^ length (unsigned_bits width value) ≡ bit_at value width * 2 ^ width = ap (λ n. bit_at value width * n) size in
    let whole : value % 2 ^ (1 + width) ≡ bit_at value width * 2 ^ width + value % 2 ^ width = mod-pow-add value 1 width in
    let same : value % 2 ^ suc width ≡ value % 2 ^ (1 + width) = ap (λ n. value % 2 ^ n) (omega arith) in
    omega (arith, front, top, whole, same, number_spelled-unsigned_bits-mod width value)

-- The bits of a field whose value fits spell the value.
pub number_spelled-unsigned_bits : (width value : ℕ) → value < 2 ^ width → number_spelled (unsigned_bits width value) ≡ value
number_spelled-unsigned_bits width value fits = number_spelled-unsigned_bits-mod width value ∙ mod-eq_of_lt fits

-- Bits are those of the number that they spell.
pub unsigned_bits-number_spelled : (bits : List Bool) → unsigned_bits (length bits) (number_spelled bits) ≡ bits
unfolding number_spelled unsigned_bits
unsigned_bits-number_spelled [] = refl
unsigned_bits-number_spelled (true ∷ bits) =
    let one : 2 ^ length bits + number_spelled bits ≡ 1 * 2 ^ length bits + number_spelled bits = omega arith in
    let top : (2 ^ length bits + number_spelled bits) / 2 ^ length bits ≡ 1 = ap (λ n. n / 2 ^ length bits) one ∙ shr_high 1 (length bits) (number_spelled bits) (number_spelled-lt bits) in
    let low = unsigned_bits-low (length bits) (length bits) 1 (number_spelled bits) (omega arith) in
    ap₂ (λ (head : ℕ) rest. (head % 2 == 1) ∷ rest) top (ap (unsigned_bits (length bits)) one ∙ low ∙ unsigned_bits-number_spelled bits)
unsigned_bits-number_spelled (false ∷ bits) =
    let none : number_spelled bits ≡ 0 * 2 ^ length bits + number_spelled bits = omega arith in
    let top : number_spelled bits / 2 ^ length bits ≡ 0 = ap (λ n. n / 2 ^ length bits) none ∙ shr_high 0 (length bits) (number_spelled bits) (number_spelled-lt bits) in
    ap₂ (λ (head : ℕ) rest. (head % 2 == 1) ∷ rest) top (unsigned_bits-number_spelled bits)

-- ---- octets

pub length-octets_bits : (octets : List ℕ) → length (octets_bits octets) ≡ 8 * length octets
length-octets_bits [] = refl
length-octets_bits (octet ∷ octets) =
    omega (arith, length-append (unsigned_bits 8 octet) (octets_bits octets), length-unsigned_bits 8 octet, length-octets_bits octets)

pub octets_bits-append : (front back : List ℕ) → octets_bits (front ++ back) ≡ octets_bits front ++ octets_bits back
octets_bits-append front back = flat_map-append (unsigned_bits 8) front back
