-- The laws of the bits of a number.
use Rattle.std.proofs.Common.{◌≡◌, ℕ, zero, suc, ◌+◌, ◌*◌, ◌/◌, ◌%◌, ◌^◌, ◌<◌, ◌≤◌, ◌∷◌, ◌++◌, length, ◌==◌, refl, sym, ap, ap₂, ◌∙◌, zero-add, suc-add, arith}
use Rattle.std.proofs.lemmas.Nat.{shr-shr, shr_high, shr_split}
use Rattle.std.proofs.lemmas.Nat.Bits.{bit_at_cat_low}
use Rattle.bit_terms.specs.Bits.{unsigned_bits}

-- A field of `width` bits has `width` bits.
pub length-unsigned_bits : (width value : ℕ) → length (unsigned_bits width value) ≡ width
unfolding unsigned_bits
length-unsigned_bits zero value = refl
length-unsigned_bits (suc width) value = ap suc (length-unsigned_bits width value)

-- The first a of a + b bits are those of the value shifted right by b.
pub unsigned_bits-split : (a b value : ℕ) → unsigned_bits (a + b) value ≡ unsigned_bits a (value / 2 ^ b) ++ unsigned_bits b value
unfolding unsigned_bits
unsigned_bits-split zero b value = ap (λ n. unsigned_bits n value) (zero-add b)
unsigned_bits-split (suc a) b value =
    let place : value / 2 ^ (a + b) ≡ value / 2 ^ b / 2 ^ a = ap (λ n. value / 2 ^ n) (omega arith) ∙ sym (shr-shr value b a) in
    ap (λ n. unsigned_bits n value) (suc-add a b) ∙ ap₂ (λ (bit : ℕ) bits. (bit % 2 == 1) ∷ bits) place (unsigned_bits-split a b value)

-- The lowest bits of a sum with a shifted number are those of the other number.
pub unsigned_bits-low : (n k x y : ℕ) → n ≤ k → unsigned_bits n (x * 2 ^ k + y) ≡ unsigned_bits n y
unfolding unsigned_bits
unsigned_bits-low zero k x y within = refl
unsigned_bits-low (suc n) k x y within =
    ap₂ (λ (bit : ℕ) bits. (bit == 1) ∷ bits) (bit_at_cat_low x k y n within) (unsigned_bits-low n k x y (omega arith))

-- Two fields side by side are one field.
pub unsigned_bits-join : (a b x y : ℕ) → y < 2 ^ b → unsigned_bits (a + b) (x * 2 ^ b + y) ≡ unsigned_bits a x ++ unsigned_bits b y
unsigned_bits-join a b x y below =
    unsigned_bits-split a b (x * 2 ^ b + y) ∙ ap₂ (λ high low. unsigned_bits a high ++ low) (shr_high x b y below) (unsigned_bits-low b b x y (omega arith))

-- Only the lowest `width` bits count.
pub unsigned_bits-mod : (width value : ℕ) → unsigned_bits width (value % 2 ^ width) ≡ unsigned_bits width value
unsigned_bits-mod width value =
    sym (unsigned_bits-low width width (value / 2 ^ width) (value % 2 ^ width) (omega arith)) ∙ ap (unsigned_bits width) (shr_split value width)
