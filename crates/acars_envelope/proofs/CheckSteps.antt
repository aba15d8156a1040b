-- The register of the check code against long division.
use Rattle.std.proofs.Common.{◌≡◌, ℕ, zero, suc, ◌+◌, ◌-◌, ◌*◌, ◌/◌, ◌%◌, ◌^◌, ◌<◌, ◌≤◌, ◌==◌, Bool, true, false, not, List, [], ◌∷◌, ◌++◌, length, take, get_or, replicate, map, refl, sym, ap, ap₂, ◌∙◌, arith, add-zero, zero-add, lit<}
use Rattle.std.specs.Int.{bit_at, bit_not, w16}
use Rattle.std.specs.Int.Bits.{bit_xor}
use Rattle.std.proofs.lemmas.Nat.Bits.{bit_at_xor, bit_at_not, bit_at-lt, bit_at-zero}
use Rattle.std.proofs.lemmas.Nat.{xor_comm}
use Rattle.std.proofs.lemmas.List.{append_assoc, append-nil, length-append, take_more, take_at, drop_at}
use Rattle.bit_terms.specs.Bits.{unsigned_bits}
use Rattle.bit_terms.specs.Octets.{octets_bits, number_spelled}
use Rattle.bit_terms.proofs.BitsLaws.{length-unsigned_bits, unsigned_bits-split, unsigned_bits-join, unsigned_bits-mod}
use Rattle.bit_terms.proofs.OctetsLaws.{octets_bits-append, number_spelled-unsigned_bits}
use Rattle.acars_envelope.specs.Check.{bit_sum, add_at_front, divided, dividend, check_of, octet_remainder}
use Rattle.acars_envelope.specs.Register.{Absorbs}
use Rattle.acars_envelope.proofs.DivisionLaws.{add_assoc_same, add_to_pieces, add_to_zeros, add_with_zeros_behind, divided_past}

-- the bits of 0
unsigned_bits_of_zero : (width : ℕ) → unsigned_bits width 0 ≡ replicate width false
unfolding unsigned_bits
unsigned_bits_of_zero zero = refl
unsigned_bits_of_zero (suc width) = ap₂ (λ (bit : ℕ) bits. (bit == 1) ∷ bits) (bit_at-zero width) (unsigned_bits_of_zero width)

-- one bit of a sum without carries
bit_of_sum : (a b : ℕ) → a < 2 → b < 2 → ((a + b) % 2 == 1) ≡ bit_sum (a == 1) (b == 1)
bit_of_sum zero zero la lb = refl
bit_of_sum zero (suc zero) la lb = refl
bit_of_sum zero (suc (suc b)) la lb = absurd (omega arith)
bit_of_sum (suc zero) zero la lb = refl
bit_of_sum (suc zero) (suc zero) la lb = refl
bit_of_sum (suc zero) (suc (suc b)) la lb = absurd (omega arith)
bit_of_sum (suc (suc a)) b la lb = absurd (omega arith)

-- the bits of `a ^ b` are those of a with those of b added
pub unsigned_bits-xor : (width a b : ℕ) → unsigned_bits width (bit_xor a b) ≡ add_at_front (unsigned_bits width a) (unsigned_bits width b)
unfolding unsigned_bits
unsigned_bits-xor zero a b = refl
unsigned_bits-xor (suc width) a b =
    let top : (bit_at (bit_xor a b) width == 1) ≡ bit_sum (bit_at a width == 1) (bit_at b width == 1) =
    rw (bit_at_xor a b width) (bit_of_sum (bit_at a width) (bit_at b width) (bit_at-lt a width) (bit_at-lt b width)) in
    cc (unsigned_bits-xor width a b)

-- one bit, turned round
bit_of_not : (a : ℕ) → a < 2 → (1 - a == 1) ≡ not (a == 1)
bit_of_not zero la = refl
bit_of_not (suc zero) la = refl
bit_of_not (suc (suc a)) la = absurd (omega arith)

-- the lowest bits of `!n` are those of n turned round
unsigned_bits-not_below : (width n : ℕ) → n < 2 ^ 16 → width ≤ 16 → map not (unsigned_bits width n) ≡ unsigned_bits width (bit_not w16 n)
unfolding unsigned_bits
unsigned_bits-not_below zero n fits within = refl
unsigned_bits-not_below (suc width) n fits within =
    let top : (bit_at (bit_not w16 n) width == 1) ≡ not (bit_at n width == 1) =
    rw (bit_at_not w16 n width fits (omega arith)) (bit_of_not (bit_at n width) (bit_at-lt n width)) in
    cc (unsigned_bits-not_below width n fits (omega arith))

-- no bits change nothing
pub absorbs_nothing : (r : ℕ) → Absorbs r [] r
absorbs_nothing r = record { by = λ n rest. rw (zero-add n) refl }

-- some bits and then others
pub absorbs_then : (r s t : ℕ) (a b : List Bool) → Absorbs r a s → Absorbs s b t → Absorbs r (a ++ b) t
absorbs_then r s t a b first second = record {
  by = λ n rest.
      let size : length (a ++ b) + n ≡ length a + (length b + n) = omega (arith, length-append a b) in
      rw (size, append_assoc a b rest) (first.by (length b + n) (b ++ rest) ∙ second.by n rest);
}

-- the register that division begins with: ones alone
start_bits : unsigned_bits 16 65535 ≡ replicate 16 true
unfolding unsigned_bits
start_bits = refl

-- The complement of the register that has taken in a message's bits is the message's check code.
pub check_from_register : (octets : List ℕ) (register : ℕ) → register < 2 ^ 16 → Absorbs 65535 (octets_bits octets) register
    → bit_not w16 register ≡ check_of octets
check_from_register octets register fits absorbs =
    let message = octets_bits octets in
    let all_steps : divided (length message) (dividend message) ≡ unsigned_bits 16 register =
    rw (add-zero (length message), start_bits) at (absorbs.by 0 (replicate 16 false))
    ∙ add_to_zeros 16 (unsigned_bits 16 register) (length-unsigned_bits 16 register) in
    let turned : bit_not w16 register < 2 ^ 16 = omega arith in
    sym (
    ap (λ (left : List Bool). number_spelled (map not left)) all_steps
    ∙ ap number_spelled (unsigned_bits-not_below 16 register fits (omega arith))
    ∙ number_spelled-unsigned_bits 16 (bit_not w16 register) turned)

-- The step of the register: its upper half and the octet are divided at once, by the remainder of their sum.
pub absorbs_octet : (r octet upper left after : ℕ) → upper ≡ r / 2 ^ 8 → after ≡ bit_xor (r % 2 ^ 8 * 2 ^ 8) left
    → unsigned_bits 16 left ≡ octet_remainder (bit_xor upper octet) → Absorbs r (unsigned_bits 8 octet) after
absorbs_octet r octet upper left after is_upper is_after is_left =
    let bits = unsigned_bits 8 octet in
    let high = unsigned_bits 8 (r / 2 ^ 8) in
    let low = unsigned_bits 8 r in
    let zeros : List Bool = replicate 8 false in
    let L = unsigned_bits 16 left in
    let eight : length bits ≡ 8 = length-unsigned_bits 8 octet in
    let as_long : length high ≡ length bits = length-unsigned_bits 8 (r / 2 ^ 8) ∙ sym eight in
    let sum : add_at_front bits high ≡ unsigned_bits 8 (bit_xor upper octet) =
    sym (unsigned_bits-xor 8 octet (r / 2 ^ 8)) ∙ ap (unsigned_bits 8) (xor_comm octet (r / 2 ^ 8) ∙ ap (λ (u : ℕ). bit_xor u octet) (sym is_upper)) in
    let moved : unsigned_bits 16 (r % 2 ^ 8 * 2 ^ 8) ≡ low ++ zeros =
    ap (unsigned_bits 16) (sym (add-zero (r % 2 ^ 8 * 2 ^ 8)))
    ∙ unsigned_bits-join 8 8 (r % 2 ^ 8) 0 (lit< tt)
    ∙ rw (unsigned_bits-mod 8 r, unsigned_bits_of_zero 8) refl in
    let after_bits : unsigned_bits 16 after ≡ add_at_front (low ++ zeros) L =
    ap (unsigned_bits 16) is_after ∙ unsigned_bits-xor 16 (r % 2 ^ 8 * 2 ^ 8) left ∙ ap (λ (s : List Bool). add_at_front s L) moved in
    let size : length (low ++ zeros) ≡ length L =
    omega (arith, length-append low zeros, length-unsigned_bits 8 r, length-unsigned_bits 16 left) in
    record {
      by = λ n rest.
          let pieces : add_at_front (bits ++ rest) (unsigned_bits 16 r) ≡ unsigned_bits 8 (bit_xor upper octet) ++ add_at_front rest low =
          ap (add_at_front (bits ++ rest)) (unsigned_bits-split 8 8 r)
          ∙ add_to_pieces bits rest (high ++ low)
          ∙ rw (take_at high low (length bits) as_long, drop_at high low (length bits) as_long, sum) refl in
          let joined : add_at_front rest (unsigned_bits 16 after) ≡ add_at_front (add_at_front rest low) L =
          ap (add_at_front rest) after_bits
          ∙ sym (add_assoc_same rest (low ++ zeros) L size)
          ∙ ap (λ (s : List Bool). add_at_front s L) (add_with_zeros_behind 8 rest low) in
          rw (eight, pieces, joined, is_left) (divided_past 8 n (unsigned_bits 8 (bit_xor upper octet)) (add_at_front rest low) (length-unsigned_bits 8 (bit_xor upper octet)));
    }

-- the loop over octets, one octet on
pub absorbs_next_octet : (r s t : ℕ) (octets : List ℕ) (i octet : ℕ) → i < length octets → octet ≡ get_or octets i 0
    → Absorbs r (octets_bits (take i octets)) s → Absorbs s (unsigned_bits 8 octet) t
    → Absorbs r (octets_bits (take (i + 1) octets)) t
absorbs_next_octet r s t octets i octet below is before step =
    let bits : octets_bits (take (i + 1) octets) ≡ octets_bits (take i octets) ++ unsigned_bits 8 octet =
    rw (take_more octets i 0 below, octets_bits-append (take i octets) (get_or octets i 0 ∷ []), ← is, append-nil (unsigned_bits 8 octet)) refl in
    rw bits (absorbs_then r s t _ _ before step)

-- the check code of two pieces, and of three, taken in one after another
pub check_of_two : (a b : List ℕ) (r s : ℕ) → s < 2 ^ 16 → Absorbs 65535 (octets_bits a) r → Absorbs r (octets_bits b) s
    → bit_not w16 s ≡ check_of (a ++ b)
check_of_two a b r s fits first second =
    check_from_register (a ++ b) s fits (rw (octets_bits-append a b) (absorbs_then 65535 r s (octets_bits a) (octets_bits b) first second))

pub check_of_three : (a b c : List ℕ) (r s t : ℕ) → t < 2 ^ 16
    → Absorbs 65535 (octets_bits a) r → Absorbs r (octets_bits b) s → Absorbs s (octets_bits c) t
    → bit_not w16 t ≡ check_of (a ++ b ++ c)
check_of_three a b c r s t fits first second third =
    check_of_two (a ++ b) c s t fits
    (rw (octets_bits-append a b) (absorbs_then 65535 r s (octets_bits a) (octets_bits b) first second)) third
