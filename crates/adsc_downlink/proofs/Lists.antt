-- Lists that are gone through from the front.
use Rattle.std.proofs.Common.{◌≡◌, ℕ, ◌+◌, ◌*◌, ◌<◌, ◌≤◌, Bool, List, ◌++◌, length, map, flat_map, get_or, drop, refl, sym, ap, ◌∙◌, add-one, append_assoc, length-append, drop-cons, arith}
use Rattle.bit_terms.specs.Bits.{unsigned_bits}
use Rattle.bit_terms.specs.Octets.{octets_bits}
use Rattle.bit_terms.proofs.BitsLaws.{length-unsigned_bits}

-- What stands from an element on: its bits, and those of the others.
pub from_here : {A B : Type 0} (f : B → List Bool) (g : A → B) (xs : List A) (i : ℕ) (d : A) → i < length xs
    → flat_map f (map g (drop i xs)) ≡ f (g (get_or xs i d)) ++ flat_map f (map g (drop (i + 1) xs))
from_here f g xs i d here = rw (add-one, drop-cons xs i d) refl

-- One more element was written: what was to be written is the same.
pub one_more : {A B : Type 0} (f : B → List Bool) (g : A → B) (xs : List A) (i : ℕ) (d : A) (before now whole : List Bool) → i < length xs
    → before ++ flat_map f (map g (drop i xs)) ≡ whole → now ≡ before ++ f (g (get_or xs i d)) → now ++ flat_map f (map g (drop (i + 1) xs)) ≡ whole
one_more f g xs i d before now whole here left wrote =
    ap (λ bits. bits ++ flat_map f (map g (drop (i + 1) xs))) wrote
    ∙ append_assoc before (f (g (get_or xs i d))) (flat_map f (map g (drop (i + 1) xs)))
    ∙ ap (λ bits. before ++ bits) (sym (from_here f g xs i d here))
    ∙ left

-- Its length, in between.
pub room_for : {A B : Type 0} (f : B → List Bool) (g : A → B) (xs : List A) (i : ℕ) (d : A) (before whole : List Bool) → i < length xs
    → before ++ flat_map f (map g (drop i xs)) ≡ whole → length before + length (f (g (get_or xs i d))) ≤ length whole
room_for f g xs i d before whole here left =
    omega (
      arith,
      ap length left,
      length-append before (flat_map f (map g (drop i xs))),
      ap length (from_here f g xs i d here),
      length-append (f (g (get_or xs i d))) (flat_map f (map g (drop (i + 1) xs))),
    )

pub room_for_item : {A B : Type 0} (f : B → List Bool) (g : A → B) (xs : List A) (i : ℕ) (x : A) (before whole : List Bool) → i < length xs
    → x ≡ get_or xs i x → before ++ flat_map f (map g (drop i xs)) ≡ whole → length before + length (f (g x)) ≤ length whole
room_for_item f g xs i x before whole here is left = omega (arith, room_for f g xs i x before whole here left, ap (λ y. length (f (g y))) is)

-- One more element was counted.
pub one_counted : {A B : Type 0} (f : B → List Bool) (g : A → B) (xs : List A) (i : ℕ) (d : A) (size more whole : ℕ) → i < length xs
    → 8 * size + length (flat_map f (map g (drop i xs))) ≡ whole → 8 * more ≡ length (f (g (get_or xs i d)))
    → 8 * (size + more) + length (flat_map f (map g (drop (i + 1) xs))) ≡ whole
one_counted f g xs i d size more whole here left counted =
    omega (arith, ap length (from_here f g xs i d here), length-append (f (g (get_or xs i d))) (flat_map f (map g (drop (i + 1) xs))))

-- There is room for one more octet of those that are still to be written.
pub room_for_octet : (octets : List ℕ) (i : ℕ) (before whole : List Bool) → i < length octets → before ++ octets_bits (drop i octets) ≡ whole → length before + 8 ≤ length whole
room_for_octet octets i before whole here left =
    let first : octets_bits (drop i octets) ≡ unsigned_bits 8 (get_or octets i 0) ++ octets_bits (drop (i + 1) octets) = rw (add-one, drop-cons octets i 0) refl in
    omega (
      arith,
      ap length left,
      length-append before (octets_bits (drop i octets)),
      ap length first,
      length-append (unsigned_bits 8 (get_or octets i 0)) (octets_bits (drop (i + 1) octets)),
      length-unsigned_bits 8 (get_or octets i 0),
    )
