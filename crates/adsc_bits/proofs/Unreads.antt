-- What the reader's steps do to the bits that are left: `count` bits, and whole octets after them.
use Rattle.std.proofs.Common.{◌≡◌, ℕ, ◌+◌, ◌-◌, ◌*◌, ◌/◌, ◌%◌, ◌^◌, ◌<◌, ◌≤◌, List, ◌∷◌, ◌++◌, length, ◌==◌, Bool, Ok, Err, sym, ap, ◌∙◌, arith, length-append, append_assoc}
use Rattle.std.proofs.lemmas.Nat.{shr_below}
use Rattle.std.proofs.lemmas.Bool.Decides.{nat_tests}
use Rattle.std.proofs.Math.Nat.{pow-le-pow_right}
use Rattle.bit_terms.specs.Bits.{unsigned_bits}
use Rattle.bit_terms.specs.Octets.{octets_bits}
use Rattle.bit_terms.specs.Reading.{Unread, taken}
use Rattle.bit_terms.proofs.BitsLaws.{length-unsigned_bits, unsigned_bits-split, unsigned_bits-join, unsigned_bits-mod}
use Rattle.bit_terms.proofs.OctetsLaws.{length-octets_bits}
use Rattle.bit_terms.proofs.ReadingLaws.{taken_again, taken_short}

-- The length of what is left.
pub length_unread : (count pending : ℕ) (rest : List ℕ) (left : List Bool) → unsigned_bits count pending ++ octets_bits rest ≡ left → length left ≡ count + 8 * length rest
length_unread count pending rest left same =
    omega (arith, ap length same, length-append (unsigned_bits count pending) (octets_bits rest), length-octets_bits rest, length-unsigned_bits count pending)

-- The next octet joined to the gathered bits.
pub unread_joined : (count gathered octet : ℕ) (others : List ℕ) → octet < 2 ^ 8
    → unsigned_bits (count + 8) (gathered * 2 ^ 8 + octet) ++ octets_bits others ≡ unsigned_bits count gathered ++ octets_bits (octet ∷ others)
unread_joined count gathered octet others fits =
    ap (λ bits. bits ++ octets_bits others) (unsigned_bits-join count 8 gathered octet fits)
    ∙ append_assoc (unsigned_bits count gathered) (unsigned_bits 8 octet) (octets_bits others)

-- Where enough bits are gathered, the field is their first part.
pub unread_taken : (count width gathered place : ℕ) (rest : List ℕ) (old : Unread) → width ≤ count → gathered < 2 ^ count → unsigned_bits count gathered ++ octets_bits rest ≡ old.left
    → place ≡ old.at
    → taken width old ≡ Ok (gathered / 2 ^ (count - width), record { left = unsigned_bits (count - width) (gathered % 2 ^ (count - width)) ++ octets_bits rest; at = place + width })
unread_taken count width gathered place rest old enough below same here =
    let over : ℕ = count - width in
    let left : List Bool = unsigned_bits over (gathered % 2 ^ over) ++ octets_bits rest in
    let size : 2 ^ count ≡ 2 ^ (width + over) = ap (λ n. 2 ^ n) (omega arith) in
    let fits : gathered / 2 ^ over < 2 ^ width = shr_below gathered width over (omega (arith, size)) in
    let split : unsigned_bits count gathered ≡ unsigned_bits width (gathered / 2 ^ over) ++ unsigned_bits over (gathered % 2 ^ over) =
    ap (λ n. unsigned_bits n gathered) (omega arith) ∙ unsigned_bits-split width over gathered
    ∙ ap (λ low. unsigned_bits width (gathered / 2 ^ over) ++ low) (sym (unsigned_bits-mod over gathered)) in
    let regrouped : old.left ≡ unsigned_bits width (gathered / 2 ^ over) ++ left =
    sym same ∙ ap (λ bits. bits ++ octets_bits rest) split ∙ append_assoc (unsigned_bits width (gathered / 2 ^ over)) (unsigned_bits over (gathered % 2 ^ over)) (octets_bits rest) in
    ap (λ bits. taken width (record { left = bits; at = old.at })) regrouped ∙ taken_again width (gathered / 2 ^ over) old.at left fits
    ∙ ap (λ at. Ok (gathered / 2 ^ over, record { left = left; at = at + width })) (sym here)

-- Where no octet is left and too few bits are gathered, the field is cut short.
pub unread_short : (count width gathered place : ℕ) (rest : List ℕ) (old : Unread) → count < width → length rest ≡ 0 → unsigned_bits count gathered ++ octets_bits rest ≡ old.left
    → place ≡ old.at → taken width old ≡ Err place
unread_short count width gathered place rest old few none same here =
    taken_short width old (omega (arith, length_unread count gathered rest old.left same)) ∙ ap (λ bit. Err bit) (sym here)

-- A field of at most 32 bits fits a number of 32 bits.
pub field_below : (count width gathered : ℕ) → width ≤ count → width ≤ 32 → gathered < 2 ^ count → gathered / 2 ^ (count - width) < 2 ^ 32
field_below count width gathered enough narrow below =
    let size : 2 ^ count ≡ 2 ^ (width + (count - width)) = ap (λ n. 2 ^ n) (omega arith) in
    omega (arith, shr_below gathered width (count - width) (omega (arith, size)), pow-le-pow_right {n = 2} (omega arith) narrow)

-- No bit is left exactly where no bits are pending and no octet is left.
pub none_left : (left pending rest : ℕ) → left ≡ pending + 8 * rest → pending ≡ 0 → (rest == 0) ≡ (left == 0)
none_left left pending rest size none = grind (arith, nat_tests)
