-- Sums of polynomials, and that long division leaves a remainder.
use Rattle.std.proofs.Common.{◌≡◌, ℕ, zero, suc, ◌+◌, ◌≤◌, Bool, true, false, List, [], ◌∷◌, ◌++◌, length, take, drop, replicate, refl, sym, ap, ◌∙◌, arith, zero-add}
use Rattle.std.proofs.lemmas.List.{length-append, length-drop}
use Rattle.acars_envelope.specs.Check.{bit_sum, add_at_front, generator_rest, divided, times_generator, IsRemainder}

-- the order in which two coefficients are added to a third does not matter
bit_sum_swap : (a b c : Bool) → bit_sum (bit_sum a b) c ≡ bit_sum (bit_sum a c) b
bit_sum_swap false false false = refl
bit_sum_swap false false true = refl
bit_sum_swap false true false = refl
bit_sum_swap false true true = refl
bit_sum_swap true false false = refl
bit_sum_swap true false true = refl
bit_sum_swap true true false = refl
bit_sum_swap true true true = refl

bit_sum_twice : (a b : Bool) → bit_sum (bit_sum a b) b ≡ a
bit_sum_twice false false = refl
bit_sum_twice false true = refl
bit_sum_twice true false = refl
bit_sum_twice true true = refl

bit_sum_assoc : (a b c : Bool) → bit_sum (bit_sum a b) c ≡ bit_sum a (bit_sum b c)
bit_sum_assoc false b c = refl
bit_sum_assoc true false c = refl
bit_sum_assoc true true false = refl
bit_sum_assoc true true true = refl

pub bit_sum_none : (a : Bool) → bit_sum a false ≡ a
bit_sum_none false = refl
bit_sum_none true = refl

-- nothing added
pub add_nothing : (p : List Bool) → add_at_front p [] ≡ p
add_nothing [] = refl
add_nothing (a ∷ p) = refl

-- the order of two addends does not matter
pub add_swap : (p q r : List Bool) → add_at_front (add_at_front p q) r ≡ add_at_front (add_at_front p r) q
add_swap [] q r = refl
add_swap (a ∷ p) [] r = sym (add_nothing (add_at_front (a ∷ p) r))
add_swap (a ∷ p) (b ∷ q) [] = refl
add_swap (a ∷ p) (b ∷ q) (c ∷ r) = cc (bit_sum_swap a b c, add_swap p q r)

-- what is added twice cancels
pub add_twice : (p q : List Bool) → add_at_front (add_at_front p q) q ≡ p
add_twice [] q = refl
add_twice (a ∷ p) [] = refl
add_twice (a ∷ p) (b ∷ q) = cc (bit_sum_twice a b, add_twice p q)

-- two addends of one length may be added first
pub add_assoc_same : (p q r : List Bool) → length q ≡ length r
    → add_at_front (add_at_front p q) r ≡ add_at_front p (add_at_front q r)
add_assoc_same [] q r same = refl
add_assoc_same (a ∷ p) [] [] same = refl
add_assoc_same (a ∷ p) [] (c ∷ r) same = absurd (omega arith)
add_assoc_same (a ∷ p) (b ∷ q) [] same = absurd (omega arith)
add_assoc_same (a ∷ p) (b ∷ q) (c ∷ r) same =
    let tail : add_at_front (add_at_front p q) r ≡ add_at_front p (add_at_front q r) = add_assoc_same p q r (omega arith) in
    cc (bit_sum_assoc a b c)

pub length-add : (p q : List Bool) → length (add_at_front p q) ≡ length p
length-add [] q = refl
length-add (a ∷ p) [] = refl
length-add (a ∷ p) (b ∷ q) = ap suc (length-add p q)

-- zeros take whatever is added to them
pub add_to_zeros : (n : ℕ) (q : List Bool) → length q ≡ n → add_at_front (replicate n false) q ≡ q
add_to_zeros zero [] same = refl
add_to_zeros zero (b ∷ q) same = absurd (omega arith)
add_to_zeros (suc n) [] same = absurd (omega arith)
add_to_zeros (suc n) (b ∷ q) same = ap (λ (rest : List Bool). b ∷ rest) (add_to_zeros n q (omega arith))

-- no addend, and zeros added, change nothing
add_zeros : (n : ℕ) (p : List Bool) → add_at_front p (replicate n false) ≡ p
add_zeros zero p = add_nothing p
add_zeros (suc n) [] = refl
add_zeros (suc n) (a ∷ p) = rw (bit_sum_none a, add_zeros n p) refl

-- zeros behind an addend change nothing
pub add_with_zeros_behind : (n : ℕ) (p q : List Bool) → add_at_front p (q ++ replicate n false) ≡ add_at_front p q
add_with_zeros_behind n [] q = refl
add_with_zeros_behind n (a ∷ p) [] = add_zeros n (a ∷ p)
add_with_zeros_behind n (a ∷ p) (b ∷ q) = ap (λ (s : List Bool). bit_sum a b ∷ s) (add_with_zeros_behind n p q)

-- an addend of no more than n coefficients, filled up to n by zeros
add_filled : (n : ℕ) (p q : List Bool) → length q ≤ n → add_at_front p (add_at_front (replicate n false) q) ≡ add_at_front p q
add_filled n p [] few = rw (add_nothing (replicate n false), add_zeros n p, add_nothing p) refl
add_filled zero p (b ∷ q) few = absurd (omega arith)
add_filled (suc n) [] (b ∷ q) few = refl
add_filled (suc n) (a ∷ p) (b ∷ q) few = ap (λ (s : List Bool). bit_sum a b ∷ s) (add_filled n p q (omega arith))

-- a sum with two pieces, piece by piece
pub add_to_pieces : (p rest q : List Bool)
    → add_at_front (p ++ rest) q ≡ add_at_front p (take (length p) q) ++ add_at_front rest (drop (length p) q)
add_to_pieces [] rest q = refl
add_to_pieces (a ∷ p) rest [] = rw (add_nothing rest) refl
add_to_pieces (a ∷ p) rest (b ∷ q) = ap (λ (s : List Bool). bit_sum a b ∷ s) (add_to_pieces p rest q)

-- each step of division takes one coefficient away
pub length-divided : (n m : ℕ) (p : List Bool) → length p ≡ n + m → length (divided n p) ≡ m
length-divided zero m p size = omega arith
length-divided (suc n) m [] size = absurd (omega arith)
length-divided (suc n) m (false ∷ p) size = length-divided n m p (omega arith)
length-divided (suc n) m (true ∷ p) size = length-divided n m (add_at_front p generator_rest) (omega (arith, length-add p generator_rest))

-- Division past the first coefficients goes on as division of what follows, with the remainder of those first ones times
-- x^16 added.
pub divided_past : (m n : ℕ) (first rest : List Bool) → length first ≡ m
    → divided (m + n) (first ++ rest) ≡ divided n (add_at_front rest (divided m (first ++ replicate 16 false)))
divided_past zero n [] rest size = rw (zero-add n, add_zeros 16 rest) refl
divided_past zero n (a ∷ first) rest size = absurd (omega arith)
divided_past (suc m) n [] rest size = absurd (omega arith)
divided_past (suc m) n (false ∷ first) rest size =
    let one_more : suc m + n ≡ suc (m + n) = omega arith in
    rw one_more (divided_past m n first rest (omega arith))
divided_past (suc m) n (true ∷ first) rest size =
    let one_more : suc m + n ≡ suc (m + n) = omega arith in
    let same : length first ≡ m = omega arith in
    let lower = add_at_front first (take (length first) generator_rest) in
    let beyond = drop (length first) generator_rest in
    let zeros : List Bool = replicate 16 false in
    let left = divided m (lower ++ zeros) in
    let size' : length lower ≡ m = omega (arith, length-add first (take (length first) generator_rest)) in
    let few : length beyond ≤ 16 = omega (arith, length-drop (length first) generator_rest) in
    let zeros_size : length (add_at_front zeros beyond) ≡ 16 = length-add zeros beyond in
    let left_size : length left ≡ 16 = length-divided m 16 (lower ++ zeros) (omega (arith, length-append lower zeros)) in
    let no_more : m + 0 ≡ m = omega arith in
    let whole : divided (m + n) (add_at_front (first ++ rest) generator_rest) ≡ divided n (add_at_front (add_at_front rest beyond) left) =
    rw (add_to_pieces first rest generator_rest) (divided_past m n lower (add_at_front rest beyond) size') in
    let alone : divided m (add_at_front (first ++ zeros) generator_rest) ≡ add_at_front (add_at_front zeros beyond) left =
    rw (add_to_pieces first zeros generator_rest) (rw no_more at (divided_past m 0 lower (add_at_front zeros beyond) size')) in
    let joined : add_at_front rest (add_at_front (add_at_front zeros beyond) left) ≡ add_at_front (add_at_front rest beyond) left =
    sym (add_assoc_same rest (add_at_front zeros beyond) left (omega arith))
    ∙ ap (λ (s : List Bool). add_at_front s left) (add_filled 16 rest beyond few) in
    rw one_more (whole ∙ ap (divided n) (sym joined ∙ ap (add_at_front rest) (sym alone)))

-- a step of division with the generator taken off, undone
taken_off : (p t z : List Bool) → add_at_front p generator_rest ≡ add_at_front t z
    → p ≡ add_at_front (add_at_front t generator_rest) z
taken_off p t z e =
    sym (add_twice p generator_rest) ∙ ap (λ (s : List Bool). add_at_front s generator_rest) e ∙ add_swap t z generator_rest

-- long division leaves a remainder
pub divided_leaves : (n : ℕ) (p : List Bool) → length p ≡ n + 16 → IsRemainder p (divided n p)
divided_leaves zero p size =
    let long : length p ≡ 16 = omega arith in
    record { quotient = []; below = long; whole = sym (add_to_zeros 16 p long) }
divided_leaves (suc n) [] size = absurd (omega arith)
divided_leaves (suc n) (false ∷ p) size =
    let rest = divided_leaves n p (omega arith) in
    record {
      quotient = false ∷ rest.quotient;
      below = rest.below;
      whole = ap (λ (s : List Bool). false ∷ s) rest.whole;
    }
divided_leaves (suc n) (true ∷ p) size =
    let rest = divided_leaves n (add_at_front p generator_rest) (omega (arith, length-add p generator_rest)) in
    record {
      quotient = true ∷ rest.quotient;
      below = rest.below;
      whole = ap (λ (s : List Bool). true ∷ s) (taken_off p (times_generator rest.quotient) (replicate (length rest.quotient) false ++ divided n (add_at_front p generator_rest)) rest.whole);
    }
