-- What holds of each item of a list, by its place.
use Rattle.std.proofs.Common.{◌≡◌, ℕ, zero, suc, List, [], ◌∷◌, ◌++◌, length, set, slice_get, Some, subst}

-- one is the other where each is there
same_item : {A : Type 0} (one other : A) → Some one ≡ Some other → one ≡ other
same_item one other e = cc

-- What holds of each item, and of one behind them, holds of all.
pub pushed_each : {A : Type 0} (P : ℕ → A → Type 0) (all : List A) (one : A) → ((place : ℕ) (item : A) → slice_get all place ≡ Some item → P place item)
    → P (length all) one → (place : ℕ) (item : A) → slice_get (all ++ one ∷ []) place ≡ Some item → P place item
pushed_each P [] one each last zero item there = subst (P 0) (same_item one item there) last
pushed_each P [] one each last (suc place) item there = absurd (cc)
pushed_each P (first ∷ all) one each last zero item there = each 0 item there
pushed_each P (first ∷ all) one each last (suc place) item there =
    pushed_each (λ n. P (suc n)) all one (λ n found is. each (suc n) found is) last place item there

-- What holds of each item, and of the one that is put at a place, holds of all.
pub put_each : {A : Type 0} (P : ℕ → A → Type 0) (all : List A) (at : ℕ) (one : A) → ((place : ℕ) (item : A) → slice_get all place ≡ Some item → P place item)
    → P at one → (place : ℕ) (item : A) → slice_get (set all at one) place ≡ Some item → P place item
put_each P [] at one each here place item there = absurd (cc)
put_each P (first ∷ all) zero one each here zero item there = subst (P 0) (same_item one item there) here
put_each P (first ∷ all) zero one each here (suc place) item there = each (suc place) item there
put_each P (first ∷ all) (suc at) one each here zero item there = each 0 item there
put_each P (first ∷ all) (suc at) one each here (suc place) item there =
    put_each (λ n. P (suc n)) all at one (λ n found is. each (suc n) found is) here place item there
