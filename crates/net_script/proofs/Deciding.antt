-- Facts that hold or don't, and the first place where one doesn't.
use Rattle.std.proofs.Common.{◌≡◌, ◌⊎◌, ◌<◌, ◌≤◌, ℕ, ℤ, zero, suc, Bool, true, false, T, List, ◌≤ℤ◌, refl, subst, arith, inl, inr}
use Rattle.std.specs.Bool.{Decides}
use Rattle.std.specs.Int.Signed.{le_z, le_z_yes}
use Rattle.std.specs.List.{AllPass, list_all}
use Rattle.std.proofs.lemmas.Bool.{cases_lt}
use Rattle.std.proofs.lemmas.List.Sums.{AllPass-from_list_all, list_all-from_AllPass}
use Rattle.std.proofs.lemmas.Slice.Eq.{bytes_eq-Decides}

-- The fact holds or doesn't.
abbrev pub IsDecided : Type 0 → Type 0
IsDecided P = P ⊎ ¬ P

-- ---- facts made of others

-- A fact that says the same.
pub decided_as : (P Q : Type 0) → (P → Q) → (Q → P) → IsDecided P → IsDecided Q
decided_as P Q to back (inl is) = inl (to is)
decided_as P Q to back (inr none) = inr (λ is. none (back is))

pub decided_and : (P Q : Type 0) → IsDecided P → IsDecided Q → IsDecided (P × Q)
decided_and P Q (inl one) (inl other) = inl (one, other)
decided_and P Q (inl one) (inr none) = inr (λ both. none both.1)
decided_and P Q (inr none) other = inr (λ both. none both.0)

pub decided_or : (P Q : Type 0) → IsDecided P → IsDecided Q → IsDecided (P ⊎ Q)
decided_or P Q (inl is) other = inl (inl is)
decided_or P Q (inr none) (inl is) = inl (inr is)
decided_or P Q (inr none) (inr nor) = inr neither
  where
    neither : P ⊎ Q → ⊥
    neither (inl is) = none is
    neither (inr is) = nor is

pub decided_if : (P Q : Type 0) → IsDecided P → IsDecided Q → IsDecided (P → Q)
decided_if P Q one (inl is) = inl (λ given. is)
decided_if P Q (inl given) (inr none) = inr (λ leads. none (leads given))
decided_if P Q (inr never) (inr none) = inl (λ given. absurd (never given))

pub decided_not : (P : Type 0) → IsDecided P → IsDecided (¬ P)
decided_not P (inl is) = inr (λ none. none is)
decided_not P (inr none) = inl none

-- What isn't false of a decided fact is true.
pub not_none : (P : Type 0) → IsDecided P → ¬ ¬ P → P
not_none P (inl is) some = is
not_none P (inr none) some = absurd (some none)

-- ---- facts by a test

pub by_test : (test : Bool) (P : Type 0) → Decides test P → IsDecided P
by_test true P tells = inl (tells.0 refl)
by_test false P tells = inr (λ is. let passed : false ≡ true = tells.1 is in absurd (cc))

decided_T : (test : Bool) → IsDecided (T test)
decided_T true = inl tt
decided_T false = inr (λ failed. failed)

pub decided_le : (m n : ℕ) → IsDecided (m ≤ n)
decided_le m n = elim (cases_lt n m) [
  | inl above ↦ inr (λ below. omega arith)
  | inr below ↦ inl below
]

pub decided_le_z : (y z : ℤ) → IsDecided (y ≤ℤ z)
decided_le_z y z = decided_as (T (le_z y z)) (y ≤ℤ z) (λ is. le_z_yes is) (λ is. is.le) (decided_T (le_z y z))

pub decided_true : (test : Bool) → IsDecided (test ≡ true)
decided_true true = inl refl
decided_true false = inr (λ is. absurd (cc))

pub decided_text : (one other : List ℕ) → IsDecided (one ≡ other)
decided_text one other = by_test _ (one ≡ other) (bytes_eq-Decides one other)

pub decided_pass : (test : ℕ → Bool) (text : List ℕ) → IsDecided (AllPass test text)
decided_pass test text =
    decided_as (list_all test text ≡ true) (AllPass test text) (AllPass-from_list_all test text) (list_all-from_AllPass test text)
    (decided_true (list_all test text))

-- ---- places

-- The first place where the fact doesn't hold.
pub record IsFirstNot (P : ℕ → Type 0) (place : ℕ) : Type 0 where
  pub wrong : ¬ P place
  pub before : (k : ℕ) → k < place → P k

-- The fact holds at each of the first n places, or there is a first where it doesn't.
abbrev pub AllOrFirst : (ℕ → Type 0) → ℕ → Type 0
AllOrFirst P n = ((k : ℕ) → k < n → P k) ⊎ ((place : ℕ) × (place < n) × IsFirstNot P place)

pub all_or_first : (P : ℕ → Type 0) → ((k : ℕ) → IsDecided (P k)) → (n : ℕ) → AllOrFirst P n
all_or_first P decide zero = inl (λ k below. absurd (omega arith))
all_or_first P decide (suc n) = next (all_or_first P decide n) (decide n)
  where
    next : AllOrFirst P n → IsDecided (P n) → AllOrFirst P (suc n)
    next (inr (place, below, first)) last = inr (place, omega arith, first)
    next (inl all) (inr wrong) = inr (n, omega arith, record { wrong = wrong; before = all })
    next (inl all) (inl last) = inl each
      where
        each : (k : ℕ) → k < suc n → P k
        each k below = elim (cases_lt k n) [
          | inl lower ↦ all k lower
          | inr above ↦ let same : n ≡ k = omega arith in subst P same last
        ]

-- Whether it holds at each place.
pub decided_below : (P : ℕ → Type 0) → ((k : ℕ) → IsDecided (P k)) → (n : ℕ) → IsDecided ((k : ℕ) → k < n → P k)
decided_below P decide n = elim (all_or_first P decide n) [
  | inl all ↦ inl all
  | inr first ↦ inr (λ all. first.2.wrong (all first.0 first.1))
]
