-- Links by rising number: what is among them, how many they are, and one link more or less.
use Rattle.std.proofs.Common.{◌≡◌, ℕ, suc, ◌<◌, ◌≤◌, ◌==◌, Bool, true, false, cond, not, ◌||◌, nat_eq, nat_lt, List, [], ◌∷◌, length, eqb, refl, ap, sym, ◌∙◌, arith}
use Rattle.std.specs.List.{AllByRecursion, IsDistinct, list_any}
use Rattle.std.proofs.lemmas.Bool.{eqb-false, le-ltb, ltb-true, ltb-false}
use Rattle.contract_rules.specs.LiveLinks.{without}
use Rattle.contract_rules.proofs.AtMostFive.{all_without}
use Rattle.contract_table.specs.Places.{IsRising}
use Rattle.contract_table.specs.Tables.{placed, rising}

-- ---- what is among them

pub all_placed : (P : ℕ → Type 0) (link : ℕ) (links : List ℕ) → P link → AllByRecursion P links → AllByRecursion P (placed link links)
all_placed P link [] here all = (here, tt)
all_placed P link (next ∷ links) here all = by (nat_lt next link) (all_placed P link links here all.1)
  where
    by : (b : Bool) → AllByRecursion P (placed link links) → AllByRecursion P (cond b (next ∷ placed link links) (link ∷ next ∷ links))
    by true rest = (all.0, rest)
    by false rest = (here, all)

pub all_rising : (P : ℕ → Type 0) (links : List ℕ) → AllByRecursion P links → AllByRecursion P (rising links)
all_rising P [] all = tt
all_rising P (link ∷ links) all = all_placed P link (rising links) all.0 (all_rising P links all.1)

pub among_placed : (this link : ℕ) (links : List ℕ) → list_any (nat_eq this) (placed link links) ≡ (nat_eq this link || list_any (nat_eq this) links)
among_placed this link [] = refl
among_placed this link (next ∷ links) = by (nat_lt next link) (among_placed this link links)
  where
    turned : (a b c : Bool) → (a || (b || c)) ≡ (b || (a || c))
    turned true true c = refl
    turned true false c = refl
    turned false b c = refl

    by : (b : Bool) → list_any (nat_eq this) (placed link links) ≡ (nat_eq this link || list_any (nat_eq this) links)
        → list_any (nat_eq this) (cond b (next ∷ placed link links) (link ∷ next ∷ links)) ≡ (nat_eq this link || (nat_eq this next || list_any (nat_eq this) links))
    by true rest = ap (λ x. nat_eq this next || x) rest ∙ turned (nat_eq this next) (nat_eq this link) (list_any (nat_eq this) links)
    by false rest = refl

pub among_rising : (this : ℕ) (links : List ℕ) → list_any (nat_eq this) (rising links) ≡ list_any (nat_eq this) links
among_rising this [] = refl
among_rising this (link ∷ links) = among_placed this link (rising links) ∙ ap (λ x. nat_eq this link || x) (among_rising this links)

-- ---- their order

raised : (low high : ℕ) (links : List ℕ) → low < high → AllByRecursion (λ other. high < other) links → AllByRecursion (λ other. low < other) links
raised low high [] below all = tt
raised low high (next ∷ links) below all = (omega (arith, all.0), raised low high links below all.1)

pub rising_placed : (link : ℕ) (links : List ℕ) → AllByRecursion (λ other. eqb link other ≡ false) links → IsRising links → IsRising (placed link links)
rising_placed link [] apart order = (tt, tt)
rising_placed link (next ∷ links) apart order = by (nat_lt next link) refl (rising_placed link links apart.1 order.1)
  where
    by : (b : Bool) → nat_lt next link ≡ b → IsRising (placed link links) → IsRising (cond b (next ∷ placed link links) (link ∷ next ∷ links))
    by true e rest = (all_placed (λ other. next < other) link links (ltb-true next link e) order.0, rest)
    by false e rest =
        let below : link < next = omega (arith, ltb-false next link e, eqb-false link next apart.0) in
        ((below, raised link next links below order.0), order)

-- Distinct links rise.
pub rising_order : (links : List ℕ) → IsDistinct eqb links → IsRising (rising links)
unfolding IsDistinct
rising_order [] distinct = tt
rising_order (link ∷ links) distinct =
    rising_placed link (rising links) (all_rising (λ other. eqb link other ≡ false) links distinct.0) (rising_order links distinct.1)

-- ---- how many they are

pub length_placed : (link : ℕ) (links : List ℕ) → length (placed link links) ≡ suc (length links)
length_placed link [] = refl
length_placed link (next ∷ links) = by (nat_lt next link) (length_placed link links)
  where
    by : (b : Bool) → length (placed link links) ≡ suc (length links) → length (cond b (next ∷ placed link links) (link ∷ next ∷ links)) ≡ suc (suc (length links))
    by true rest = ap suc rest
    by false rest = refl

pub length_rising : (links : List ℕ) → length (rising links) ≡ length links
length_rising [] = refl
length_rising (link ∷ links) = length_placed link (rising links) ∙ ap suc (length_rising links)

pub length_without_placed : (this link : ℕ) (links : List ℕ) → length (without this (placed link links)) ≡ length (without this (link ∷ links))
length_without_placed this link [] = refl
length_without_placed this link (next ∷ links) = by (nat_lt next link) (length_without_placed this link links)
  where
    both : (n l : Bool) (kept : List ℕ) → length kept ≡ length (cond (not l) (link ∷ without this links) (without this links))
        → length (cond (not n) (next ∷ kept) kept)
        ≡ length (cond (not l) (link ∷ cond (not n) (next ∷ without this links) (without this links)) (cond (not n) (next ∷ without this links) (without this links)))
    both true l kept rest = rest
    both false true kept rest = ap suc rest
    both false false kept rest = ap suc rest

    by : (b : Bool) → length (without this (placed link links)) ≡ length (without this (link ∷ links))
        → length (without this (cond b (next ∷ placed link links) (link ∷ next ∷ links))) ≡ length (without this (link ∷ next ∷ links))
    by true rest = both (this == next) (this == link) (without this (placed link links)) rest
    by false rest = refl

pub length_without_rising : (this : ℕ) (links : List ℕ) → length (without this (rising links)) ≡ length (without this links)
length_without_rising this [] = refl
length_without_rising this (link ∷ links) = length_without_placed this link (rising links) ∙ by (this == link) (length_without_rising this links)
  where
    by : (b : Bool) → length (without this (rising links)) ≡ length (without this links)
        → length (cond (not b) (link ∷ without this (rising links)) (without this (rising links))) ≡ length (cond (not b) (link ∷ without this links) (without this links))
    by true rest = rest
    by false rest = ap suc rest

-- ---- one link less

placed_first : (link : ℕ) (links : List ℕ) → AllByRecursion (λ other. link ≤ other) links → placed link links ≡ link ∷ links
placed_first link [] all = refl
placed_first link (next ∷ links) all = ap (λ b. cond b (next ∷ placed link links) (link ∷ next ∷ links)) (le-ltb next link all.0)

pub without_placed : (this link : ℕ) (links : List ℕ) → IsRising links
    → without this (placed link links) ≡ cond (this == link) (without this links) (placed link (without this links))
without_placed this link [] order = by (this == link)
  where
    by : (b : Bool) → cond (not b) (link ∷ []) [] ≡ cond b [] (link ∷ [])
    by true = refl
    by false = refl
without_placed this link (next ∷ links) order = by (nat_lt next link) refl (without_placed this link links order.1)
  where
    -- the next one stands before the link
    past : (n l : Bool) (kept : List ℕ) → nat_lt next link ≡ true → kept ≡ cond l (without this links) (placed link (without this links))
        → cond (not n) (next ∷ kept) kept
        ≡ cond l (cond (not n) (next ∷ without this links) (without this links)) (placed link (cond (not n) (next ∷ without this links) (without this links)))
    past true true kept e rest = rest
    past true false kept e rest = rest
    past false true kept e rest = ap (λ others. next ∷ others) rest
    past false false kept e rest =
        ap (λ others. next ∷ others) rest ∙ ap (λ b. cond b (next ∷ placed link (without this links)) (link ∷ next ∷ without this links)) (sym e)

    -- the link stands first
    first : (l : Bool) → nat_lt next link ≡ false → cond (not l) (link ∷ without this (next ∷ links)) (without this (next ∷ links))
        ≡ cond l (without this (next ∷ links)) (placed link (without this (next ∷ links)))
    first true e = refl
    first false e =
        sym (placed_first link (without this (next ∷ links))
        (all_without (λ other. link ≤ other) this (next ∷ links) (ltb-false next link e, higher links order.0)))
      where
        higher : (others : List ℕ) → AllByRecursion (λ other. next < other) others → AllByRecursion (λ other. link ≤ other) others
        higher [] all = tt
        higher (other ∷ others) all = (omega (arith, all.0, ltb-false next link e), higher others all.1)

    by : (b : Bool) → nat_lt next link ≡ b → without this (placed link links) ≡ cond (this == link) (without this links) (placed link (without this links))
        → without this (cond b (next ∷ placed link links) (link ∷ next ∷ links))
        ≡ cond (this == link) (without this (next ∷ links)) (placed link (without this (next ∷ links)))
    by true e rest = past (this == next) (this == link) (without this (placed link links)) e rest
    by false e rest = first (this == link) e

pub rising_without : (this : ℕ) (links : List ℕ) → IsDistinct eqb links → rising (without this links) ≡ without this (rising links)
unfolding IsDistinct
rising_without this [] distinct = refl
rising_without this (link ∷ links) distinct =
    by (this == link) (rising_without this links distinct.1) ∙ sym (without_placed this link (rising links) (rising_order links distinct.1))
  where
    by : (b : Bool) → rising (without this links) ≡ without this (rising links)
        → rising (cond (not b) (link ∷ without this links) (without this links)) ≡ cond b (without this (rising links)) (placed link (without this (rising links)))
    by true rest = rest
    by false rest = ap (placed link) rest
