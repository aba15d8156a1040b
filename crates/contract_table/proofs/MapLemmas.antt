-- Live links made of their numbers: one of them changed, one more, one less; and what is found among them.
use Rattle.std.proofs.Common.{◌≡◌, ◌≢◌, ℕ, ◌<◌, ◌==◌, Bool, true, false, cond, not, ◌||◌, nat_eq, nat_lt, List, [], ◌∷◌, map, filter, find, Some, None, refl, ap, sym, ◌∙◌, subst, arith, eq-eqb}
use Rattle.std.specs.List.{AllByRecursion, list_any}
use Rattle.std.proofs.lemmas.Bool.{eqb-true, eqb-false, ltb-true, ltb-false}
use Rattle.contract_rules.specs.LiveLinks.{without}
use Rattle.contract_rules.proofs.Steps.{or_parts}
use Rattle.contract_table.specs.Places.{IsRising, put}
use Rattle.contract_table.specs.Tables.{placed}
use Rattle.contract_table.proofs.PlaceLemmas.{put_past, put_here, put_before}

-- Maps that agree on the links of a list.
pub map_same : {X : Type 0} (f g : ℕ → X) (links : List ℕ) → AllByRecursion (λ link. f link ≡ g link) links → map f links ≡ map g links
map_same f g [] same = refl
map_same f g (link ∷ links) same = λ i. same.0 i ∷ map_same f g links same.1 i

-- Each link of a list is among them.
pub all_among : (links : List ℕ) → AllByRecursion (λ link. list_any (nat_eq link) links ≡ true) links
all_among [] = tt
all_among (link ∷ links) =
    (ap (λ b. b || list_any (nat_eq link) links) (eq-eqb link link refl), later link links links (all_among links))
  where
    or_later : (b c : Bool) → c ≡ true → (b || c) ≡ true
    or_later true c e = refl
    or_later false c e = e

    later : (first : ℕ) (all rest : List ℕ) → AllByRecursion (λ link. list_any (nat_eq link) all ≡ true) rest → AllByRecursion (λ link. list_any (nat_eq link) (first ∷ all) ≡ true) rest
    later first all [] among = tt
    later first all (next ∷ rest) among = (or_later (nat_eq next first) (list_any (nat_eq next) all) among.0, later first all rest among.1)

-- What holds of each link holds of those of a list, where it may depend on that.
pub all_where : (P Q : ℕ → Type 0) (links : List ℕ) → ((link : ℕ) → P link → Q link) → AllByRecursion P links → AllByRecursion Q links
all_where P Q [] implies all = tt
all_where P Q (link ∷ links) implies all = (implies link all.0, all_where P Q links implies all.1)

-- A link above which all others stand is apart from them.
pub above_apart : (this : ℕ) (links : List ℕ) → AllByRecursion (λ other. this < other) links → AllByRecursion (λ other. other ≢ this) links
above_apart this links above = all_where (λ other. this < other) (λ other. other ≢ this) links (λ other below same. omega (arith, below, same)) above

pub absent_apart : (this : ℕ) (links : List ℕ) → list_any (nat_eq this) links ≡ false → AllByRecursion (λ other. other ≢ this) links
absent_apart this [] absent = tt
absent_apart this (link ∷ links) absent =
    let parts = or_parts (this == link) (list_any (nat_eq this) links) absent in
    (λ same. absurd (let both : true ≡ false = sym (eq-eqb this link (sym same)) ∙ parts.0 in cc), absent_apart this links parts.1)

-- ---- values with the numbers of their links

module _ {X : Type 0} (number : X → ℕ) (f g : ℕ → X) (this : ℕ) (named : (link : ℕ) → number (f link) ≡ link) (same_name : number (g this) ≡ this)
    (others : (link : ℕ) → link ≢ this → g link ≡ f link) where
  same_others : (links : List ℕ) → AllByRecursion (λ other. other ≢ this) links → map g links ≡ map f links
  same_others links apart = map_same g f links (all_where (λ other. other ≢ this) (λ link. g link ≡ f link) links others apart)

  -- One link is changed.
  pub put_changed : (links : List ℕ) → IsRising links → list_any (nat_eq this) links ≡ true → map g links ≡ put number (g this) (map f links)
  put_changed [] order among = absurd (let both : false ≡ true = among in cc)
  put_changed (link ∷ links) order among = by (this == link) refl (nat_lt link this) refl (put_changed links order.1)
    where
      here : this ≡ link → map g (link ∷ links) ≡ put number (g this) (f link ∷ map f links)
      here is =
          (λ i. g (sym is i) ∷ same_others links (above_apart this links (subst (λ l. AllByRecursion (λ other. l < other) links) (sym is) order.0)) i)
          ∙ sym (put_here number (g this) (f link) (map f links) (named link ∙ sym is ∙ sym same_name))

      above : nat_lt link this ≡ false → (this == link) ≡ false → list_any (nat_eq this) links ≡ true → map g (link ∷ links) ≡ put number (g this) (f link ∷ map f links)
      above e n later = absurd (under links later order.0)
        where
          low : this < link
          low = omega (arith, ltb-false link this e, eqb-false this link n)

          under : (rest : List ℕ) → list_any (nat_eq this) rest ≡ true → AllByRecursion (λ other. link < other) rest → ⊥
          under [] found all = let both : false ≡ true = found in cc
          under (next ∷ rest) found all = at (this == next) refl (under rest)
            where
              at : (b : Bool) → (this == next) ≡ b → (list_any (nat_eq this) rest ≡ true → AllByRecursion (λ other. link < other) rest → ⊥) → ⊥
              at true is more = omega (arith, all.0, eqb-true this next is, low)
              at false is more = more (sym (ap (λ b. b || list_any (nat_eq this) rest) is) ∙ found) all.1

      by : (b : Bool) → (this == link) ≡ b → (l : Bool) → nat_lt link this ≡ l
          → (list_any (nat_eq this) links ≡ true → map g links ≡ put number (g this) (map f links))
          → map g (link ∷ links) ≡ put number (g this) (map f (link ∷ links))
      by true e l o rest = here (eqb-true this link e)
      by false e true o rest =
          (λ i. others link (λ same. absurd (eqb-false this link e (sym same))) i ∷ rest (sym (ap (λ b. b || list_any (nat_eq this) links) e) ∙ among) i)
          ∙ sym (put_past number (g this) (f link) (map f links) (subst (λ n. n < number (g this)) (sym (named link)) (subst (λ n. link < n) (sym same_name) (ltb-true link this o))))
      by false e false o rest = above o e (sym (ap (λ b. b || list_any (nat_eq this) links) e) ∙ among)

  -- One link more.
  pub put_new : (links : List ℕ) → AllByRecursion (λ other. other ≢ this) links → map g (placed this links) ≡ put number (g this) (map f links)
  put_new [] apart = refl
  put_new (link ∷ links) apart = by (nat_lt link this) refl (put_new links apart.1)
    where
      by : (b : Bool) → nat_lt link this ≡ b → map g (placed this links) ≡ put number (g this) (map f links)
          → map g (cond b (link ∷ placed this links) (this ∷ link ∷ links)) ≡ put number (g this) (f link ∷ map f links)
      by true e rest =
          (λ i. others link apart.0 i ∷ rest i)
          ∙ sym (put_past number (g this) (f link) (map f links) (subst (λ n. n < number (g this)) (sym (named link)) (subst (λ n. link < n) (sym same_name) (ltb-true link this e))))
      by false e rest =
          let below : this < link = omega (arith, ltb-false link this e, apart.0) in
          (λ i. g this ∷ same_others (link ∷ links) apart i)
          ∙ sym (put_before number (g this) (f link) (map f links) (subst (λ n. n < number (f link)) (sym same_name) (subst (λ n. this < n) (sym (named link)) below)))

  -- One link less.
  pub less_one : (links : List ℕ) → map g (without this links) ≡ filter (λ x. not (this == number x)) (map f links)
  less_one [] = refl
  less_one (link ∷ links) = by (this == link) refl (less_one links)
    where
      by : (b : Bool) → (this == link) ≡ b → map g (without this links) ≡ filter (λ x. not (this == number x)) (map f links)
          → map g (cond (not b) (link ∷ without this links) (without this links)) ≡ filter (λ x. not (this == number x)) (f link ∷ map f links)
      by true e rest =
          rest ∙ ap (λ b. cond (not b) (f link ∷ filter (λ x. not (this == number x)) (map f links)) (filter (λ x. not (this == number x)) (map f links))) (sym (ap (λ n. this == n) (named link) ∙ e))
      by false e rest =
          (λ i. others link (λ same. absurd (eqb-false this link e (sym same))) i ∷ rest i)
          ∙ ap (λ b. cond (not b) (f link ∷ filter (λ x. not (this == number x)) (map f links)) (filter (λ x. not (this == number x)) (map f links))) (sym (ap (λ n. this == n) (named link) ∙ e))

-- What is found among values with the numbers of their links.
pub found_among : {X : Type 0} (number : X → ℕ) (f : ℕ → X) (named : (link : ℕ) → number (f link) ≡ link) (this : ℕ) (links : List ℕ)
    → find (λ x. this == number x) (map f links) ≡ cond (list_any (nat_eq this) links) (Some (f this)) None
found_among number f named this [] = refl
found_among number f named this (link ∷ links) =
    ap (λ n. cond (this == n) (Some (f link)) (find (λ x. this == number x) (map f links))) (named link)
    ∙ by (this == link) refl (found_among number f named this links)
  where
    by : (b : Bool) → (this == link) ≡ b → find (λ x. this == number x) (map f links) ≡ cond (list_any (nat_eq this) links) (Some (f this)) None
        → cond b (Some (f link)) (find (λ x. this == number x) (map f links)) ≡ cond (b || list_any (nat_eq this) links) (Some (f this)) None
    by true e rest = ap (λ l. Some (f l)) (sym (eqb-true this link e))
    by false e rest = rest

-- The numbers of the values are the links.
pub numbers_of : {X : Type 0} (number : X → ℕ) (f : ℕ → X) (named : (link : ℕ) → number (f link) ≡ link) (links : List ℕ) → map number (map f links) ≡ links
numbers_of number f named [] = refl
numbers_of number f named (link ∷ links) = λ i. named link i ∷ numbers_of number f named links i
