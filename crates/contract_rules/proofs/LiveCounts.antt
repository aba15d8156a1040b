-- Where all acts are of so many links, the live links are among these, and their number is a count over these: for code that
-- keeps a place for each link.
use Rattle.std.proofs.Common.{◌≡◌, ◌⊎◌, inl, inr, ℕ, zero, suc, ◌+◌, ◌<◌, Bool, true, false, cond, not, ◌&&◌, ◌||◌, ◌==◌, List, [], ◌∷◌, length, refl, ap, sym, ◌∙◌, arith, eqb, add-zero}
use Rattle.std.specs.Prelude.{nat_eq}
use Rattle.std.specs.List.{list_all, list_any, IsDistinct}
use Rattle.std.proofs.lemmas.Bool.{eqb-true, eq-eqb, ne_eqb, ltb-true, and_parts, or_cases}
use Rattle.contract_rules.specs.Configuration.{Configuration}
use Rattle.contract_rules.specs.Acts.{Act, Said, Malformed, Moved, Ticked, Crew, is_said_on}
use Rattle.contract_rules.specs.LiveLinks.{Noted, without, is_live, admits, admits_link}
use Rattle.contract_rules.specs.Verdicts.{noted_over, past_of}
use Rattle.contract_rules.specs.Laws.{is_of_links}
use Rattle.contract_rules.specs.Retellings.{ends_session}
use Rattle.contract_rules.proofs.Steps.{live_step, among_without}
use Rattle.contract_rules.proofs.AtMostFive.{absent_from, distinct_without}

-- Only these links are ever live.
pub live_below : (links : ℕ) (configuration : Configuration) (acts : List Act) → list_all (is_of_links links) acts ≡ true
    → (q : ℕ) → is_live q (past_of configuration acts) ≡ true → q < links
live_below links configuration [] of_links q live = absurd (let h : false ≡ true = live in cc)
live_below links configuration (act ∷ acts) of_links q live =
    let parts = and_parts (is_of_links links act) (list_all (is_of_links links) acts) of_links in
    let noted : Noted = noted_over configuration (past_of configuration acts) act in
    at (live_below links configuration acts parts.1 q)
    (or_cases (admits_link q noted) (not (ends_session q act) && is_live q (past_of configuration acts))
    (sym (live_step q noted (past_of configuration acts)) ∙ live))
    (admitted act parts.0)
  where
    admitted : (a : Act) → is_of_links links a ≡ true → (admits configuration (past_of configuration acts) a && is_said_on q a) ≡ true → q < links
    admitted (Said other message) first e =
        let same = (and_parts (admits configuration (past_of configuration acts) (Said other message)) (q == other) e).1 in
        omega (arith, eqb-true q other same, ltb-true other links first)
    admitted (Malformed other fault) first e = absurd (let h : false ≡ true = e in cc)
    admitted (Moved before now) first e = absurd (let h : false ≡ true = e in cc)
    admitted (Ticked tick) first e = absurd (let h : false ≡ true = e in cc)
    admitted (Crew on) first e = absurd (let h : false ≡ true = e in cc)

    at : (is_live q (past_of configuration acts) ≡ true → q < links)
        → ((admits configuration (past_of configuration acts) act && is_said_on q act) ≡ true) ⊎ ((not (ends_session q act) && is_live q (past_of configuration acts)) ≡ true)
        → ((admits configuration (past_of configuration acts) act && is_said_on q act) ≡ true → q < links) → q < links
    at before (inl now) of_act = of_act now
    at before (inr was) of_act = before (and_parts (not (ends_session q act)) (is_live q (past_of configuration acts)) was).1

-- How many of the numbers below this one pass the test.
abbrev pub count_below : ℕ → (ℕ → Bool) → ℕ
count_below zero test = 0
count_below (suc n) test = count_below n test + cond (test n) 1 0

pub count_none : (n : ℕ) → count_below n (λ k. false) ≡ 0
count_none zero = refl
count_none (suc n) = add-zero (count_below n (λ k. false)) ∙ count_none n

-- Tests that agree below a number count alike.
pub count_same : (n : ℕ) (one other : ℕ → Bool) → ((k : ℕ) → k < n → one k ≡ other k) → count_below n one ≡ count_below n other
count_same zero one other same = refl
count_same (suc n) one other same =
    λ i. count_same n one other (λ k below. same k (omega (arith, below))) i + cond (same n (omega arith) i) 1 0

-- One number more passes.
pub count_one_more : (n link : ℕ) (test : ℕ → Bool) → link < n → test link ≡ false
    → count_below n (λ k. (k == link) || test k) ≡ count_below n test + 1
count_one_more zero link test below fails = absurd (omega (arith, below))
count_one_more (suc n) link test below fails = at (n == link) refl (λ less. count_one_more n link test less fails)
  where
    above : (n == link) ≡ true → (k : ℕ) → k < n → ((k == link) || test k) ≡ test k
    above e k less = ap (λ b. b || test k) (ne_eqb k link (λ same. omega (arith, less, same, eqb-true n link e)))

    last : (n == link) ≡ true → ◌≡◌ {A = ℕ} (cond (test n) 1 0) 0
    last e = ap (λ b. cond b 1 0) (ap test (eqb-true n link e) ∙ fails)

    none_added : (a b : ℕ) → b ≡ 0 → a + 1 ≡ a + b + 1
    none_added a b e = omega (arith, e)

    moved : (a b : ℕ) → (a + 1) + b ≡ (a + b) + 1
    moved a b = omega arith

    at : (b : Bool) → (n == link) ≡ b → (link < n → count_below n (λ k. (k == link) || test k) ≡ count_below n test + 1)
        → count_below n (λ k. (k == link) || test k) + cond ((n == link) || test n) 1 0 ≡ count_below n test + cond (test n) 1 0 + 1
    at true e more =
        (λ i. count_same n (λ k. (k == link) || test k) test (above e) i + cond (e i || test n) 1 0)
        ∙ none_added (count_below n test) (cond (test n) 1 0) (last e)
    at false e more =
        let other : (n ≡ link → ⊥) = λ same. absurd (let h : true ≡ false = sym (eq-eqb n link same) ∙ e in cc) in
        (λ i. more (omega (arith, below, other)) i + cond (e i || test n) 1 0)
        ∙ moved (count_below n test) (cond (test n) 1 0)

-- The number of distinct links below a number is a count over the numbers below it.
pub length_is_count : (n : ℕ) (links : List ℕ) → IsDistinct eqb links → ((q : ℕ) → list_any (nat_eq q) links ≡ true → q < n)
    → length links ≡ count_below n (λ k. list_any (nat_eq k) links)
unfolding IsDistinct
length_is_count n [] distinct below = sym (count_none n)
length_is_count n (link ∷ links) distinct below =
    let rest = length_is_count n links distinct.1 (λ q among. below q (or_later (q == link) among)) in
    let more =
    count_one_more n link (λ k. list_any (nat_eq k) links) (below link (ap (λ b. b || list_any (nat_eq link) links) (eq-eqb link link refl)))
    (absent_from link links distinct.0) in
    omega (arith, rest, more)
  where
    or_later : (b : Bool) {c : Bool} → c ≡ true → (b || c) ≡ true
    or_later true e = refl
    or_later false e = e

-- And so beside one of them.
pub length_beside_is_count : (n kept : ℕ) (links : List ℕ) → IsDistinct eqb links → ((q : ℕ) → list_any (nat_eq q) links ≡ true → q < n)
    → length (without kept links) ≡ count_below n (λ k. not (k == kept) && list_any (nat_eq k) links)
length_beside_is_count n kept links distinct below =
    length_is_count n (without kept links) (distinct_without kept links distinct)
    (λ q among. below q (and_parts (not (q == kept)) (list_any (nat_eq q) links) (sym (among_without q kept links) ∙ among)).1)
    ∙ count_same n (λ k. list_any (nat_eq k) (without kept links)) (λ k. not (k == kept) && list_any (nat_eq k) links) (λ k less. among_without k kept links)
