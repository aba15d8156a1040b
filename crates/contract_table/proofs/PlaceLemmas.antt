-- A list of rising numbers: what a write at a place, an insertion and a removal make of it.
use Rattle.std.proofs.Common.{◌≡◌, ◌≢◌, ℕ, zero, suc, ◌<◌, ◌≤◌, ◌==◌, Bool, true, false, cond, not, nat_lt, List, [], ◌∷◌, length, filter, find, insert, remove, get_or, set, map, Some, None, refl, ap, sym, ◌∙◌, subst, arith, eq-eqb}
use Rattle.std.specs.List.{AllByRecursion}
use Rattle.std.proofs.lemmas.Bool.{eqb-true, eqb-false, ne_eqb, ltb-true, ltb-false, lt-ltb, le-ltb}
use Rattle.contract_table.specs.Places.{IsRising, put}

module _ {X : Type 0} (number : X → ℕ) where
  -- ---- one more element, by where it stands

  pub put_past : (new x : X) (xs : List X) → number x < number new → put number new (x ∷ xs) ≡ x ∷ put number new xs
  put_past new x xs below =
      ap (λ b. cond b (x ∷ put number new xs) (cond (number x == number new) (new ∷ xs) (new ∷ x ∷ xs))) (lt-ltb (number x) (number new) below)

  pub put_here : (new x : X) (xs : List X) → number x ≡ number new → put number new (x ∷ xs) ≡ new ∷ xs
  put_here new x xs same =
      (λ i. cond (le-ltb (number x) (number new) (omega arith) i) (x ∷ put number new xs) (cond (eq-eqb (number x) (number new) same i) (new ∷ xs) (new ∷ x ∷ xs)))

  pub put_before : (new x : X) (xs : List X) → number new < number x → put number new (x ∷ xs) ≡ new ∷ x ∷ xs
  put_before new x xs above =
      let apart : number x ≢ number new = λ same. absurd (omega arith) in
      (λ i. cond (le-ltb (number x) (number new) (omega arith) i) (x ∷ put number new xs) (cond (ne_eqb (number x) (number new) apart i) (new ∷ xs) (new ∷ x ∷ xs)))

  -- ---- writes at a place

  -- The element at a place is written over by one of its number.
  pub set_put : (xs : List X) (p : ℕ) (new d : X) → ((k : ℕ) (d : X) → k < p → number (get_or xs k d) < number new)
      → p < length xs → number (get_or xs p d) ≡ number new → set xs p new ≡ put number new xs
  set_put [] p new d before inside here = absurd (omega arith)
  set_put (x ∷ xs) zero new d before inside here = sym (put_here new x xs here)
  set_put (x ∷ xs) (suc p) new d before inside here =
      ap (λ ys. x ∷ ys) (set_put xs p new d (λ k d below. before (suc k) d (omega arith)) (omega arith) here)
      ∙ sym (put_past new x xs (before 0 d (omega arith)))

  -- An element is inserted at the place at which it would stand.
  pub insert_put : (xs : List X) (p : ℕ) (new d : X) → ((k : ℕ) (d : X) → k < p → number (get_or xs k d) < number new)
      → p ≤ length xs → (p < length xs → number new < number (get_or xs p d)) → insert xs p new ≡ put number new xs
  insert_put [] zero new d before within above = refl
  insert_put [] (suc p) new d before within above = absurd (omega arith)
  insert_put (x ∷ xs) zero new d before within above = sym (put_before new x xs (above (omega arith)))
  insert_put (x ∷ xs) (suc p) new d before within above =
      ap (λ ys. x ∷ ys) (insert_put xs p new d (λ k d below. before (suc k) d (omega arith)) (omega arith) (λ inside. above (omega arith)))
      ∙ sym (put_past new x xs (before 0 d (omega arith)))

  -- ---- a list of rising numbers

  -- Nothing of higher numbers has this one.
  pub none_above : (link : ℕ) (xs : List X) → AllByRecursion (λ other. link < other) (map number xs) → filter (λ x. not (link == number x)) xs ≡ xs
  none_above link [] above = refl
  none_above link (x ∷ xs) above =
      let apart : link ≢ number x = λ same. absurd (omega (arith, above.0)) in
      ap (λ b. cond (not b) (x ∷ filter (λ x. not (link == number x)) xs) (filter (λ x. not (link == number x)) xs)) (ne_eqb link (number x) apart)
      ∙ ap (λ ys. x ∷ ys) (none_above link xs above.1)

  pub not_found_above : (link : ℕ) (xs : List X) → AllByRecursion (λ other. link < other) (map number xs) → find (λ x. link == number x) xs ≡ None
  not_found_above link [] above = refl
  not_found_above link (x ∷ xs) above =
      let apart : link ≢ number x = λ same. absurd (omega (arith, above.0)) in
      ap (λ b. cond b (Some x) (find (λ x. link == number x) xs)) (ne_eqb link (number x) apart) ∙ not_found_above link xs above.1

  -- The element at a place is removed: all but those of its number are left.
  pub remove_others : (xs : List X) (p link : ℕ) (d : X) → IsRising (map number xs) → ((k : ℕ) (d : X) → k < p → number (get_or xs k d) < link)
      → p < length xs → number (get_or xs p d) ≡ link → remove xs p ≡ filter (λ x. not (link == number x)) xs
  remove_others [] p link d rising before inside here = absurd (omega arith)
  remove_others (x ∷ xs) zero link d rising before inside here =
      sym (ap (λ b. cond (not b) (x ∷ filter (λ x. not (link == number x)) xs) (filter (λ x. not (link == number x)) xs)) (eq-eqb link (number x) (sym here))
      ∙ none_above link xs (subst (λ l. AllByRecursion (λ other. l < other) (map number xs)) here rising.0))
  remove_others (x ∷ xs) (suc p) link d rising before inside here =
      let below : number x < link = before 0 d (omega arith) in
      let apart : link ≢ number x = λ same. absurd (omega arith) in
      ap (λ ys. x ∷ ys) (remove_others xs p link d rising.1 (λ k d below. before (suc k) d (omega arith)) (omega arith) here)
      ∙ sym (ap (λ b. cond (not b) (x ∷ filter (λ x. not (link == number x)) xs) (filter (λ x. not (link == number x)) xs)) (ne_eqb link (number x) apart))

  -- The element at its place is found.
  pub found_at : (xs : List X) (p link : ℕ) (d : X) → ((k : ℕ) (d : X) → k < p → number (get_or xs k d) < link)
      → p < length xs → number (get_or xs p d) ≡ link → find (λ x. link == number x) xs ≡ Some (get_or xs p d)
  found_at [] p link d before inside here = absurd (omega arith)
  found_at (x ∷ xs) zero link d before inside here =
      ap (λ b. cond b (Some x) (find (λ x. link == number x) xs)) (eq-eqb link (number x) (sym here))
  found_at (x ∷ xs) (suc p) link d before inside here =
      let below : number x < link = before 0 d (omega arith) in
      let apart : link ≢ number x = λ same. absurd (omega arith) in
      ap (λ b. cond b (Some x) (find (λ x. link == number x) xs)) (ne_eqb link (number x) apart)
      ∙ found_at xs p link d (λ k d below. before (suc k) d (omega arith)) (omega arith) here

  -- None is found where another stands at the place.
  pub not_found : (xs : List X) (p link : ℕ) (d : X) → IsRising (map number xs) → ((k : ℕ) (d : X) → k < p → number (get_or xs k d) < link)
      → p ≤ length xs → (p < length xs → link < number (get_or xs p d)) → find (λ x. link == number x) xs ≡ None
  not_found [] p link d rising before within above = refl
  not_found (x ∷ xs) zero link d rising before within above =
      not_found_above link (x ∷ xs) (above (omega arith), higher xs rising.0)
    where
      higher : (ys : List X) → AllByRecursion (λ other. number x < other) (map number ys) → AllByRecursion (λ other. link < other) (map number ys)
      higher [] all = tt
      higher (y ∷ ys) all = (omega (arith, all.0, above (omega arith)), higher ys all.1)
  not_found (x ∷ xs) (suc p) link d rising before within above =
      let below : number x < link = before 0 d (omega arith) in
      let apart : link ≢ number x = λ same. absurd (omega arith) in
      ap (λ b. cond b (Some x) (find (λ x. link == number x) xs)) (ne_eqb link (number x) apart)
      ∙ not_found xs p link d rising.1 (λ k d below. before (suc k) d (omega arith)) (omega arith) (λ inside. above (omega arith))

  -- ---- what is kept

  pub all_put : (P : ℕ → Type 0) (new : X) (xs : List X) → P (number new) → AllByRecursion P (map number xs) → AllByRecursion P (map number (put number new xs))
  all_put P new [] here all = (here, tt)
  all_put P new (x ∷ xs) here all = by (all_put P new xs here all.1) (nat_lt (number x) (number new)) (number x == number new)
    where
      by : AllByRecursion P (map number (put number new xs)) → (b s : Bool) → AllByRecursion P (map number (cond b (x ∷ put number new xs) (cond s (new ∷ xs) (new ∷ x ∷ xs))))
      by rest true s = (all.0, rest)
      by rest false true = (here, all.1)
      by rest false false = (here, all)

  pub all_filter : (P : ℕ → Type 0) (test : X → Bool) (xs : List X) → AllByRecursion P (map number xs) → AllByRecursion P (map number (filter test xs))
  all_filter P test [] all = tt
  all_filter P test (x ∷ xs) all = by (all_filter P test xs all.1) (test x)
    where
      by : AllByRecursion P (map number (filter test xs)) → (b : Bool) → AllByRecursion P (map number (cond b (x ∷ filter test xs) (filter test xs)))
      by rest true = (all.0, rest)
      by rest false = rest

  pub rising_put : (new : X) (xs : List X) → IsRising (map number xs) → IsRising (map number (put number new xs))
  rising_put new [] rising = (tt, tt)
  rising_put new (x ∷ xs) rising = by (nat_lt (number x) (number new)) refl (number x == number new) refl (rising_put new xs rising.1)
    where
      raised : (low : ℕ) (ys : List X) → low < number x → AllByRecursion (λ other. number x < other) (map number ys) → AllByRecursion (λ other. low < other) (map number ys)
      raised low [] under all = tt
      raised low (y ∷ ys) under all = (omega (arith, all.0), raised low ys under all.1)

      by : (b : Bool) → nat_lt (number x) (number new) ≡ b → (s : Bool) → (number x == number new) ≡ s → IsRising (map number (put number new xs))
          → IsRising (map number (cond b (x ∷ put number new xs) (cond s (new ∷ xs) (new ∷ x ∷ xs))))
      by true e s f rest = (all_put (λ other. number x < other) new xs (ltb-true (number x) (number new) e) rising.0, rest)
      by false e true f rest = (subst (λ n. AllByRecursion (λ other. n < other) (map number xs)) (eqb-true (number x) (number new) f) rising.0, rising.1)
      by false e false f rest =
          let under : number new < number x = omega (arith, ltb-false (number x) (number new) e, eqb-false (number x) (number new) f) in
          ((under, raised (number new) xs under rising.0), rising)

  pub rising_filter : (test : X → Bool) (xs : List X) → IsRising (map number xs) → IsRising (map number (filter test xs))
  rising_filter test [] rising = tt
  rising_filter test (x ∷ xs) rising = by (rising_filter test xs rising.1) (test x)
    where
      by : IsRising (map number (filter test xs)) → (b : Bool) → IsRising (map number (cond b (x ∷ filter test xs) (filter test xs)))
      by rest true = (all_filter (λ other. number x < other) test xs rising.0, rest)
      by rest false = rest
