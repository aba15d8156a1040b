-- The lists of the numbers of a log are interleaved in its entries.
use Rattle.std.proofs.Common.{◌≡◌, ◌≢◌, ◌⊎◌, inl, inr, ⊎_elim, ℕ, zero, suc, ◌≤◌, List, [], ◌∷◌, length, map, All, Some, slice_get, slice_set, refl, ap, sym, ◌∙◌, subst, arith}
use Rattle.std.specs.List.{AllByRecursion}
use Rattle.std.proofs.lemmas.List.Elements.{All-nil, All-cons, All-head, All-tail}
use native.Mathlib.Decide.{ℕ_discrete}
use mathlib.Core.Logic.{dite}
use Rattle.link_threads.specs.Interleavings.{Interleaves, IsNumbered, entries_of, with_number, entries_in, AreApart}
use Rattle.link_threads.proofs.Logs.{with_number_hit, with_number_miss}

module _ {E : Type 0} where
  -- the lists of these numbers
  abbrev pub lists_of : List ℕ → List (ℕ × E) → List (List E)
  lists_of numbers log = map (λ number. with_number number log) numbers

-- The lists of a log without entries.
module _ (E : Type 0) where
  none_in : (numbers : List ℕ) → entries_in (lists_of {E = E} numbers []) ≡ 0
  none_in [] = refl
  none_in (n ∷ numbers) = omega (arith, none_in numbers)

  all_empty : (numbers : List ℕ) → All (λ (list : List E). list ≡ []) (lists_of {E = E} numbers [])
  all_empty [] = All-nil (λ (list : List E). list ≡ [])
  all_empty (n ∷ numbers) = All-cons (λ (list : List E). list ≡ []) [] (lists_of {E = E} numbers []) refl (all_empty numbers)

module _ {E : Type 0} where
  -- The next entry of a log is the next one of the list at this place.
  record IsNextAt (m : ℕ) (e : E) (log : List (ℕ × E)) (numbers : List ℕ) : Type 0 where
    place : ℕ
    first : slice_get (lists_of numbers ((m, e) ∷ log)) place ≡ Some (e ∷ with_number m log)
    others : slice_set (lists_of numbers ((m, e) ∷ log)) place (with_number m log) ≡ lists_of numbers log

  -- An entry whose number is none of these is in no list.
  skipped : (m : ℕ) (e : E) (log : List (ℕ × E)) (numbers : List ℕ) → AllByRecursion (λ other. other ≢ m) numbers → lists_of numbers ((m, e) ∷ log) ≡ lists_of numbers log
  skipped m e log [] none = refl
  skipped m e log (n ∷ numbers) none = λ i. with_number_miss m n e log (λ same. none.0 (sym same)) i ∷ skipped m e log numbers none.1 i

  next_at : (m : ℕ) (e : E) (log : List (ℕ × E)) (numbers : List ℕ) → AreApart numbers → AllByRecursion (λ other. other ≢ m) numbers ⊎ IsNextAt m e log numbers
  next_at m e log [] apart = inl tt
  next_at m e log (n ∷ numbers) apart = dite (ℕ_discrete n m) (λ same. inr (here same)) (λ other. ⊎_elim (λ none. inl (other, none)) (λ found. inr (there other found)) (next_at m e log numbers apart.1))
    where
      here : n ≡ m → IsNextAt m e log (n ∷ numbers)
      here same = record {
        place = 0;
        first = ap Some (with_number_hit m n e log (sym same) ∙ ap (λ k. e ∷ with_number k log) same);
        others = λ i. with_number (sym same i) log ∷ skipped m e log numbers (subst (λ k. AllByRecursion (λ other. other ≢ k) numbers) same apart.0) i;
      }

      there : n ≢ m → IsNextAt m e log numbers → IsNextAt m e log (n ∷ numbers)
      there other found = record {
        place = suc found.place;
        first = found.first;
        others = λ i. with_number_miss m n e log (λ same. other (sym same)) i ∷ found.others i;
      }

  -- a list replaced by one that is shorter by one
  entries_in_set : (lists : List (List E)) (place : ℕ) (e : E) (rest : List E) → slice_get lists place ≡ Some (e ∷ rest) → entries_in lists ≡ suc (entries_in (slice_set lists place rest))
  entries_in_set [] place e rest there = absurd (cc)
  entries_in_set (list ∷ lists) zero e rest there = let same : list ≡ e ∷ rest = cc in omega (arith, ap length same)
  entries_in_set (list ∷ lists) (suc place) e rest there = omega (arith, entries_in_set lists place e rest there)

  -- The lists of numbers that differ have no more entries than the log.
  at_most : (numbers : List ℕ) (log : List (ℕ × E)) → AreApart numbers → entries_in (lists_of numbers log) ≤ length log
  at_most numbers [] apart = omega (arith, none_in E numbers)
  at_most numbers ((m, e) ∷ log) apart =
      let before = at_most numbers log apart in
      ⊎_elim
      (λ none. omega (arith, ap entries_in (skipped m e log numbers none), before))
      (λ (found : IsNextAt m e log numbers). omega (arith, entries_in_set _ found.place e (with_number m log) found.first, ap entries_in found.others, before))
      (next_at m e log numbers apart)

  -- If these lists have all entries of the log, they are interleaved in it.
  pub mixed : (numbers : List ℕ) (log : List (ℕ × E)) → AreApart numbers → entries_in (lists_of numbers log) ≡ length log → Interleaves (lists_of numbers log) (entries_of log)
  mixed numbers [] apart all = all_empty E numbers
  mixed numbers ((m, e) ∷ log) apart all = ⊎_elim
      (λ none. absurd (omega (arith, ap entries_in (skipped m e log numbers none), at_most numbers log apart)))
      (λ (found : IsNextAt m e log numbers).
      let fewer : entries_in (lists_of numbers log) ≡ length log = omega (arith, entries_in_set _ found.place e (with_number m log) found.first, ap entries_in found.others) in
      (found.place, with_number m log, found.first, subst (λ lists. Interleaves lists (entries_of log)) (sym found.others) (mixed numbers log apart fewer)))
      (next_at m e log numbers apart)

  -- An interleaving of one list is the list.
  pub mixed_one : (list whole : List E) → Interleaves (list ∷ []) whole → whole ≡ list
  mixed_one list [] mix = sym (All-head (λ (l : List E). l ≡ []) list [] mix)
  mixed_one list (entry ∷ whole) (zero, rest, first, mix) =
      let same : list ≡ entry ∷ rest = cc (first) in
      ap (λ w. entry ∷ w) (mixed_one rest whole mix) ∙ sym same
  mixed_one list (entry ∷ whole) (suc place, rest, first, mix) = absurd (cc (first))

module _ {E : Type 0} where
  -- an element of a list, at a place that was set and at another
  get_set : (lists : List (List E)) (place : ℕ) (list now : List E) → slice_get lists place ≡ Some list → slice_get (slice_set lists place now) place ≡ Some now
  get_set [] place list now there = absurd (cc)
  get_set (x ∷ lists) zero list now there = refl
  get_set (x ∷ lists) (suc place) list now there = get_set lists place list now there

  get_else : (lists : List (List E)) (place other : ℕ) (now : List E) → other ≢ place → slice_get (slice_set lists place now) other ≡ slice_get lists other
  get_else [] place other now apart = refl
  get_else (x ∷ lists) zero zero now apart = absurd (apart refl)
  get_else (x ∷ lists) zero (suc other) now apart = refl
  get_else (x ∷ lists) (suc place) zero now apart = refl
  get_else (x ∷ lists) (suc place) (suc other) now apart = get_else lists place other now (λ same. apart (ap suc same))

  all_get : (P : List E → Type 0) (lists : List (List E)) (place : ℕ) (list : List E) → All P lists → slice_get lists place ≡ Some list → P list
  all_get P [] place list all there = absurd (cc)
  all_get P (x ∷ lists) zero list all there = let same : x ≡ list = cc (there) in subst P same (All-head P x lists all)
  all_get P (x ∷ lists) (suc place) list all there = all_get P lists place list (All-tail P x lists all) there

  -- The entries of an interleaving bear numbers, of which each list has one.
  pub numbered : (lists : List (List E)) (whole : List E) → Interleaves lists whole → IsNumbered lists whole
  numbered lists [] empty = record { log = []; entries = refl; each = λ place list there. sym (all_get (λ (l : List E). l ≡ []) lists place list empty there) }
  numbered lists (entry ∷ whole) (place, rest, first, mix) =
      let before = numbered (slice_set lists place rest) whole mix in
      record {
        log = (place, entry) ∷ before.log;
        entries = ap (λ w. entry ∷ w) before.entries;
        each = λ other list there. dite (ℕ_discrete place other)
            (λ same.
            let here : slice_get lists place ≡ Some list = subst (λ k. slice_get lists k ≡ Some list) (sym same) there in
            let is : entry ∷ rest ≡ list = cc (first, here) in
            let tail : with_number other before.log ≡ rest = before.each other rest (subst (λ k. slice_get (slice_set lists place rest) k ≡ Some rest) same (get_set lists place (entry ∷ rest) rest first)) in
            with_number_hit place other entry before.log same ∙ ap (λ w. entry ∷ w) tail ∙ is)
            (λ apart. with_number_miss place other entry before.log apart ∙ before.each other list (get_else lists place other rest (λ same. apart (sym same)) ∙ there));
      }
