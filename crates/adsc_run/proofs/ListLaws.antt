-- What the workers take of a burst, and how it is woven into one list.
use Rattle.std.proofs.Common.{◌≡◌, ◌≢◌, ◌⊎◌, ◌<◌, ◌≤◌, ◌%◌, ◌==◌, ℕ, zero, suc, inl, inr, Bool, true, false, IsTrue, cond, ◌&&◌, ◌↔◌, All, List, [], ◌∷◌, ◌++◌, filter, set, length, get_or, None, Some, slice_get, slice_set, refl, sym, ap, ◌∙◌, subst, arith, eq-eqb, ne_eqb, append-nil, length-set, get_or-set_same, get_or-set_other, mod-lt, eqb-true}
use Rattle.std.specs.declared.vec.Vec.{Vec}
use Rattle.std.proofs.lemmas.Bool.{and_parts, eqb-false}
use Rattle.std.proofs.lemmas.List.{get_or-map, map-set}
use Rattle.std.proofs.lemmas.List.Elements.{All-cons, All-head, All-nil, All-tail, filter-append}
use Rattle.std.proofs.lemmas.List.Sums.{AllPass-from_list_all, list_all-from_AllPass}
use Rattle.std.specs.List.{AllPass, list_all}
use Rattle.std.proofs.lemmas.Option.{get_or_from_slice_get, slice_get-get_or, slice_get_within}
use Rattle.aircraft_core.specs.declared.entry.Entry.{Entry}
use Rattle.link_threads.specs.Interleavings.{Interleaves}
use Rattle.run_rules.specs.EarlierLines.{AreTaken, AreWorkersLists, taken_by, text_link}
use Rattle.run_rules.proofs.Weaving.{IsWoven, woven_is_taken}
use Rattle.adsc_run.specs.Lists.{AreBusyLists, AreOfOneWorker, is_filled, lists_in}

-- ---- one worker

-- each entry is of this worker
of_each : (workers worker : ℕ) (waiting : List Entry) → list_all (λ entry. text_link entry % workers == worker) waiting ≡ true
    → All (λ entry. text_link entry % workers ≡ worker) waiting
of_each workers worker [] all = All-nil (λ entry. text_link entry % workers ≡ worker)
of_each workers worker (first ∷ rest) all =
    let parts = and_parts _ _ all in
    All-cons (λ entry. text_link entry % workers ≡ worker) first rest (eqb-true _ _ parts.0) (of_each workers worker rest parts.1)

each_of : (workers worker : ℕ) (waiting : List Entry) → All (λ entry. text_link entry % workers ≡ worker) waiting
    → list_all (λ entry. text_link entry % workers == worker) waiting ≡ true
each_of workers worker [] all = refl
each_of workers worker (first ∷ rest) all =
    let own : text_link first % workers ≡ worker = All-head (λ entry. text_link entry % workers ≡ worker) first rest all in
    ap (λ b. b && list_all (λ entry. text_link entry % workers == worker) rest) (eq-eqb (text_link first % workers) worker own)
    ∙ each_of workers worker rest (All-tail (λ entry. text_link entry % workers ≡ worker) first rest all)

-- the worker of the first entry takes them all exactly where one worker does
pub one_worker : (workers worker : ℕ) (first : Entry) (waiting : List Entry) (takes : Bool) → slice_get waiting 0 ≡ Some first
    → worker ≡ text_link first % workers → (IsTrue takes ↔ AllPass (λ entry. text_link entry % workers == worker) waiting)
    → IsTrue takes ↔ AreOfOneWorker workers waiting
one_worker workers worker first [] takes there own all = absurd (let both : None ≡ Some first = there in cc)
one_worker workers worker first (head ∷ rest) takes there own all = (
  λ yes. (
    worker,
    of_each workers worker (head ∷ rest)
        (list_all-from_AllPass (λ entry. text_link entry % workers == worker) (head ∷ rest) (all.0 yes)),
  ),
  λ of_one.
      let same : head ≡ first = let both : Some head ≡ Some first = there in cc in
      let its : of_one.0 ≡ worker =
      sym (All-head (λ entry. text_link entry % workers ≡ of_one.0) head rest of_one.1) ∙ ap (λ entry. text_link entry % workers) same ∙ sym own in
      all.1 (AllPass-from_list_all (λ entry. text_link entry % workers == worker) (head ∷ rest) (each_of workers worker (head ∷ rest)
      (subst (λ one. All (λ entry. text_link entry % workers ≡ one) (head ∷ rest)) its of_one.1))),
)

-- ---- dealt out

-- Before an entry waits, all lists are empty.
pub none_dealt : (workers : ℕ) (lists : List (List Entry)) → 1 ≤ workers → length lists ≡ workers → All (λ list. list ≡ []) lists
    → AreWorkersLists workers [] lists
none_dealt workers lists some count empty = record {
  some = some;
  count = count;
  each = λ worker list there.
      sym (get_or_from_slice_get lists worker list [] there) ∙ empty worker [] (slice_get_within lists worker list there);
}

-- What a worker takes, with one entry more.
taken_more : (workers worker : ℕ) (waiting : List Entry) (entry : Entry)
    → taken_by workers worker (waiting ++ entry ∷ []) ≡ taken_by workers worker waiting ++ cond (text_link entry % workers == worker) (entry ∷ []) []
taken_more workers worker waiting entry = filter-append (λ other. text_link other % workers == worker) waiting (entry ∷ [])

-- One entry more was put at the end of the list of its worker.
pub dealt : (workers : ℕ) (waiting : List Entry) (lists : List (List Entry)) (entry : Entry) → AreWorkersLists workers waiting lists
    → AreWorkersLists workers (waiting ++ entry ∷ [])
    (slice_set lists (text_link entry % workers) (get_or lists (text_link entry % workers) [] ++ entry ∷ []))
dealt workers waiting lists entry are = record {
  some = are.some;
  count = length-set lists own longer ∙ are.count;
  each = λ worker list there. at worker list (slice_get_within (slice_set lists own longer) worker list there)
      (sym (get_or_from_slice_get (slice_set lists own longer) worker list [] there)) (same_or_not worker (own == worker) refl);
}
  where
    own : ℕ
    own = text_link entry % workers

    longer : List Entry
    longer = get_or lists own [] ++ entry ∷ []

    held : (worker : ℕ) → worker < length lists → get_or lists worker [] ≡ taken_by workers worker waiting
    held worker inside = are.each worker (get_or lists worker []) (slice_get-get_or lists worker [] inside)

    same_or_not : (worker : ℕ) (b : Bool) → (own == worker) ≡ b → (own ≡ worker) ⊎ (own ≢ worker)
    same_or_not worker true e = inl (eqb-true own worker e)
    same_or_not worker false e = inr (eqb-false own worker e)

    at : (worker : ℕ) (list : List Entry) → worker < length (slice_set lists own longer) → list ≡ get_or (slice_set lists own longer) worker []
        → (own ≡ worker) ⊎ (own ≢ worker) → list ≡ taken_by workers worker (waiting ++ entry ∷ [])
    at worker list within is (inl same) =
        let inside : own < length lists = omega (arith, same, length-set lists own longer) in
        is ∙ ap (λ w. get_or (slice_set lists own longer) w []) (sym same) ∙ get_or-set_same lists own longer [] inside
        ∙ ap (λ held. held ++ entry ∷ []) (held own inside)
        ∙ sym (taken_more workers own waiting entry ∙ ap (λ b. taken_by workers own waiting ++ cond b (entry ∷ []) []) (eq-eqb own own refl))
        ∙ ap (λ w. taken_by workers w (waiting ++ entry ∷ [])) same
    at worker list within is (inr other) =
        let inside : worker < length lists = omega (arith, length-set lists own longer) in
        is ∙ get_or-set_other lists own worker longer [] (λ same. other (sym same))
        ∙ held worker inside
        ∙ sym (taken_more workers worker waiting entry ∙ ap (λ b. taken_by workers worker waiting ++ cond b (entry ∷ []) []) (ne_eqb own worker other)
        ∙ append-nil (taken_by workers worker waiting))

-- An entry was put at the end of the list in the vector at a place.
pub given : {A : Type 0} (vectors : List (Vec Entry A)) (place worker : ℕ) (read now : Vec Entry A) (entry : Entry) → place ≡ worker → worker < length vectors
    → read ≡ get_or vectors place read → now.items ≡ read.items ++ entry ∷ []
    → lists_in (set vectors place now) ≡ slice_set (lists_in vectors) worker (get_or (lists_in vectors) worker [] ++ entry ∷ [])
given {A} vectors place worker read now entry same inside is longer =
    ap (λ p. lists_in (set vectors p now)) same
    ∙ map-set (λ (vector : Vec Entry A). vector.items) vectors worker now
    ∙ ap (slice_set (lists_in vectors) worker) (longer
    ∙ ap (λ (vector : Vec Entry A). vector.items ++ entry ∷ []) (is ∙ ap (λ p. get_or vectors p read) same)
    ∙ ap (λ list. list ++ entry ∷ []) (sym (get_or-map (λ (vector : Vec Entry A). vector.items) vectors worker read [] inside)))

-- The list of the worker of an entry is there.
pub list_there : (workers : ℕ) (waiting : List Entry) (lists : List (List Entry)) (entry : Entry) → AreWorkersLists workers waiting lists
    → text_link entry % workers < length lists
list_there workers waiting lists entry are = let below : text_link entry % workers < workers = mod-lt (text_link entry) are.some in omega (arith, are.count)

-- ---- without the empty ones

-- The fewer lists are all the lists but for some empty ones.
abbrev AreAllBut : List (List Entry) → List (List Entry) → Type 0
AreAllBut [] fewer = fewer ≡ []
AreAllBut (list ∷ lists) [] = (list ≡ []) × AreAllBut lists []
AreAllBut (list ∷ lists) (first ∷ fewer) = ((list ≡ first) × AreAllBut lists fewer) ⊎ ((list ≡ []) × AreAllBut lists (first ∷ fewer))

but_empty : (lists fewer : List (List Entry)) → AreAllBut lists fewer → AreAllBut ([] ∷ lists) fewer
but_empty lists [] all = (refl, all)
but_empty lists (first ∷ fewer) all = inr (refl, all)

filled_are_all_but : (lists : List (List Entry)) → AreAllBut lists (filter is_filled lists)
filled_are_all_but [] = refl
filled_are_all_but ([] ∷ lists) = but_empty lists (filter is_filled lists) (filled_are_all_but lists)
filled_are_all_but ((entry ∷ list) ∷ lists) = inl (refl, filled_are_all_but lists)

-- The next entry of one of the fewer lists is that of one of all.
next_of : (lists fewer : List (List Entry)) (place : ℕ) (entry : Entry) (rest : List Entry) → AreAllBut lists fewer
    → slice_get fewer place ≡ Some (entry ∷ rest)
    → (own : ℕ) × (slice_get lists own ≡ Some (entry ∷ rest)) × AreAllBut (set lists own rest) (slice_set fewer place rest)
next_of [] [] place entry rest all there = absurd (cc)
next_of [] (first ∷ fewer) place entry rest all there = absurd (cc)
next_of (list ∷ lists) [] place entry rest all there = absurd (cc)
next_of (list ∷ lists) (first ∷ fewer) zero entry rest (inl found) there =
    let is : first ≡ entry ∷ rest = cc in (0, ap Some (found.0 ∙ is), inl (refl, found.1))
next_of (list ∷ lists) (first ∷ fewer) (suc place) entry rest (inl found) there =
    let next = next_of lists fewer place entry rest found.1 there in (suc next.0, next.1, inl (found.0, next.2))
next_of (list ∷ lists) (first ∷ fewer) place entry rest (inr found) there =
    let next = next_of lists (first ∷ fewer) place entry rest found.1 there in (suc next.0, next.1, behind list (set lists next.0 rest) (slice_set (first ∷ fewer) place rest) found.0 next.2)
  where
    behind : (list : List Entry) (lists fewer : List (List Entry)) → list ≡ [] → AreAllBut lists fewer → AreAllBut (list ∷ lists) fewer
    behind list lists fewer empty all = subst (λ l. AreAllBut (l ∷ lists) fewer) (sym empty) (but_empty lists fewer all)

-- Where the fewer lists are used up, all are.
all_used_up : (lists fewer : List (List Entry)) → AreAllBut lists fewer → All (λ list. list ≡ []) fewer
    → (worker : ℕ) (list : List Entry) → slice_get lists worker ≡ Some list → list ≡ []
all_used_up [] fewer all empty worker list there = absurd (cc)
all_used_up (first ∷ lists) [] all empty zero list there = let is : first ≡ list = cc in sym is ∙ all.0
all_used_up (first ∷ lists) [] all empty (suc worker) list there = all_used_up lists [] all.1 empty worker list there
all_used_up (first ∷ lists) (other ∷ fewer) (inl found) empty zero list there =
    let is : first ≡ list = cc in sym is ∙ found.0 ∙ All-head (λ list. list ≡ []) other fewer empty
all_used_up (first ∷ lists) (other ∷ fewer) (inl found) empty (suc worker) list there =
    all_used_up lists fewer found.1 (All-tail (λ list. list ≡ []) other fewer empty) worker list there
all_used_up (first ∷ lists) (other ∷ fewer) (inr found) empty zero list there = let is : first ≡ list = cc in sym is ∙ found.0
all_used_up (first ∷ lists) (other ∷ fewer) (inr found) empty (suc worker) list there =
    all_used_up lists (other ∷ fewer) found.1 empty worker list there

-- What interleaves the fewer lists weaves all.
interleaved_is_woven : (woven : List Entry) (lists fewer : List (List Entry)) → AreAllBut lists fewer → Interleaves fewer woven → IsWoven lists woven
interleaved_is_woven [] lists fewer all empty = all_used_up lists fewer all empty
interleaved_is_woven (first ∷ woven) lists fewer all (place, rest, there, behind) =
    let next = next_of lists fewer place first rest all there in
    (next.0, rest, next.1, interleaved_is_woven woven (set lists next.0 rest) (slice_set fewer place rest) next.2 behind)

-- So the workers take what waits, where what they take is interleaved.
pub interleaved_is_taken : (workers : ℕ) (waiting woven : List Entry) (busy : List (List Entry)) → AreBusyLists workers waiting busy
    → Interleaves busy woven → AreTaken workers waiting woven
interleaved_is_taken workers waiting woven busy are interleaved =
    woven_is_taken workers waiting are.lists woven are.each
    (interleaved_is_woven woven are.lists busy (subst (AreAllBut are.lists) (sym are.filled) (filled_are_all_but are.lists)) interleaved)

-- ---- how many

filled_are_fewer : (lists : List (List Entry)) → length (filter is_filled lists) ≤ length lists
filled_are_fewer [] = omega arith
filled_are_fewer ([] ∷ lists) = omega (arith, filled_are_fewer lists)
filled_are_fewer ((entry ∷ list) ∷ lists) = omega (arith, filled_are_fewer lists)

-- No more than the workers take something.
pub busy_are_few : (workers : ℕ) (waiting : List Entry) (busy : List (List Entry)) → AreBusyLists workers waiting busy → length busy ≤ workers
busy_are_few workers waiting busy are = omega (arith, ap length are.filled, filled_are_fewer are.lists, are.each.count)

-- Some worker takes something, where something waits.
pub some_are_busy : (workers : ℕ) (waiting : List Entry) (busy : List (List Entry)) → waiting ≢ [] → AreBusyLists workers waiting busy → 1 ≤ length busy
some_are_busy workers [] busy any are = absurd (any refl)
some_are_busy workers (first ∷ waiting) [] any are = absurd (let own = takes ∙ none in cc)
  where
    worker : ℕ
    worker = text_link first % workers

    takes : first ∷ taken_by workers worker waiting ≡ taken_by workers worker (first ∷ waiting)
    takes = sym (ap (λ b. cond b (first ∷ taken_by workers worker waiting) (taken_by workers worker waiting)) (eq-eqb worker worker refl))

    inside : worker < length are.lists
    inside = list_there workers (first ∷ waiting) are.lists first are.each

    list : List Entry
    list = get_or are.lists worker []

    there : slice_get are.lists worker ≡ Some list
    there = slice_get-get_or are.lists worker [] inside

    none : taken_by workers worker (first ∷ waiting) ≡ []
    none = sym (are.each.each worker list there)
        ∙ all_used_up are.lists [] (subst (AreAllBut are.lists) (sym are.filled) (filled_are_all_but are.lists)) (λ k d inside. absurd (omega arith)) worker list there
some_are_busy workers (first ∷ waiting) (list ∷ busy) any are = omega arith
