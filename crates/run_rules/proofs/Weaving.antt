-- What workers take of waiting entries, woven into one list.
use Rattle.std.proofs.Common.{◌≡◌, ◌≢◌, ◌⊎◌, ◌<◌, ◌≤◌, ◌%◌, ◌==◌, ℕ, zero, suc, inl, inr, Bool, true, false, cond, List, [], ◌∷◌, set, length, get_or, Option, Some, None, slice_get, unwrap_or, refl, sym, ap, ◌∙◌, subst, arith, eq-eqb, ne_eqb, eqb-true, get_or-set_same, get_or-set_other, length-set, mod-lt}
use Rattle.std.proofs.lemmas.Bool.{cases_lt, eqb-false}
use Rattle.std.proofs.lemmas.Option.{get_or_from_slice_get, slice_get-get_or, slice_get_within, unwrap_or-slice_get}
use Rattle.aircraft_core.specs.Entries.{line_of}
use Rattle.aircraft_core.specs.declared.entry.Entry.{Entry}
use Rattle.run_rules.specs.Among.{IsAmong}
use Rattle.run_rules.specs.EarlierLines.{AreTaken, AreWorkersLists, taken_by, text_link}
use Rattle.run_rules.specs.Orders.{IsOrdered, IsRising, MayPass, is_burst_line, line_order, place_on, reading_at}
use Rattle.run_rules.specs.declared.reading.Reading.{Reading}
use Rattle.run_rules.proofs.Members.{among_filter, among_map, among_mapped, filter_among}
use Rattle.run_rules.proofs.Rising.{rising_filter}

-- ---- weaving

-- The lists are woven into this one: each of its entries was the first that was left of some list, and in the end none is left.
abbrev pub IsWoven : List (List Entry) → List Entry → Type 0
IsWoven lists [] = (worker : ℕ) (list : List Entry) → slice_get lists worker ≡ Some list → list ≡ []
IsWoven lists (first ∷ woven) =
    (worker : ℕ) × (rest : List Entry) × (slice_get lists worker ≡ Some (first ∷ rest)) × IsWoven (set lists worker rest) woven

-- ---- what was taken is what waited

module _ (workers : ℕ) where
  own_taken : (made : List Entry) (entry : Entry) → IsAmong entry made → IsAmong entry (taken_by workers (text_link entry % workers) made)
  own_taken made entry among =
      among_filter (λ other. text_link other % workers == text_link entry % workers) entry made among
      (eq-eqb (text_link entry % workers) (text_link entry % workers) refl)

  taken_among : (one other : List Entry) → AreTaken workers one other → (entry : Entry) → IsAmong entry one → IsAmong entry other
  taken_among one other taken entry among =
      (filter_among (λ each. text_link each % workers == text_link entry % workers) entry other
      (subst (IsAmong entry) (sym (taken (text_link entry % workers))) (own_taken one entry among))).0

  pub waiting_is_taken : (waiting woven : List Entry) → AreTaken workers waiting woven → (entry : Entry) → IsAmong entry waiting → IsAmong entry woven
  waiting_is_taken waiting woven taken = taken_among waiting woven taken

  pub taken_was_waiting : (waiting woven : List Entry) → AreTaken workers waiting woven → (entry : Entry) → IsAmong entry woven → IsAmong entry waiting
  taken_was_waiting waiting woven taken = taken_among woven waiting (λ worker. sym (taken worker))

-- ---- in an allowed order

module _ (addresses : List (List ℕ)) (readings : List Reading) (workers start : ℕ) where
  -- The entry's line is in the burst, and its text's link is the place of the line's address.
  pub record StandsInBurst (entry : Entry) : Type 0 where
    pub from : start ≤ line_of entry
    pub upto : line_of entry ≤ length readings
    pub place : place_on addresses (reading_at readings (line_of entry)) ≡ Some (text_link entry)

  other_worker : ((number : ℕ) → start ≤ number → number ≤ length readings → is_burst_line (reading_at readings number) ≡ true)
      → (first other : Entry) → StandsInBurst first → StandsInBurst other → (text_link other % workers ≢ text_link first % workers)
      → (line_of first < line_of other) ⊎ ((line_of other < line_of first) × MayPass addresses readings workers (line_of other) (line_of first))
  other_worker burst first other one two apart = at (cases_lt (line_of first) (line_of other)) (cases_lt (line_of other) (line_of first))
    where
      passes : MayPass addresses readings workers (line_of other) (line_of first)
      passes = record {
        burst = λ number from upto.
            let above : start ≤ number = omega (arith, two.from) in
            let below : number ≤ length readings = omega (arith, one.upto) in burst number above below;
        one = text_link other;
        other = text_link first;
        earlier_place = two.place;
        later_place = one.place;
        apart = apart;
      }

      same : line_of first ≡ line_of other → text_link other % workers ≡ text_link first % workers
      same e =
          let link : Some (text_link other) ≡ Some (text_link first)
          = sym two.place ∙ ap (λ line. place_on addresses (reading_at readings line)) (sym e) ∙ one.place in
          let links : text_link other ≡ text_link first = cc in ap (λ link. link % workers) links

      at : (line_of first < line_of other) ⊎ (line_of other ≤ line_of first) → (line_of other < line_of first) ⊎ (line_of first ≤ line_of other)
          → (line_of first < line_of other) ⊎ ((line_of other < line_of first) × MayPass addresses readings workers (line_of other) (line_of first))
      at (inl before) where_other = inl before
      at (inr behind) (inl behind_it) = inr (behind_it, passes)
      at (inr behind) (inr before) = let e : line_of first ≡ line_of other = omega arith in absurd (apart (same e))

  -- Entries of a burst are in an allowed order, where those of each worker rise.
  pub burst_ordered : ((number : ℕ) → start ≤ number → number ≤ length readings → is_burst_line (reading_at readings number) ≡ true)
      → (woven : List Entry) → ((entry : Entry) → IsAmong entry woven → StandsInBurst entry)
      → ((worker : ℕ) → IsRising (line_order (taken_by workers worker woven))) → IsOrdered addresses readings workers (line_order woven)
  burst_ordered burst [] stand rising = tt
  burst_ordered burst (first ∷ woven) stand rising = (
    λ number among. before number (among_mapped line_of number woven among),
    burst_ordered burst woven (λ entry among. stand entry (inr among)) (λ worker. later worker (text_link first % workers == worker) (rising worker)),
  )
    where
      later : (worker : ℕ) (b : Bool) → IsRising (line_order (cond b (first ∷ taken_by workers worker woven) (taken_by workers worker woven)))
          → IsRising (line_order (taken_by workers worker woven))
      later worker true rises = rises.1
      later worker false rises = rises

      own : IsRising (line_order (first ∷ taken_by workers (text_link first % workers) woven))
      own = subst (λ b. IsRising (line_order (cond b (first ∷ taken_by workers (text_link first % workers) woven) (taken_by workers (text_link first % workers) woven))))
          (eq-eqb (text_link first % workers) (text_link first % workers) refl) (rising (text_link first % workers))

      pair : (entry : Entry) → IsAmong entry woven → (b : Bool) → (text_link entry % workers == text_link first % workers) ≡ b
          → (line_of first < line_of entry) ⊎ ((line_of entry < line_of first) × MayPass addresses readings workers (line_of entry) (line_of first))
      pair entry among true e =
          inl (own.0 (line_of entry) (among_map line_of entry (taken_by workers (text_link first % workers) woven)
          (among_filter (λ other. text_link other % workers == text_link first % workers) entry woven among e)))
      pair entry among false e =
          other_worker burst first entry (stand first (inl refl)) (stand entry (inr among))
          (eqb-false (text_link entry % workers) (text_link first % workers) e)

      before : (number : ℕ) → ((entry : Entry) × IsAmong entry woven × (line_of entry ≡ number))
          → (line_of first < number) ⊎ ((number < line_of first) × MayPass addresses readings workers number (line_of first))
      before number found =
          subst (λ n. (line_of first < n) ⊎ ((n < line_of first) × MayPass addresses readings workers n (line_of first))) found.2
          (pair found.0 found.1 (text_link found.0 % workers == text_link first % workers) refl)

-- The same of what was taken of waiting entries that rise.
pub taken_rises : (workers : ℕ) (waiting woven : List Entry) → IsRising (line_order waiting) → AreTaken workers waiting woven
    → (worker : ℕ) → IsRising (line_order (taken_by workers worker woven))
taken_rises workers waiting woven rising taken worker =
    subst (λ list. IsRising (line_order list)) (sym (taken worker)) (rising_filter (λ entry. text_link entry % workers == worker) waiting rising)

-- ---- lists woven into one

slice_get-set : {A : Type 0} (lists : List A) (place : ℕ) (item : A) (other : ℕ) (found : A) → slice_get (set lists place item) other ≡ Some found
    → ((place ≡ other) × (found ≡ item)) ⊎ ((place ≢ other) × (slice_get lists other ≡ Some found))
slice_get-set [] place item other found there = absurd (cc)
slice_get-set (first ∷ lists) zero item zero found there = inl (refl, let e : found ≡ item = cc in e)
slice_get-set (first ∷ lists) zero item (suc other) found there = inr ((λ e. absurd (cc)), there)
slice_get-set (first ∷ lists) (suc place) item zero found there = inr ((λ e. absurd (cc)), there)
slice_get-set (first ∷ lists) (suc place) item (suc other) found there = at (slice_get-set lists place item other found there)
  where
    at : ((place ≡ other) × (found ≡ item)) ⊎ ((place ≢ other) × (slice_get lists other ≡ Some found))
        → ((suc place ≡ suc other) × (found ≡ item)) ⊎ ((suc place ≢ suc other) × (slice_get lists other ≡ Some found))
    at (inl same) = inl (ap suc same.0, same.1)
    at (inr differ) = inr ((λ e. differ.0 (cc)), differ.1)

-- what stands in the list of a worker
abbrev list_at : List (List Entry) → ℕ → List Entry
list_at lists worker = get_or lists worker []

list_found : (lists : List (List Entry)) (worker : ℕ) (list : List Entry) → slice_get lists worker ≡ Some list → list_at lists worker ≡ list
list_found lists worker list there = get_or_from_slice_get lists worker list [] there

list_missing : (lists : List (List Entry)) (worker : ℕ) → slice_get lists worker ≡ None → list_at lists worker ≡ []
list_missing lists worker none = sym (unwrap_or-slice_get lists worker []) ∙ ap (λ found. unwrap_or found []) none

-- Each list holds entries of its worker's links.
abbrev AreOwnLists : ℕ → List (List Entry) → Type 0
AreOwnLists workers lists = (worker : ℕ) (entry : Entry) → IsAmong entry (list_at lists worker) → text_link entry % workers ≡ worker

module _ (workers : ℕ) where
  own_rest : (lists : List (List Entry)) (worker : ℕ) (first : Entry) (rest : List Entry) → slice_get lists worker ≡ Some (first ∷ rest)
      → AreOwnLists workers lists → AreOwnLists workers (set lists worker rest)
  own_rest lists worker first rest there own other entry = at (worker == other) refl
    where
      inside : worker < length lists
      inside = slice_get_within lists worker (first ∷ rest) there

      at : (b : Bool) → (worker == other) ≡ b → IsAmong entry (list_at (set lists worker rest) other) → text_link entry % workers ≡ other
      at true e among =
          let same = eqb-true worker other e in
          subst (λ w. text_link entry % workers ≡ w) same
          (own worker entry (subst (IsAmong entry) (sym (list_found lists worker (first ∷ rest) there))
          (inr (subst (IsAmong entry) (get_or-set_same lists worker rest [] inside)
          (subst (λ w. IsAmong entry (list_at (set lists worker rest) w)) (sym same) among)))))
      at false e among =
          own other entry (subst (IsAmong entry) (get_or-set_other lists worker other rest [] (λ same. eqb-false worker other e (sym same))) among)

  -- From lists that are woven into one each worker took its own.
  woven_lists : (lists : List (List Entry)) (woven : List Entry) → AreOwnLists workers lists → IsWoven lists woven
      → (worker : ℕ) → taken_by workers worker woven ≡ list_at lists worker
  woven_lists lists [] own none_left worker = at (slice_get lists worker) refl
    where
      at : (found : Option (List Entry)) → slice_get lists worker ≡ found → [] ≡ list_at lists worker
      at None e = sym (list_missing lists worker e)
      at (Some list) e = sym (list_found lists worker list e ∙ none_left worker list e)
  woven_lists lists (first ∷ woven) own (from, rest, there, behind) worker =
      at (from == worker) refl (woven_lists (set lists from rest) woven (own_rest lists from first rest there own) behind worker)
    where
      link : text_link first % workers ≡ from
      link = own from first (subst (IsAmong first) (sym (list_found lists from (first ∷ rest) there)) (inl refl))

      at : (b : Bool) → (from == worker) ≡ b → taken_by workers worker woven ≡ list_at (set lists from rest) worker
          → cond (text_link first % workers == worker) (first ∷ taken_by workers worker woven) (taken_by workers worker woven) ≡ list_at lists worker
      at true e later =
          let same = eqb-true from worker e in
          ap (λ w. cond (w == worker) (first ∷ taken_by workers worker woven) (taken_by workers worker woven)) link
          ∙ ap (λ b. cond b (first ∷ taken_by workers worker woven) (taken_by workers worker woven)) e
          ∙ ap (λ list. first ∷ list) (later ∙ ap (list_at (set lists from rest)) (sym same)
          ∙ get_or-set_same lists from rest [] (slice_get_within lists from (first ∷ rest) there))
          ∙ sym (list_found lists from (first ∷ rest) there)
          ∙ ap (list_at lists) same
      at false e later =
          ap (λ w. cond (w == worker) (first ∷ taken_by workers worker woven) (taken_by workers worker woven)) link
          ∙ ap (λ b. cond b (first ∷ taken_by workers worker woven) (taken_by workers worker woven)) e
          ∙ later ∙ get_or-set_other lists from worker rest [] (λ same. eqb-false from worker e (sym same))

-- No worker behind the last takes an entry.
none_behind : (workers worker : ℕ) (made : List Entry) → 1 ≤ workers → workers ≤ worker → taken_by workers worker made ≡ []
none_behind workers worker [] some behind = refl
none_behind workers worker (entry ∷ made) some behind =
    let below : text_link entry % workers < workers = mod-lt (text_link entry) some in
    ap (λ b. cond b (entry ∷ taken_by workers worker made) (taken_by workers worker made))
    (ne_eqb (text_link entry % workers) worker (λ same. absurd (omega arith)))
    ∙ none_behind workers worker made some behind

workers_list_at : (workers : ℕ) (waiting : List Entry) (lists : List (List Entry)) → AreWorkersLists workers waiting lists
    → (worker : ℕ) → list_at lists worker ≡ taken_by workers worker waiting
workers_list_at workers waiting lists are worker = at (slice_get lists worker) refl
  where
    at : (found : Option (List Entry)) → slice_get lists worker ≡ found → list_at lists worker ≡ taken_by workers worker waiting
    at None e =
        let past : workers ≤ worker = by (cases_lt worker workers) in
        list_missing lists worker e ∙ sym (none_behind workers worker waiting are.some past)
      where
        by : (worker < workers) ⊎ (workers ≤ worker) → workers ≤ worker
        by (inl inside) =
            let within : worker < length lists = omega (arith, are.count) in
            absurd (let there = slice_get-get_or lists worker [] within in cc)
        by (inr past) = past
    at (Some list) e = list_found lists worker list e ∙ are.each worker list e

-- The workers' lists of waiting entries, woven into one list: so the workers take them.
pub woven_is_taken : (workers : ℕ) (waiting : List Entry) (lists : List (List Entry)) (woven : List Entry) → AreWorkersLists workers waiting lists
    → IsWoven lists woven → AreTaken workers waiting woven
woven_is_taken workers waiting lists woven are is_woven worker =
    woven_lists workers lists woven own is_woven worker ∙ workers_list_at workers waiting lists are worker
  where
    own : AreOwnLists workers lists
    own worker entry among =
        eqb-true (text_link entry % workers) worker
        (filter_among (λ other. text_link other % workers == worker) entry waiting
        (subst (IsAmong entry) (workers_list_at workers waiting lists are worker) among)).1

-- ---- the lists woven in the order of the lines

lists_rest : (workers : ℕ) (first : Entry) (waiting : List Entry) (lists : List (List Entry)) → AreWorkersLists workers (first ∷ waiting) lists
    → AreWorkersLists workers waiting (set lists (text_link first % workers) (taken_by workers (text_link first % workers) waiting))
lists_rest workers first waiting lists are =
    record {
      some = are.some;
      count = length-set lists (text_link first % workers) (taken_by workers (text_link first % workers) waiting) ∙ are.count;
      each = λ worker list there.
          at worker list (slice_get-set lists (text_link first % workers) (taken_by workers (text_link first % workers) waiting) worker list there);
    }
  where
    at : (worker : ℕ) (list : List Entry)
        → ((text_link first % workers ≡ worker) × (list ≡ taken_by workers (text_link first % workers) waiting))
        ⊎ ((text_link first % workers ≢ worker) × (slice_get lists worker ≡ Some list))
        → list ≡ taken_by workers worker waiting
    at worker list (inl same) = same.1 ∙ ap (λ w. taken_by workers w waiting) same.0
    at worker list (inr other) =
        are.each worker list other.1
        ∙ ap (λ b. cond b (first ∷ taken_by workers worker waiting) (taken_by workers worker waiting))
        (ne_eqb (text_link first % workers) worker other.0)

-- Workers' lists can be woven in the order of the lines, as one thread takes them.
pub lines_are_woven : (workers : ℕ) (waiting : List Entry) (lists : List (List Entry)) → AreWorkersLists workers waiting lists → IsWoven lists waiting
lines_are_woven workers [] lists are = are.each
lines_are_woven workers (first ∷ waiting) lists are = (
  text_link first % workers,
  taken_by workers (text_link first % workers) waiting,
  slice_get-get_or lists (text_link first % workers) [] within
      ∙ ap Some (workers_list_at workers (first ∷ waiting) lists are (text_link first % workers)
      ∙ ap (λ b. cond b (first ∷ taken_by workers (text_link first % workers) waiting) (taken_by workers (text_link first % workers) waiting))
      (eq-eqb (text_link first % workers) (text_link first % workers) refl)),
  lines_are_woven workers waiting (set lists (text_link first % workers) (taken_by workers (text_link first % workers) waiting))
      (lists_rest workers first waiting lists are),
)
  where
    within : text_link first % workers < length lists
    within = let below : text_link first % workers < workers = mod-lt (text_link first) are.some in omega (arith, are.count)
