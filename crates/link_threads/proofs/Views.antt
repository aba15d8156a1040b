-- What seats know, and counts over all of them.
use Rattle.std.proofs.Common.{◌≡◌, ◌≢◌, ◌⊎◌, inl, inr, ⊎_elim, ℕ, zero, suc, ◌+◌, ◌≤◌, ◌<◌, List, [], ◌∷◌, ◌++◌, length, take, drop, set, refl, ap, sym, ◌∙◌, subst, arith, length-append}
use Rattle.std.specs.List.{AllByRecursion}
use mathlib.Core.Option.{some, some-injective, some-ne-none}
use lib.ListN.{get_elem?}
use Rattle.aircraft_core.specs.declared.entry.Entry.{Entry}
use Rattle.link_threads.specs.declared.known.Held.{Held}
use Rattle.link_threads.specs.declared.known.Known.{Known}
use Rattle.link_threads.specs.Interleavings.{entries_in, AreApart}
use Rattle.link_threads.specs.Turns.{numbers_of, entries_held, IsOwned, total, onto_first, empty_lists}
use Rattle.link_threads.proofs.Logs.{with_number_push, with_number_other}

module _ {A : Type 0} where
  -- what holds of each element also holds of each of two lists, joined
  pub all_append : (P : A → Type 0) (xs ys : List A) → AllByRecursion P xs → AllByRecursion P ys → AllByRecursion P (xs ++ ys)
  all_append P [] ys h k = k
  all_append P (x ∷ xs) ys h k = (h.0, all_append P xs ys h.1 k)

  pub all_front : (P : A → Type 0) (xs ys : List A) → AllByRecursion P (xs ++ ys) → AllByRecursion P xs
  all_front P [] ys h = tt
  all_front P (x ∷ xs) ys h = (h.0, all_front P xs ys h.1)

  pub all_back : (P : A → Type 0) (xs ys : List A) → AllByRecursion P (xs ++ ys) → AllByRecursion P ys
  all_back P [] ys h = h
  all_back P (x ∷ xs) ys h = all_back P xs ys h.1

  pub all_weaker : (P Q : A → Type 0) → ((x : A) → P x → Q x) → (xs : List A) → AllByRecursion P xs → AllByRecursion Q xs
  all_weaker P Q f [] h = tt
  all_weaker P Q f (x ∷ xs) h = (f x h.0, all_weaker P Q f xs h.1)

  -- an element of a list with one more at its end
  pub at_end : (xs : List A) (a b : A) (j : ℕ) → get_elem? (xs ++ a ∷ []) j ≡ some b → (get_elem? xs j ≡ some b) ⊎ ((j ≡ length xs) × (a ≡ b))
  at_end [] a b zero e = inr (refl, some-injective a b e)
  at_end [] a b (suc j) e = absurd (some-ne-none b (sym e))
  at_end (x ∷ xs) a b zero e = inl e
  at_end (x ∷ xs) a b (suc j) e = ⊎_elim (λ h. inl h) (λ h. inr (ap suc h.0, h.1)) (at_end xs a b j e)

  pub within : (xs : List A) (j : ℕ) (b : A) → get_elem? xs j ≡ some b → j < length xs
  within [] j b e = absurd (some-ne-none b (sym e))
  within (x ∷ xs) zero b e = omega arith
  within (x ∷ xs) (suc j) b e = omega (arith, within xs j b e)

module _ (count : Known → ℕ) where
  pub total_set : (views : List Known) (i : ℕ) (v w : Known) → get_elem? views i ≡ some v → total count (set views i w) + count v ≡ total count views + count w
  total_set [] i v w at = absurd (some-ne-none v (sym at))
  total_set (x ∷ views) zero v w at = omega (arith, ap count (some-injective x v at))
  total_set (x ∷ views) (suc i) v w at = omega (arith, total_set views i v w at)

  pub total_append : (views : List Known) (w : Known) → total count (views ++ w ∷ []) ≡ total count views + count w
  total_append [] w = omega arith
  total_append (x ∷ views) w = omega (arith, total_append views w)

  pub total_one : (views : List Known) (i : ℕ) (v : Known) → get_elem? views i ≡ some v → count v ≤ total count views
  total_one [] i v at = absurd (some-ne-none v (sym at))
  total_one (x ∷ views) zero v at = omega (arith, ap count (some-injective x v at))
  total_one (x ∷ views) (suc i) v at = omega (arith, total_one views i v at)

  -- two views
  pub total_two : (views : List Known) (i j : ℕ) (v w : Known) → i ≢ j → get_elem? views i ≡ some v → get_elem? views j ≡ some w → count v + count w ≤ total count views
  total_two [] i j v w apart at there = absurd (some-ne-none v (sym at))
  total_two (x ∷ views) zero zero v w apart at there = absurd (apart refl)
  total_two (x ∷ views) zero (suc j) v w apart at there = omega (arith, ap count (some-injective x v at), total_one views j w there)
  total_two (x ∷ views) (suc i) zero v w apart at there = omega (arith, ap count (some-injective x w there), total_one views i v at)
  total_two (x ∷ views) (suc i) (suc j) v w apart at there = omega (arith, total_two views i j v w (λ e. apart (ap suc e)) at there)

  -- Where only one view has some of the one count, only it has some of the other.
  pub total_none : (other : Known → ℕ) → ((view : Known) → count view ≡ 0 → other view ≡ 0) → (views : List Known) → total count views ≡ 0 → total other views ≡ 0
  total_none other none [] e = refl
  total_none other none (x ∷ views) e = omega (arith, none x (omega arith), total_none other none views (omega arith))

  pub total_alone : (other : Known → ℕ) → ((view : Known) → count view ≡ 0 → other view ≡ 0) → (views : List Known) (i : ℕ) (v : Known) → get_elem? views i ≡ some v → total count views ≡ count v → total other views ≡ other v
  total_alone other none [] i v at e = absurd (some-ne-none v (sym at))
  total_alone other none (x ∷ views) zero v at e =
      let same = some-injective x v at in
      omega (arith, ap other same, total_none other none views (omega (arith, ap count same)))
  total_alone other none (x ∷ views) (suc i) v at e =
      let one = total_one views i v at in
      omega (arith, none x (omega arith), total_alone other none views i v at (omega arith))

-- The lists of a seat after one more entry, of its own first list.
abbrev pub first_number : List Held → ℕ
first_number [] = 0
first_number (held ∷ lists) = held.number

pub numbers_onto_first : (entries : List Entry) (lists : List Held) → numbers_of (onto_first entries lists) ≡ numbers_of lists
numbers_onto_first entries [] = refl
numbers_onto_first entries (held ∷ lists) = refl

pub length_onto_first : (entries : List Entry) (lists : List Held) → length (onto_first entries lists) ≡ length lists
length_onto_first entries [] = refl
length_onto_first entries (held ∷ lists) = refl

pub entries_onto_first : (entries : List Entry) (lists : List Held) → 1 ≤ length lists → entries_in (entries_held (onto_first entries lists)) ≡ entries_in (entries_held lists) + length entries
entries_onto_first entries [] listed = absurd (omega arith)
entries_onto_first entries (held ∷ lists) listed = omega (arith, length-append held.entries entries)

pub first_owned : (lists : List Held) (log : List (ℕ × Entry)) (owner : ℕ → ℕ) (by : ℕ) → 1 ≤ length lists → AllByRecursion (IsOwned log owner by) lists → owner (first_number lists) ≡ by
first_owned [] log owner by listed owned = absurd (omega arith)
first_owned (held ∷ lists) log owner by listed owned = owned.0.1

-- lists of other numbers, after one more entry
pub owned_other : (lists : List Held) (log : List (ℕ × Entry)) (owner : ℕ → ℕ) (by number : ℕ) (entry : Entry) → AllByRecursion (λ held. number ≢ held.number) lists
    → AllByRecursion (IsOwned log owner by) lists → AllByRecursion (IsOwned (log ++ (number, entry) ∷ []) owner by) lists
owned_other [] log owner by number entry apart owned = tt
owned_other (held ∷ lists) log owner by number entry apart owned = ((owned.0.0 ∙ sym (with_number_other number held.number entry log apart.0), owned.0.1), owned_other lists log owner by number entry apart.1 owned.1)

pub number_apart : (number : ℕ) (lists : List Held) → AllByRecursion (λ other. other ≢ number) (numbers_of lists) → AllByRecursion (λ held. number ≢ held.number) lists
number_apart number [] h = tt
number_apart number (held ∷ lists) h = ((λ e. h.0 (sym e)), number_apart number lists h.1)

pub owned_first : (lists : List Held) (log : List (ℕ × Entry)) (owner : ℕ → ℕ) (by : ℕ) (entry : Entry) → 1 ≤ length lists → AreApart (numbers_of lists)
    → AllByRecursion (IsOwned log owner by) lists → AllByRecursion (IsOwned (log ++ (first_number lists, entry) ∷ []) owner by) (onto_first (entry ∷ []) lists)
owned_first [] log owner by entry listed apart owned = tt
owned_first (held ∷ lists) log owner by entry listed apart owned = (
  (ap (λ entries. entries ++ entry ∷ []) owned.0.0 ∙ sym (with_number_push held.number entry log), owned.0.1),
  owned_other lists log owner by held.number entry (number_apart held.number lists apart.0) owned.1,
)

-- A number of one seat is none of another's.
pub not_theirs : (lists : List Held) (log : List (ℕ × Entry)) (owner : ℕ → ℕ) (by other number : ℕ) → owner number ≡ other → by ≢ other → AllByRecursion (IsOwned log owner by) lists
    → AllByRecursion (λ held. number ≢ held.number) lists
not_theirs [] log owner by other number is apart owned = tt
not_theirs (held ∷ lists) log owner by other number is apart owned = ((λ e. apart (sym owned.0.1 ∙ ap owner (sym e) ∙ is)), not_theirs lists log owner by other number is apart owned.1)

-- the same lists, under another owner
pub owned_by : (lists : List Held) (log : List (ℕ × Entry)) (owner now : ℕ → ℕ) (by to : ℕ) → ((number : ℕ) → owner number ≡ by → now number ≡ to) → AllByRecursion (IsOwned log owner by) lists → AllByRecursion (IsOwned log now to) lists
owned_by lists log owner now by to moved owned = all_weaker (IsOwned log owner by) (IsOwned log now to) (λ held h. (h.0, moved held.number h.1)) lists owned

pub owned_apart : (lists : List Held) (log : List (ℕ × Entry)) (owner now : ℕ → ℕ) (by to number : ℕ) → ((other : ℕ) → number ≢ other → owner other ≡ by → now other ≡ to) → AllByRecursion (λ held. number ≢ held.number) lists
    → AllByRecursion (IsOwned log owner by) lists → AllByRecursion (IsOwned log now to) lists
owned_apart [] log owner now by to number moved apart owned = tt
owned_apart (held ∷ lists) log owner now by to number moved apart owned = ((owned.0.0, moved held.number apart.0 owned.0.1), owned_apart lists log owner now by to number moved apart.1 owned.1)

-- The numbers of two seats together.
pub apart_append : (one other : List Held) (log : List (ℕ × Entry)) (owner : ℕ → ℕ) (by to : ℕ) → by ≢ to → AllByRecursion (IsOwned log owner by) one → AllByRecursion (IsOwned log owner to) other
    → AreApart (numbers_of one) → AreApart (numbers_of other) → AreApart (numbers_of (one ++ other))
apart_append [] other log owner by to apart mine theirs a b = b
apart_append (held ∷ one) other log owner by to apart mine theirs a b = (
  subst (AllByRecursion (λ n. n ≢ held.number)) (sym (numbers_append one other)) (all_append _ (numbers_of one) (numbers_of other) a.0 (numbers_differ other (not_theirs other log owner to by held.number mine.0.1 (λ e. apart (sym e)) theirs))),
  apart_append one other log owner by to apart mine.1 theirs a.1 b,
)
  where
    numbers_append : (xs ys : List Held) → numbers_of (xs ++ ys) ≡ numbers_of xs ++ numbers_of ys
    numbers_append [] ys = refl
    numbers_append (x ∷ xs) ys = ap (λ w. x.number ∷ w) (numbers_append xs ys)

    numbers_differ : (ys : List Held) → AllByRecursion (λ other. held.number ≢ other.number) ys → AllByRecursion (λ n. n ≢ held.number) (numbers_of ys)
    numbers_differ [] h = tt
    numbers_differ (y ∷ ys) h = ((λ e. h.0 (sym e)), numbers_differ ys h.1)

pub entries_held_append : (one other : List Held) → entries_held (one ++ other) ≡ entries_held one ++ entries_held other
entries_held_append [] other = refl
entries_held_append (held ∷ one) other = ap (λ w. held.entries ∷ w) (entries_held_append one other)

-- The first list, and the others.
pub entries_split : (lists : List Held) → entries_in (entries_held (take 1 lists)) + entries_in (entries_held (drop 1 lists)) ≡ entries_in (entries_held lists)
entries_split [] = refl
entries_split (held ∷ lists) = omega arith

pub length_split : (lists : List Held) → length (take 1 lists) + length (drop 1 lists) ≡ length lists
length_split [] = refl
length_split (held ∷ lists) = omega arith

-- The lists of the start.
below_all : (n m : ℕ) → n ≤ m → AllByRecursion (λ other. other ≢ m) (numbers_of (empty_lists n))
below_all zero m le = tt
below_all (suc n) m le = ((λ e. omega arith), below_all n m (omega arith))

pub empty_apart : (n : ℕ) → AreApart (numbers_of (empty_lists n))
empty_apart zero = tt
empty_apart (suc n) = (below_all n n (omega arith), empty_apart n)

pub empty_owned : (n : ℕ) → AllByRecursion (IsOwned [] (λ _. 0) 0) (empty_lists n)
empty_owned zero = tt
empty_owned (suc n) = ((refl, refl), empty_owned n)

pub empty_entries : (n : ℕ) → entries_in (entries_held (empty_lists n)) ≡ 0
empty_entries zero = refl
empty_entries (suc n) = omega (arith, empty_entries n)

pub empty_length : (n : ℕ) → length (empty_lists n) ≡ n
empty_length zero = refl
empty_length (suc n) = omega (arith, empty_length n)

pub no_entries : (view : Known) → length view.lists ≡ 0 → entries_in (entries_held view.lists) ≡ 0
no_entries view e = none view.lists e
  where
    none : (lists : List Held) → length lists ≡ 0 → entries_in (entries_held lists) ≡ 0
    none [] e = refl
    none (held ∷ lists) e = absurd (omega arith)
