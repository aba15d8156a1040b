-- What a link hears of a journal, in whatever allowed order its entries were taken: the lines of those entries rise.
use Rattle.std.proofs.Common.{◌≡◌, ◌≢◌, ◌⊎◌, ◌<◌, ◌==◌, ℕ, inl, inr, ⊎_elim, Bool, true, false, cond, List, [], ◌∷◌, ◌++◌, filter, refl, sym, ap, ap₂, ◌∙◌, subst, arith, eq-eqb, eqb-true}
use Rattle.std.proofs.lemmas.Bool.{eqb-false}
use Rattle.std.proofs.lemmas.List.Elements.{filter-append}
use Rattle.aircraft_core.specs.Entries.{line_of}
use Rattle.aircraft_core.specs.declared.entry.Entry.{Entry}
use Rattle.run_rules.specs.Among.{IsAmong}
use Rattle.run_rules.specs.Orders.{IsRising, journal_of, line_order}
use Rattle.run_rules.proofs.Journals.{at_line, journal_behind, none_at_line}
use Rattle.run_rules.proofs.Members.{among_back, among_filter, among_front, among_map, among_parts, filter_among}

-- ---- the members of a journal

pub journal_from : (order : List ℕ) (made : List Entry) (entry : Entry) → IsAmong entry (journal_of order made) → IsAmong entry made
journal_from [] made entry among = absurd among
journal_from (number ∷ order) made entry among =
    ⊎_elim (λ here. (filter_among (λ other. line_of other == number) entry made here).0) (λ later. journal_from order made entry later)
    (among_parts entry (at_line number made) (journal_of order made) among)

pub journal_holds : (order : List ℕ) (made : List Entry) (entry : Entry) → IsAmong entry made → IsAmong (line_of entry) order
    → IsAmong entry (journal_of order made)
journal_holds [] made entry among named = absurd named
journal_holds (number ∷ order) made entry among (inl e) =
    among_front entry (at_line number made) (journal_of order made)
    (among_filter (λ other. line_of other == number) entry made among (eq-eqb (line_of entry) number (sym e)))
journal_holds (number ∷ order) made entry among (inr later) =
    among_back entry (at_line number made) (journal_of order made) (journal_holds order made entry among later)

-- ---- what a test leaves of a journal

filter_twice : {A : Type 0} (one other : A → Bool) (items : List A) → filter one (filter other items) ≡ filter other (filter one items)
filter_twice one other [] = refl
filter_twice one other (item ∷ items) = at (one item) refl (other item) refl (filter_twice one other items)
  where
    at : (b : Bool) → one item ≡ b → (c : Bool) → other item ≡ c → filter one (filter other items) ≡ filter other (filter one items)
        → filter one (cond c (item ∷ filter other items) (filter other items)) ≡ filter other (cond b (item ∷ filter one items) (filter one items))
    at true first true second same =
        ap (λ b. cond b (item ∷ filter one (filter other items)) (filter one (filter other items))) first
        ∙ ap (λ list. item ∷ list) same
        ∙ ap (λ b. cond b (item ∷ filter other (filter one items)) (filter other (filter one items))) (sym second)
    at true first false second same = same ∙ ap (λ b. cond b (item ∷ filter other (filter one items)) (filter other (filter one items))) (sym second)
    at false first true second same = ap (λ b. cond b (item ∷ filter one (filter other items)) (filter one (filter other items))) first ∙ same
    at false first false second same = same

pub filter_journal : (test : Entry → Bool) (order : List ℕ) (made : List Entry) → filter test (journal_of order made) ≡ journal_of order (filter test made)
filter_journal test [] made = refl
filter_journal test (number ∷ order) made =
    filter-append test (at_line number made) (journal_of order made)
    ∙ ap₂ (λ (front back : List Entry). front ++ back) (filter_twice test (λ entry. line_of entry == number) made) (filter_journal test order made)

-- ---- a list that is taken in its own order

-- Of any two lines of these entries that stand in the order the first is the earlier one.
abbrev pub StandsRising : List ℕ → List Entry → Type 0
StandsRising [] made = Unit {0}
StandsRising (first ∷ order) made =
    ((one other : Entry) → IsAmong one made → IsAmong other made → line_of one ≡ first → IsAmong (line_of other) order → first < line_of other)
    × StandsRising order made

stands_behind : (order : List ℕ) (entry : Entry) (made : List Entry) → StandsRising order (entry ∷ made) → StandsRising order made
stands_behind [] entry made stands = tt
stands_behind (first ∷ order) entry made stands =
    ((λ one other is_one is_other. stands.0 one other (inr is_one) (inr is_other)), stands_behind order entry made stands.1)

pub rising_stands : (order : List ℕ) (made : List Entry) → IsRising order → StandsRising order made
rising_stands [] made rising = tt
rising_stands (first ∷ order) made rising = ((λ one other is_one is_other e named. rising.0 (line_of other) named), rising_stands order made rising.1)

pub none_of_none : (order : List ℕ) → journal_of order [] ≡ []
none_of_none [] = refl
none_of_none (number ∷ order) = none_of_none order

-- Rising entries, taken in an order in which their lines stand rising, are taken as they stand.
pub arranged : (order : List ℕ) (made : List Entry) → IsRising (line_order made)
    → ((entry : Entry) → IsAmong entry made → IsAmong (line_of entry) order) → StandsRising order made → journal_of order made ≡ made
arranged order [] rising named stands = none_of_none order
arranged [] (entry ∷ made) rising named stands = absurd (named entry (inl refl))
arranged (first ∷ order) (entry ∷ made) rising named stands =
    at (line_of entry == first) refl
    (arranged order made rising.1)
    (arranged order (entry ∷ made) rising)
  where
    above : (other : Entry) → IsAmong other made → line_of entry < line_of other
    above other among = rising.0 (line_of other) (among_map line_of other made among)

    at : (b : Bool) → (line_of entry == first) ≡ b
        → (((other : Entry) → IsAmong other made → IsAmong (line_of other) order) → StandsRising order made → journal_of order made ≡ made)
        → (((other : Entry) → IsAmong other (entry ∷ made) → IsAmong (line_of other) order) → StandsRising order (entry ∷ made) → journal_of order (entry ∷ made) ≡ entry ∷ made)
        → cond b (entry ∷ at_line first made) (at_line first made) ++ journal_of order (entry ∷ made) ≡ entry ∷ made
    at true e its_own rest =
        let line : line_of entry ≡ first = eqb-true (line_of entry) first e in
        ap₂ (λ (here later : List Entry). entry ∷ (here ++ later))
        (none_at_line first made (λ other among same. let behind = above other among in absurd (omega arith)))
        (journal_behind order (entry ∷ []) made (λ number among other is_entry same. once number among other is_entry same)
        ∙ its_own later_named (stands_behind order entry made stands.1))
      where
        once : (number : ℕ) → IsAmong number order → (other : Entry) → IsAmong other (entry ∷ []) → line_of other ≡ number → ⊥
        once number among other (inl is_it) same =
            let line : line_of entry ≡ first = eqb-true (line_of entry) first e in
            let is_number : line_of entry ≡ number = ap line_of is_it ∙ same in
            let before : first < line_of entry = stands.0 entry entry (inl refl) (inl refl) line (subst (λ n. IsAmong n order) (sym is_number) among) in
            absurd (omega arith)
        once number among other (inr none) same = absurd none

        later_named : (other : Entry) → IsAmong other made → IsAmong (line_of other) order
        later_named other among = by (named other (inr among))
          where
            by : (first ≡ line_of other) ⊎ IsAmong (line_of other) order → IsAmong (line_of other) order
            by (inl same) = let behind = above other among in let line : line_of entry ≡ first = eqb-true (line_of entry) first e in absurd (omega arith)
            by (inr there) = there
    at false e its_own rest =
        ap₂ (λ (here later : List Entry). here ++ later)
        (none_at_line first made (λ other among same. nowhere other among same))
        (rest all_named stands.1)
      where
        not_here : line_of entry ≢ first
        not_here = eqb-false (line_of entry) first e

        in_rest : IsAmong (line_of entry) order
        in_rest = by (named entry (inl refl))
          where
            by : (first ≡ line_of entry) ⊎ IsAmong (line_of entry) order → IsAmong (line_of entry) order
            by (inl same) = absurd (not_here (sym same))
            by (inr there) = there

        nowhere : (other : Entry) → IsAmong other made → line_of other ≡ first → ⊥
        nowhere other among same =
            let behind = above other among in
            let before : first < line_of entry = stands.0 other entry (inr among) (inl refl) same in_rest in absurd (omega arith)

        all_named : (other : Entry) → IsAmong other (entry ∷ made) → IsAmong (line_of other) order
        all_named other (inl same) = subst (λ one. IsAmong (line_of one) order) same in_rest
        all_named other (inr among) = by (named other (inr among))
          where
            by : (first ≡ line_of other) ⊎ IsAmong (line_of other) order → IsAmong (line_of other) order
            by (inl same) = absurd (nowhere other among (sym same))
            by (inr there) = there
