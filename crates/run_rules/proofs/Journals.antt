-- Entries of logs, and the journals of orders.
use Rattle.std.proofs.Common.{◌≡◌, ◌≢◌, ◌==◌, ◌<◌, ℕ, inl, inr, cond, List, [], ◌∷◌, ◌++◌, filter, refl, sym, ap, ap₂, ◌∙◌, subst, append-nil, append_assoc, arith, eq-eqb, ne_eqb}
use Rattle.std.proofs.lemmas.Grind.{flat_map-append}
use Rattle.std.proofs.lemmas.List.Elements.{filter-append}
use Rattle.aircraft_core.specs.Entries.{line_of}
use Rattle.aircraft_core.specs.declared.entry.Entry.{Entry}
use Rattle.run_rules.specs.Among.{IsAmong}
use Rattle.run_rules.specs.Happenings.{Happening, gathered, entries, entry_in}
use Rattle.run_rules.specs.Orders.{IsRising, journal_of, line_order}
use Rattle.run_rules.proofs.Members.{among_map}

-- ---- the entries of a log

pub gathered-append : {A : Type 0} (told : Happening → List A) (later log : List Happening)
    → gathered told (later ++ log) ≡ gathered told log ++ gathered told later
gathered-append told [] log = sym (append-nil (gathered told log))
gathered-append told (happening ∷ later) log =
    ap (λ list. list ++ told happening) (gathered-append told later log) ∙ append_assoc (gathered told log) (gathered told later) (told happening)

pub entries-append : (later log : List Happening) → entries (later ++ log) ≡ entries log ++ entries later
entries-append later log = gathered-append entry_in later log

-- ---- the entries of one line

-- The entries of a line.
abbrev pub at_line : ℕ → List Entry → List Entry
at_line number made = filter (λ entry. line_of entry == number) made

pub none_at_line : (number : ℕ) (made : List Entry) → ((entry : Entry) → IsAmong entry made → line_of entry ≢ number) → at_line number made ≡ []
none_at_line number [] others = refl
none_at_line number (entry ∷ made) others =
    subst (λ b. cond b (entry ∷ at_line number made) (at_line number made) ≡ []) (sym (ne_eqb (line_of entry) number (others entry (inl refl))))
    (none_at_line number made (λ entry among. others entry (inr among)))

-- ---- the journal of an order

pub journal_of-append : (front back : List ℕ) (made : List Entry) → journal_of (front ++ back) made ≡ journal_of front made ++ journal_of back made
journal_of-append front back made = flat_map-append (λ number. at_line number made) front back

-- An order of other lines names none of the entries.
pub none_in_order : (order : List ℕ) (made : List Entry)
    → ((number : ℕ) → IsAmong number order → (entry : Entry) → IsAmong entry made → line_of entry ≢ number) → journal_of order made ≡ []
none_in_order [] made others = refl
none_in_order (number ∷ order) made others =
    ap₂ (λ (front back : List Entry). front ++ back) (none_at_line number made (others number (inl refl)))
    (none_in_order order made (λ number among. others number (inr among)))

-- The journal of an order is the same without further entries of other lines behind.
pub journal_before : (order : List ℕ) (made more : List Entry)
    → ((number : ℕ) → IsAmong number order → (entry : Entry) → IsAmong entry more → line_of entry ≢ number)
    → journal_of order (made ++ more) ≡ journal_of order made
journal_before [] made more others = refl
journal_before (number ∷ order) made more others =
    ap₂ (λ (front back : List Entry). front ++ back)
    (filter-append (λ entry. line_of entry == number) made more
    ∙ ap (λ list. at_line number made ++ list) (none_at_line number more (others number (inl refl)))
    ∙ append-nil (at_line number made))
    (journal_before order made more (λ number among. others number (inr among)))

-- And without others before.
pub journal_behind : (order : List ℕ) (made more : List Entry)
    → ((number : ℕ) → IsAmong number order → (entry : Entry) → IsAmong entry made → line_of entry ≢ number)
    → journal_of order (made ++ more) ≡ journal_of order more
journal_behind [] made more others = refl
journal_behind (number ∷ order) made more others =
    ap₂ (λ (front back : List Entry). front ++ back)
    (filter-append (λ entry. line_of entry == number) made more
    ∙ ap (λ list. list ++ at_line number more) (none_at_line number made (others number (inl refl))))
    (journal_behind order made more (λ number among. others number (inr among)))

-- Of entries whose lines rise one alone has its line.
pub one_at_line : (made : List Entry) (entry : Entry) → IsRising (line_order made) → IsAmong entry made → at_line (line_of entry) made ≡ entry ∷ []
one_at_line [] entry rising among = absurd among
one_at_line (other ∷ made) entry rising (inl e) =
    subst (λ x. at_line (line_of x) (other ∷ made) ≡ x ∷ []) e
    (subst (λ b. cond b (other ∷ at_line (line_of other) made) (at_line (line_of other) made) ≡ other ∷ []) (sym (eq-eqb (line_of other) (line_of other) refl))
    (ap (λ list. other ∷ list) (none_at_line (line_of other) made (λ later among same.
    let above : line_of other < line_of later = rising.0 (line_of later) (among_map line_of later made among) in absurd (omega arith)))))
one_at_line (other ∷ made) entry rising (inr among) =
    let above : line_of other < line_of entry = rising.0 (line_of entry) (among_map line_of entry made among) in
    subst (λ b. cond b (other ∷ at_line (line_of entry) made) (at_line (line_of entry) made) ≡ entry ∷ [])
    (sym (ne_eqb (line_of other) (line_of entry) (λ same. absurd (omega arith))))
    (one_at_line made entry rising.1 among)

-- The journal of the lines of some of them, in any order, is these.
pub journal_of_lines : (made some : List Entry) → IsRising (line_order made) → ((entry : Entry) → IsAmong entry some → IsAmong entry made)
    → journal_of (line_order some) made ≡ some
journal_of_lines made [] rising all = refl
journal_of_lines made (entry ∷ some) rising all =
    ap₂ (λ (front back : List Entry). front ++ back) (one_at_line made entry rising (all entry (inl refl)))
    (journal_of_lines made some rising (λ other among. all other (inr among)))
