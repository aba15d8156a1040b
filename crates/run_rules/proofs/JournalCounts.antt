-- In an allowed order the line of each entry stands once, so the journal has as many entries as were made.
use Rattle.std.proofs.Common.{◌≡◌, ◌≢◌, ◌⊎◌, ℕ, ◌+◌, ◌==◌, Bool, true, false, cond, if◌then◌else◌, List, [], ◌∷◌, ◌++◌, Option, Some, None, length, inl, inr, refl, sym, ◌∙◌, ap, subst, arith, eq-eqb, length-append}
use Rattle.std.specs.List.{count_by}
use Rattle.std.proofs.lemmas.Bool.{cases_eq, ne_eqb}
use Rattle.std.proofs.lemmas.List.Sums.{sum_by-cons}
use Rattle.aircraft_core.specs.Entries.{line_of}
use Rattle.aircraft_core.specs.Setting.{Setting}
use Rattle.aircraft_core.specs.declared.entry.Entry.{Entry}
use Rattle.run_rules.specs.Among.{IsAmong}
use Rattle.run_rules.specs.Happenings.{entries}
use Rattle.run_rules.specs.Laws.{EachEntryStandsOnce}
use Rattle.run_rules.specs.Orders.{IsOrdered, IsRising, journal_of, line_order}
use Rattle.run_rules.specs.Runs.{IsAllowedOrder, Run, Script, ScriptRun, addresses_in, journal_at}
use Rattle.run_rules.specs.declared.reading.Reading.{Reading}
use Rattle.run_rules.proofs.HeardLines.{log_fits, nothing_happened}
use Rattle.run_rules.proofs.Journals.{at_line, one_at_line}

-- ---- how often a line stands in an order

-- How often a number stands in an order.
abbrev occurs : ℕ → List ℕ → ℕ
occurs number order = count_by (λ other. other == number) order

one_occurs : (number other : ℕ) (order : List ℕ) → other ≡ number → occurs number (other ∷ order) ≡ 1 + occurs number order
one_occurs number other order is =
    sum_by-cons (λ n. if n == number then 1 else 0) other order
    ∙ ap (λ test. (if test then 1 else 0) + occurs number order) (eq-eqb other number is)

none_occurs : (number other : ℕ) (order : List ℕ) → other ≢ number → occurs number (other ∷ order) ≡ occurs number order
none_occurs number other order apart =
    sum_by-cons (λ n. if n == number then 1 else 0) other order
    ∙ ap (λ test. (if test then 1 else 0) + occurs number order) (ne_eqb other number apart) ∙ omega arith

never : (number : ℕ) (order : List ℕ) → (IsAmong number order → ⊥) → occurs number order ≡ 0
never number [] none = refl
never number (other ∷ order) none = none_occurs number other order (λ is. none (inl is)) ∙ never number order (λ among. none (inr among))

-- In an order each number stands once.
once : (addresses : List (List ℕ)) (readings : List Reading) (workers number : ℕ) (order : List ℕ) → IsOrdered addresses readings workers order
    → IsAmong number order → occurs number order ≡ 1
once addresses readings workers number [] ordered among = absurd among
once addresses readings workers number (first ∷ order) ordered (inl is) =
    one_occurs number first order is ∙ ap (λ n. 1 + n) (never number order behind)
  where
    behind : IsAmong number order → ⊥
    behind among = elim (ordered.0 number among) [
      | inl later ↦ omega (arith, later, is)
      | inr earlier ↦ omega (arith, earlier.0, is)
    ]
once addresses readings workers number (first ∷ order) ordered (inr among) =
    none_occurs number first order apart ∙ once addresses readings workers number order ordered.1 among
  where
    apart : first ≢ number
    apart is = elim (ordered.0 number among) [
      | inl later ↦ omega (arith, later, is)
      | inr earlier ↦ omega (arith, earlier.0, is)
    ]

-- ---- the journal

none_made : (order : List ℕ) → length (journal_of order []) ≡ 0
none_made [] = refl
none_made (number ∷ order) = none_made order

-- An entry more stands in the journal as often as its line in the order.
one_more_made : (order : List ℕ) (entry : Entry) (made : List Entry)
    → length (journal_of order (entry ∷ made)) ≡ occurs (line_of entry) order + length (journal_of order made)
one_more_made [] entry made = refl
one_more_made (number ∷ order) entry made = at (one_more_made order entry made) (cases_eq (line_of entry) number)
  where
    ours : List Entry
    ours = at_line number made

    with_test : (is : Bool) → (line_of entry == number) ≡ is
        → length (at_line number (entry ∷ made) ++ journal_of order (entry ∷ made)) ≡ length (cond is (entry ∷ ours) ours) + length (journal_of order (entry ∷ made))
    with_test is e =
        ap (λ test. length (cond test (entry ∷ ours) ours ++ journal_of order (entry ∷ made))) e
        ∙ length-append (cond is (entry ∷ ours) ours) (journal_of order (entry ∷ made))

    at : length (journal_of order (entry ∷ made)) ≡ occurs (line_of entry) order + length (journal_of order made)
        → (line_of entry ≡ number) ⊎ (line_of entry ≢ number)
        → length (at_line number (entry ∷ made) ++ journal_of order (entry ∷ made))
        ≡ occurs (line_of entry) (number ∷ order) + length (ours ++ journal_of order made)
    at rest (inl is) =
        omega (
          arith,
          rest,
          with_test true (eq-eqb (line_of entry) number is),
          one_occurs (line_of entry) number order (sym is),
          length-append ours (journal_of order made),
        )
    at rest (inr apart) =
        omega (
          arith,
          rest,
          with_test false (ne_eqb (line_of entry) number apart),
          none_occurs (line_of entry) number order (λ is. apart (sym is)),
          length-append ours (journal_of order made),
        )

-- So where each entry's line stands in an order, the journal has all entries, and none twice.
journal_count : (addresses : List (List ℕ)) (readings : List Reading) (workers : ℕ) (order : List ℕ) (made : List Entry) → IsOrdered addresses readings workers order
    → ((entry : Entry) → IsAmong entry made → IsAmong (line_of entry) order) → length (journal_of order made) ≡ length made
journal_count addresses readings workers order [] ordered whole = none_made order
journal_count addresses readings workers order (entry ∷ made) ordered whole =
    omega (
      arith,
      one_more_made order entry made,
      once addresses readings workers (line_of entry) order ordered (whole entry (inl refl)),
      journal_count addresses readings workers order made ordered (λ e among. whole e (inr among)),
    )

-- The journal of an allowed order has as many entries as were made.
pub as_many : (script : Script) (run : Run) (workers : ℕ) (order : List ℕ) → IsAllowedOrder script run workers order
    → length (journal_at order run.log) ≡ length (entries run.log)
as_many script run workers order allowed =
    journal_count (addresses_in run.setting) script.readings workers order (entries run.log) allowed.ordered allowed.lines.whole

-- ---- the order

-- Where the lines of entries rise, an order of these lines is as long as their journal.
order_count : (order : List ℕ) (made : List Entry) → IsRising (line_order made)
    → ((number : ℕ) → IsAmong number order → (entry : Entry) × IsAmong entry made × (line_of entry ≡ number))
    → length (journal_of order made) ≡ length order
order_count [] made rising only = refl
order_count (number ∷ order) made rising only =
    let its = only number (inl refl) in
    let one : length (at_line number made) ≡ 1
    = ap (λ n. length (at_line n made)) (sym its.2) ∙ ap (λ (found : List Entry). length found) (one_at_line made its.0 rising its.1) in
    let rest = order_count order made rising (λ other among. only other (inr among)) in
    omega (arith, one, rest, length-append (at_line number made) (journal_of order made))

entries_rise : (script : Script) (order : List ℕ) (run : Run) → ScriptRun script order run → IsRising (line_order (entries run.log))
entries_rise script order run runs = at run.setting refl
  where
    at : (setting : Option Setting) → run.setting ≡ setting → IsRising (line_order (entries run.log))
    at None none = subst (λ log. IsRising (line_order (entries log))) (sym (nothing_happened script order run runs none)) tt
    at (Some setting) flies = (log_fits script order run setting runs flies).1.rising

pub each_entry_stands_once : EachEntryStandsOnce
each_entry_stands_once script order run workers runs allowed =
    record {
      once = λ entry among. once (addresses_in run.setting) script.readings workers (line_of entry) order allowed.ordered (allowed.lines.whole entry among);
      no_more = sym (order_count order (entries run.log) (entries_rise script order run runs) allowed.lines.only) ∙ as_many script run workers order allowed;
    }
