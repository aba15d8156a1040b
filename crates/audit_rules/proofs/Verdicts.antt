-- Entries either all conform or differ first in one way.
use Rattle.std.proofs.Common.{◌≡◌, ◌⊎◌, ℕ, ◌+◌, ◌<◌, ◌++◌, List, [], ◌∷◌, length, inl, inr, refl, sym, ap, ◌∙◌, subst, arith}
use Rattle.std.proofs.lemmas.Bool.{cases_order}
use Rattle.aircraft_core.specs.AddedTexts.{AreAdded}
use Rattle.aircraft_core.specs.Setting.{Setting}
use Rattle.aircraft_core.specs.declared.entry.Entry.{Entry}
use Rattle.aircraft_core.proofs.LiveLaws.{one_addition}
use Rattle.audit_rules.specs.Conforming.{AllConform, ConformsBelow, ConformsOn, DifferenceData, DiffersOn, IsDifference, IsFirstDifference}
use Rattle.audit_rules.specs.Logs.{LoggedEntry, journal_of}

-- two differences with the same parts are one
same_parts : (one other : DifferenceData) → one.line ≡ other.line → one.address ≡ other.address → one.due ≡ other.due → one.found ≡ other.found → one ≡ other
same_parts one other line address due found i = record { line = line i; address = address i; due = due i; found = found i }

-- of two links that an entry differs on, neither stands before the other
same_link : (setting : Setting) (journal : List Entry) (logged : LoggedEntry) (a b : ℕ) (one other : DifferenceData) → DiffersOn setting journal logged a one
    → DiffersOn setting journal logged b other → a ≡ b
same_link setting journal logged a b one other first second = elim (cases_order a b) [
  | inl same ↦ same
  | inr (inl below) ↦ absurd (first.apart (second.before a below))
  | inr (inr above) ↦ absurd (second.apart (first.before b above))
]

one_on_link : (setting : Setting) (journal : List Entry) (logged : LoggedEntry) (link : ℕ) (one other : DifferenceData) → DiffersOn setting journal logged link one
    → DiffersOn setting journal logged link other → one ≡ other
one_on_link setting journal logged link one other first second =
    same_parts one other (first.line ∙ sym second.line) (first.address ∙ sym second.address)
    (one_addition setting journal logged.entry link one.due other.due first.due second.due) (first.found ∙ sym second.found)

-- an entry differs in one way
pub one_difference : (setting : Setting) (journal : List Entry) (logged : LoggedEntry) (one other : DifferenceData) → IsDifference setting journal logged one
    → IsDifference setting journal logged other → one ≡ other
one_difference setting journal logged one other (a, first) (b, second) =
    one_on_link setting journal logged b one other
    (subst (λ link. DiffersOn setting journal logged link one) (same_link setting journal logged a b one other first second) first) second

-- an entry that conforms doesn't differ
pub conforms_no_difference : (setting : Setting) (journal : List Entry) (logged : LoggedEntry) (difference : DifferenceData)
    → ConformsBelow setting journal logged (length setting.addresses) → IsDifference setting journal logged difference → ⊥
conforms_no_difference setting journal logged difference conform (link, differs) = differs.apart (conform link differs.inside)

pub all_conform_no_difference : (setting : Setting) (logged : List LoggedEntry) (difference : DifferenceData) → AllConform setting logged
    → IsFirstDifference setting logged difference → ⊥
all_conform_no_difference setting [] difference all differs = differs
all_conform_no_difference setting (newest ∷ earlier) difference all (inl before) = all_conform_no_difference setting earlier difference all.0 before
all_conform_no_difference setting (newest ∷ earlier) difference all (inr (conform, here)) =
    conforms_no_difference setting (journal_of earlier) newest difference all.1 here

pub one_first_difference : (setting : Setting) (logged : List LoggedEntry) (one other : DifferenceData) → IsFirstDifference setting logged one
    → IsFirstDifference setting logged other → one ≡ other
one_first_difference setting [] one other first second = absurd first
one_first_difference setting (newest ∷ earlier) one other (inl first) (inl second) = one_first_difference setting earlier one other first second
one_first_difference setting (newest ∷ earlier) one other (inl first) (inr second) = absurd (all_conform_no_difference setting earlier one second.0 first)
one_first_difference setting (newest ∷ earlier) one other (inr first) (inl second) = absurd (all_conform_no_difference setting earlier other first.0 second)
one_first_difference setting (newest ∷ earlier) one other (inr first) (inr second) = one_difference setting (journal_of earlier) newest one other first.1 second.1
