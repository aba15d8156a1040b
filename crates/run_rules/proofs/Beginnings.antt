-- At a line that is in no burst the journal so far is a beginning of the whole one.
use Rattle.std.proofs.Common.{◌≡◌, ◌≢◌, ◌⊎◌, ℕ, ◌<◌, inl, inr, true, false, List, [], ◌∷◌, ◌++◌, append-nil, refl, sym, ap, ◌∙◌, subst, arith}
use Rattle.std.proofs.Math.Arith.{lt_of_le-ne}
use Rattle.std.proofs.lemmas.Bool.{cases_lt}
use Rattle.aircraft_core.specs.Entries.{line_of}
use Rattle.aircraft_core.specs.declared.entry.Entry.{Entry}
use Rattle.run_rules.specs.Among.{IsAmong}
use Rattle.run_rules.specs.Orders.{IsOrdered, MayPass, is_burst_line, journal_of, reading_at}
use Rattle.run_rules.specs.declared.reading.Reading.{Reading}
use Rattle.run_rules.proofs.Journals.{at_line, journal_before, journal_of-append, none_in_order}
use Rattle.run_rules.proofs.Members.{among_parts, filter_among}

-- The journal of an order has no entries but these.
pub journal_among : (order : List ℕ) (made : List Entry) (entry : Entry) → IsAmong entry (journal_of order made) → IsAmong entry made
journal_among [] made entry among = absurd among
journal_among (number ∷ order) made entry among = at (among_parts entry (at_line number made) (journal_of order made) among) (journal_among order made entry)
  where
    at : IsAmong entry (at_line number made) ⊎ IsAmong entry (journal_of order made) → (IsAmong entry (journal_of order made) → IsAmong entry made) → IsAmong entry made
    at (inl here) rest = (filter_among _ entry made here).0
    at (inr later) rest = rest later

-- ---- an order around a line that is in no burst

-- Of two numbers that differ one is less.
pub below_or_above : (m n : ℕ) → (m ≢ n) → (m < n) ⊎ (n < m)
below_or_above m n differs = elim (cases_lt m n) [ inl less ↦ inl less | inr least ↦ inr (lt_of_le-ne least (λ same. differs (sym same))) ]

-- The numbers of the order below the line stand before those above it.
pub record SplitsAt (order : List ℕ) (line : ℕ) : Type 0 where
  pub front : List ℕ
  pub back : List ℕ
  pub joined : order ≡ front ++ back
  pub below : (number : ℕ) → IsAmong number front → number < line
  pub above : (number : ℕ) → IsAmong number back → line < number

-- An allowed order splits at each line that is in no burst and isn't in it.
pub split_at : (addresses : List (List ℕ)) (readings : List Reading) (workers : ℕ) (order : List ℕ) (line : ℕ) → IsOrdered addresses readings workers order
    → is_burst_line (reading_at readings line) ≡ false → ((number : ℕ) → IsAmong number order → number ≢ line) → SplitsAt order line
split_at addresses readings workers [] line ordered quiet others =
    record { front = []; back = []; joined = refl; below = λ number among. absurd among; above = λ number among. absurd among }
split_at addresses readings workers (first ∷ order) line ordered quiet others =
    at (below_or_above first line (others first (inl refl)))
    (split_at addresses readings workers order line ordered.1 quiet (λ number among. others number (inr among)))
  where
    never_passes : (number : ℕ) → number < first → line < first → MayPass addresses readings workers number first → IsAmong number order → line < number
    never_passes number less above passes among =
        elim (below_or_above number line (others number (inr among))) [
          | inl lower ↦ absurd (let never : true ≡ false = sym (passes.burst line (omega (arith, lower)) (omega (arith, above))) ∙ quiet in cc)
          | inr higher ↦ higher
        ]

    above_first : line < first → (number : ℕ) → IsAmong number (first ∷ order) → line < number
    above_first higher number (inl same) = subst (λ n. line < n) same higher
    above_first higher number (inr among) =
        elim (ordered.0 number among) [
          | inl later ↦ omega (arith, higher, later)
          | inr passing ↦ never_passes number passing.0 higher passing.1 among
        ]

    at : (first < line) ⊎ (line < first) → SplitsAt order line → SplitsAt (first ∷ order) line
    at (inl lower) rest = record {
      front = first ∷ rest.front;
      back = rest.back;
      joined = ap (λ numbers. first ∷ numbers) rest.joined;
      below = λ number among. elim among [ inl same ↦ subst (λ n. n < line) same lower | inr later ↦ rest.below number later ];
      above = rest.above;
    }
    at (inr higher) rest = record {
      front = [];
      back = first ∷ order;
      joined = refl;
      below = λ number among. absurd among;
      above = above_first higher;
    }

-- Where entries of lines below stand before those of lines above, the journal of the first is a beginning of the whole.
pub journal_begins : (order : List ℕ) (made more : List Entry) (line : ℕ) → SplitsAt order line
    → ((entry : Entry) → IsAmong entry made → line_of entry < line) → ((entry : Entry) → IsAmong entry more → line < line_of entry)
    → (rest : List Entry) × (journal_of order (made ++ more) ≡ journal_of order made ++ rest)
journal_begins order made more line split low high = (
  journal_of split.back (made ++ more),
  ap (λ o. journal_of o (made ++ more)) split.joined
      ∙ journal_of-append split.front split.back (made ++ more)
      ∙ ap (λ j. j ++ journal_of split.back (made ++ more)) (journal_before split.front made more apart ∙ sym whole),
)
  where
    apart : (number : ℕ) → IsAmong number split.front → (entry : Entry) → IsAmong entry more → line_of entry ≢ number
    apart number among entry entry_among same =
        let less = split.below number among in
        let great = high entry entry_among in
        omega (arith, less, great, same)

    behind : (number : ℕ) → IsAmong number split.back → (entry : Entry) → IsAmong entry made → line_of entry ≢ number
    behind number among entry entry_among same =
        let great = split.above number among in
        let less = low entry entry_among in
        omega (arith, less, great, same)

    whole : journal_of order made ≡ journal_of split.front made
    whole =
        ap (λ o. journal_of o made) split.joined ∙ journal_of-append split.front split.back made
        ∙ ap (λ j. journal_of split.front made ++ j) (none_in_order split.back made behind) ∙ append-nil (journal_of split.front made)
