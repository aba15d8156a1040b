-- One entry makes the downlink at a place of a link; and in which order entries stand in a journal.
use Rattle.std.proofs.Common.{◌≡◌, ◌⊎◌, ℕ, ◌<◌, ◌≤◌, ◌==◌, inl, inr, true, false, List, [], ◌∷◌, ◌++◌, length, length-append, refl, sym, ap, ◌∙◌, subst, arith}
use Rattle.std.proofs.lemmas.Bool.{eqb-true}
use Rattle.aircraft_core.specs.Downlinks.{AreDownlinks, entry_texts, journal_texts}
use Rattle.aircraft_core.specs.Entries.{latest_after, line_of}
use Rattle.aircraft_core.specs.JournalActs.{JournalActs}
use Rattle.aircraft_core.specs.Setting.{Setting, configuration_of}
use Rattle.aircraft_core.specs.declared.entry.Entry.{Entry}
use Rattle.aircraft_core.proofs.OneList.{same_acts}
use Rattle.contract_rules.specs.Acts.{Act}
use Rattle.contract_rules.specs.LiveLinks.{Noted}
use Rattle.contract_rules.specs.Verdicts.{past_with}
use Rattle.flight_samples.specs.declared.sample.Sample.{Sample as FlightSample}
use Rattle.run_rules.specs.Among.{IsAmong}
use Rattle.run_rules.specs.Claims.{MadeDownlink}
use Rattle.run_rules.specs.Orders.{IsOrdered, MayPass, is_burst_line, journal_of, reading_at}
use Rattle.run_rules.specs.declared.reading.Reading.{Reading}
use Rattle.run_rules.proofs.Journals.{at_line}
use Rattle.run_rules.proofs.Members.{among_parts, filter_among}

-- ---- one entry

-- Two cuts of a list: at the same element, or one behind the other.
data Cuts (one : List Entry) (a : Entry) (other : List Entry) (b : Entry) : Type 0 where
  same_cut : a ≡ b → Cuts one a other b
  further : (rest : List Entry) → other ≡ (one ++ a ∷ []) ++ rest → Cuts one a other b
  nearer : (rest : List Entry) → one ≡ (other ++ b ∷ []) ++ rest → Cuts one a other b

cuts : (one : List Entry) (a : Entry) (behind : List Entry) (other : List Entry) (b : Entry) (rest : List Entry) → one ++ a ∷ behind ≡ other ++ b ∷ rest → Cuts one a other b
cuts [] a behind [] b rest same = same_cut (cc)
cuts [] a behind (first ∷ other) b rest same = let is : a ≡ first = cc in further other (ap (λ e. e ∷ other) (sym is))
cuts (first ∷ one) a behind [] b rest same = let is : first ≡ b = cc in nearer one (ap (λ e. e ∷ one) is)
cuts (first ∷ one) a behind (second ∷ other) b rest same = next (cuts one a behind other b rest (let tails : one ++ a ∷ behind ≡ other ++ b ∷ rest = cc in tails)) (let heads : first ≡ second = cc in heads)
  where
    next : Cuts one a other b → first ≡ second → Cuts (first ∷ one) a (second ∷ other) b
    next (same_cut is) heads = same_cut is
    next (further more is) heads = further more (λ i. sym heads i ∷ is i)
    next (nearer more is) heads = nearer more (λ i. heads i ∷ is i)

-- A longer journal has as many downlinks or more.
record PartActs (latest : FlightSample) (one more : List Entry) (acts : List (List Act)) : Type 0 where
  front : List (List Act)
  back : List (List Act)
  joined : acts ≡ front ++ back
  are_front : JournalActs latest one front

part_acts : (latest : FlightSample) (one more : List Entry) (acts : List (List Act)) → JournalActs latest (one ++ more) acts → PartActs latest one more acts
part_acts latest [] more acts are = record { front = []; back = acts; joined = refl; are_front = refl }
part_acts latest (made ∷ one) more [] are = absurd are
part_acts latest (made ∷ one) more (here ∷ acts) are =
    let part = part_acts (latest_after latest made) one more acts are.1 in
    record { front = here ∷ part.front; back = part.back; joined = ap (λ rest. here ∷ rest) part.joined; are_front = (are.0, part.are_front) }

texts_grow : (setting : Setting) (link : ℕ) (past : List Noted) (latest : FlightSample) (one more : List Entry) (front back : List (List Act)) → JournalActs latest one front
    → length (journal_texts setting link past latest one front) ≤ length (journal_texts setting link past latest (one ++ more) (front ++ back))
texts_grow setting link past latest [] more front back are = omega arith
texts_grow setting link past latest (made ∷ one) more [] back are = absurd are
texts_grow setting link past latest (made ∷ one) more (here ∷ front) back are =
    let texts = entry_texts setting link past latest made here in
    let now = past_with (configuration_of setting) past here in
    omega (
      arith,
      length-append texts (journal_texts setting link now (latest_after latest made) one front),
      length-append texts (journal_texts setting link now (latest_after latest made) (one ++ more) (front ++ back)),
      texts_grow setting link now (latest_after latest made) one more front back are.1,
    )

downlinks_grow : (setting : Setting) (link : ℕ) (one more : List Entry) (texts others : List (List ℕ)) → AreDownlinks setting one link texts
    → AreDownlinks setting (one ++ more) link others → length texts ≤ length others
downlinks_grow setting link one more texts others few many =
    let part = part_acts setting.first one more many.acts many.are_acts in
    let same : part.front ≡ few.acts = same_acts setting.first one part.front few.acts part.are_front few.are_acts in
    let grown = texts_grow setting link [] setting.first one more part.front part.back part.are_front in
    let short : length texts ≡ length (journal_texts setting link [] setting.first one part.front) =
    ap length few.spelled ∙ ap (λ acts. length (journal_texts setting link [] setting.first one acts)) (sym same) in
    let long : length others ≡ length (journal_texts setting link [] setting.first (one ++ more) (part.front ++ part.back)) =
    ap length many.spelled ∙ ap (λ acts. length (journal_texts setting link [] setting.first (one ++ more) acts)) part.joined in
    omega (arith, grown, short, long)

-- No entry further on makes the same downlink.
never_further : (setting : Setting) (link place : ℕ) (journal : List Entry) (a b : Entry) (one : MadeDownlink setting journal link place a) (other : MadeDownlink setting journal link place b)
    (rest : List Entry) → other.before ≡ (one.before ++ a ∷ []) ++ rest → ⊥
never_further setting link place journal a b one other rest is =
    let grown = downlinks_grow setting link (one.before ++ a ∷ []) rest one.through other.earlier one.are_through
    (subst (λ before. AreDownlinks setting before link other.earlier) is other.are_earlier) in
    let most = one.among_these in
    let less = other.behind_those in
    omega (arith, grown, most, less)

-- One entry of a journal makes the downlink at a place.
pub one_maker : (setting : Setting) (link place : ℕ) (journal : List Entry) (a b : Entry) → MadeDownlink setting journal link place a → MadeDownlink setting journal link place b → a ≡ b
one_maker setting link place journal a b one other =
    at (cuts one.before a one.behind other.before b other.behind (sym one.joined ∙ other.joined))
  where
    at : Cuts one.before a other.before b → a ≡ b
    at (same_cut is) = is
    at (further rest is) = absurd (never_further setting link place journal a b one other rest is)
    at (nearer rest is) = absurd (never_further setting link place journal b a other one rest is)

-- ---- in which order entries stand

-- The first of two entries in a journal has the earlier line, or may pass the other.
abbrev StandsBefore : List (List ℕ) → List Reading → ℕ → Entry → Entry → Type 0
StandsBefore addresses readings workers first later =
    (line_of first ≤ line_of later) ⊎ ((line_of later < line_of first) × MayPass addresses readings workers (line_of later) (line_of first))

abbrev Stands : List (List ℕ) → List Reading → ℕ → List Entry → Type 0
Stands addresses readings workers [] = Unit {0}
Stands addresses readings workers (first ∷ journal) =
    ((later : Entry) → IsAmong later journal → StandsBefore addresses readings workers first later) × Stands addresses readings workers journal

module _ (addresses : List (List ℕ)) (readings : List Reading) (workers : ℕ) where
  stands_joined : (one other : List Entry) → Stands addresses readings workers one → Stands addresses readings workers other
      → ((first later : Entry) → IsAmong first one → IsAmong later other → StandsBefore addresses readings workers first later)
      → Stands addresses readings workers (one ++ other)
  stands_joined [] other front back cross = back
  stands_joined (first ∷ one) other front back cross = (
    λ later among. at later (among_parts later one other among),
    stands_joined one other front.1 back (λ a b in_one in_other. cross a b (inr in_one) in_other),
  )
    where
      at : (later : Entry) → IsAmong later one ⊎ IsAmong later other → StandsBefore addresses readings workers first later
      at later (inl before) = front.0 later before
      at later (inr behind) = cross first later (inl refl) behind

  stands_same : (made : List Entry) (number : ℕ) → ((entry : Entry) → IsAmong entry made → line_of entry ≡ number) → Stands addresses readings workers made
  stands_same [] number same = tt
  stands_same (first ∷ made) number same = (
    λ later among. inl (let one = same first (inl refl) in let other = same later (inr among) in omega (arith, one, other)),
    stands_same made number (λ entry among. same entry (inr among)),
  )

  line_here : (number : ℕ) (made : List Entry) (entry : Entry) → IsAmong entry (at_line number made) → line_of entry ≡ number
  line_here number made entry among = eqb-true (line_of entry) number (filter_among (λ other. line_of other == number) entry made among).1

  line_in_order : (order : List ℕ) (made : List Entry) (entry : Entry) → IsAmong entry (journal_of order made) → IsAmong (line_of entry) order
  line_in_order [] made entry among = absurd among
  line_in_order (number ∷ order) made entry among =
      at (among_parts entry (at_line number made) (journal_of order made) among) (line_in_order order made entry)
    where
      at : IsAmong entry (at_line number made) ⊎ IsAmong entry (journal_of order made) → (IsAmong entry (journal_of order made) → IsAmong (line_of entry) order)
          → IsAmong (line_of entry) (number ∷ order)
      at (inl here) rest = inl (sym (line_here number made entry here))
      at (inr later) rest = inr (rest later)

  journal_stands : (order : List ℕ) (made : List Entry) → IsOrdered addresses readings workers order → Stands addresses readings workers (journal_of order made)
  journal_stands [] made ordered = tt
  journal_stands (number ∷ order) made ordered =
      stands_joined (at_line number made) (journal_of order made) (stands_same (at_line number made) number (line_here number made)) (journal_stands order made ordered.1)
      (λ first later here behind. cross first later (line_here number made first here) (ordered.0 (line_of later) (line_in_order order made later behind)))
    where
      cross : (first later : Entry) → line_of first ≡ number
          → (number < line_of later) ⊎ ((line_of later < number) × MayPass addresses readings workers (line_of later) number)
          → StandsBefore addresses readings workers first later
      cross first later same (inl less) = inl (omega (arith, same, less))
      cross first later same (inr passes) =
          inr (omega (arith, same, passes.0), subst (λ n. MayPass addresses readings workers (line_of later) n) (sym same) passes.1)

  stands_cut : (before : List Entry) (made : Entry) (behind : List Entry) (first : Entry) → Stands addresses readings workers (before ++ made ∷ behind) → IsAmong first before
      → StandsBefore addresses readings workers first made
  stands_cut [] made behind first stands among = absurd among
  stands_cut (other ∷ before) made behind first stands (inl same) =
      subst (λ e. StandsBefore addresses readings workers e made) same (stands.0 made (there before))
    where
      there : (entries : List Entry) → IsAmong made (entries ++ made ∷ behind)
      there [] = inl refl
      there (entry ∷ entries) = inr (there entries)
  stands_cut (other ∷ before) made behind first stands (inr among) = stands_cut before made behind first stands.1 among

  -- What stands before an entry of a line that is in no burst has an earlier line, or the same.
  pub earlier_line : (order : List ℕ) (all before : List Entry) (made : Entry) (behind : List Entry) (first : Entry) → IsOrdered addresses readings workers order
      → journal_of order all ≡ before ++ made ∷ behind → is_burst_line (reading_at readings (line_of made)) ≡ false → IsAmong first before → line_of first ≤ line_of made
  earlier_line order all before made behind first ordered joined quiet among =
      at (stands_cut before made behind first (subst (Stands addresses readings workers) joined (journal_stands order all ordered)) among)
    where
      at : StandsBefore addresses readings workers first made → line_of first ≤ line_of made
      at (inl less) = less
      at (inr passes) =
          absurd (let never : true ≡ false = sym (passes.1.burst (line_of made) (omega arith) (omega (arith, passes.0))) ∙ quiet in cc)
