-- In which order the lines of entries stand in an allowed order, and that they are lines of the script.
use Rattle.std.proofs.Common.{◌≡◌, ◌⊎◌, ◌<◌, ◌%◌, ◌==◌, ℕ, inl, inr, true, false, List, [], ◌∷◌, Option, Some, None, refl, sym, ap, ◌∙◌, subst, arith, eq-eqb, eqb-true}
use Rattle.aircraft_core.specs.Entries.{line_of}
use Rattle.aircraft_core.specs.Setting.{Setting}
use Rattle.aircraft_core.specs.declared.entry.Entry.{Entry}
use Rattle.aircraft_core.specs.declared.entry.Entry.TheVariants.{Uplink, Answer, Sample, Tick, Crew, Logon}
use Rattle.run_rules.specs.Among.{IsAmong}
use Rattle.run_rules.specs.EarlierLines.{text_link}
use Rattle.run_rules.specs.Happenings.{entries}
use Rattle.run_rules.specs.Laws.{BurstsStandInLine, LinkStandsInLine, OneWorkerRises, WorkerStandsInLine}
use Rattle.run_rules.specs.Orders.{IsOrdered, IsRising, MayPass, StandsBefore, is_burst_line, link_of, place_on, reading_at}
use Rattle.run_rules.specs.Runs.{IsAllowedOrder, Run, Script, ScriptRun, addresses_in}
use Rattle.run_rules.specs.declared.reading.Reading.{Reading}
use Rattle.run_rules.proofs.HeardLines.{log_fits, nothing_happened}
use Rattle.run_rules.proofs.LogEntries.{EntryFits}

-- ---- two lines of an order

module _ (addresses : List (List ℕ)) (readings : List Reading) (workers : ℕ) where
  -- Of two lines the earlier one stands first, or the later one passed it.
  stands_or_passed : (order : List ℕ) (earlier later : ℕ) → IsOrdered addresses readings workers order → IsAmong earlier order → IsAmong later order
      → earlier < later → StandsBefore earlier later order ⊎ MayPass addresses readings workers earlier later
  stands_or_passed [] earlier later ordered is_earlier is_later before = absurd is_earlier
  stands_or_passed (first ∷ order) earlier later ordered (inl same) (inl too) before = absurd (omega (arith, same, too, before))
  stands_or_passed (first ∷ order) earlier later ordered (inl same) (inr behind) before = inl (inl (same, behind))
  stands_or_passed (first ∷ order) earlier later ordered (inr behind) (inl same) before = elim (ordered.0 earlier behind) [
    | inl above ↦ absurd (omega (arith, above, same, before))
    | inr passes ↦ inr (subst (MayPass addresses readings workers earlier) same passes.1)
  ]
  stands_or_passed (first ∷ order) earlier later ordered (inr is_earlier) (inr is_later) before =
      elim (stands_or_passed order earlier later ordered.1 is_earlier is_later before) [
        | inl stands ↦ inl (inr stands)
        | inr passes ↦ inr passes
      ]

-- Where it may not pass, it stands behind.
stands : (script : Script) (order : List ℕ) (run : Run) (workers : ℕ) (setting : Setting) → run.setting ≡ Some setting → IsAllowedOrder script run workers order
    → (one other : Entry) → IsAmong one (entries run.log) → IsAmong other (entries run.log)
    → (MayPass setting.addresses script.readings workers (line_of one) (line_of other) → line_of one < line_of other → ⊥)
    → line_of one < line_of other → StandsBefore (line_of one) (line_of other) order
stands script order run workers setting flies allowed one other is_one is_other none before =
    elim (stands_or_passed setting.addresses script.readings workers order (line_of one) (line_of other)
    (subst (λ s. IsOrdered (addresses_in s) script.readings workers order) flies allowed.ordered)
    (allowed.lines.whole one is_one) (allowed.lines.whole other is_other) before) [
      | inl stand ↦ stand
      | inr passes ↦ absurd (none passes before)
    ]

-- Where there is an entry, an aircraft flies.
pub has_aircraft : (script : Script) (order : List ℕ) (run : Run) → ScriptRun script order run → (entry : Entry) → IsAmong entry (entries run.log)
    → (setting : Setting) × (run.setting ≡ Some setting)
has_aircraft script order run runs entry among = at run.setting refl
  where
    at : (setting : Option Setting) → run.setting ≡ setting → (its : Setting) × (setting ≡ Some its)
    at None none = absurd (subst (λ log. IsAmong entry (entries log)) (nothing_happened script order run runs none) among)
    at (Some setting) flies = (setting, refl)

-- ---- bursts

pub bursts_stand_in_line : BurstsStandInLine
bursts_stand_in_line script order run workers runs allowed one other is_one is_other (number, from, upto, quiet) before =
    let its = has_aircraft script order run runs one is_one in
    stands script order run workers its.0 its.1 allowed one other is_one is_other
    (λ passes later. let both : true ≡ false = sym (passes.burst number from upto) ∙ quiet in cc) before

-- ---- links

-- In a burst the link of an entry is the one on which its text came.
text_came : (setting : Setting) (readings : List Reading) (entry : Entry) (link : ℕ) → EntryFits setting readings entry
    → is_burst_line (reading_at readings (line_of entry)) ≡ true → link_of entry ≡ Some link → link ≡ text_link entry
text_came setting readings (Uplink line other bytes) link fits is_burst its = cc
text_came setting readings (Answer line other code) link fits is_burst its = cc
text_came setting readings (Logon line other) link fits is_burst its =
    let heard : (other == other) ≡ (other == 0) = (fits.text is_burst).1 other in
    let zero_link : other ≡ 0 = eqb-true other 0 (sym heard ∙ eq-eqb other other refl) in
    let same : other ≡ link = cc in
    sym same ∙ zero_link
text_came setting readings (Sample line sample) link fits is_burst its = absurd (cc)
text_came setting readings (Tick line t) link fits is_burst its = absurd (cc)
text_came setting readings (Crew line on) link fits is_burst its = absurd (cc)

-- And its address has this place.
its_place : (setting : Setting) (readings : List Reading) (entry : Entry) (link place : ℕ) → EntryFits setting readings entry
    → is_burst_line (reading_at readings (line_of entry)) ≡ true → link_of entry ≡ Some link
    → place_on setting.addresses (reading_at readings (line_of entry)) ≡ Some place → place ≡ link
its_place setting readings entry link place fits is_burst its is_place =
    let one : Some place ≡ Some (text_link entry) = sym is_place ∙ (fits.text is_burst).0 in
    let same : place ≡ text_link entry = cc in
    same ∙ sym (text_came setting readings entry link fits is_burst its)

-- Entries of one worker don't pass each other.
pub worker_stands_in_line : WorkerStandsInLine
worker_stands_in_line script order run workers runs allowed one other is_one is_other (link, another, of_one, of_other, same) before =
    stands script order run workers setting flies allowed one other is_one is_other none before
  where
    setting : Setting
    setting = (has_aircraft script order run runs one is_one).0

    flies : run.setting ≡ Some setting
    flies = (has_aircraft script order run runs one is_one).1

    none : MayPass setting.addresses script.readings workers (line_of one) (line_of other) → line_of one < line_of other → ⊥
    none passes later =
        let fits = (log_fits script order run setting runs flies).1 in
        let here : passes.one ≡ link
        = its_place setting script.readings one link passes.one (fits.each one is_one) (passes.burst (line_of one) (omega arith) (omega (arith, later))) of_one passes.earlier_place in
        let there : passes.other ≡ another
        = its_place setting script.readings other another passes.other (fits.each other is_other) (passes.burst (line_of other) (omega (arith, later)) (omega arith)) of_other passes.later_place in
        passes.apart (ap (λ place. place % workers) here ∙ same ∙ sym (ap (λ place. place % workers) there))

pub link_stands_in_line : LinkStandsInLine
link_stands_in_line script order run workers runs allowed one other is_one is_other (link, of_one, of_other) before =
    worker_stands_in_line script order run workers runs allowed one other is_one is_other (link, link, of_one, of_other, refl) before

-- ---- one worker

alone_rises : (addresses : List (List ℕ)) (readings : List Reading) (order : List ℕ) → IsOrdered addresses readings 1 order → IsRising order
alone_rises addresses readings [] ordered = tt
alone_rises addresses readings (first ∷ order) ordered = (λ number among. at number (ordered.0 number among), alone_rises addresses readings order ordered.1)
  where
    at : (number : ℕ) → (first < number) ⊎ ((number < first) × MayPass addresses readings 1 number first) → first < number
    at number (inl before) = before
    at number (inr passes) = absurd (passes.1.apart (omega arith))

pub one_worker_rises : OneWorkerRises
one_worker_rises script order run allowed = alone_rises (addresses_in run.setting) script.readings order allowed.ordered
