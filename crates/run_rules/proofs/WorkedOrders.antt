-- The worked orders that aren't allowed, and those beside them that are.
use Rattle.std.proofs.Common.{◌≡◌, ◌⊎◌, ℕ, ◌+◌, ◌<◌, ◌≤◌, ◌%◌, true, false, List, [], ◌∷◌, None, Some, inl, inr, refl, sym, ap, ◌∙◌, subst, arith, true≢false}
use Rattle.std.proofs.lemmas.Bool.{cases_eq}
use Rattle.arrayvec.specs.ArrayVec.{ArrayVec}
use Rattle.adsc_requests.specs.declared.message.Uplink.{Uplink as UplinkMessages}
use Rattle.adsc_requests.specs.declared.message.Message.TheVariants as message
use Rattle.aircraft_core.specs.Entries.{line_of}
use Rattle.aircraft_core.specs.Setting.{Setting}
use Rattle.aircraft_core.specs.declared.entry.Entry.{Entry}
use Rattle.aircraft_core.specs.declared.entry.Entry.TheVariants.{Tick, Uplink}
use Rattle.aircraft_core.specs.declared.who.Who.{Who}
use Rattle.flight_samples.specs.declared.sample.Sample.{Sample as FlightSample}
use Rattle.ground_texts.specs.declared.ground_text.GroundText.TheVariants as text
use Rattle.net_script.specs.declared.line.Cancel.TheVariants.{All}
use Rattle.net_script.specs.declared.line.ScriptLine.TheVariants as line
use Rattle.run_rules.specs.Among.{IsAmong}
use Rattle.run_rules.specs.Happenings.{Cancelled, Entered, Happening, is_centre}
use Rattle.run_rules.specs.Histories.NotAllowed.{AcrossACancel, AcrossATick, MayNotTake, MayTake, OfOneWorker, first, second, third, two_texts, with_cancel_all, with_tick}
use Rattle.run_rules.specs.Histories.Words.{sends}
use Rattle.run_rules.specs.Orders.{IsOrderOf, MayPass, is_burst_line, reading_at}
use Rattle.run_rules.specs.Runs.{IsAllowedOrder, LinesRun, Run, ScriptRun, ended_run}
use Rattle.run_rules.specs.Stages.{flying, setting_with}
use Rattle.run_rules.specs.Texts.{link_to}
use Rattle.run_rules.specs.declared.end.End.TheVariants.{Done}
use Rattle.run_rules.specs.declared.reading.Reading.{Reading}
use Rattle.run_rules.specs.declared.reading.Reading.TheVariants.{Says}
use Rattle.run_rules.proofs.WorkedBursts.{above, by_each, rising_is_ordered, text_from}
use Rattle.run_rules.proofs.WorkedTexts.{brings_on, uplink_enters}

-- ---- runs

-- The aircraft with links to the three addresses.
abbrev three_links : Who → FlightSample → Setting
three_links who sample = setting_with who (first ∷ second ∷ third ∷ []) None sample

module _ (who : Who) (sample : FlightSample) (octets : ArrayVec ℕ) (uplink : UplinkMessages) where
  -- A text of an address that has this link and is no centre's is taken, and the script goes on.
  sent_on : (order : List ℕ) (log : List Happening) (number link : ℕ) (address : List ℕ) (rest : List Reading) (run : Run)
      → link_to (three_links who sample) address ≡ Some link → is_centre link log ≡ false
      → LinesRun false order (flying (three_links who sample)) (Entered (Uplink number link octets) ∷ log) (number + 1) rest run
      → LinesRun false order (flying (three_links who sample)) log number (sends who octets uplink address ∷ rest) run
  sent_on order log number link address rest run found free behind =
      brings_on false order (three_links who sample) log number (text.Ads (text_from who octets uplink address)) (Entered (Uplink number link octets) ∷ [])
      rest run
      (uplink_enters (three_links who sample) log number link (text_from who octets uplink address) uplink refl found free refl) behind

  -- The run with this log ends done.
  abbrev done_with : List Happening → Run
  done_with log = ended_run (flying (three_links who sample)) log Done

  -- ---- across a tick

  tick_log : List Happening
  tick_log = Entered (Uplink 6 1 octets) ∷ Entered (Tick 5 0) ∷ Entered (Uplink 4 0 octets) ∷ []

  tick_entries : List Entry
  tick_entries = Uplink 4 0 octets ∷ Tick 5 0 ∷ Uplink 6 1 octets ∷ []

  tick_runs : (order : List ℕ) → ScriptRun (with_tick who sample octets uplink) order (done_with tick_log)
  unfolding tick_log
  tick_runs order =
      sent_on order [] 4 0 first (Says (line.T 0) ∷ sends who octets uplink second ∷ []) (done_with tick_log) refl refl
      (sent_on order (Entered (Tick 5 0) ∷ Entered (Uplink 4 0 octets) ∷ []) 6 1 second [] (done_with tick_log) refl refl refl)

  -- An order of the lines 4, 5 and 6, each where this says, holds them and no others.
  tick_order : (order : List ℕ) → IsAmong 4 order → IsAmong 5 order → IsAmong 6 order
      → ((number : ℕ) → IsAmong number order → IsAmong number (4 ∷ 5 ∷ 6 ∷ [])) → IsOrderOf tick_entries order
  unfolding tick_entries
  tick_order order four five six no_more =
      record {
        whole = by_each (λ made. IsAmong (line_of made) order) (Uplink 4 0 octets ∷ Tick 5 0 ∷ Uplink 6 1 octets ∷ []) (four, (five, (six, tt)));
        only = λ number among. by_each (λ n. (made : Entry) × IsAmong made (Uplink 4 0 octets ∷ Tick 5 0 ∷ Uplink 6 1 octets ∷ []) × (line_of made ≡ n))
            (4 ∷ 5 ∷ 6 ∷ [])
            ((Uplink 4 0 octets, inl refl, refl), ((Tick 5 0, inr (inl refl), refl), ((Uplink 6 1 octets, inr (inr (inl refl)), refl), tt)))
            number (no_more number among);
      }

  in_line_allowed : IsAllowedOrder (with_tick who sample octets uplink) (done_with tick_log) 2 (4 ∷ 5 ∷ 6 ∷ [])
  unfolding tick_log tick_entries
  in_line_allowed =
      record {
        ordered = rising_is_ordered (first ∷ second ∷ third ∷ []) (with_tick who sample octets uplink).readings 2 (4 ∷ 5 ∷ 6 ∷ [])
            (above 4 (5 ∷ 6 ∷ []) (omega arith, (omega arith, tt)), (above 5 (6 ∷ []) (omega arith, tt), (λ number none. absurd none, tt)));
        lines = tick_order (4 ∷ 5 ∷ 6 ∷ []) (inl refl) (inr (inl refl)) (inr (inr (inl refl))) (λ number among. among);
      }

  exchanged_not_allowed : IsAllowedOrder (with_tick who sample octets uplink) (done_with tick_log) 2 (6 ∷ 5 ∷ 4 ∷ []) → ⊥
  unfolding tick_log
  exchanged_not_allowed allowed = elim (allowed.ordered.0 4 (inr (inl refl))) [
    | inl before ↦ omega (arith, before)
    | inr passes ↦ true≢false (sym (passes.1.burst 5 (omega arith) (omega arith)))
  ]

  tick_first_not_allowed : IsAllowedOrder (with_tick who sample octets uplink) (done_with tick_log) 2 (5 ∷ 4 ∷ 6 ∷ []) → ⊥
  unfolding tick_log
  tick_first_not_allowed allowed = elim (allowed.ordered.0 4 (inl refl)) [
    | inl before ↦ omega (arith, before)
    | inr passes ↦ true≢false (sym (passes.1.burst 5 (omega arith) (omega arith)))
  ]

  across_a_tick_worked : (MayTake (with_tick who sample octets uplink) (4 ∷ 5 ∷ 6 ∷ []) 2
      × MayNotTake (with_tick who sample octets uplink) (6 ∷ 5 ∷ 4 ∷ []) 2)
      × MayNotTake (with_tick who sample octets uplink) (5 ∷ 4 ∷ 6 ∷ []) 2
  unfolding tick_log tick_entries
  across_a_tick_worked = (
    (
      (done_with tick_log, tick_runs (4 ∷ 5 ∷ 6 ∷ []), (refl, in_line_allowed)),
      (
        done_with tick_log,
        tick_runs (6 ∷ 5 ∷ 4 ∷ []),
        (
          refl,
          tick_order (6 ∷ 5 ∷ 4 ∷ []) (inr (inr (inl refl))) (inr (inl refl)) (inl refl)
              (by_each (λ n. IsAmong n (4 ∷ 5 ∷ 6 ∷ [])) (6 ∷ 5 ∷ 4 ∷ []) (inr (inr (inl refl)), (inr (inl refl), (inl refl, tt)))),
          exchanged_not_allowed,
        ),
      ),
    ),
    (
      done_with tick_log,
      tick_runs (5 ∷ 4 ∷ 6 ∷ []),
      (
        refl,
        tick_order (5 ∷ 4 ∷ 6 ∷ []) (inr (inl refl)) (inl refl) (inr (inr (inl refl)))
            (by_each (λ n. IsAmong n (4 ∷ 5 ∷ 6 ∷ [])) (5 ∷ 4 ∷ 6 ∷ []) (inr (inl refl), (inl refl, (inr (inr (inl refl)), tt)))),
        tick_first_not_allowed,
      ),
    ),
  )

  -- ---- two entries

  -- An order of two lines holds them and no others.
  two_lines : (one other : Entry) (order : List ℕ) → IsAmong (line_of one) order → IsAmong (line_of other) order
      → ((number : ℕ) → IsAmong number order → IsAmong number (line_of one ∷ line_of other ∷ [])) → IsOrderOf (one ∷ other ∷ []) order
  two_lines one other order is_one is_other no_more =
      record {
        whole = by_each (λ made. IsAmong (line_of made) order) (one ∷ other ∷ []) (is_one, (is_other, tt));
        only = λ number among. by_each (λ n. (made : Entry) × IsAmong made (one ∷ other ∷ []) × (line_of made ≡ n))
            (line_of one ∷ line_of other ∷ []) ((one, inl refl, refl), ((other, inr (inl refl), refl), tt)) number (no_more number among);
      }

  exchanged_lines : (one other : Entry) → IsOrderOf (one ∷ other ∷ []) (line_of other ∷ line_of one ∷ [])
  exchanged_lines one other =
      two_lines one other (line_of other ∷ line_of one ∷ []) (inr (inl refl)) (inl refl)
      (by_each (λ n. IsAmong n (line_of one ∷ line_of other ∷ [])) (line_of other ∷ line_of one ∷ []) (inr (inl refl), (inl refl, tt)))

  -- ---- across a cancel

  cancel_log : List Happening
  cancel_log = Entered (Uplink 6 1 octets) ∷ Cancelled 5 2 All message.CancelAll ∷ Entered (Uplink 4 0 octets) ∷ []

  cancel_runs : (order : List ℕ) → ScriptRun (with_cancel_all who sample octets uplink) order (done_with cancel_log)
  unfolding cancel_log
  cancel_runs order =
      sent_on order [] 4 0 first (Says (line.K third All) ∷ sends who octets uplink second ∷ []) (done_with cancel_log) refl refl
      (sent_on order (Cancelled 5 2 All message.CancelAll ∷ Entered (Uplink 4 0 octets) ∷ []) 6 1 second [] (done_with cancel_log) refl refl refl)

  across_not_allowed : IsAllowedOrder (with_cancel_all who sample octets uplink) (done_with cancel_log) 2 (6 ∷ 4 ∷ []) → ⊥
  unfolding cancel_log
  across_not_allowed allowed = elim (allowed.ordered.0 4 (inl refl)) [
    | inl before ↦ omega (arith, before)
    | inr passes ↦ true≢false (sym (passes.1.burst 5 (omega arith) (omega arith)))
  ]

  across_a_cancel_worked : MayTake (with_cancel_all who sample octets uplink) (4 ∷ 6 ∷ []) 2
      × MayNotTake (with_cancel_all who sample octets uplink) (6 ∷ 4 ∷ []) 2
  unfolding cancel_log
  across_a_cancel_worked = (
    (
      done_with cancel_log,
      cancel_runs (4 ∷ 6 ∷ []),
      (
        refl,
        record {
          ordered = rising_is_ordered (first ∷ second ∷ third ∷ []) (with_cancel_all who sample octets uplink).readings 2 (4 ∷ 6 ∷ [])
              (above 4 (6 ∷ []) (omega arith, tt), (λ number none. absurd none, tt));
          lines = two_lines (Uplink 4 0 octets) (Uplink 6 1 octets) (4 ∷ 6 ∷ []) (inl refl) (inr (inl refl)) (λ number among. among);
        },
      ),
    ),
    (done_with cancel_log, cancel_runs (6 ∷ 4 ∷ []), (refl, exchanged_lines (Uplink 4 0 octets) (Uplink 6 1 octets), across_not_allowed)),
  )

  -- ---- links of one worker

  burst_log : List Happening
  burst_log = Entered (Uplink 5 2 octets) ∷ Entered (Uplink 4 0 octets) ∷ []

  burst_runs : (order : List ℕ) → ScriptRun (two_texts who sample octets uplink) order (done_with burst_log)
  unfolding burst_log
  burst_runs order =
      sent_on order [] 4 0 first (sends who octets uplink third ∷ []) (done_with burst_log) refl refl
      (sent_on order (Entered (Uplink 4 0 octets) ∷ []) 5 2 third [] (done_with burst_log) refl refl refl)

  of_one_not_allowed : IsAllowedOrder (two_texts who sample octets uplink) (done_with burst_log) 2 (5 ∷ 4 ∷ []) → ⊥
  unfolding burst_log
  of_one_not_allowed allowed = elim (allowed.ordered.0 4 (inl refl)) [
    | inl before ↦ omega (arith, before)
    | inr passes ↦ same_worker passes.1.one passes.1.other passes.1.earlier_place passes.1.later_place passes.1.apart
  ]
    where
      same_worker : (one other : ℕ) → Some 0 ≡ Some one → Some 2 ≡ Some other → (one % 2 ≡ other % 2 → ⊥) → ⊥
      same_worker one other is_one is_other apart =
          let zero_place : 0 ≡ one = cc in
          let two_place : 2 ≡ other = cc in
          apart (ap (λ n. n % 2) (sym zero_place) ∙ ap (λ n. n % 2) two_place)

  in_two_lines : (number : ℕ) → 4 ≤ number → number ≤ 5 → is_burst_line (reading_at (two_texts who sample octets uplink).readings number) ≡ true
  in_two_lines number from upto = elim (cases_eq number 4) [
    | inl is ↦ subst (λ n. is_burst_line (reading_at (two_texts who sample octets uplink).readings n) ≡ true) (sym is) refl
    | inr apart ↦ at (ends number from upto apart)
  ]
    where
      ends : (number : ℕ) → 4 ≤ number → number ≤ 5 → (number ≡ 4 → ⊥) → number ≡ 5
      ends number from upto apart = omega arith

      at : number ≡ 5 → is_burst_line (reading_at (two_texts who sample octets uplink).readings number) ≡ true
      at is = subst (λ n. is_burst_line (reading_at (two_texts who sample octets uplink).readings n) ≡ true) (sym is) refl

  passes_first : (number : ℕ) → IsAmong number (4 ∷ [])
      → (5 < number) ⊎ ((number < 5) × MayPass (first ∷ second ∷ third ∷ []) (two_texts who sample octets uplink).readings 3 number 5)
  passes_first number (inl is) =
      inr (
        omega (arith, is),
        subst (λ n. MayPass (first ∷ second ∷ third ∷ []) (two_texts who sample octets uplink).readings 3 n 5) is
            (record { burst = in_two_lines; one = 0; other = 2; earlier_place = refl; later_place = refl; apart = λ same. omega (arith, same) }),
      )
  passes_first number (inr none) = absurd none

  of_one_worker_worked : MayNotTake (two_texts who sample octets uplink) (5 ∷ 4 ∷ []) 2 × MayTake (two_texts who sample octets uplink) (5 ∷ 4 ∷ []) 3
  unfolding burst_log
  of_one_worker_worked = (
    (done_with burst_log, burst_runs (5 ∷ 4 ∷ []), (refl, exchanged_lines (Uplink 4 0 octets) (Uplink 5 2 octets), of_one_not_allowed)),
    (
      done_with burst_log,
      burst_runs (5 ∷ 4 ∷ []),
      (refl, record { ordered = (passes_first, (λ number none. absurd none, tt)); lines = exchanged_lines (Uplink 4 0 octets) (Uplink 5 2 octets) }),
    ),
  )

pub across_a_tick : AcrossATick
across_a_tick who sample octets uplink =
    let worked = across_a_tick_worked who sample octets uplink in (worked.0.0, worked.0.1, worked.1)

pub across_a_cancel : AcrossACancel
across_a_cancel = across_a_cancel_worked

pub of_one_worker : OfOneWorker
of_one_worker = of_one_worker_worked
