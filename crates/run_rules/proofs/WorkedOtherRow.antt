-- The worked script of another row under the same number, line by line.
use Rattle.std.proofs.Common.{◌≡◌, ℕ, ◌+◌, ◌-◌, ◌<◌, List, [], ◌∷◌, ◌++◌, map, length, Some, None, inl, refl, sym, ap, ◌∙◌, subst, arith, append-nil, length-append}
use Rattle.std.specs.List.{slice_get}
use Rattle.acars_envelope.specs.Names.{IsFlight, IsRegistration}
use Rattle.adsc_downlink.specs.Items.ItemData.{ack}
use Rattle.adsc_requests.specs.declared.kind.Kind.TheVariants as kinds
use Rattle.aircraft_core.specs.Entries.{line_of}
use Rattle.aircraft_core.specs.declared.who.Who.{Who}
use Rattle.centre_core.specs.Events.{HearsItem}
use Rattle.centre_core.specs.Hearing.{Tells}
use Rattle.centre_core.specs.Histories.{table_at}
use Rattle.centre_core.specs.Steps.{table_after}
use Rattle.centre_core.specs.declared.shown.Shown.TheVariants as shown
use Rattle.centre_core.specs.declared.table.CentreTable.{CentreTable}
use Rattle.centre_core.proofs.TableLaws.{rows_go_on}
use Rattle.flight_samples.specs.declared.sample.Sample.{Sample as FlightSample}
use Rattle.run_rules.specs.Claims.{RowBears}
use Rattle.run_rules.specs.Happenings.{Happening, Asked, Brought, Heard, Carries, SentMessage, entries, history, sent_messages}
use Rattle.run_rules.specs.Histories.Reuse.{AsksBesideRow, OtherRow, asks_and_cancels, asks_for, other_row, periodic}
use Rattle.run_rules.specs.Histories.Words.{aircraft_of, asks, brings, emergency, receives}
use Rattle.run_rules.specs.Orders.{journal_of}
use Rattle.run_rules.specs.Runs.{ScriptRun, ended_run, journal_at}
use Rattle.run_rules.specs.Stages.{flying}
use Rattle.run_rules.specs.declared.end.End.TheVariants.{Done}
use Rattle.run_rules.proofs.WorkedAsking.{MayAsk, MayAskAgain, asks_again, asks_on, brings_message_on, entries_are, has_asked, has_sent, hears_on, line_behind, line_is, log_behind, table_with}
use Rattle.run_rules.proofs.WorkedTexts.{worked_ack}
use Rattle.run_rules.proofs.WorkedReuse.{ack_text_of, after_255, begins, both_texts, contact_text_of, logged_on, logon_and_request, logon_in_order, never_accepted, request_at, two_in_order}

-- What happened up to line 6: the centre asked by a periodic request under number 1.
abbrev up_to_6 : Who → FlightSample → List Happening
up_to_6 who sample = Asked 6 0 (periodic 1) ∷ logged_on who sample

-- The line of the emergency request that gets number 1 again, and what happened up to it.
abbrev ask_line : ℕ → ℕ
ask_line times = line_behind times 7

abbrev up_to_ask : Who → FlightSample → ℕ → List Happening
up_to_ask who sample times = Asked (ask_line times) 0 (emergency 1) ∷ log_behind times 7 1 (up_to_6 who sample)

abbrev up_to_bringing : Who → FlightSample → ℕ → List Happening
up_to_bringing who sample times = Brought 0 (times + times + 3) (request_at (ask_line times + 1)) ∷ up_to_ask who sample times

abbrev up_to_end : Who → FlightSample → ℕ → List Happening
up_to_end who sample times = Heard (ask_line times + 1 + 1) 0 2 (Tells (ack 1 ∷ [])) ∷ up_to_bringing who sample times

may_ask : (who : Who) (sample : FlightSample) → MayAsk (aircraft_of who sample) (up_to_6 who sample) 1 (shown.Pending (periodic 1)) shown.Nothing
may_ask who sample = record { centre = record { found = refl; free = refl }; table = refl; free = refl }

may_ask_then : (who : Who) (sample : FlightSample) (times : ℕ) → times ≡ 254
    → MayAskAgain (aircraft_of who sample) (log_behind times 7 1 (up_to_6 who sample)) 255 (shown.Pending (periodic 1))
may_ask_then who sample times is =
    after_255 (aircraft_of who sample) (up_to_6 who sample) times 7 (shown.Pending (periodic 1)) shown.Nothing is (may_ask who sample)

-- The emergency request is the last message.
last_there : (sent : List SentMessage) (last : SentMessage) → slice_get (sent ++ last ∷ []) (length sent) ≡ Some last
last_there [] last = refl
last_there (first ∷ sent) last = last_there sent last

is_last : (who : Who) (sample : FlightSample) (times : ℕ)
    → slice_get (sent_messages 0 (up_to_ask who sample times)) (times + times + 3 - 1)
    ≡ Some (record { line = ask_line times; carried = Carries (emergency 1) })
is_last who sample times =
    ap (slice_get (sent_messages 0 (up_to_ask who sample times))) place
    ∙ last_there (sent_messages 0 (log_behind times 7 1 (up_to_6 who sample))) (record { line = ask_line times; carried = Carries (emergency 1) })
  where
    place : times + times + 3 - 1 ≡ length (sent_messages 0 (log_behind times 7 1 (up_to_6 who sample)))
    place =
        let has = has_sent times 7 1 (up_to_6 who sample) in
        omega (arith, ap length has.sent, length-append (sent_messages 0 (up_to_6 who sample)) has.more, has.count)

entries_then : (who : Who) (sample : FlightSample) (times : ℕ)
    → entries (up_to_bringing who sample times) ≡ logon_and_request (ask_line times + 1)
entries_then who sample times =
    ap (λ made. (made ++ []) ++ request_at (ask_line times + 1) ∷ []) (entries_are times 7 1 (up_to_6 who sample))

behind_4 : (times : ℕ) → 4 < ask_line times + 1
behind_4 times = omega (arith, line_is times 7)

journal_then : (who : Who) (sample : FlightSample) (times : ℕ)
    → journal_at (4 ∷ (ask_line times + 1) ∷ []) (up_to_bringing who sample times) ≡ logon_and_request (ask_line times + 1)
journal_then who sample times =
    ap (journal_of (4 ∷ (ask_line times + 1) ∷ [])) (entries_then who sample times) ∙ two_in_order (ask_line times + 1) (behind_4 times)

other_row_runs : (who : Who) (sample : FlightSample) (times : ℕ) → IsRegistration who.registration → IsFlight who.flight → times ≡ 254
    → ScriptRun (other_row who sample times) (4 ∷ (ask_line times + 1) ∷ [])
    (ended_run (flying (aircraft_of who sample)) (up_to_end who sample times) Done)
other_row_runs who sample times registration flight is =
    let order : List ℕ = 4 ∷ (ask_line times + 1) ∷ [] in
    let setting = aircraft_of who sample in
    let run = ended_run (flying setting) (up_to_end who sample times) Done in
    let again = may_ask_then who sample times is in
    let place = times + times + 3 in
    begins who sample order (asks_for (periodic 0) ∷ asks_and_cancels times (asks ∷ brings place ∷ receives 2 ∷ [])) run registration flight
    (logon_in_order (ask_line times + 1) (behind_4 times))
    (asks_again times order setting (up_to_6 who sample) 7 1 (shown.Pending (periodic 1)) shown.Nothing (asks ∷ brings place ∷ receives 2 ∷ []) run
    (may_ask who sample)
    (asks_on order setting (log_behind times 7 1 (up_to_6 who sample)) (ask_line times) 255 (shown.Pending (periodic 1)) again.row None
    (brings place ∷ receives 2 ∷ []) run again.may
    (brings_message_on order setting (up_to_ask who sample times) (ask_line times + 1) place
    (record { line = ask_line times; carried = Carries (emergency 1) }) (receives 2 ∷ []) run
    (record { found = refl; free = again.may.centre.free }) (is_last who sample times)
    (hears_on order setting (up_to_bringing who sample times) (ask_line times + 1 + 1) 2 (logon_and_request (ask_line times + 1))
    (contact_text_of who sample ∷ ack_text_of who sample ∷ []) (ack_text_of who sample) (Tells (ack 1 ∷ [])) [] run
    (record { found = refl; free = again.may.centre.free }) (journal_then who sample times) (both_texts who sample (ask_line times + 1)) refl
    (worked_ack who sample sample 1 (omega arith) registration flight) refl))))

pub other_row_misleads : OtherRow
other_row_misleads who sample times registration flight is = (
  4 ∷ (ask_line times + 1) ∷ [],
  (
    ended_run (flying (aircraft_of who sample)) (up_to_end who sample times) Done,
    other_row_runs who sample times registration flight is,
    record {
      done = refl;
      in_line = sym (ap (λ made. map line_of (made ++ [])) (entries_then who sample times));
      reuses = beside;
      confirmed = (kinds.Periodic, inl (ap (λ (t : CentreTable). t.periodic) confirmed));
      never = never_accepted who sample (ask_line times + 1) (journal_at (4 ∷ (ask_line times + 1) ∷ []) (up_to_end who sample times)) (periodic 1)
          (ap (journal_of (4 ∷ (ask_line times + 1) ∷ [])) (append-nil (entries (up_to_bringing who sample times))) ∙ journal_then who sample times)
          refl;
    },
  ),
)
  where
    again : MayAskAgain (aircraft_of who sample) (log_behind times 7 1 (up_to_6 who sample)) 255 (shown.Pending (periodic 1))
    again = may_ask_then who sample times is

    confirmed : table_at (history 0 (up_to_end who sample times))
        ≡ table_with 1 (shown.Confirmed (periodic 1)) (shown.Pending (emergency 1))
    confirmed =
        rows_go_on (HearsItem (ack 1)) (history 0 (up_to_ask who sample times))
        ∙ ap (table_after (HearsItem (ack 1)))
        (has_asked (aircraft_of who sample) (log_behind times 7 1 (up_to_6 who sample)) (ask_line times) 255 (shown.Pending (periodic 1)) again.row None
        again.may)

    beside : AsksBesideRow 1 (4 ∷ (ask_line times + 1) ∷ []) (aircraft_of who sample) (up_to_end who sample times)
    beside = record {
      line = ask_line times;
      request = emergency 1;
      kind = kinds.Periodic;
      later = Heard (ask_line times + 1 + 1) 0 2 (Tells (ack 1 ∷ []))
          ∷ Brought 0 (times + times + 3) (request_at (ask_line times + 1)) ∷ [];
      earlier = log_behind times 7 1 (up_to_6 who sample);
      split = refl;
      number = refl;
      another = λ same. cc;
      bears = subst (RowBears 1) (sym (ap (λ (t : CentreTable). t.periodic) again.may.table)) refl;
    }
