-- The worked script of an old uplink, line by line.
use Rattle.std.proofs.Common.{◌≡◌, ℕ, ◌+◌, ◌<◌, List, [], ◌∷◌, ◌++◌, map, Some, inl, refl, sym, ap, ◌∙◌, arith, append-nil}
use Rattle.std.specs.List.{slice_get}
use Rattle.acars_envelope.specs.Names.{IsFlight, IsRegistration}
use Rattle.adsc_downlink.specs.Items.ItemData.{ack}
use Rattle.adsc_requests.specs.declared.kind.Kind.TheVariants as kinds
use Rattle.adsc_requests.specs.declared.message.Message.TheVariants as message
use Rattle.aircraft_core.specs.Entries.{line_of}
use Rattle.aircraft_core.specs.declared.who.Who.{Who}
use Rattle.centre_core.specs.Events.{HearsItem}
use Rattle.centre_core.specs.Hearing.{Tells}
use Rattle.centre_core.specs.Histories.{table_at}
use Rattle.centre_core.specs.Steps.{table_after}
use Rattle.centre_core.specs.declared.shown.Shown.TheVariants as shown
use Rattle.centre_core.specs.declared.table.CentreTable.{CentreTable}
use Rattle.centre_core.proofs.TableLaws.{rows_go_on}
use Rattle.flight_samples.specs.declared.sample.Sample.{Sample as FlightSample}
use Rattle.net_script.specs.declared.line.Cancel.TheVariants.{Of}
use Rattle.run_rules.specs.Happenings.{Happening, Asked, Brought, Cancelled, Heard, Carries, entries, history, sent_messages}
use Rattle.run_rules.specs.Histories.Reuse.{BringsOldUplink, OldUplink, asks_and_cancels, asks_for, old_uplink, timed}
use Rattle.run_rules.specs.Histories.Words.{aircraft_of, asks, brings, cancels, emergency, receives}
use Rattle.run_rules.specs.Orders.{journal_of}
use Rattle.run_rules.specs.Runs.{ScriptRun, ended_run, journal_at}
use Rattle.run_rules.specs.Stages.{flying}
use Rattle.run_rules.specs.declared.end.End.TheVariants.{Done}
use Rattle.run_rules.proofs.WorkedAsking.{IsCentreSoFar, MayAskAgain, asks_again, asks_on, brings_message_on, entries_are, has_asked, has_sent, hears_on, line_behind, line_is, log_behind, table_with}
use Rattle.run_rules.proofs.WorkedTexts.{worked_ack}
use Rattle.run_rules.proofs.WorkedReuse.{ack_text_of, after_255, begins, both_texts, contact_text_of, logged_on, logon_and_request, logon_in_order, never_accepted, request_at, two_in_order}

-- What happened up to line 7: the centre asked under number 1 and cancelled.
abbrev up_to_7 : Who → FlightSample → List Happening
up_to_7 who sample = Cancelled 7 0 (Of kinds.Emergency) (message.Cancel 1) ∷ Asked 6 0 (emergency 1) ∷ logged_on who sample

-- The line of the other request, and what happened up to it.
abbrev ask_line : ℕ → ℕ
ask_line times = line_behind times 8

abbrev up_to_ask : Who → FlightSample → ℕ → List Happening
up_to_ask who sample times = Asked (ask_line times) 0 (timed 1) ∷ log_behind times 8 1 (up_to_7 who sample)

abbrev up_to_bringing : Who → FlightSample → ℕ → List Happening
up_to_bringing who sample times = Brought 0 2 (request_at (ask_line times + 1)) ∷ up_to_ask who sample times

abbrev up_to_end : Who → FlightSample → ℕ → List Happening
up_to_end who sample times = Heard (ask_line times + 1 + 1) 0 2 (Tells (ack 1 ∷ [])) ∷ up_to_bringing who sample times

may_ask : (who : Who) (sample : FlightSample) (times : ℕ) → times ≡ 254
    → MayAskAgain (aircraft_of who sample) (log_behind times 8 1 (up_to_7 who sample)) 255 shown.Nothing
may_ask who sample times is =
    after_255 (aircraft_of who sample) (up_to_7 who sample) times 8 shown.Nothing (shown.Cancelling (emergency 1)) is
    (record { centre = record { found = refl; free = refl }; table = refl; free = refl })

-- The first message stands at place 2.
first_sent : (who : Who) (sample : FlightSample) (times : ℕ)
    → slice_get (sent_messages 0 (up_to_ask who sample times)) 1 ≡ Some (record { line = 6; carried = Carries (emergency 1) })
first_sent who sample times =
    ap (λ sent. slice_get (sent ++ record { line = ask_line times; carried = Carries (timed 1) } ∷ []) 1)
    ((has_sent times 8 1 (up_to_7 who sample)).sent)

entries_then : (who : Who) (sample : FlightSample) (times : ℕ)
    → entries (up_to_bringing who sample times) ≡ logon_and_request (ask_line times + 1)
entries_then who sample times =
    ap (λ made. (made ++ []) ++ request_at (ask_line times + 1) ∷ []) (entries_are times 8 1 (up_to_7 who sample))

behind_4 : (times : ℕ) → 4 < ask_line times + 1
behind_4 times = omega (arith, line_is times 8)

journal_then : (who : Who) (sample : FlightSample) (times : ℕ)
    → journal_at (4 ∷ (ask_line times + 1) ∷ []) (up_to_bringing who sample times) ≡ logon_and_request (ask_line times + 1)
journal_then who sample times =
    ap (journal_of (4 ∷ (ask_line times + 1) ∷ [])) (entries_then who sample times) ∙ two_in_order (ask_line times + 1) (behind_4 times)

old_uplink_runs : (who : Who) (sample : FlightSample) (times : ℕ) → IsRegistration who.registration → IsFlight who.flight → times ≡ 254
    → ScriptRun (old_uplink who sample times) (4 ∷ (ask_line times + 1) ∷ [])
    (ended_run (flying (aircraft_of who sample)) (up_to_end who sample times) Done)
old_uplink_runs who sample times registration flight is =
    let order : List ℕ = 4 ∷ (ask_line times + 1) ∷ [] in
    let setting = aircraft_of who sample in
    let run = ended_run (flying setting) (up_to_end who sample times) Done in
    let again = may_ask who sample times is in
    let centre : IsCentreSoFar setting (up_to_ask who sample times) = record { found = refl; free = again.may.centre.free } in
    begins who sample order
    (asks ∷ cancels (Of kinds.Emergency) ∷ asks_and_cancels times (asks_for (timed 0) ∷ brings 2 ∷ receives 2 ∷ []))
    run registration flight (logon_in_order (ask_line times + 1) (behind_4 times))
    (asks_again times order setting (up_to_7 who sample) 8 1 shown.Nothing (shown.Cancelling (emergency 1))
    (asks_for (timed 0) ∷ brings 2 ∷ receives 2 ∷ []) run (record { centre = record { found = refl; free = refl }; table = refl; free = refl })
    (asks_on order setting (log_behind times 8 1 (up_to_7 who sample)) (ask_line times) 255 shown.Nothing again.row (Some 0xa5)
    (brings 2 ∷ receives 2 ∷ []) run again.may
    (brings_message_on order setting (up_to_ask who sample times) (ask_line times + 1) 2 (record { line = 6; carried = Carries (emergency 1) })
    (receives 2 ∷ []) run centre (first_sent who sample times)
    (hears_on order setting (up_to_bringing who sample times) (ask_line times + 1 + 1) 2 (logon_and_request (ask_line times + 1))
    (contact_text_of who sample ∷ ack_text_of who sample ∷ []) (ack_text_of who sample) (Tells (ack 1 ∷ [])) [] run
    (record { found = refl; free = centre.free }) (journal_then who sample times) (both_texts who sample (ask_line times + 1)) refl
    (worked_ack who sample sample 1 (omega arith) registration flight) refl))))

pub old_uplink_misleads : OldUplink
old_uplink_misleads who sample times registration flight is = (
  4 ∷ (ask_line times + 1) ∷ [],
  (
    ended_run (flying (aircraft_of who sample)) (up_to_end who sample times) Done,
    old_uplink_runs who sample times registration flight is,
    record {
      done = refl;
      in_line = sym (ap (λ made. map line_of (made ++ [])) (entries_then who sample times));
      reuses = old;
      confirmed = (kinds.Emergency, inl (ap (λ (t : CentreTable). t.emergency) confirmed));
      never = never_accepted who sample (ask_line times + 1) (journal_at (4 ∷ (ask_line times + 1) ∷ []) (up_to_end who sample times)) (timed 1)
          (ap (journal_of (4 ∷ (ask_line times + 1) ∷ [])) (append-nil (entries (up_to_bringing who sample times))) ∙ journal_then who sample times)
          refl;
    },
  ),
)
  where
    again : MayAskAgain (aircraft_of who sample) (log_behind times 8 1 (up_to_7 who sample)) 255 shown.Nothing
    again = may_ask who sample times is

    confirmed : table_at (history 0 (up_to_end who sample times)) ≡ table_with 1 shown.Nothing (shown.Confirmed (timed 1))
    confirmed =
        rows_go_on (HearsItem (ack 1)) (history 0 (up_to_ask who sample times))
        ∙ ap (table_after (HearsItem (ack 1)))
        (has_asked (aircraft_of who sample) (log_behind times 8 1 (up_to_7 who sample)) (ask_line times) 255 shown.Nothing again.row (Some 0xa5)
        again.may)

    old : BringsOldUplink 1 (4 ∷ (ask_line times + 1) ∷ []) (aircraft_of who sample) (up_to_end who sample times)
    old = record {
      line = ask_line times;
      request = timed 1;
      place = 2;
      made = request_at (ask_line times + 1);
      sent = record { line = 6; carried = Carries (emergency 1) };
      later = Heard (ask_line times + 1 + 1) 0 2 (Tells (ack 1 ∷ [])) ∷ [];
      earlier = up_to_ask who sample times;
      split = refl;
      asked = inl refl;
      number = refl;
      there = first_sent who sample times;
      bears = refl;
      before = omega (arith, line_is times 8);
    }
