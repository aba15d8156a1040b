-- The worked script of an old downlink, line by line.
use Rattle.std.proofs.Common.{◌≡◌, ℕ, ◌+◌, List, [], ◌∷◌, ◌++◌, map, Some, inl, refl, sym, ap, ◌∙◌, arith, append-nil}
use Rattle.acars_envelope.specs.Names.{IsFlight, IsRegistration}
use Rattle.adsc_downlink.specs.Items.ItemData.{ack}
use Rattle.adsc_requests.specs.declared.kind.Kind.TheVariants as kinds
use Rattle.adsc_requests.specs.declared.message.Message.TheVariants as message
use Rattle.aircraft_core.specs.Entries.{line_of}
use Rattle.aircraft_core.specs.declared.entry.Entry.TheVariants.{Logon}
use Rattle.aircraft_core.specs.declared.who.Who.{Who}
use Rattle.centre_core.specs.Events.{HearsItem}
use Rattle.centre_core.specs.Hearing.{Tells}
use Rattle.centre_core.specs.Histories.{table_at}
use Rattle.centre_core.specs.Steps.{table_after}
use Rattle.centre_core.specs.declared.shown.Shown.TheVariants as shown
use Rattle.centre_core.specs.declared.table.CentreTable.{CentreTable}
use Rattle.centre_core.proofs.TableLaws.{rows_go_on}
use Rattle.flight_samples.specs.declared.sample.Sample.{Sample as FlightSample}
use Rattle.net_script.specs.declared.line.Cancel.TheVariants.{Of}
use Rattle.run_rules.specs.Claims.{MadeDownlink}
use Rattle.run_rules.specs.Happenings.{Happening, Asked, Brought, Cancelled, Heard, entries, history}
use Rattle.run_rules.specs.Histories.Reuse.{HearsOldDownlink, OldDownlink, asks_and_cancels, asks_for, old_downlink, timed}
use Rattle.run_rules.specs.Histories.Words.{aircraft_of, asks, brings, cancels, emergency, receives}
use Rattle.run_rules.specs.Orders.{journal_of}
use Rattle.run_rules.specs.Runs.{ScriptRun, ended_run, journal_at}
use Rattle.run_rules.specs.Stages.{flying}
use Rattle.run_rules.specs.declared.end.End.TheVariants.{Done}
use Rattle.run_rules.proofs.WorkedAsking.{MayAsk, MayAskAgain, asks_again, asks_on, entries_are, has_asked, hears_on, line_behind, line_is, log_behind, table_with}
use Rattle.run_rules.proofs.WorkedTexts.{worked_ack}
use Rattle.run_rules.proofs.WorkedReuse.{ack_text_of, after_255, begins, both_texts, contact_text_of, first_text, logged_on, logon_and_request, never_accepted, request_at}

-- What happened up to line 8: the centre asked under number 1, its request was brought, and it cancelled.
abbrev up_to_8 : Who → FlightSample → List Happening
up_to_8 who sample =
    Cancelled 8 0 (Of kinds.Emergency) (message.Cancel 1) ∷ Brought 0 2 (request_at 7) ∷ Asked 6 0 (emergency 1) ∷ logged_on who sample

-- The line of the other request, and what happened up to it.
abbrev ask_line : ℕ → ℕ
ask_line times = line_behind times 9

abbrev up_to_ask : Who → FlightSample → ℕ → List Happening
up_to_ask who sample times = Asked (ask_line times) 0 (timed 1) ∷ log_behind times 9 1 (up_to_8 who sample)

abbrev up_to_end : Who → FlightSample → ℕ → List Happening
up_to_end who sample times = Heard (ask_line times + 1) 0 2 (Tells (ack 1 ∷ [])) ∷ up_to_ask who sample times

may_ask : (who : Who) (sample : FlightSample) → MayAsk (aircraft_of who sample) (up_to_8 who sample) 1 shown.Nothing (shown.Cancelling (emergency 1))
may_ask who sample = record { centre = record { found = refl; free = refl }; table = refl; free = refl }

may_ask_then : (who : Who) (sample : FlightSample) (times : ℕ) → times ≡ 254
    → MayAskAgain (aircraft_of who sample) (log_behind times 9 1 (up_to_8 who sample)) 255 shown.Nothing
may_ask_then who sample times is =
    after_255 (aircraft_of who sample) (up_to_8 who sample) times 9 shown.Nothing (shown.Cancelling (emergency 1)) is (may_ask who sample)

entries_then : (who : Who) (sample : FlightSample) (times : ℕ) → entries (up_to_ask who sample times) ≡ logon_and_request 7
entries_then who sample times = ap (λ made. made ++ []) (entries_are times 9 1 (up_to_8 who sample))

journal_then : (who : Who) (sample : FlightSample) (times : ℕ) → journal_at (4 ∷ 7 ∷ []) (up_to_ask who sample times) ≡ logon_and_request 7
journal_then who sample times = ap (journal_of (4 ∷ 7 ∷ [])) (entries_then who sample times)

old_downlink_runs : (who : Who) (sample : FlightSample) (times : ℕ) → IsRegistration who.registration → IsFlight who.flight → times ≡ 254
    → ScriptRun (old_downlink who sample times) (4 ∷ 7 ∷ []) (ended_run (flying (aircraft_of who sample)) (up_to_end who sample times) Done)
old_downlink_runs who sample times registration flight is =
    let order : List ℕ = 4 ∷ 7 ∷ [] in
    let setting = aircraft_of who sample in
    let run = ended_run (flying setting) (up_to_end who sample times) Done in
    let again = may_ask_then who sample times is in
    begins who sample order
    (asks ∷ brings 2 ∷ cancels (Of kinds.Emergency) ∷ asks_and_cancels times (asks_for (timed 0) ∷ receives 2 ∷ [])) run registration flight refl
    (asks_again times order setting (up_to_8 who sample) 9 1 shown.Nothing (shown.Cancelling (emergency 1)) (asks_for (timed 0) ∷ receives 2 ∷ []) run
    (may_ask who sample)
    (asks_on order setting (log_behind times 9 1 (up_to_8 who sample)) (ask_line times) 255 shown.Nothing again.row (Some 0xa5) (receives 2 ∷ []) run
    again.may
    (hears_on order setting (up_to_ask who sample times) (ask_line times + 1) 2 (logon_and_request 7)
    (contact_text_of who sample ∷ ack_text_of who sample ∷ []) (ack_text_of who sample) (Tells (ack 1 ∷ [])) [] run
    (record { found = refl; free = again.may.centre.free }) (journal_then who sample times) (both_texts who sample 7) refl
    (worked_ack who sample sample 1 (omega arith) registration flight) refl)))

-- The downlink that is heard was made by the entry of line 7.
made_at_7 : (who : Who) (sample : FlightSample) (times : ℕ)
    → MadeDownlink (aircraft_of who sample) (journal_at (4 ∷ 7 ∷ []) (up_to_ask who sample times)) 0 2 (request_at 7)
made_at_7 who sample times = record {
  before = Logon 4 0 ∷ [];
  behind = [];
  joined = journal_then who sample times;
  earlier = contact_text_of who sample ∷ [];
  through = contact_text_of who sample ∷ ack_text_of who sample ∷ [];
  are_earlier = first_text who sample;
  are_through = both_texts who sample 7;
  behind_those = omega arith;
  among_these = omega arith;
}

pub old_downlink_misleads : OldDownlink
old_downlink_misleads who sample times registration flight is = (
  4 ∷ 7 ∷ [],
  (
    ended_run (flying (aircraft_of who sample)) (up_to_end who sample times) Done,
    old_downlink_runs who sample times registration flight is,
    record {
      done = refl;
      in_line = sym (ap (λ made. map line_of (made ++ [])) (entries_then who sample times));
      reuses = old;
      confirmed = (kinds.Emergency, inl (ap (λ (t : CentreTable). t.emergency) confirmed));
      never = never_accepted who sample 7 (journal_at (4 ∷ 7 ∷ []) (up_to_end who sample times)) (timed 1)
          (ap (journal_of (4 ∷ 7 ∷ [])) (append-nil (entries (up_to_ask who sample times))) ∙ journal_then who sample times) refl;
    },
  ),
)
  where
    again : MayAskAgain (aircraft_of who sample) (log_behind times 9 1 (up_to_8 who sample)) 255 shown.Nothing
    again = may_ask_then who sample times is

    confirmed : table_at (history 0 (up_to_end who sample times)) ≡ table_with 1 shown.Nothing (shown.Confirmed (timed 1))
    confirmed =
        rows_go_on (HearsItem (ack 1)) (history 0 (up_to_ask who sample times))
        ∙ ap (table_after (HearsItem (ack 1)))
        (has_asked (aircraft_of who sample) (log_behind times 9 1 (up_to_8 who sample)) (ask_line times) 255 shown.Nothing again.row (Some 0xa5)
        again.may)

    old : HearsOldDownlink 1 (4 ∷ 7 ∷ []) (aircraft_of who sample) (up_to_end who sample times)
    old = record {
      line = ask_line times;
      request = timed 1;
      number = ask_line times + 1;
      place = 2;
      hearing = Tells (ack 1 ∷ []);
      entry = request_at 7;
      later = [];
      earlier = up_to_ask who sample times;
      split = refl;
      asked = inl refl;
      its_number = refl;
      bears = (ack 1, inl refl, refl);
      made = made_at_7 who sample times;
      before = omega (arith, line_is times 9);
    }
