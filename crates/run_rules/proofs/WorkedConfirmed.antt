-- The worked scripts that confirm, line by line.
use Rattle.std.proofs.Common.{◌≡◌, ℕ, List, [], ◌∷◌, ◌++◌, codes, inl, refl, arith, append_assoc, append-nil}
use Rattle.acars_envelope.specs.Names.{IsFlight, IsRegistration}
use Rattle.adsc_downlink.specs.Items.ItemData.{ack}
use Rattle.adsc_io.specs.Lines.{ended}
use Rattle.afn_logon.specs.declared.logon.Logon.TheVariants.{Accepted}
use Rattle.aircraft_core.specs.Downlinks.{AreDownlinks, contact_on, contact_text_on, text_of_items}
use Rattle.aircraft_core.specs.JournalActs.{JournalActs}
use Rattle.aircraft_core.specs.declared.entry.Entry.{Entry}
use Rattle.aircraft_core.specs.declared.entry.Entry.TheVariants.{Answer, Logon, Uplink}
use Rattle.aircraft_core.specs.declared.who.Who.{Who}
use Rattle.centre_core.specs.Hearing.{Greets, Tells}
use Rattle.centre_core.specs.Sending.{message_payload}
use Rattle.contract_rules.specs.Acts.{Act, Said}
use Rattle.contract_rules.specs.Due.{Acknowledgement}
use Rattle.contract_table.specs.Acts.{rules_message}
use Rattle.flight_samples.specs.declared.sample.Sample.{Sample as FlightSample}
use Rattle.std.specs.Fmt.{digits}
use Rattle.adsc_requests.specs.Contents.{collected, report_octets}
use Rattle.adsc_requests.specs.Grammar.{message_octets}
use Rattle.adsc_requests.specs.Tables.{is_modulus_tag}
use Rattle.hex.specs.Hex.{encode_with}
use Rattle.run_rules.specs.Happenings.{Happening, Asked, Brought, Entered, Heard}
use Rattle.run_rules.specs.Histories.Confirmed.{BringsTwice, Confirms, confirming}
use Rattle.run_rules.specs.Histories.Written.{ConfirmedIsWritten}
use Rattle.run_rules.specs.Histories.Words.{aircraft_of, emergency, ground}
use Rattle.run_rules.specs.Output.{AreLinkLines, centre_lines, downlink_lines, logon_line}
use Rattle.run_rules.specs.Runs.{Run, ScriptRun, ended_run}
use Rattle.run_rules.specs.Stages.{flying}
use Rattle.run_rules.specs.declared.end.End.TheVariants.{Done}
use Rattle.run_rules.proofs.EachRun.{sent_acts}
use Rattle.run_rules.proofs.WorkedTexts.{worked_ack, worked_contact}

-- ---- journals

-- The answer, and the request brought at a line.
abbrev answer_entry : Entry
answer_entry = Answer 6 0 0

abbrev request_entry : ℕ → Entry
request_entry line = Uplink line 0 (record { items = message_payload (emergency 1) })

abbrev contact_text_of : Who → FlightSample → List ℕ
contact_text_of who sample = contact_text_on (aircraft_of who sample) 0 [] sample

abbrev ack_text_of : Who → FlightSample → List ℕ
ack_text_of who sample = text_of_items (aircraft_of who sample) 0 sample (Acknowledgement 1 ∷ [])

abbrev request_acts : List Act
request_acts = Said 0 (rules_message (emergency 1)) ∷ []

logged_on : (who : Who) (sample : FlightSample) → AreDownlinks (aircraft_of who sample) (Logon 4 0 ∷ []) 0 (contact_text_of who sample ∷ [])
logged_on who sample = record { acts = [] ∷ []; are_acts = (refl, refl); spelled = refl }

acts_once : (sample : FlightSample) → JournalActs sample (Logon 4 0 ∷ answer_entry ∷ request_entry 8 ∷ []) ([] ∷ [] ∷ request_acts ∷ [])
acts_once sample = (refl, (refl, (sent_acts 0 (emergency 1), refl)))

asked_once : (who : Who) (sample : FlightSample)
    → AreDownlinks (aircraft_of who sample) (Logon 4 0 ∷ answer_entry ∷ request_entry 8 ∷ []) 0 (contact_text_of who sample ∷ ack_text_of who sample ∷ [])
asked_once who sample = record { acts = [] ∷ [] ∷ request_acts ∷ []; are_acts = acts_once sample; spelled = refl }

acts_twice : (sample : FlightSample)
    → JournalActs sample (Logon 4 0 ∷ answer_entry ∷ request_entry 8 ∷ request_entry 9 ∷ []) ([] ∷ [] ∷ request_acts ∷ request_acts ∷ [])
acts_twice sample = (refl, (refl, (sent_acts 0 (emergency 1), (sent_acts 0 (emergency 1), refl))))

asked_twice : (who : Who) (sample : FlightSample)
    → AreDownlinks (aircraft_of who sample) (Logon 4 0 ∷ answer_entry ∷ request_entry 8 ∷ request_entry 9 ∷ []) 0
    (contact_text_of who sample ∷ ack_text_of who sample ∷ ack_text_of who sample ∷ [])
asked_twice who sample = record { acts = [] ∷ [] ∷ request_acts ∷ request_acts ∷ []; are_acts = acts_twice sample; spelled = refl }

-- ---- runs

-- What happened in the script that confirms, and its run.
abbrev confirmed_log : Who → FlightSample → List Happening
confirmed_log who sample =
    Heard 9 0 2 (Tells (ack 1 ∷ [])) ∷ Brought 0 2 (request_entry 8) ∷ Asked 7 0 (emergency 1) ∷ Brought 0 1 answer_entry
    ∷ Heard 5 0 1 (Greets (contact_on (aircraft_of who sample) 0 [] sample)) ∷ Entered (Logon 4 0) ∷ []

abbrev confirmed_run : Who → FlightSample → Run
confirmed_run who sample = ended_run (flying (aircraft_of who sample)) (confirmed_log who sample) Done

confirming_runs : (who : Who) (sample : FlightSample) → IsRegistration who.registration → IsFlight who.flight
    → ScriptRun (confirming who sample) (4 ∷ 6 ∷ 8 ∷ []) (confirmed_run who sample)
confirming_runs who sample registration flight = (
  contact_text_of who sample ∷ [],
  logged_on who sample,
  (
    Greets (contact_on (aircraft_of who sample) 0 [] sample),
    worked_contact who sample sample [] registration flight,
    (
      contact_text_of who sample ∷ ack_text_of who sample ∷ [],
      asked_once who sample,
      (Tells (ack 1 ∷ []), worked_ack who sample sample 1 (omega arith) registration flight, refl),
    ),
  ),
)

pub confirms : Confirms
confirms who sample registration flight = (
  confirmed_run who sample,
  confirming_runs who sample registration flight,
  (refl, refl, refl, record { acts = [] ∷ [] ∷ request_acts ∷ []; are_acts = acts_once sample; accepted = inl (refl, refl) }),
)

-- The lines of the one link.
confirmed_link : (who : Who) (sample : FlightSample)
    → AreLinkLines (aircraft_of who sample) (Logon 4 0 ∷ answer_entry ∷ request_entry 8 ∷ []) 0 (ground ∷ [])
    (logon_line ground Accepted ++ (downlink_lines (contact_text_of who sample ∷ ack_text_of who sample ∷ []) ++ []))
confirmed_link who sample = (contact_text_of who sample ∷ ack_text_of who sample ∷ [], [], asked_once who sample, refl, refl)

-- The lines one after the other are the parts of the output.
laid_out : (a b c d e f g h k : List ℕ) → a ++ (b ++ (c ++ (d ++ (e ++ (f ++ (g ++ (h ++ (k ++ []))))))))
    ≡ a ++ ((b ++ ((c ++ (d ++ [])) ++ [])) ++ (((e ++ (f ++ (g ++ (h ++ [])))) ++ []) ++ k))
laid_out a b c d e f g h k = simp (append_assoc, append-nil) refl

pub confirmed_is_written : ConfirmedIsWritten
unfolding digits encode_with message_octets collected report_octets is_modulus_tag
confirmed_is_written who sample registration flight = (
  confirmed_run who sample,
  confirming_runs who sample registration flight,
  record {
    behind =
        (logon_line ground Accepted ++ (downlink_lines (contact_text_of who sample ∷ ack_text_of who sample ∷ []) ++ []))
        ++ ((centre_lines ground 0 (confirmed_log who sample) ++ []) ++ ended (codes "OK"));
    is_end = (
      logon_line ground Accepted ++ (downlink_lines (contact_text_of who sample ∷ ack_text_of who sample ∷ []) ++ []),
      confirmed_link who sample,
      refl,
    );
    spelled =
        laid_out (ended (codes "J,4,6,8")) (ended (codes "L,GRND001,accepted")) (ended (codes "D," ++ contact_text_of who sample))
        (ended (codes "D," ++ ack_text_of who sample)) (ended (codes "C,GRND001,D,none")) (ended (codes "C,GRND001,P,none"))
        (ended (codes "C,GRND001,V,none")) (ended (codes "C,GRND001,M,confirmed,0901"))
        (ended (codes "OK"));
  },
)

pub brings_twice : BringsTwice
brings_twice who sample registration flight = (
  run,
  (
    contact_text_of who sample ∷ [],
    logged_on who sample,
    (
      Greets (contact_on (aircraft_of who sample) 0 [] sample),
      worked_contact who sample sample [] registration flight,
      (
        texts,
        asked_twice who sample,
        (
          Tells (ack 1 ∷ []),
          worked_ack who sample sample 1 (omega arith) registration flight,
          (
            texts,
            asked_twice who sample,
            (Tells (ack 1 ∷ []), worked_ack who sample sample 1 (omega arith) registration flight, refl),
          ),
        ),
      ),
    ),
  ),
  (refl, refl, refl, asked_twice who sample),
)
  where
    texts : List (List ℕ)
    texts = contact_text_of who sample ∷ ack_text_of who sample ∷ ack_text_of who sample ∷ []

    run : Run
    run =
        ended_run (flying (aircraft_of who sample))
        (Heard 11 0 2 (Tells (ack 1 ∷ [])) ∷ Heard 10 0 2 (Tells (ack 1 ∷ [])) ∷ Brought 0 2 (request_entry 9) ∷ Brought 0 2 (request_entry 8)
        ∷ Asked 7 0 (emergency 1) ∷ Brought 0 1 answer_entry
        ∷ Heard 5 0 1 (Greets (contact_on (aircraft_of who sample) 0 [] sample)) ∷ Entered (Logon 4 0) ∷ []) Done
