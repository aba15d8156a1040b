-- What the worked scripts have in common in which a number is reused too early.
use Rattle.std.proofs.Common.{◌≡◌, ℕ, ◌==◌, ◌<◌, false, cond, List, [], ◌∷◌, ◌++◌, filter, inl, inr, refl, ap, ◌∙◌, subst, arith}
use Rattle.std.proofs.lemmas.Bool.Decides.{Decides-eqb}
use Rattle.std.proofs.lemmas.Bool.{ne_eqb}
use Rattle.acars_envelope.specs.Names.{IsFlight, IsRegistration}
use Rattle.adsc_requests.specs.declared.message.Message.{Message}
use Rattle.aircraft_core.specs.Downlinks.{AreDownlinks, contact_on, contact_text_on, text_of_items}
use Rattle.aircraft_core.specs.Entries.{line_of}
use Rattle.aircraft_core.specs.JournalActs.{JournalActs, newest_first}
use Rattle.aircraft_core.specs.Setting.{Setting, configuration_of}
use Rattle.aircraft_core.specs.declared.entry.Entry.{Entry}
use Rattle.aircraft_core.specs.declared.entry.Entry.TheVariants.{Logon, Uplink}
use Rattle.aircraft_core.specs.declared.who.Who.{Who}
use Rattle.aircraft_core.proofs.OneList.{same_acts}
use Rattle.centre_core.specs.Hearing.{Greets}
use Rattle.centre_core.specs.Sending.{message_payload}
use Rattle.centre_core.specs.declared.shown.Shown.{Shown}
use Rattle.contract_rules.specs.Acts.{Act, Said}
use Rattle.contract_rules.specs.Due.{Acknowledgement}
use Rattle.contract_rules.specs.Messages.{interval_of}
use Rattle.contract_rules.specs.Verdicts.{past_of}
use Rattle.contract_table.specs.Acts.{rules_message}
use Rattle.flight_samples.specs.declared.sample.Sample.{Sample as FlightSample}
use Rattle.run_rules.specs.Claims.{HasAccepted, WasAccepted}
use Rattle.run_rules.specs.Happenings.{Happening, Entered, Heard}
use Rattle.run_rules.specs.Histories.Reuse.{timed}
use Rattle.run_rules.specs.Histories.Words.{aircraft_of, emergency, flight_of, logs_on, receives}
use Rattle.run_rules.specs.Orders.{journal_of}
use Rattle.run_rules.specs.Runs.{LinesRun, Run, ScriptRun}
use Rattle.run_rules.specs.Stages.{flying}
use Rattle.run_rules.specs.declared.reading.Reading.{Reading}
use Rattle.run_rules.proofs.EachRun.{sent_acts}
use Rattle.run_rules.proofs.WorkedAsking.{MayAsk, MayAskAgain, asked, hears_on, last_behind, last_is, log_behind, may_ask_again}
use Rattle.run_rules.proofs.WorkedTexts.{worked_contact}

-- ---- the journal of a logon and a request

abbrev pub request_at : ℕ → Entry
request_at line = Uplink line 0 (record { items = message_payload (emergency 1) })

abbrev pub logon_and_request : ℕ → List Entry
logon_and_request line = Logon 4 0 ∷ request_at line ∷ []

abbrev pub request_acts : List Act
request_acts = Said 0 (rules_message (emergency 1)) ∷ []

abbrev pub both_acts : List (List Act)
both_acts = [] ∷ request_acts ∷ []

abbrev pub contact_text_of : Who → FlightSample → List ℕ
contact_text_of who sample = contact_text_on (aircraft_of who sample) 0 [] sample

abbrev pub ack_text_of : Who → FlightSample → List ℕ
ack_text_of who sample = text_of_items (aircraft_of who sample) 0 sample (Acknowledgement 1 ∷ [])

are_both : (sample : FlightSample) (line : ℕ) → JournalActs sample (logon_and_request line) both_acts
are_both sample line = (refl, (sent_acts 0 (emergency 1), refl))

pub both_texts : (who : Who) (sample : FlightSample) (line : ℕ)
    → AreDownlinks (aircraft_of who sample) (logon_and_request line) 0 (contact_text_of who sample ∷ ack_text_of who sample ∷ [])
both_texts who sample line = record { acts = both_acts; are_acts = are_both sample line; spelled = refl }

pub first_text : (who : Who) (sample : FlightSample) → AreDownlinks (aircraft_of who sample) (Logon 4 0 ∷ []) 0 (contact_text_of who sample ∷ [])
first_text who sample = record { acts = [] ∷ []; are_acts = (refl, refl); spelled = refl }

-- An entry is kept by the number of its line, and not by another one.
kept : (number : ℕ) (made : Entry) (others : List Entry) → line_of made ≡ number
    → filter (λ entry. line_of entry == number) (made ∷ others) ≡ made ∷ filter (λ entry. line_of entry == number) others
kept number made others is =
    ap (λ same. cond same (made ∷ filter (λ entry. line_of entry == number) others) (filter (λ entry. line_of entry == number) others))
    ((Decides-eqb (line_of made) number).1 is)

passed : (number : ℕ) (made : Entry) (others : List Entry) → (line_of made ≡ number → ⊥)
    → filter (λ entry. line_of entry == number) (made ∷ others) ≡ filter (λ entry. line_of entry == number) others
passed number made others other =
    ap (λ same. cond same (made ∷ filter (λ entry. line_of entry == number) others) (filter (λ entry. line_of entry == number) others))
    (ne_eqb (line_of made) number other)

-- Taken in the order of their lines, two entries are the journal.
pub two_in_order : (line : ℕ) → 4 < line → journal_of (4 ∷ line ∷ []) (logon_and_request line) ≡ logon_and_request line
two_in_order line behind =
    ap (λ front. front ++ (filter (λ entry. line_of entry == line) (logon_and_request line) ++ [])) first
    ∙ ap (λ back. Logon 4 0 ∷ back ++ []) second
  where
    first : filter (λ entry. line_of entry == 4) (logon_and_request line) ≡ Logon 4 0 ∷ []
    first =
        kept 4 (Logon 4 0) (request_at line ∷ []) refl
        ∙ ap (λ back. Logon 4 0 ∷ back) (passed 4 (request_at line) [] (λ same. omega (arith, same, behind)))

    second : filter (λ entry. line_of entry == line) (logon_and_request line) ≡ request_at line ∷ []
    second =
        passed line (Logon 4 0) (request_at line ∷ []) (λ same. omega (arith, same, behind)) ∙ kept line (request_at line) [] refl

-- Of a logon alone.
pub logon_in_order : (line : ℕ) → 4 < line → journal_of (4 ∷ line ∷ []) (Logon 4 0 ∷ []) ≡ Logon 4 0 ∷ []
logon_in_order line behind =
    ap (λ back. Logon 4 0 ∷ back ++ []) (passed line (Logon 4 0) [] (λ same. omega (arith, same, behind)))

-- ---- what the aircraft never accepted

-- How often reports are asked for at an act.
abbrev pub interval_at : Act → ℕ
interval_at (Said link asked) = interval_of asked
interval_at act = 0

-- In this journal another request wasn't accepted.
pub never_accepted : (who : Who) (sample : FlightSample) (line : ℕ) (journal : List Entry) (request : Message) → journal ≡ logon_and_request line
    → interval_of (rules_message request) ≡ 304 → WasAccepted (aircraft_of who sample) journal 0 request → ⊥
never_accepted who sample line journal request same timed was = at accepted
  where
    acts : was.acts ≡ both_acts
    acts =
        same_acts sample (logon_and_request line) was.acts both_acts (subst (λ j. JournalActs sample j was.acts) same was.are_acts)
        (are_both sample line)

    accepted : HasAccepted 0 (rules_message request) (past_of (configuration_of (aircraft_of who sample)) (newest_first both_acts))
    accepted =
        subst (λ a. HasAccepted 0 (rules_message request) (past_of (configuration_of (aircraft_of who sample)) (newest_first a))) acts was.accepted

    at : HasAccepted 0 (rules_message request) (past_of (configuration_of (aircraft_of who sample)) (newest_first both_acts)) → ⊥
    at (inl is) = omega (arith, ap interval_at is.0, timed)
    at (inr none) = none

-- ---- the begin of the scripts

-- What happened at the lines 4 and 5.
abbrev pub logged_on : Who → FlightSample → List Happening
logged_on who sample = Heard 5 0 1 (Greets (contact_on (aircraft_of who sample) 0 [] sample)) ∷ Entered (Logon 4 0) ∷ []

pub begins : (who : Who) (sample : FlightSample) (order : List ℕ) (readings : List Reading) (run : Run) → IsRegistration who.registration
    → IsFlight who.flight → journal_of order (Logon 4 0 ∷ []) ≡ Logon 4 0 ∷ []
    → LinesRun false order (flying (aircraft_of who sample)) (logged_on who sample) 6 readings run
    → ScriptRun (flight_of who sample (logs_on ∷ receives 1 ∷ readings)) order run
begins who sample order readings run registration flight same behind =
    hears_on order (aircraft_of who sample) (Entered (Logon 4 0) ∷ []) 5 1 (Logon 4 0 ∷ []) (contact_text_of who sample ∷ [])
    (contact_text_of who sample) (Greets (contact_on (aircraft_of who sample) 0 [] sample)) readings run (record { found = refl; free = refl }) same
    (first_text who sample) refl (worked_contact who sample sample [] registration flight) behind

-- A centre that asked and cancelled so often may ask again, after number 255.
pub after_255 : (setting : Setting) (log : List Happening) (times number : ℕ) (p e : Shown) → times ≡ 254 → MayAsk setting log 1 p e
    → MayAskAgain setting (log_behind times number 1 log) 255 p
after_255 setting log times number p e is may =
    subst (λ n. MayAskAgain setting (log_behind times number 1 log) n p) (ap (λ t. last_behind t 1) is ∙ last_is)
    (may_ask_again times setting log number 1 p e may)
