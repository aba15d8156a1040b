-- An entry that was taken.
use Rattle.std.proofs.Common.{◌≡◌, ◌≢◌, ℕ, ◌+◌, ◌<◌, Bool, true, false, cond, ◌==◌, ◌⊎◌, inl, inr, List, [], ◌∷◌, ◌++◌, All, length, get_or, take, set, append-nil, refl, ap, sym, ◌∙◌, subst}
use Rattle.std.proofs.lemmas.Bool.{cases_Bool, eqb-true, eqb-false, ne_eqb}
use Rattle.std.proofs.lemmas.List.{get_or_read, get_or-set_same, get_or-set_other, take_more, map-append}
use Rattle.std.proofs.lemmas.List.Elements.{All-nil}
use Rattle.adsc_io.specs.Lines.{ended_lines, IsUnbroken}
use Rattle.adsc_requests.specs.declared.message.Message.{Message}
use Rattle.contract_rules.specs.Acts.{Act as RulesAct, Said, Malformed}
use Rattle.contract_rules.specs.Configuration.{Configuration}
use Rattle.contract_rules.specs.Due.{Item, entry_items, due_at}
use Rattle.contract_rules.specs.LiveLinks.{Noted, heard_on}
use Rattle.contract_rules.specs.Verdicts.{noted_over, past_of}
use Rattle.arrayvec.specs.ArrayVec.{ArrayVec}
use Rattle.contract_table.specs.Acts.{rules_act, rules_message, rules_fault}
use Rattle.contract_table.specs.Tables.{TableState}
use Rattle.contract_table.specs.declared.act.Act.{Act}
use Rattle.contract_table.specs.declared.due.Due.{Due}
use Rattle.flight_samples.specs.declared.sample.Sample.{Sample as FlightSample}
use Rattle.aircraft_core.specs.declared.entry.Entry.TheVariants as entries
use Rattle.aircraft_core.specs.Downlinks.{texts_of_items}
use Rattle.aircraft_core.specs.JournalActs.{UplinkActs}
use Rattle.aircraft_core.specs.Outboxes.{OutboxState, outbox_of}
use Rattle.aircraft_core.specs.Sending.{item_bits_on, items_of_link}
use Rattle.aircraft_core.specs.Setting.{Setting, configuration_of}
use Rattle.aircraft_core.specs.Taking.{AreTaken, IsHeard, IsTableOf, IsTaken, IsUplinkTaken, WasSent, WasTold, WasWritten, due_after, said_on}
use Rattle.aircraft_core.proofs.HearingLaws.{told_more, written_more}
use Rattle.aircraft_core.proofs.StepLaws.{IsStep, items_by_rules, was_told}

-- ---- an uplink

-- One message more.
pub said_more : (link : ℕ) (messages : List Message) (place : ℕ) (message : Message) → place < length messages → message ≡ get_or messages place message
    → said_on link (take (place + 1) messages) ≡ said_on link (take place messages) ++ Said link (rules_message message) ∷ []
said_more link messages place message within is =
    ap (said_on link) (take_more messages place message within ∙ ap (λ m. take place messages ++ m ∷ []) (sym is))
    ∙ map-append (λ m. Said link (rules_message m)) (take place messages) (message ∷ [])

pub told_message : (link : ℕ) (messages : List Message) (place : ℕ) (message : Message) → place < length messages → message ≡ get_or messages place message
    → (table mid_table now_table : TableState) → WasTold table (said_on link (take place messages)) mid_table → WasTold mid_table (Said link (rules_message message) ∷ []) now_table
    → WasTold table (said_on link (take (place + 1) messages)) now_table
told_message link messages place message within is table mid_table now_table first second =
    subst (λ acts. WasTold table acts now_table) (sym (said_more link messages place message within is))
    (told_more table mid_table now_table (said_on link (take place messages)) (Said link (rules_message message) ∷ []) first second)

pub written_message : (link : ℕ) (messages : List Message) (place : ℕ) (message : Message) → place < length messages → message ≡ get_or messages place message
    → (setting : Setting) (sample : FlightSample) (table mid_table : TableState) (out mid_out now_out : List Bool)
    → WasTold table (said_on link (take place messages)) mid_table → WasWritten setting sample table link (said_on link (take place messages)) out mid_out
    → WasWritten setting sample mid_table link (Said link (rules_message message) ∷ []) mid_out now_out
    → WasWritten setting sample table link (said_on link (take (place + 1) messages)) out now_out
written_message link messages place message within is setting sample table mid_table out mid_out now_out told first second =
    subst (λ acts. WasWritten setting sample table link acts out now_out) (sym (said_more link messages place message within is))
    (written_more setting sample table mid_table link (said_on link (take place messages)) (Said link (rules_message message) ∷ []) out mid_out now_out told first second)

-- What was written is sent.
pub uplink_sent : (setting : Setting) (sample : FlightSample) (link : ℕ) (payload : List ℕ) (table now_table : TableState) (bits : List Bool) (sent now_sent : List ℕ)
    → IsHeard setting sample link payload table now_table [] bits
    → ((s : FlightSample) (items : List Item) → bits ≡ item_bits_on setting s items → now_sent ≡ sent ++ ended_lines (texts_of_items setting link s items))
    → ((s : FlightSample) (items : List Item) → bits ≡ item_bits_on setting s items → All IsUnbroken (texts_of_items setting link s items))
    → IsUplinkTaken setting sample link payload table now_table sent now_sent
uplink_sent setting sample link payload table now_table bits sent now_sent heard texts unbroken =
    record {
      acts = heard.acts;
      are_acts = heard.are_acts;
      told = heard.told;
      answered = record {
        unbroken = λ told stands. unbroken sample (due_after setting link told heard.acts) (heard.written.spelled told stands);
        spelled = λ told stands. texts sample (due_after setting link told heard.acts) (heard.written.spelled told stands);
      };
    }

-- On another link an uplink makes nothing due.
said_elsewhere : (configuration : Configuration) (other link : ℕ) (past : List Noted) (messages : List Message) → other ≢ link
    → entry_items configuration other past (said_on link messages) ≡ []
said_elsewhere configuration other link past [] apart = refl
said_elsewhere configuration other link past (message ∷ messages) apart =
    let act = Said link (rules_message message) in
    (λ i. cond (ne_eqb other link apart i) (due_at configuration.profile other (noted_over configuration past act) (heard_on other past)) []
    ++ said_elsewhere configuration other link (noted_over configuration past act ∷ past) messages apart i)

uplink_elsewhere : (setting : Setting) (other link : ℕ) (told : List RulesAct) (payload : List ℕ) (acts : List RulesAct) → other ≢ link → UplinkActs link payload acts
    → due_after setting other told acts ≡ []
uplink_elsewhere setting other link told payload acts apart (inl read) =
    ap (due_after setting other told) read.2
    ∙ said_elsewhere (configuration_of setting) other link (past_of (configuration_of setting) told) read.0.messages.items apart
uplink_elsewhere setting other link told payload acts apart (inr unread) =
    let past = past_of (configuration_of setting) told in
    let act = Malformed link (rules_fault unread.0) in
    ap (due_after setting other told) unread.2
    ∙ (λ i. cond (ne_eqb other link apart i) (due_at setting.profile other (noted_over (configuration_of setting) past act) (heard_on other past)) [] ++ [])

nothing_sent : (setting : Setting) (sample : FlightSample) (table : TableState) (acts : List RulesAct) (link : ℕ) (sent now_sent : List ℕ)
    → ((told : List RulesAct) → due_after setting link told acts ≡ []) → now_sent ≡ sent → WasSent setting sample table acts link sent now_sent
nothing_sent setting sample table acts link sent now_sent none same =
    record {
      unbroken = λ told stands. subst (λ items. All IsUnbroken (texts_of_items setting link sample items)) (sym (none told)) (All-nil IsUnbroken);
      spelled = λ told stands.
          same ∙ sym (append-nil sent) ∙ sym (ap (λ items. sent ++ ended_lines (texts_of_items setting link sample items)) (none told));
    }

-- An uplink was taken: its link's outbox alone changed.
pub uplink_taken : (setting : Setting) (line link : ℕ) (payload : ArrayVec ℕ) (latest : FlightSample) (table now_table : TableState) (outboxes : List OutboxState)
    (outbox now_outbox : OutboxState) → link < length outboxes → outbox ≡ get_or outboxes link outbox
    → IsUplinkTaken setting latest link payload.items table now_table outbox.sent now_outbox.sent
    → IsTaken setting (entries.Uplink line link payload) latest latest table now_table outboxes (set outboxes link now_outbox)
uplink_taken setting line link payload latest table now_table outboxes outbox now_outbox inside is taken =
    record {
      acts = taken.acts;
      are_acts = taken.are_acts;
      last = refl;
      told = taken.told;
      sent = λ other within.
          let sent = by other (cases_Bool (other == link)) in
          record { unbroken = sent.unbroken; spelled = sent.spelled };
    }
  where
    here : WasSent setting latest table taken.acts link (outbox_of outboxes link).sent (outbox_of (set outboxes link now_outbox) link).sent
    here =
        subst (λ (o : OutboxState). WasSent setting latest table taken.acts link o.sent (outbox_of (set outboxes link now_outbox) link).sent)
        (get_or_read outboxes link outbox inside is (record { sent = []; room = 0 }))
        (subst (λ (o : OutboxState). WasSent setting latest table taken.acts link outbox.sent o.sent)
        (sym (get_or-set_same outboxes link now_outbox (record { sent = []; room = 0 }) inside)) taken.answered)

    by : (other : ℕ) → ((other == link) ≡ true) ⊎ ((other == link) ≡ false)
        → WasSent setting latest table taken.acts other (outbox_of outboxes other).sent (outbox_of (set outboxes link now_outbox) other).sent
    by other (inl e) =
        subst (λ l. WasSent setting latest table taken.acts l (outbox_of outboxes l).sent (outbox_of (set outboxes link now_outbox) l).sent) (sym (eqb-true other link e)) here
    by other (inr e) =
        let apart = eqb-false other link e in
        nothing_sent setting latest table taken.acts other (outbox_of outboxes other).sent (outbox_of (set outboxes link now_outbox) other).sent
        (λ told. uplink_elsewhere setting other link told payload.items taken.acts apart taken.are_acts)
        (ap (λ (o : OutboxState). o.sent) (get_or-set_other outboxes link other now_outbox (record { sent = []; room = 0 }) apart))

-- ---- an act of the flight

-- What is due at it was sent link by link.
pub act_taken : (setting : Setting) (sample : FlightSample) (table : TableState) (act : Act) (dues : List Due) (now_table : TableState) (outboxes now_outboxes : List OutboxState)
    → IsTableOf setting table → IsStep table act dues now_table
    → ((link : ℕ) → link < length setting.addresses
    → (outbox_of now_outboxes link).sent ≡ (outbox_of outboxes link).sent ++ ended_lines (texts_of_items setting link sample (items_of_link link dues)))
    → ((link : ℕ) → link < length setting.addresses → All IsUnbroken (texts_of_items setting link sample (items_of_link link dues)))
    → AreTaken setting sample (rules_act act ∷ []) table now_table outboxes now_outboxes
act_taken setting sample table act dues now_table outboxes now_outboxes of_table step sent unbroken =
    record {
      told = was_told setting table act dues now_table of_table step;
      sent = λ link inside. record {
        unbroken = λ told stands.
            subst (λ items. All IsUnbroken (texts_of_items setting link sample items)) (items_by_rules setting table act dues now_table of_table step told stands link inside)
            (unbroken link inside);
        spelled = λ told stands.
            sent link inside
            ∙ ap (λ items. (outbox_of outboxes link).sent ++ ended_lines (texts_of_items setting link sample items))
            (items_by_rules setting table act dues now_table of_table step told stands link inside);
      };
    }
