-- An answer and a logon that were taken, and the logon of each link.
use Rattle.std.proofs.Common.{◌≡◌, ◌≢◌, ℕ, ◌<◌, Bool, true, false, cond, ◌==◌, ◌⊎◌, inl, inr, List, [], ◌∷◌, ◌++◌, All, length, get_or, set, filter, fold, append-nil, refl, ap, sym, ◌∙◌, subst, arith}
use Rattle.std.proofs.lemmas.Bool.{cases_Bool, eqb-true, eqb-false}
use Rattle.std.proofs.lemmas.List.{get_or_read, get_or-set_same, get_or-set_other}
use Rattle.std.proofs.lemmas.List.Elements.{All-nil, All-cons}
use Rattle.std.proofs.lemmas.List.Sums.{fold-append}
use Rattle.acars_envelope.specs.declared.texts.Body.TheVariants.{Afn}
use Rattle.acars_envelope.specs.Texts.{sealed_text}
use Rattle.adsc_io.specs.Lines.{ended, ended_lines, IsUnbroken}
use Rattle.afn_logon.specs.Contents.{ContactData, PositionData}
use Rattle.afn_logon.specs.declared.logon.Logon.{Logon}
use Rattle.afn_logon.specs.declared.logon.Logon.TheVariants.{Nothing, Sent}
use Rattle.afn_logon.specs.Logons.{after_answer}
use Rattle.afn_logon.specs.Makings.{aircraft_contact, position_at}
use Rattle.afn_logon.specs.Texts.{contact_text}
use Rattle.contract_rules.specs.Acts.{Act}
use Rattle.contract_rules.specs.Due.{entry_items}
use Rattle.contract_rules.specs.LiveLinks.{Noted, is_live, time_after}
use Rattle.contract_rules.specs.Verdicts.{past_of}
use Rattle.contract_table.specs.Tables.{TableState, StandsFor}
use Rattle.flight_samples.specs.declared.sample.Sample.{Sample as FlightSample}
use Rattle.aircraft_core.specs.declared.entry.Entry.{Entry}
use Rattle.aircraft_core.specs.declared.entry.Entry.TheVariants as entries
use Rattle.aircraft_core.specs.Standing.{KeepsLogons}
use Rattle.aircraft_core.specs.Downlinks.{contact_text_on, entry_texts, texts_of_items}
use Rattle.aircraft_core.specs.Entries.{IsTakenBy, is_heard_by, latest_after}
use Rattle.aircraft_core.specs.JournalActs.{EntryActs}
use Rattle.aircraft_core.specs.LogonStates.{logon_after, logon_state}
use Rattle.aircraft_core.specs.Outboxes.{OutboxState, outbox_of}
use Rattle.aircraft_core.specs.Setting.{Setting, address_of, configuration_of}
use Rattle.aircraft_core.specs.Taking.{AreTaken, HasLinkBelow, IsTableOf, IsTaken, TextsWereSent, ContactWasSent}
use Rattle.aircraft_core.proofs.HearingLaws.{told_none}

-- ---- an entry whose texts are those of the items due

pub items_taken : (setting : Setting) (entry : Entry) (acts : List Act) (latest now_latest : FlightSample) (table now_table : TableState) (outboxes now_outboxes : List OutboxState)
    → EntryActs latest entry acts → now_latest ≡ latest_after latest entry
    → ((link : ℕ) (past : List Noted) → texts_of_items setting link now_latest (entry_items (configuration_of setting) link past acts) ≡ entry_texts setting link past latest entry acts)
    → AreTaken setting now_latest acts table now_table outboxes now_outboxes → IsTaken setting entry latest now_latest table now_table outboxes now_outboxes
items_taken setting entry acts latest now_latest table now_table outboxes now_outboxes are last same taken =
    record {
      acts = acts;
      are_acts = are;
      last = last;
      told = taken.told;
      sent = λ link inside. record {
        unbroken = λ told stands.
            subst (All IsUnbroken) (same link (past_of (configuration_of setting) told)) ((taken.sent link inside).unbroken told stands);
        spelled = λ told stands.
            (taken.sent link inside).spelled told stands
            ∙ ap (λ texts. (outbox_of outboxes link).sent ++ ended_lines texts) (same link (past_of (configuration_of setting) told));
      };
    }

-- ---- an answer

pub answer_taken : (setting : Setting) (line link code : ℕ) (latest : FlightSample) (table : TableState) (outboxes : List OutboxState)
    → IsTaken setting (entries.Answer line link code) latest latest table table outboxes outboxes
answer_taken setting line link code latest table outboxes =
    record {
      acts = [];
      are_acts = refl;
      last = refl;
      told = told_none table;
      sent = λ other inside. record {
        unbroken = λ told stands. All-nil IsUnbroken;
        spelled = λ told stands. sym (append-nil (outbox_of outboxes other).sent);
      };
    }

-- ---- a logon

-- What was written is the contact of the aircraft.
pub contact_written : (setting : Setting) (link : ℕ) (latest : FlightSample) (table : TableState) (told : List Act) → IsTableOf setting table
    → (address characters text : List ℕ) (contact : ContactData) (time : ℕ) (position : PositionData) (live : Bool)
    → address ≡ address_of setting link → time ≡ time_after (past_of table.configuration told) → live ≡ is_live link (past_of table.configuration told)
    → position ≡ position_at latest.lat latest.lon → contact ≡ aircraft_contact setting.flight setting.registration setting.airframe time position live
    → characters ≡ contact_text contact → text ≡ sealed_text address (Afn (record { items = characters }))
    → text ≡ contact_text_on setting link (past_of (configuration_of setting) told) latest
unfolding contact_text_on
contact_written setting link latest table told of_table address characters text contact time position live addressed timed lived placed made spelled sealed =
    sealed
    ∙ (λ i. sealed_text (addressed i) (Afn (record { items = spelled i })))
    ∙ ap (λ c. sealed_text (address_of setting link) (Afn (record { items = contact_text c })))
    (made ∙ (λ i. aircraft_contact setting.flight setting.registration setting.airframe (timed i) (placed i) (lived i)))
    ∙ ap (λ configuration. sealed_text (address_of setting link) (Afn (record {
      items = contact_text (aircraft_contact setting.flight setting.registration setting.airframe
          (time_after (past_of configuration told)) (position_at latest.lat latest.lon) (is_live link (past_of configuration told)));
    }))) of_table.configured

pub contact_was_sent : (setting : Setting) (link : ℕ) (latest : FlightSample) (table : TableState) (text sent now_sent : List ℕ)
    → ((told : List Act) → StandsFor table told → text ≡ contact_text_on setting link (past_of (configuration_of setting) told) latest)
    → IsUnbroken text → now_sent ≡ sent ++ ended text → ContactWasSent setting latest table link sent now_sent
contact_was_sent setting link latest table text sent now_sent is unbroken added =
    record {
      unbroken = λ told stands. subst IsUnbroken (is told stands) unbroken;
      spelled = λ told stands. added ∙ ap (λ t. sent ++ ended t) (is told stands);
    }

-- The contact was sent on the link of the logon: its outbox alone changed.
pub logon_taken : (setting : Setting) (line link : ℕ) (latest : FlightSample) (table : TableState) (outboxes : List OutboxState) (outbox now_outbox : OutboxState)
    → link < length outboxes → outbox ≡ get_or outboxes link outbox → ContactWasSent setting latest table link outbox.sent now_outbox.sent
    → IsTaken setting (entries.Logon line link) latest latest table table outboxes (set outboxes link now_outbox)
logon_taken setting line link latest table outboxes outbox now_outbox inside is written =
    record { acts = []; are_acts = refl; last = refl; told = told_none table; sent = λ other within. by other (cases_Bool (other == link)) }
  where
    none : OutboxState
    none = record { sent = []; room = 0 }

    TextsSent : ℕ → Type 0
    TextsSent other = TextsWereSent setting latest table (entries.Logon line link) [] other (outbox_of outboxes other).sent (outbox_of (set outboxes link now_outbox) other).sent

    text : ℕ → List Act → List ℕ
    text other told = contact_text_on setting other (past_of (configuration_of setting) told) latest

    here : (other : ℕ) → other ≡ link → (other == link) ≡ true → TextsSent other
    here other same e = record {
      unbroken = λ told stands.
          subst (All IsUnbroken) (sym (ap (λ b. cond b (text other told ∷ []) []) e))
          (All-cons IsUnbroken (text other told) [] (subst (λ l. IsUnbroken (text l told)) (sym same) (written.unbroken told stands)) (All-nil IsUnbroken));
      spelled = λ told stands.
          ap (λ l. (outbox_of (set outboxes link now_outbox) l).sent) same
          ∙ ap (λ (o : OutboxState). o.sent) (get_or-set_same outboxes link now_outbox none inside)
          ∙ written.spelled told stands
          ∙ ap (λ (o : OutboxState). o.sent ++ ended (text link told)) (get_or_read outboxes link outbox inside is none)
          ∙ ap (λ l. (outbox_of outboxes l).sent ++ ended (text l told)) (sym same)
          ∙ ap (λ b. (outbox_of outboxes other).sent ++ ended_lines (cond b (text other told ∷ []) [])) (sym e);
    }

    elsewhere : (other : ℕ) → other ≢ link → (other == link) ≡ false → TextsSent other
    elsewhere other apart e = record {
      unbroken = λ told stands. subst (All IsUnbroken) (sym (ap (λ b. cond b (text other told ∷ []) []) e)) (All-nil IsUnbroken);
      spelled = λ told stands.
          ap (λ (o : OutboxState). o.sent) (get_or-set_other outboxes link other now_outbox none apart)
          ∙ sym (append-nil (outbox_of outboxes other).sent)
          ∙ ap (λ b. (outbox_of outboxes other).sent ++ ended_lines (cond b (text other told ∷ []) [])) (sym e);
    }

    by : (other : ℕ) → ((other == link) ≡ true) ⊎ ((other == link) ≡ false) → TextsSent other
    by other (inl e) = here other (eqb-true other link e) e
    by other (inr e) = elsewhere other (eqb-false other link e) e

-- ---- the logon of each link

-- The link of an entry that an aircraft takes has a logon.
pub has_logon : (setting : Setting) (links : ℕ) (entry : Entry) → links ≡ length setting.addresses → IsTakenBy setting entry → HasLinkBelow links entry
has_logon setting links (entries.Uplink line link bytes) same taken = tt
has_logon setting links (entries.Answer line link code) same taken = omega (arith, same, taken)
has_logon setting links (entries.Sample line sample) same taken = tt
has_logon setting links (entries.Tick line t) same taken = tt
has_logon setting links (entries.Crew line on) same taken = tt
has_logon setting links (entries.Logon line link) same taken = omega (arith, same, taken)

-- One logon alone was written.
pub noted_on : (logons : List Logon) (link : ℕ) (logon now_logon : Logon) → link < length logons → logon ≡ get_or logons link logon
    → (other : ℕ) → get_or (set logons link now_logon) other Nothing ≡ cond (other == link) now_logon (get_or logons other Nothing)
noted_on logons link logon now_logon inside is other = by (cases_Bool (other == link))
  where
    by : ((other == link) ≡ true) ⊎ ((other == link) ≡ false)
        → get_or (set logons link now_logon) other Nothing ≡ cond (other == link) now_logon (get_or logons other Nothing)
    by (inl e) =
        ap (λ l. get_or (set logons link now_logon) l Nothing) (eqb-true other link e)
        ∙ get_or-set_same logons link now_logon Nothing inside
        ∙ ap (λ b. cond b now_logon (get_or logons other Nothing)) (sym e)
    by (inr e) =
        get_or-set_other logons link other now_logon Nothing (eqb-false other link e)
        ∙ ap (λ b. cond b now_logon (get_or logons other Nothing)) (sym e)

-- The logons keep up with the journal.
pub logons_kept : (setting : Setting) (journal : List Entry) (entry : Entry) (logons now_logons : List Logon) → KeepsLogons setting journal logons
    → length now_logons ≡ length logons
    → ((link : ℕ) → link < length logons → get_or now_logons link Nothing ≡ logon_after link (get_or logons link Nothing) entry)
    → KeepsLogons setting (journal ++ entry ∷ []) now_logons
logons_kept setting journal entry logons now_logons keeps each_link noted =
    record {
      each_link = each_link ∙ keeps.each_link;
      states = λ link inside.
          noted link (omega (arith, inside, keeps.each_link))
          ∙ ap (λ logon. logon_after link logon entry) (keeps.states link inside)
          ∙ sym (fold-append (logon_after link) Nothing journal (entry ∷ []));
    }

pub logons_new : (setting : Setting) (logons : List Logon) → length logons ≡ length setting.addresses → All (λ logon. logon ≡ Nothing) logons → KeepsLogons setting [] logons
logons_new setting logons each_link nothing =
    record { each_link = each_link; states = λ link inside. nothing link Nothing (omega (arith, inside, each_link)) }

-- ---- what it depends on

-- An entry that a link doesn't hear of leaves its logon.
logon_left : (link : ℕ) (logon : Logon) (entry : Entry) → is_heard_by link entry ≡ false → logon_after link logon entry ≡ logon
logon_left link logon (entries.Uplink line other bytes) e = refl
logon_left link logon (entries.Answer line other code) e = ap (λ b. cond b (after_answer logon code) logon) e
logon_left link logon (entries.Sample line sample) e = refl
logon_left link logon (entries.Tick line t) e = refl
logon_left link logon (entries.Crew line on) e = refl
logon_left link logon (entries.Logon line other) e = ap (λ b. cond b Sent logon) e

logon_of_heard : (link : ℕ) (logon : Logon) (journal : List Entry) → fold (logon_after link) logon journal ≡ fold (logon_after link) logon (filter (is_heard_by link) journal)
logon_of_heard link logon [] = refl
logon_of_heard link logon (entry ∷ journal) = by (is_heard_by link entry) refl (λ l. logon_of_heard link l journal)
  where
    by : (b : Bool) → is_heard_by link entry ≡ b
        → ((l : Logon) → fold (logon_after link) l journal ≡ fold (logon_after link) l (filter (is_heard_by link) journal))
        → fold (logon_after link) (logon_after link logon entry) journal
        ≡ fold (logon_after link) logon (cond b (entry ∷ filter (is_heard_by link) journal) (filter (is_heard_by link) journal))
    by true e later = later (logon_after link logon entry)
    by false e later = ap (λ l. fold (logon_after link) l journal) (logon_left link logon entry e) ∙ later logon

pub same_logon : (link : ℕ) (one other : List Entry) → filter (is_heard_by link) one ≡ filter (is_heard_by link) other → logon_state link one ≡ logon_state link other
same_logon link one other same =
    logon_of_heard link Nothing one ∙ ap (fold (logon_after link) Nothing) same ∙ sym (logon_of_heard link Nothing other)
