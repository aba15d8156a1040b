-- What one entry adds, and an aircraft that keeps nothing else.
use Rattle.std.proofs.Common.{◌≡◌, ℕ, ◌<◌, ◌≤◌, ◌==◌, Bool, true, false, cond, List, [], ◌∷◌, ◌++◌, All, length, drop, get_or, refl, ap, ap₂, sym, ◌∙◌, subst, arith}
use Rattle.std.proofs.lemmas.List.{append_cancel_left, length-append}
use Rattle.adsc_io.specs.Lines.{ended_lines, newline}
use Rattle.afn_logon.specs.declared.logon.Logon.{Logon}
use Rattle.afn_logon.specs.declared.logon.Logon.TheVariants.{Nothing}
use Rattle.contract_rules.specs.Acts.{Act}
use Rattle.contract_rules.specs.Due.{Item}
use Rattle.contract_rules.specs.LiveLinks.{Noted}
use Rattle.contract_table.specs.Tables.{TableState}
use Rattle.flight_samples.specs.declared.sample.Sample.{Sample as FlightSample}
use Rattle.aircraft_core.specs.declared.entry.Entry.{Entry}
use Rattle.aircraft_core.specs.declared.entry.Entry.TheVariants as entries
use Rattle.aircraft_core.specs.AddedTexts.{AreAdded}
use Rattle.aircraft_core.specs.Downlinks.{AreDownlinks, contact_text_on, entry_texts, journal_texts, texts_of_items}
use Rattle.aircraft_core.specs.Entries.{latest_after, latest_of}
use Rattle.aircraft_core.specs.JournalActs.{JournalActs, newest_first}
use Rattle.aircraft_core.specs.LiveAircraft.{HoldsAdded, StandsAfter}
use Rattle.aircraft_core.specs.LogonStates.{logon_after}
use Rattle.aircraft_core.specs.Outboxes.{OutboxState, outbox_of}
use Rattle.aircraft_core.specs.Setting.{Setting}
use Rattle.aircraft_core.specs.Standing.{KeepsLogons, StandsAt}
use Rattle.aircraft_core.specs.Taking.{IsTableOf, IsTaken}
use Rattle.aircraft_core.proofs.JournalLaws.{JournalActs-length, added, journal_texts-more, past_after, stands_on, texts_added}
use Rattle.aircraft_core.proofs.LogonLaws.{logons_kept}
use Rattle.aircraft_core.proofs.OneList.{same_downlinks}

-- ---- what one entry adds

-- An entry adds one text at most.
items_few : (setting : Setting) (link : ℕ) (sample : FlightSample) (items : List Item) → length (texts_of_items setting link sample items) ≤ 1
items_few setting link sample [] = omega arith
items_few setting link sample (item ∷ items) = omega arith

entry_few : (setting : Setting) (link : ℕ) (past : List Noted) (latest : FlightSample) (entry : Entry) (acts : List Act)
    → length (entry_texts setting link past latest entry acts) ≤ 1
entry_few setting link past latest (entries.Uplink line other bytes) acts = items_few setting link _ _
entry_few setting link past latest (entries.Answer line other code) acts = items_few setting link _ _
entry_few setting link past latest (entries.Sample line sample) acts = items_few setting link _ _
entry_few setting link past latest (entries.Tick line t) acts = items_few setting link _ _
entry_few setting link past latest (entries.Crew line on) acts = items_few setting link _ _
entry_few setting link past latest (entries.Logon line other) acts = by (link == other)
  where
    by : (b : Bool) → length (cond b (contact_text_on setting link past latest ∷ []) []) ≤ 1
    by true = omega arith
    by false = omega arith

-- The acts of a journal with one entry more are those of the journal, and the entry's.
pub record SplitActs (first : FlightSample) (journal : List Entry) (entry : Entry) (acts : List (List Act)) : Type 0 where
  pub front : List (List Act)
  pub last : List Act
  pub are_front : JournalActs first journal front
  pub joined : acts ≡ front ++ last ∷ []

split_acts : (first : FlightSample) (journal : List Entry) (entry : Entry) (acts : List (List Act)) → JournalActs first (journal ++ entry ∷ []) acts
    → SplitActs first journal entry acts
split_acts first [] entry [] are = absurd are
split_acts first [] entry (a ∷ acts) are = record { front = []; last = a; are_front = refl; joined = ap (λ rest. a ∷ rest) are.1 }
split_acts first (e ∷ journal) entry [] are = absurd are
split_acts first (e ∷ journal) entry (a ∷ acts) are =
    let rest = split_acts (latest_after first e) journal entry acts are.1 in
    record { front = a ∷ rest.front; last = rest.last; are_front = (are.0, rest.are_front); joined = ap (λ later. a ∷ later) rest.joined }

module _ (setting : Setting) (journal : List Entry) (entry : Entry) (link : ℕ) (texts : List (List ℕ)) (is_added : AreAdded setting journal entry link texts) where
  pub split : SplitActs setting.first journal entry is_added.are_after.acts
  split = split_acts setting.first journal entry is_added.are_after.acts is_added.are_after.are_acts

  abbrev pub own_texts : List (List ℕ)
  own_texts = entry_texts setting link (past_after setting [] split.front) (latest_of setting.first journal) entry split.last

  before_is : is_added.before ≡ journal_texts setting link [] setting.first journal split.front
  before_is =
      same_downlinks setting journal link is_added.before _ is_added.are_before
      (record { acts = split.front; are_acts = split.are_front; spelled = refl })

  -- What is added is the texts of the entry.
  pub texts_are : texts ≡ own_texts
  texts_are =
      append_cancel_left is_added.before texts own_texts
      (is_added.are_after.spelled
      ∙ ap (journal_texts setting link [] setting.first (journal ++ entry ∷ [])) split.joined
      ∙ journal_texts-more setting link [] setting.first journal entry split.front split.last (JournalActs-length setting.first journal split.front split.are_front)
      ∙ ap (λ before. before ++ own_texts) (sym before_is))

  pub few_added : length texts ≤ 1
  few_added = subst (λ each. length each ≤ 1) (sym texts_are) (entry_few setting link (past_after setting [] split.front) (latest_of setting.first journal) entry split.last)

-- An entry adds one list of texts.
pub one_addition : (setting : Setting) (journal : List Entry) (entry : Entry) (link : ℕ) (one other : List (List ℕ))
    → AreAdded setting journal entry link one → AreAdded setting journal entry link other → one ≡ other
one_addition setting journal entry link one other x y =
    append_cancel_left x.before one other
    (same_downlinks setting (journal ++ entry ∷ []) link (x.before ++ one) (y.before ++ other) x.are_after y.are_after
    ∙ ap (λ before. before ++ other) (same_downlinks setting journal link y.before x.before y.are_before x.are_before))

-- And it stands behind the downlinks of the journal.
pub added_behind : (setting : Setting) (journal : List Entry) (entry : Entry) (link : ℕ) (before texts : List (List ℕ))
    → AreDownlinks setting journal link before → AreAdded setting journal entry link texts → AreDownlinks setting (journal ++ entry ∷ []) link (before ++ texts)
added_behind setting journal entry link before texts are is_added =
    subst (λ front. AreDownlinks setting (journal ++ entry ∷ []) link (front ++ texts))
    (same_downlinks setting journal link is_added.before before is_added.are_before are) is_added.are_after

-- ---- the text of an outbox

-- Lists with one element more are the same where both parts are.
pub same_ends : {A : Type 0} (front other : List A) (last end : A) → front ++ last ∷ [] ≡ other ++ end ∷ [] → (front ≡ other) × (last ≡ end)
same_ends [] [] last end same = (refl, cc)
same_ends [] (b ∷ other) last end same = absurd (omega (arith, ap length same, length-append other (end ∷ [])))
same_ends (a ∷ front) [] last end same = absurd (omega (arith, ap length same, length-append front (last ∷ [])))
same_ends (a ∷ front) (b ∷ other) last end same =
    let rest = same_ends front other last end (ap (drop 1) same) in
    (ap₂ (λ head tail. head ∷ tail) (ap (λ all. get_or all 0 a) same) rest.0, rest.1)

-- Where some bytes were sent, all but the last are the one text.
pub text_is : (sent front : List ℕ) (last : ℕ) (texts : List (List ℕ)) → sent ≡ front ++ last ∷ [] → length texts ≤ 1 → sent ≡ ended_lines texts → front ∷ [] ≡ texts
text_is sent front last [] is few same = absurd (omega (arith, ap length (sym is ∙ same), length-append front (last ∷ [])))
text_is sent front last (text ∷ []) is few same = ap (λ one. one ∷ []) (same_ends front text last newline (sym is ∙ same)).0
text_is sent front last (text ∷ other ∷ texts) is few same = absurd (omega (arith, few))

-- Where none was, there is none.
pub text_is_none : (sent : List ℕ) (texts : List (List ℕ)) → length sent ≡ 0 → sent ≡ ended_lines texts → [] ≡ texts
text_is_none sent [] none same = refl
text_is_none sent (text ∷ texts) none same = absurd (omega (arith, none, ap length same, length-append text (newline ∷ ended_lines texts)))

-- ---- an aircraft that keeps what the last entry added

module _ (setting : Setting) (journal : List Entry) (entry : Entry) (latest now_latest : FlightSample) (table now_table : TableState)
    (cleared now_outboxes : List OutboxState) (logons now_logons : List Logon) (at : StandsAt setting journal latest table) (keeps : KeepsLogons setting journal logons)
    (taken : IsTaken setting entry latest now_latest table now_table cleared now_outboxes) (of_table : IsTableOf setting now_table)
    (each_link : length cleared ≡ length setting.addresses) (empty : All (λ outbox. outbox.sent ≡ []) cleared) where
  holds_added : (link : ℕ) → link < length setting.addresses → HoldsAdded setting journal entry link (outbox_of now_outboxes link).sent
  holds_added link inside =
      let texts = added setting journal entry latest now_latest table now_table cleared now_outboxes at taken of_table link in
      record {
        texts = texts;
        are_added = texts_added setting journal entry latest now_latest table now_table cleared now_outboxes at taken of_table link;
        spelled = (taken.sent link inside).spelled (newest_first at.acts) at.stands
            ∙ ap (λ sent. sent ++ ended_lines texts) (empty link (record { sent = []; room = 0 }) (omega (arith, inside, each_link)));
      }

  pub live_on : length now_logons ≡ length logons
      → ((link : ℕ) → link < length logons → get_or now_logons link Nothing ≡ logon_after link (get_or logons link Nothing) entry)
      → StandsAfter (record { setting = setting; latest = now_latest; table = now_table; logons = now_logons; outboxes = now_outboxes }) (journal ++ entry ∷ [])
  live_on as_many noted = record {
    at = stands_on setting journal entry latest now_latest table now_table cleared now_outboxes at taken of_table;
    logons = logons_kept setting journal entry logons now_logons keeps as_many noted;
    holds = λ before last link same inside.
        let ends = same_ends journal before entry last same in
        subst (λ (p : List Entry × Entry). HoldsAdded setting p.0 p.1 link (outbox_of now_outboxes link).sent) (λ i. (ends.0 i, ends.1 i)) (holds_added link inside);
  }
