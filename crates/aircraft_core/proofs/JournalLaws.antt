-- A journal with one more entry.
use Rattle.std.proofs.Common.{◌≡◌, ℕ, suc, ◌+◌, get_or, take, ◌<◌, ◌≤◌, List, [], ◌∷◌, ◌++◌, All, length, flat_map, reverse, append-nil, append_assoc, refl, ap, sym, ◌∙◌, subst, arith}
use Rattle.std.proofs.lemmas.List.{reverse-append, take_more}
use Rattle.std.proofs.lemmas.List.Concat.{flat_map-append}
use Rattle.std.proofs.lemmas.List.Elements.{All-append, All-nil}
use Rattle.adsc_io.specs.Lines.{newline, ended_lines, script_lines, IsUnbroken}
use Rattle.adsc_io.proofs.LinesLaws.{script_lines-ended}
use Rattle.contract_rules.specs.Acts.{Act}
use Rattle.contract_rules.specs.LiveLinks.{Noted}
use Rattle.contract_rules.specs.Verdicts.{past_of, past_with}
use Rattle.contract_table.specs.Tables.{TableState, StandsFor}
use Rattle.flight_samples.specs.declared.sample.Sample.{Sample as FlightSample}
use Rattle.aircraft_core.specs.declared.entry.Entry.{Entry}
use Rattle.aircraft_core.specs.AddedTexts.{AreAdded}
use Rattle.aircraft_core.specs.CraftFields.{KeepsDownlinks}
use Rattle.aircraft_core.specs.Downlinks.{AreDownlinks, entry_texts, journal_texts}
use Rattle.aircraft_core.specs.Entries.{latest_after, latest_of}
use Rattle.aircraft_core.specs.JournalActs.{EntryActs, JournalActs, newest_first}
use Rattle.aircraft_core.specs.Outboxes.{OutboxState, outbox_of}
use Rattle.aircraft_core.specs.Setting.{Setting, configuration_of}
use Rattle.aircraft_core.specs.Standing.{StandsAt}
use Rattle.aircraft_core.specs.Taking.{IsTableOf, IsTaken}
use Rattle.aircraft_core.proofs.HearingLaws.{past_with-past_of}
use Rattle.aircraft_core.proofs.OneList.{same_acts}

-- ---- acts

latest_of-more : (latest : FlightSample) (journal : List Entry) (entry : Entry) → latest_of latest (journal ++ entry ∷ []) ≡ latest_after (latest_of latest journal) entry
latest_of-more latest [] entry = refl
latest_of-more latest (e ∷ journal) entry = latest_of-more (latest_after latest e) journal entry

JournalActs-more : (latest : FlightSample) (journal : List Entry) (entry : Entry) (acts : List (List Act)) (more : List Act)
    → JournalActs latest journal acts → EntryActs (latest_of latest journal) entry more → JournalActs latest (journal ++ entry ∷ []) (acts ++ more ∷ [])
JournalActs-more latest [] entry [] more are here = (here, refl)
JournalActs-more latest [] entry (a ∷ acts) more are here = cc
JournalActs-more latest (e ∷ journal) entry [] more are here = absurd are
JournalActs-more latest (e ∷ journal) entry (a ∷ acts) more are here = (are.0, JournalActs-more (latest_after latest e) journal entry acts more are.1 here)

pub JournalActs-length : (latest : FlightSample) (journal : List Entry) (acts : List (List Act)) → JournalActs latest journal acts → length journal ≡ length acts
JournalActs-length latest [] [] are = refl
JournalActs-length latest [] (a ∷ acts) are = cc
JournalActs-length latest (e ∷ journal) [] are = absurd are
JournalActs-length latest (e ∷ journal) (a ∷ acts) are = ap suc (JournalActs-length (latest_after latest e) journal acts are.1)

-- The acts of one entry more stand in front, the newest first.
newest_first-more : (acts : List (List Act)) (more : List Act) → newest_first (acts ++ more ∷ []) ≡ reverse more ++ newest_first acts
newest_first-more acts more =
    ap reverse (flat_map-append (λ (each : List Act). each) acts (more ∷ []) ∙ ap (λ rest. flat_map (λ (each : List Act). each) acts ++ rest) (append-nil more))
    ∙ reverse-append (flat_map (λ (each : List Act). each) acts) more

-- ---- texts

-- The past of several entries, the oldest first.
abbrev pub past_after : Setting → List Noted → List (List Act) → List Noted
past_after setting past [] = past
past_after setting past (acts ∷ others) = past_after setting (past_with (configuration_of setting) past acts) others

past_after-told : (setting : Setting) (told : List Act) (acts : List (List Act))
    → past_after setting (past_of (configuration_of setting) told) acts ≡ past_of (configuration_of setting) (newest_first acts ++ told)
past_after-told setting told [] = refl
past_after-told setting told (a ∷ acts) =
    ap (λ past. past_after setting past acts) (past_with-past_of (configuration_of setting) told a)
    ∙ past_after-told setting (reverse a ++ told) acts
    ∙ ap (past_of (configuration_of setting)) (sym (append_assoc (newest_first acts) (reverse a) told)
    ∙ ap (λ front. front ++ told) (sym (reverse-append a (flat_map (λ (each : List Act). each) acts))))

pub journal_texts-more : (setting : Setting) (link : ℕ) (past : List Noted) (latest : FlightSample) (journal : List Entry) (entry : Entry) (acts : List (List Act)) (more : List Act)
    → length journal ≡ length acts
    → journal_texts setting link past latest (journal ++ entry ∷ []) (acts ++ more ∷ [])
    ≡ journal_texts setting link past latest journal acts ++ entry_texts setting link (past_after setting past acts) (latest_of latest journal) entry more
journal_texts-more setting link past latest [] entry [] more same = append-nil (entry_texts setting link past latest entry more)
journal_texts-more setting link past latest [] entry (a ∷ acts) more same = absurd (omega arith)
journal_texts-more setting link past latest (e ∷ journal) entry [] more same = absurd (omega arith)
journal_texts-more setting link past latest (e ∷ journal) entry (a ∷ acts) more same =
    let now = past_with (configuration_of setting) past a in
    let next = latest_after latest e in
    ap (λ texts. entry_texts setting link past latest e a ++ texts) (journal_texts-more setting link now next journal entry acts more (omega arith))
    ∙ sym (append_assoc (entry_texts setting link past latest e a) (journal_texts setting link now next journal acts)
    (entry_texts setting link (past_after setting now acts) (latest_of next journal) entry more))

ended_lines-append : (front back : List (List ℕ)) → ended_lines (front ++ back) ≡ ended_lines front ++ ended_lines back
ended_lines-append [] back = refl
ended_lines-append (line ∷ front) back =
    ap (λ rest. line ++ newline ∷ rest) (ended_lines-append front back) ∙ sym (append_assoc line (newline ∷ ended_lines front) (ended_lines back))

-- ---- where the aircraft stands

module _ (setting : Setting) (journal : List Entry) (entry : Entry) (latest now_latest : FlightSample) (table now_table : TableState) (outboxes now_outboxes : List OutboxState)
    (at : StandsAt setting journal latest table) (taken : IsTaken setting entry latest now_latest table now_table outboxes now_outboxes)
    (of_table : IsTableOf setting now_table) where
  pub stands_on : StandsAt setting (journal ++ entry ∷ []) now_latest now_table
  stands_on = record {
    some_links = at.some_links;
    few_links = at.few_links;
    acts = at.acts ++ taken.acts ∷ [];
    are_acts = JournalActs-more setting.first journal entry at.acts taken.acts at.are_acts (subst (λ l. EntryActs l entry taken.acts) at.last taken.are_acts);
    last = taken.last ∙ ap (λ l. latest_after l entry) at.last ∙ sym (latest_of-more setting.first journal entry);
    configured = of_table.configured;
    linked = of_table.linked;
    stands = subst (StandsFor now_table) (sym (newest_first-more at.acts taken.acts)) (taken.told.stands (newest_first at.acts) at.stands);
  }

  -- An entry adds its texts.
  abbrev pub added : ℕ → List (List ℕ)
  added link = entry_texts setting link (past_of (configuration_of setting) (newest_first at.acts)) latest entry taken.acts

  pub texts-more : (link : ℕ) → journal_texts setting link [] setting.first (journal ++ entry ∷ []) (at.acts ++ taken.acts ∷ [])
      ≡ journal_texts setting link [] setting.first journal at.acts ++ added link
  texts-more link =
      journal_texts-more setting link [] setting.first journal entry at.acts taken.acts (JournalActs-length setting.first journal at.acts at.are_acts)
      ∙ (λ i. journal_texts setting link [] setting.first journal at.acts
      ++ entry_texts setting link (past i) (sym at.last i) entry taken.acts)
    where
      past : past_after setting [] at.acts ≡ past_of (configuration_of setting) (newest_first at.acts)
      past = past_after-told setting [] at.acts ∙ ap (past_of (configuration_of setting)) (append-nil (newest_first at.acts))

  -- They are what it adds to the downlinks of the journal.
  pub texts_added : (link : ℕ) → AreAdded setting journal entry link (added link)
  unfolding stands_on
  texts_added link = record {
    before = journal_texts setting link [] setting.first journal at.acts;
    are_before = record { acts = at.acts; are_acts = at.are_acts; spelled = refl };
    are_after = record { acts = stands_on.acts; are_acts = stands_on.are_acts; spelled = sym (texts-more link) };
  }

-- ---- what the outboxes of an aircraft with a journal hold

module _ (setting : Setting) (journal : List Entry) (entry : Entry) (latest now_latest : FlightSample) (table now_table : TableState) (outboxes now_outboxes : List OutboxState)
    (keeps : KeepsDownlinks setting journal latest table outboxes) (taken : IsTaken setting entry latest now_latest table now_table outboxes now_outboxes)
    (of_table : IsTableOf setting now_table) (each_link : length now_outboxes ≡ length outboxes) where
  abbrev own : ℕ → List (List ℕ)
  own = added setting journal entry latest now_latest table now_table outboxes now_outboxes keeps.at taken of_table

  pub kept_on : KeepsDownlinks setting (journal ++ entry ∷ []) now_latest now_table now_outboxes
  unfolding stands_on
  kept_on = record {
    at = stands_on setting journal entry latest now_latest table now_table outboxes now_outboxes keeps.at taken of_table;
    each_link = each_link ∙ keeps.each_link;
    unbroken = λ link inside.
        subst (All IsUnbroken) (sym (texts-more setting journal entry latest now_latest table now_table outboxes now_outboxes keeps.at taken of_table link))
        (All-append IsUnbroken (journal_texts setting link [] setting.first journal keeps.at.acts)
        (own link)
        (keeps.unbroken link inside) ((taken.sent link inside).unbroken (newest_first keeps.at.acts) keeps.at.stands));
    spelled = λ link inside.
        (taken.sent link inside).spelled (newest_first keeps.at.acts) keeps.at.stands
        ∙ ap (λ sent. sent ++ ended_lines (own link)) (keeps.spelled link inside)
        ∙ sym (ended_lines-append (journal_texts setting link [] setting.first journal keeps.at.acts) (own link))
        ∙ ap ended_lines (sym (texts-more setting journal entry latest now_latest table now_table outboxes now_outboxes keeps.at taken of_table link));
  }

-- Its table is one of its setting.
pub keeps_table : (setting : Setting) (journal : List Entry) (latest : FlightSample) (table : TableState) (outboxes : List OutboxState)
    → KeepsDownlinks setting journal latest table outboxes → IsTableOf setting table
keeps_table setting journal latest table outboxes keeps =
    record { configured = keeps.at.configured; linked = keeps.at.linked; acts = newest_first keeps.at.acts; stands = keeps.at.stands }

-- ---- an outbox

module _ (setting : Setting) (journal : List Entry) (latest : FlightSample) (table : TableState) (outboxes : List OutboxState) (link : ℕ)
    (keeps : KeepsDownlinks setting journal latest table outboxes) (inside : link < length setting.addresses) where
  lines_kept : script_lines (outbox_of outboxes link).sent ≡ journal_texts setting link [] setting.first journal keeps.at.acts
  lines_kept =
      ap script_lines (keeps.spelled link inside) ∙ script_lines-ended (journal_texts setting link [] setting.first journal keeps.at.acts) (keeps.unbroken link inside)

  -- Its lines are the downlinks, each ended by a newline.
  pub downlinks_kept : AreDownlinks setting journal link (script_lines (outbox_of outboxes link).sent)
  downlinks_kept = record { acts = keeps.at.acts; are_acts = keeps.at.are_acts; spelled = lines_kept }

  pub ended_kept : (outbox_of outboxes link).sent ≡ ended_lines (script_lines (outbox_of outboxes link).sent)
  ended_kept = keeps.spelled link inside ∙ ap ended_lines (sym lines_kept)

-- ---- an aircraft that was just made

pub stands_new : (setting : Setting) (table : TableState) → 1 ≤ length setting.addresses → length setting.addresses ≤ 64
    → table.configuration ≡ configuration_of setting → table.links ≡ length setting.addresses → StandsFor table [] → StandsAt setting [] setting.first table
stands_new setting table some few configured linked stands = record {
  some_links = some;
  few_links = few;
  acts = [];
  are_acts = refl;
  last = refl;
  configured = configured;
  linked = linked;
  stands = stands;
}

pub kept_new : (setting : Setting) (table : TableState) (outboxes : List OutboxState) → 1 ≤ length setting.addresses → length setting.addresses ≤ 64
    → table.configuration ≡ configuration_of setting → table.links ≡ length setting.addresses → StandsFor table [] → length outboxes ≡ length setting.addresses
    → All (λ outbox. outbox.sent ≡ []) outboxes → KeepsDownlinks setting [] setting.first table outboxes
kept_new setting table outboxes some few configured linked stands each_link empty = record {
  at = stands_new setting table some few configured linked stands;
  each_link = each_link;
  unbroken = λ link inside. All-nil IsUnbroken;
  spelled = λ link inside. empty link (record { sent = []; room = 0 }) (omega (arith, inside, each_link));
}

-- ---- outboxes with more room

pub kept_same : (setting : Setting) (journal : List Entry) (latest : FlightSample) (table : TableState) (outboxes now_outboxes : List OutboxState)
    → KeepsDownlinks setting journal latest table outboxes → length now_outboxes ≡ length outboxes
    → ((link : ℕ) → (outbox_of now_outboxes link).sent ≡ (outbox_of outboxes link).sent) → KeepsDownlinks setting journal latest table now_outboxes
kept_same setting journal latest table outboxes now_outboxes keeps each_link sent = record {
  at = keeps.at;
  each_link = each_link ∙ keeps.each_link;
  unbroken = keeps.unbroken;
  spelled = λ link inside. sent link ∙ keeps.spelled link inside;
}

-- ---- its table

-- It stands for the acts of the journal.
pub table_stands : (setting : Setting) (journal : List Entry) (latest : FlightSample) (table : TableState) (outboxes : List OutboxState)
    → KeepsDownlinks setting journal latest table outboxes → (acts : List (List Act)) → JournalActs setting.first journal acts → StandsFor table (newest_first acts)
table_stands setting journal latest table outboxes keeps acts are =
    subst (λ (a : List (List Act)). StandsFor table (newest_first a)) (same_acts setting.first journal keeps.at.acts acts keeps.at.are_acts are) keeps.at.stands

-- ---- acts of each entry

pub acts_more : (first : FlightSample) (journal : List Entry) (place : ℕ) (entry : Entry) → place < length journal → entry ≡ get_or journal place entry
    → ((acts : List (List Act)) × JournalActs first (take place journal) acts) → ((latest : FlightSample) → (acts : List Act) × EntryActs latest entry acts)
    → (acts : List (List Act)) × JournalActs first (take (place + 1) journal) acts
acts_more first journal place entry within is before each =
    let here = each (latest_of first (take place journal)) in (
      before.0 ++ here.0 ∷ [],
      subst (λ entries. JournalActs first entries (before.0 ++ here.0 ∷ [])) (sym (take_more journal place entry within ∙ ap (λ e. take place journal ++ e ∷ []) (sym is)))
          (JournalActs-more first (take place journal) entry before.0 here.0 before.1 here.1),
    )
