-- What a link gets is a function of the entries that it hears of and of its admissions.
use Rattle.std.proofs.Common.{◌≡◌, ℕ, Bool, true, false, cond, ◌==◌, inl, inr, List, [], ◌∷◌, ◌++◌, filter, map, refl, ap, ap₂, sym, ◌∙◌, subst}
use Rattle.std.specs.List.{AllByRecursion}
use Rattle.acars_envelope.specs.declared.texts.Body.TheVariants.{Afn}
use Rattle.acars_envelope.specs.Texts.{sealed_text}
use Rattle.adsc_requests.specs.declared.message.Message.{Message}
use Rattle.afn_logon.specs.Makings.{aircraft_contact, position_at}
use Rattle.afn_logon.specs.Texts.{contact_text}
use Rattle.contract_rules.proofs.Independence.{noted_on, due_on_heard, heard_after, time_on_heard}
use Rattle.contract_rules.proofs.Steps.{live_on_heard}
use Rattle.contract_rules.specs.Acts.{Act, Said, concerns}
use Rattle.contract_rules.specs.Configuration.{Configuration, Profile}
use Rattle.contract_rules.specs.Due.{Item, due_at, due_items, entry_items}
use Rattle.contract_rules.specs.LiveLinks.{Noted, admits, heard_on}
use Rattle.contract_rules.specs.Verdicts.{noted_over, past_with}
use Rattle.contract_table.specs.Acts.{rules_message}
use Rattle.flight_samples.specs.declared.sample.Sample.{Sample as FlightSample}
use Rattle.aircraft_core.specs.declared.entry.Entry.{Entry}
use Rattle.aircraft_core.specs.declared.entry.Entry.TheVariants.{Uplink, Answer, Sample, Tick, Crew, Logon}
use Rattle.aircraft_core.specs.Admissions.{AreAdmissions, admissions, entry_admissions}
use Rattle.aircraft_core.specs.Downlinks.{AreDownlinks, contact_text_on, entry_texts, journal_texts, texts_of_items}
use Rattle.aircraft_core.specs.Entries.{is_heard_by, latest_after}
use Rattle.aircraft_core.specs.JournalActs.{EntryActs, JournalActs, UplinkActs}
use Rattle.aircraft_core.specs.Setting.{Setting, address_of, configuration_of}
use Rattle.aircraft_core.proofs.OneList.{same_acts}

-- ---- the acts of one entry

-- What is due at acts that a link hears of, and what it heard after them, from what it heard before and which of them admit it.
abbrev items_again : Profile → ℕ → List Noted → List Act → List Bool → List Item
items_again profile link heard (act ∷ acts) (admitted ∷ others) =
    due_at profile link (noted_on link heard admitted act) heard ++ items_again profile link (noted_on link heard admitted act ∷ heard) acts others
items_again profile link heard _ _ = []

abbrev heard_again : ℕ → List Noted → List Act → List Bool → List Noted
heard_again link heard (act ∷ acts) (admitted ∷ others) = heard_again link (noted_on link heard admitted act ∷ heard) acts others
heard_again link heard _ _ = heard

module _ (configuration : Configuration) (link : ℕ) where
  heard_items : (past : List Noted) (acts : List Act) → AllByRecursion (λ act. concerns link act ≡ true) acts
      → entry_items configuration link past acts ≡ items_again configuration.profile link (heard_on link past) acts (entry_admissions configuration past acts)
  heard_items past [] all = refl
  heard_items past (act ∷ acts) all =
      let noted = noted_on link (heard_on link past) (admits configuration past act) act in
      let here : due_items configuration link past act ≡ due_at configuration.profile link noted (heard_on link past)
      = due_on_heard configuration link past act ∙ ap (λ b. cond b (due_at configuration.profile link noted (heard_on link past)) []) all.0 in
      let after : heard_on link (noted_over configuration past act ∷ past) ≡ noted ∷ heard_on link past
      = heard_after configuration link past act ∙ ap (λ b. cond b (noted ∷ heard_on link past) (heard_on link past)) all.0 in
      ap₂ (λ (front back : List Item). front ++ back) here
      (heard_items (noted_over configuration past act ∷ past) acts all.1
      ∙ ap (λ heard. items_again configuration.profile link heard acts (entry_admissions configuration (noted_over configuration past act ∷ past) acts)) after)

  heard_past : (past : List Noted) (acts : List Act) → AllByRecursion (λ act. concerns link act ≡ true) acts
      → heard_on link (past_with configuration past acts) ≡ heard_again link (heard_on link past) acts (entry_admissions configuration past acts)
  heard_past past [] all = refl
  heard_past past (act ∷ acts) all =
      let noted = noted_on link (heard_on link past) (admits configuration past act) act in
      let after : heard_on link (noted_over configuration past act ∷ past) ≡ noted ∷ heard_on link past
      = heard_after configuration link past act ∙ ap (λ b. cond b (noted ∷ heard_on link past) (heard_on link past)) all.0 in
      heard_past (noted_over configuration past act ∷ past) acts all.1
      ∙ ap (λ heard. heard_again link heard acts (entry_admissions configuration (noted_over configuration past act ∷ past) acts)) after

  other_items : (past : List Noted) (acts : List Act) → AllByRecursion (λ act. concerns link act ≡ false) acts → entry_items configuration link past acts ≡ []
  other_items past [] all = refl
  other_items past (act ∷ acts) all =
      (λ i. cond (all.0 i) (due_at configuration.profile link (noted_over configuration past act) (heard_on link past)) []
      ++ other_items (noted_over configuration past act ∷ past) acts all.1 i)

  other_past : (past : List Noted) (acts : List Act) → AllByRecursion (λ act. concerns link act ≡ false) acts
      → heard_on link (past_with configuration past acts) ≡ heard_on link past
  other_past past [] all = refl
  other_past past (act ∷ acts) all =
      other_past (noted_over configuration past act ∷ past) acts all.1
      ∙ ap (λ b. cond b (noted_over configuration past act ∷ heard_on link past) (heard_on link past)) all.0

-- A link hears of the acts of an entry where it hears of the entry.
said_heard : (link other : ℕ) (messages : List Message) → AllByRecursion (λ act. concerns link act ≡ (link == other)) (map (λ message. Said other (rules_message message)) messages)
said_heard link other [] = tt
said_heard link other (message ∷ messages) = (refl, said_heard link other messages)

uplink_heard : (link other : ℕ) (payload : List ℕ) (acts : List Act) → UplinkActs other payload acts → AllByRecursion (λ act. concerns link act ≡ (link == other)) acts
uplink_heard link other payload acts (inl read) =
    subst (AllByRecursion (λ act. concerns link act ≡ (link == other))) (sym read.2) (said_heard link other read.0.messages.items)
uplink_heard link other payload acts (inr unread) =
    subst (AllByRecursion (λ act. concerns link act ≡ (link == other))) (sym unread.2) (refl, tt)

acts_heard : (link : ℕ) (latest : FlightSample) (entry : Entry) (acts : List Act) → EntryActs latest entry acts
    → AllByRecursion (λ act. concerns link act ≡ is_heard_by link entry) acts
acts_heard link latest (Uplink line other bytes) acts are = uplink_heard link other bytes.items acts are
acts_heard link latest (Answer line other code) acts are = subst (AllByRecursion (λ act. concerns link act ≡ (link == other))) (sym are) tt
acts_heard link latest (Sample line sample) acts are = subst (AllByRecursion (λ act. concerns link act ≡ true)) (sym are) (refl, tt)
acts_heard link latest (Tick line t) acts are = subst (AllByRecursion (λ act. concerns link act ≡ true)) (sym are) (refl, tt)
acts_heard link latest (Crew line on) acts are = subst (AllByRecursion (λ act. concerns link act ≡ true)) (sym are) (refl, tt)
acts_heard link latest (Logon line other) acts are = subst (AllByRecursion (λ act. concerns link act ≡ (link == other))) (sym are) tt

-- An entry of another link is no sample.
latest_kept : (link : ℕ) (latest : FlightSample) (entry : Entry) → is_heard_by link entry ≡ false → latest_after latest entry ≡ latest
latest_kept link latest (Uplink line other bytes) e = refl
latest_kept link latest (Answer line other code) e = refl
latest_kept link latest (Sample line sample) e = cc
latest_kept link latest (Tick line t) e = refl
latest_kept link latest (Crew line on) e = refl
latest_kept link latest (Logon line other) e = refl

-- ---- the texts of one entry

-- The texts of an entry that a link hears of, from what it heard before and which of the acts admit it.
abbrev entry_again : Setting → ℕ → List Noted → FlightSample → Entry → List Act → List Bool → List (List ℕ)
entry_again setting link heard latest (Logon line other) acts admitted = cond (link == other) (contact_text_on setting link heard latest ∷ []) []
entry_again setting link heard latest entry acts admitted =
    texts_of_items setting link (latest_after latest entry) (items_again setting.profile link heard acts admitted)

-- The time and whether a link is live are known from what the link heard.
contact_on_heard : (setting : Setting) (link : ℕ) (past : List Noted) (latest : FlightSample)
    → contact_text_on setting link past latest ≡ contact_text_on setting link (heard_on link past) latest
unfolding contact_text_on
contact_on_heard setting link past latest =
    (λ i. sealed_text (address_of setting link) (Afn (record {
      items = contact_text (aircraft_contact setting.flight setting.registration setting.airframe
          (sym (time_on_heard link past) i) (position_at latest.lat latest.lon) (sym (live_on_heard link past) i));
    })))

module _ (setting : Setting) (link : ℕ) (past : List Noted) (latest : FlightSample) where
  heard_entry : (entry : Entry) (acts : List Act) → AllByRecursion (λ act. concerns link act ≡ true) acts
      → entry_texts setting link past latest entry acts
      ≡ entry_again setting link (heard_on link past) latest entry acts (entry_admissions (configuration_of setting) past acts)
  heard_entry (Uplink line other bytes) acts all = ap (texts_of_items setting link latest) (heard_items (configuration_of setting) link past acts all)
  heard_entry (Answer line other code) acts all = ap (texts_of_items setting link latest) (heard_items (configuration_of setting) link past acts all)
  heard_entry (Sample line sample) acts all = ap (texts_of_items setting link sample) (heard_items (configuration_of setting) link past acts all)
  heard_entry (Tick line t) acts all = ap (texts_of_items setting link latest) (heard_items (configuration_of setting) link past acts all)
  heard_entry (Crew line on) acts all = ap (texts_of_items setting link latest) (heard_items (configuration_of setting) link past acts all)
  heard_entry (Logon line other) acts all = ap (λ text. cond (link == other) (text ∷ []) []) (contact_on_heard setting link past latest)

  other_entry : (entry : Entry) (acts : List Act) → is_heard_by link entry ≡ false → AllByRecursion (λ act. concerns link act ≡ false) acts
      → entry_texts setting link past latest entry acts ≡ []
  other_entry (Uplink line other bytes) acts e all = ap (texts_of_items setting link latest) (other_items (configuration_of setting) link past acts all)
  other_entry (Answer line other code) acts e all = ap (texts_of_items setting link latest) (other_items (configuration_of setting) link past acts all)
  other_entry (Sample line sample) acts e all = ap (texts_of_items setting link sample) (other_items (configuration_of setting) link past acts all)
  other_entry (Tick line t) acts e all = ap (texts_of_items setting link latest) (other_items (configuration_of setting) link past acts all)
  other_entry (Crew line on) acts e all = ap (texts_of_items setting link latest) (other_items (configuration_of setting) link past acts all)
  other_entry (Logon line other) acts e all = ap (λ b. cond b (contact_text_on setting link past latest ∷ []) []) e

-- ---- a journal

-- The acts of the entries that a link hears of.
abbrev heard_acts : ℕ → List Entry → List (List Act) → List (List Act)
heard_acts link (entry ∷ entries) (acts ∷ others) =
    let later = heard_acts link entries others in
    cond (is_heard_by link entry) (acts ∷ later) later
heard_acts link _ _ = []

heard_are_acts : (link : ℕ) (latest : FlightSample) (journal : List Entry) (acts : List (List Act)) → JournalActs latest journal acts
    → JournalActs latest (filter (is_heard_by link) journal) (heard_acts link journal acts)
heard_are_acts link latest [] acts are = refl
heard_are_acts link latest (entry ∷ journal) [] are = absurd are
heard_are_acts link latest (entry ∷ journal) (here ∷ acts) are = by (is_heard_by link entry) refl (heard_are_acts link (latest_after latest entry) journal acts are.1)
  where
    by : (b : Bool) → is_heard_by link entry ≡ b → JournalActs (latest_after latest entry) (filter (is_heard_by link) journal) (heard_acts link journal acts)
        → JournalActs latest (cond b (entry ∷ filter (is_heard_by link) journal) (filter (is_heard_by link) journal)) (cond b (here ∷ heard_acts link journal acts) (heard_acts link journal acts))
    by true e later = (are.0, later)
    by false e later = subst (λ l. JournalActs l (filter (is_heard_by link) journal) (heard_acts link journal acts)) (latest_kept link latest entry e) later

-- The texts of entries that a link hears of, from what it heard before and its admissions.
abbrev texts_again : Setting → ℕ → List Noted → FlightSample → List Entry → List (List Act) → List (List Bool) → List (List ℕ)
texts_again setting link heard latest (entry ∷ entries) (acts ∷ others) (admitted ∷ later) =
    entry_again setting link heard latest entry acts admitted
    ++ texts_again setting link (heard_again link heard acts admitted) (latest_after latest entry) entries others later
texts_again setting link heard latest _ _ _ = []

texts_are_again : (setting : Setting) (link : ℕ) (past : List Noted) (latest : FlightSample) (journal : List Entry) (acts : List (List Act)) → JournalActs latest journal acts
    → journal_texts setting link past latest journal acts
    ≡ texts_again setting link (heard_on link past) latest (filter (is_heard_by link) journal) (heard_acts link journal acts) (admissions (configuration_of setting) link past journal acts)
texts_are_again setting link past latest [] acts are = refl
texts_are_again setting link past latest (entry ∷ journal) [] are = absurd are
texts_are_again setting link past latest (entry ∷ journal) (here ∷ acts) are =
    by (is_heard_by link entry) refl (acts_heard link latest entry here are.0)
    (texts_are_again setting link (past_with (configuration_of setting) past here) (latest_after latest entry) journal acts are.1)
  where
    by : (b : Bool) → is_heard_by link entry ≡ b → AllByRecursion (λ act. concerns link act ≡ is_heard_by link entry) here
        → journal_texts setting link (past_with (configuration_of setting) past here) (latest_after latest entry) journal acts
        ≡ texts_again setting link (heard_on link (past_with (configuration_of setting) past here)) (latest_after latest entry) (filter (is_heard_by link) journal) (heard_acts link journal acts)
        (admissions (configuration_of setting) link (past_with (configuration_of setting) past here) journal acts)
        → entry_texts setting link past latest entry here ++ journal_texts setting link (past_with (configuration_of setting) past here) (latest_after latest entry) journal acts
        ≡ texts_again setting link (heard_on link past) latest (cond b (entry ∷ filter (is_heard_by link) journal) (filter (is_heard_by link) journal))
        (cond b (here ∷ heard_acts link journal acts) (heard_acts link journal acts))
        (cond b (entry_admissions (configuration_of setting) past here ∷ admissions (configuration_of setting) link (past_with (configuration_of setting) past here) journal acts)
        (admissions (configuration_of setting) link (past_with (configuration_of setting) past here) journal acts))
    by true e heard later =
        let all = subst (λ b. AllByRecursion (λ act. concerns link act ≡ b) here) e heard in
        ap₂ (λ (front back : List (List ℕ)). front ++ back)
        (heard_entry setting link past latest entry here all)
        (later
        ∙ ap (λ h. texts_again setting link h (latest_after latest entry) (filter (is_heard_by link) journal) (heard_acts link journal acts)
        (admissions (configuration_of setting) link (past_with (configuration_of setting) past here) journal acts)) (heard_past (configuration_of setting) link past here all))
    by false e heard later =
        let all = subst (λ b. AllByRecursion (λ act. concerns link act ≡ b) here) e heard in
        ap (λ texts. texts
        ++ journal_texts setting link (past_with (configuration_of setting) past here) (latest_after latest entry) journal acts)
        (other_entry setting link past latest entry here e all)
        ∙ later
        ∙ ap₂ (λ h l. texts_again setting link h l (filter (is_heard_by link) journal) (heard_acts link journal acts)
        (admissions (configuration_of setting) link (past_with (configuration_of setting) past here) journal acts))
        (other_past (configuration_of setting) link past here all) (latest_kept link latest entry e)

pub same_for_link : (setting : Setting) (link : ℕ) (one other : List Entry) (admitted : List (List Bool)) (texts others : List (List ℕ))
    → filter (is_heard_by link) one ≡ filter (is_heard_by link) other
    → AreAdmissions setting one link admitted → AreAdmissions setting other link admitted
    → AreDownlinks setting one link texts → AreDownlinks setting other link others → texts ≡ others
same_for_link setting link one other admitted texts others heard first second x y =
    let acts : heard_acts link one x.acts ≡ heard_acts link other y.acts
    = same_acts setting.first (filter (is_heard_by link) other) (heard_acts link one x.acts) (heard_acts link other y.acts)
    (subst (λ entries. JournalActs setting.first entries (heard_acts link one x.acts)) heard (heard_are_acts link setting.first one x.acts x.are_acts))
    (heard_are_acts link setting.first other y.acts y.are_acts) in
    let flags : admissions (configuration_of setting) link [] one x.acts ≡ admissions (configuration_of setting) link [] other y.acts
    = ap (admissions (configuration_of setting) link [] one) (same_acts setting.first one x.acts first.acts x.are_acts first.are_acts)
    ∙ sym first.found ∙ second.found
    ∙ ap (admissions (configuration_of setting) link [] other) (same_acts setting.first other second.acts y.acts second.are_acts y.are_acts) in
    x.spelled
    ∙ texts_are_again setting link [] setting.first one x.acts x.are_acts
    ∙ (λ i. texts_again setting link [] setting.first (heard i) (acts i) (flags i))
    ∙ sym (texts_are_again setting link [] setting.first other y.acts y.are_acts)
    ∙ sym y.spelled
