-- With at most five links what a link gets depends on what it hears of the journal alone: each of its requests admits it, where it isn't
-- live.
use Rattle.std.proofs.Common.{◌≡◌, ◌≤◌, ◌<◌, ◌==◌, ℕ, inl, inr, Bool, true, false, cond, List, [], ◌∷◌, map, filter, length, Option, Some, None, lt-ltb, refl, sym, ap, ap₂, ◌∙◌, subst, arith}
use Rattle.std.specs.List.{AllByRecursion, list_all}
use Rattle.std.specs.Option.{ForSome}
use Rattle.adsc_requests.specs.declared.message.Message.{Message}
use Rattle.aircraft_core.specs.Admissions.{admissions, entry_admissions}
use Rattle.aircraft_core.specs.Downlinks.{AreDownlinks, journal_texts}
use Rattle.aircraft_core.specs.Entries.{is_heard_by, latest_after}
use Rattle.aircraft_core.specs.JournalActs.{EntryActs, JournalActs, UplinkActs}
use Rattle.aircraft_core.specs.Setting.{Setting, configuration_of}
use Rattle.aircraft_core.specs.declared.entry.Entry.{Entry}
use Rattle.aircraft_core.specs.declared.entry.Entry.TheVariants.{Uplink, Answer, Sample, Tick, Crew, Logon}
use Rattle.aircraft_core.proofs.Independence.{same_for_link}
use Rattle.aircraft_core.proofs.OneList.{same_acts}
use Rattle.contract_rules.specs.Acts.{Act, Said, Malformed, concerns}
use Rattle.contract_rules.specs.Configuration.{Configuration, max_live_links}
use Rattle.contract_rules.specs.Laws.{is_kept_for_first_links, is_of_first_links}
use Rattle.contract_rules.specs.Verdicts.{past_of, past_with}
use Rattle.contract_rules.proofs.FiveLinks.{admits_alone, admits_own, heard_alone, heard_is_alone}
use Rattle.contract_table.specs.Acts.{rules_message}
use Rattle.flight_samples.specs.declared.sample.Sample.{Sample as FlightSample}
use Rattle.run_rules.specs.Among.{IsAmong}
use Rattle.run_rules.proofs.LineEntries.{IsInside}

-- ---- the acts of one entry

-- A link hears of the acts of an entry where it hears of the entry.
said_heard : (link other : ℕ) (messages : List Message) → AllByRecursion (λ act. concerns link act ≡ (link == other)) (map (λ message. Said other (rules_message message)) messages)
said_heard link other [] = tt
said_heard link other (message ∷ messages) = (refl, said_heard link other messages)

uplink_heard : (link other : ℕ) (payload : List ℕ) (acts : List Act) → UplinkActs other payload acts → AllByRecursion (λ act. concerns link act ≡ (link == other)) acts
uplink_heard link other payload acts (inl read) =
    subst (AllByRecursion (λ act. concerns link act ≡ (link == other))) (sym read.2) (said_heard link other read.0.messages.items)
uplink_heard link other payload acts (inr unread) =
    subst (AllByRecursion (λ act. concerns link act ≡ (link == other))) (sym unread.2) (refl, tt)

acts_heard : (link : ℕ) (latest : FlightSample) (entry : Entry) (acts : List Act) → EntryActs latest entry acts
    → AllByRecursion (λ act. concerns link act ≡ is_heard_by link entry) acts
acts_heard link latest (Uplink line other bytes) acts are = uplink_heard link other bytes.items acts are
acts_heard link latest (Answer line other code) acts are = subst (AllByRecursion (λ act. concerns link act ≡ (link == other))) (sym are) tt
acts_heard link latest (Sample line sample) acts are = subst (AllByRecursion (λ act. concerns link act ≡ true)) (sym are) (refl, tt)
acts_heard link latest (Tick line t) acts are = subst (AllByRecursion (λ act. concerns link act ≡ true)) (sym are) (refl, tt)
acts_heard link latest (Crew line on) acts are = subst (AllByRecursion (λ act. concerns link act ≡ true)) (sym are) (refl, tt)
acts_heard link latest (Logon line other) acts are = subst (AllByRecursion (λ act. concerns link act ≡ (link == other))) (sym are) tt

-- The acts of an entry are those of the flight, or of the first links.
AreFirst : List Act → Type 0
AreFirst acts = AllByRecursion (λ act. is_of_first_links act ≡ true) acts

module _ (other : ℕ) (first : is_of_first_links (Malformed other (record { reason = 0; number = 0; octet = 0 })) ≡ true) where
  said_first : (messages : List Message) → AreFirst (map (λ message. Said other (rules_message message)) messages)
  unfolding AreFirst
  said_first [] = tt
  said_first (message ∷ messages) = (first, said_first messages)

  uplink_first : (payload : List ℕ) (acts : List Act) → UplinkActs other payload acts → AreFirst acts
  unfolding AreFirst
  uplink_first payload acts (inl read) = subst AreFirst (sym read.2) (said_first read.0.messages.items)
  uplink_first payload acts (inr unread) = subst AreFirst (sym unread.2) (first, tt)

acts_first : (setting : Setting) → length setting.addresses ≤ 5 → (latest : FlightSample) (entry : Entry) (acts : List Act)
    → IsInside setting entry → EntryActs latest entry acts → AreFirst acts
unfolding AreFirst
acts_first setting few latest (Uplink line other bytes) acts inside are =
    let below : other < max_live_links = omega arith in
    uplink_first other (lt-ltb other max_live_links below) bytes.items acts are
acts_first setting few latest (Answer line other code) acts inside are = subst AreFirst (sym are) tt
acts_first setting few latest (Sample line sample) acts inside are = subst AreFirst (sym are) (refl, tt)
acts_first setting few latest (Tick line t) acts inside are = subst AreFirst (sym are) (refl, tt)
acts_first setting few latest (Crew line on) acts inside are = subst AreFirst (sym are) (refl, tt)
acts_first setting few latest (Logon line other) acts inside are = subst AreFirst (sym are) tt

-- ---- admissions from what a link hears alone

-- The acts of one more entry, the oldest first, onto earlier acts, the newest first.
abbrev onto : List Act → List Act → List Act
onto before [] = before
onto before (act ∷ acts) = onto (act ∷ before) acts

-- Which acts admit their link, found from the acts that it heard before.
abbrev entry_alone : ℕ → List Act → List Act → List Bool
entry_alone link heard [] = []
entry_alone link heard (act ∷ acts) = admits_alone link (heard_alone link heard) act ∷ entry_alone link (act ∷ heard) acts

abbrev all_alone : ℕ → List Act → List (List Act) → List (List Bool)
all_alone link heard [] = []
all_alone link heard (acts ∷ others) = entry_alone link heard acts ∷ all_alone link (onto heard acts) others

past_onto : (configuration : Configuration) (before acts : List Act) → past_with configuration (past_of configuration before) acts ≡ past_of configuration (onto before acts)
past_onto configuration before [] = refl
past_onto configuration before (act ∷ acts) = past_onto configuration (act ∷ before) acts

first_more : (act : Act) (before : List Act) → is_of_first_links act ≡ true → list_all is_of_first_links before ≡ true → list_all is_of_first_links (act ∷ before) ≡ true
first_more act before here earlier = cc

first_onto : (before acts : List Act) → list_all is_of_first_links before ≡ true → AreFirst acts → list_all is_of_first_links (onto before acts) ≡ true
unfolding AreFirst
first_onto before [] earlier first = earlier
first_onto before (act ∷ acts) earlier first = first_onto (act ∷ before) acts (first_more act before first.0 earlier) first.1

heard_onto : (link : ℕ) (before acts : List Act) → AllByRecursion (λ act. concerns link act ≡ true) acts
    → filter (concerns link) (onto before acts) ≡ onto (filter (concerns link) before) acts
heard_onto link before [] all = refl
heard_onto link before (act ∷ acts) all =
    heard_onto link (act ∷ before) acts all.1 ∙ ap (λ b. onto (cond b (act ∷ filter (concerns link) before) (filter (concerns link) before)) acts) all.0

other_onto : (link : ℕ) (before acts : List Act) → AllByRecursion (λ act. concerns link act ≡ false) acts
    → filter (concerns link) (onto before acts) ≡ filter (concerns link) before
other_onto link before [] all = refl
other_onto link before (act ∷ acts) all =
    other_onto link (act ∷ before) acts all.1 ∙ ap (λ b. cond b (act ∷ filter (concerns link) before) (filter (concerns link) before)) all.0

module _ (configuration : Configuration) (kept : is_kept_for_first_links configuration.kept ≡ true) (link : ℕ) where
  entry_is_alone : (before acts : List Act) → list_all is_of_first_links before ≡ true → AreFirst acts → AllByRecursion (λ act. concerns link act ≡ true) acts
      → entry_admissions configuration (past_of configuration before) acts ≡ entry_alone link (filter (concerns link) before) acts
  unfolding AreFirst
  entry_is_alone before [] earlier first all = refl
  entry_is_alone before (act ∷ acts) earlier first all =
      ap₂ (λ (here : Bool) (later : List Bool). here ∷ later)
      (admits_own configuration before kept earlier link act first.0 all.0
      ∙ ap (λ heard. admits_alone link heard act) (heard_is_alone configuration link before kept earlier))
      (entry_is_alone (act ∷ before) acts (first_more act before first.0 earlier) first.1 all.1
      ∙ ap (λ b. entry_alone link (cond b (act ∷ filter (concerns link) before) (filter (concerns link) before)) acts) all.0)

-- The acts of the entries that a link hears of.
abbrev heard_acts : ℕ → List Entry → List (List Act) → List (List Act)
heard_acts link (entry ∷ entries) (acts ∷ others) =
    let later = heard_acts link entries others in
    cond (is_heard_by link entry) (acts ∷ later) later
heard_acts link _ _ = []

-- An entry of another link is no sample.
latest_kept : (link : ℕ) (latest : FlightSample) (entry : Entry) → is_heard_by link entry ≡ false → latest_after latest entry ≡ latest
latest_kept link latest (Uplink line other bytes) e = refl
latest_kept link latest (Answer line other code) e = refl
latest_kept link latest (Sample line sample) e = cc
latest_kept link latest (Tick line t) e = refl
latest_kept link latest (Crew line on) e = refl
latest_kept link latest (Logon line other) e = refl

heard_are_acts : (link : ℕ) (latest : FlightSample) (journal : List Entry) (acts : List (List Act)) → JournalActs latest journal acts
    → JournalActs latest (filter (is_heard_by link) journal) (heard_acts link journal acts)
heard_are_acts link latest [] acts are = refl
heard_are_acts link latest (entry ∷ journal) [] are = absurd are
heard_are_acts link latest (entry ∷ journal) (here ∷ acts) are = by (is_heard_by link entry) refl (heard_are_acts link (latest_after latest entry) journal acts are.1)
  where
    by : (b : Bool) → is_heard_by link entry ≡ b → JournalActs (latest_after latest entry) (filter (is_heard_by link) journal) (heard_acts link journal acts)
        → JournalActs latest (cond b (entry ∷ filter (is_heard_by link) journal) (filter (is_heard_by link) journal)) (cond b (here ∷ heard_acts link journal acts) (heard_acts link journal acts))
    by true e later = (are.0, later)
    by false e later = subst (λ l. JournalActs l (filter (is_heard_by link) journal) (heard_acts link journal acts)) (latest_kept link latest entry e) later

module _ (setting : Setting) (few : length setting.addresses ≤ 5) (kept : is_kept_for_first_links setting.kept ≡ true) (link : ℕ) where
  admissions_alone : (before : List Act) → list_all is_of_first_links before ≡ true → (latest : FlightSample) (journal : List Entry) (acts : List (List Act))
      → ((entry : Entry) → IsAmong entry journal → IsInside setting entry) → JournalActs latest journal acts
      → admissions (configuration_of setting) link (past_of (configuration_of setting) before) journal acts
      ≡ all_alone link (filter (concerns link) before) (heard_acts link journal acts)
  admissions_alone before earlier latest [] acts inside are = refl
  admissions_alone before earlier latest (entry ∷ journal) [] inside are = absurd are
  admissions_alone before earlier latest (entry ∷ journal) (here ∷ acts) inside are =
      by (is_heard_by link entry) (acts_heard link latest entry here are.0)
      (ap (λ past. admissions (configuration_of setting) link past journal acts) (past_onto (configuration_of setting) before here)
      ∙ admissions_alone (onto before here) (first_onto before here earlier first) (latest_after latest entry) journal acts (λ other among. inside other (inr among)) are.1)
    where
      first : AreFirst here
      first = acts_first setting few latest entry here (inside entry (inl refl)) are.0

      by : (b : Bool) → AllByRecursion (λ act. concerns link act ≡ b) here
          → admissions (configuration_of setting) link (past_with (configuration_of setting) (past_of (configuration_of setting) before) here) journal acts
          ≡ all_alone link (filter (concerns link) (onto before here)) (heard_acts link journal acts)
          → cond b (entry_admissions (configuration_of setting) (past_of (configuration_of setting) before) here
          ∷ admissions (configuration_of setting) link (past_with (configuration_of setting) (past_of (configuration_of setting) before) here) journal acts)
          (admissions (configuration_of setting) link (past_with (configuration_of setting) (past_of (configuration_of setting) before) here) journal acts)
          ≡ all_alone link (filter (concerns link) before) (cond b (here ∷ heard_acts link journal acts) (heard_acts link journal acts))
      by true heard later =
          ap₂ (λ (front : List Bool) (back : List (List Bool)). front ∷ back)
          (entry_is_alone (configuration_of setting) kept link before here earlier first heard)
          (later ∙ ap (λ acts_heard. all_alone link acts_heard (heard_acts link journal acts)) (heard_onto link before here heard))
      by false other later = later ∙ ap (λ acts_heard. all_alone link acts_heard (heard_acts link journal acts)) (other_onto link before here other)

  -- The same is heard of both journals: so the link gets the same.
  pub same_for_few : (one other : List Entry) → ((entry : Entry) → IsAmong entry one → IsInside setting entry) → ((entry : Entry) → IsAmong entry other → IsInside setting entry)
      → filter (is_heard_by link) one ≡ filter (is_heard_by link) other
      → (texts others : List (List ℕ)) → AreDownlinks setting one link texts → AreDownlinks setting other link others → texts ≡ others
  same_for_few one other one_inside other_inside heard texts others x y =
      same_for_link setting link one other (admissions (configuration_of setting) link [] one x.acts) texts others heard
      (record { acts = x.acts; are_acts = x.are_acts; found = refl })
      (record { acts = y.acts; are_acts = y.are_acts; found = same }) x y
    where
      acts : heard_acts link one x.acts ≡ heard_acts link other y.acts
      acts = same_acts setting.first (filter (is_heard_by link) other) (heard_acts link one x.acts) (heard_acts link other y.acts)
          (subst (λ entries. JournalActs setting.first entries (heard_acts link one x.acts)) heard (heard_are_acts link setting.first one x.acts x.are_acts))
          (heard_are_acts link setting.first other y.acts y.are_acts)

      same : admissions (configuration_of setting) link [] one x.acts ≡ admissions (configuration_of setting) link [] other y.acts
      same =
          admissions_alone [] refl setting.first one x.acts one_inside x.are_acts
          ∙ ap (all_alone link []) acts
          ∙ sym (admissions_alone [] refl setting.first other y.acts other_inside y.are_acts)

-- ---- downlinks of entries that have acts

-- An entry of a journal with acts has acts, behind whatever sample.
pub entry_has_acts : (latest : FlightSample) (journal : List Entry) (acts : List (List Act)) → JournalActs latest journal acts
    → (entry : Entry) → IsAmong entry journal → (before : FlightSample) → (its : List Act) × EntryActs before entry its
entry_has_acts latest [] acts are entry among before = absurd among
entry_has_acts latest (other ∷ journal) [] are entry among before = absurd are
entry_has_acts latest (other ∷ journal) (here ∷ acts) are entry (inl e) before = subst (λ one. (its : List Act) × EntryActs before one its) e (at other are.0)
  where
    at : (one : Entry) → EntryActs latest one here → (its : List Act) × EntryActs before one its
    at (Uplink line link bytes) its = (here, its)
    at (Answer line link code) its = ([], refl)
    at (Sample line sample) its = (_, refl)
    at (Tick line t) its = (_, refl)
    at (Crew line on) its = (_, refl)
    at (Logon line link) its = ([], refl)
entry_has_acts latest (other ∷ journal) (here ∷ acts) are entry (inr among) before =
    entry_has_acts (latest_after latest other) journal acts are.1 entry among before

pub journal_has_acts : (latest : FlightSample) (journal : List Entry) → ((entry : Entry) → IsAmong entry journal → (before : FlightSample) → (its : List Act) × EntryActs before entry its)
    → (acts : List (List Act)) × JournalActs latest journal acts
journal_has_acts latest [] each = ([], refl)
journal_has_acts latest (entry ∷ journal) each =
    let here = each entry (inl refl) latest in
    let later = journal_has_acts (latest_after latest entry) journal (λ other among. each other (inr among)) in
    (here.0 ∷ later.0, (here.1, later.1))

-- A link is kept for one of the first five, where the aircraft has no more.
pub kept_first : (setting : Setting) → length setting.addresses ≤ 5 → ForSome setting.kept (λ link. link < length setting.addresses)
    → is_kept_for_first_links setting.kept ≡ true
kept_first setting few inside = at setting.kept inside
  where
    at : (kept : Option ℕ) → ForSome kept (λ link. link < length setting.addresses) → is_kept_for_first_links kept ≡ true
    at None within = refl
    at (Some link) within = let listed : link < length setting.addresses = within link refl in let below : link < max_live_links = omega arith in lt-ltb link max_live_links below

-- Two journals of the same entries, of which a link hears the same: what it gets in the one it gets in the other.
pub downlinks_carry : (setting : Setting) → length setting.addresses ≤ 5 → is_kept_for_first_links setting.kept ≡ true → (link : ℕ) (one other : List Entry)
    → ((entry : Entry) → IsAmong entry one → IsInside setting entry) → ((entry : Entry) → IsAmong entry other → IsAmong entry one)
    → filter (is_heard_by link) one ≡ filter (is_heard_by link) other
    → (texts : List (List ℕ)) → AreDownlinks setting one link texts → AreDownlinks setting other link texts
downlinks_carry setting few kept link one other inside from heard texts are =
    let found = journal_has_acts setting.first other (λ entry among. entry_has_acts setting.first one are.acts are.are_acts entry (from entry among)) in
    let others : AreDownlinks setting other link (journal_texts setting link [] setting.first other found.0)
    = record { acts = found.0; are_acts = found.1; spelled = refl } in
    subst (AreDownlinks setting other link)
    (sym (same_for_few setting few kept link one other inside (λ entry among. inside entry (from entry among)) heard texts
    (journal_texts setting link [] setting.first other found.0) are others))
    others
