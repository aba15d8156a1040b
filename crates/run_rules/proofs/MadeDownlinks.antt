-- Where in a journal a downlink is made, and what it tells there.
use Rattle.std.proofs.Common.{◌≡◌, ℕ, zero, suc, ◌+◌, ◌-◌, ◌<◌, ◌≤◌, ◌==◌, inl, inr, Bool, true, false, cond, List, [], ◌∷◌, ◌++◌, length, length-append, map, reverse, flat_map, append-nil, append_assoc, Some, refl, sym, ap, ◌∙◌, subst, arith}
use Rattle.std.specs.Prelude.{slice_get}
use Rattle.std.specs.List.{AllByRecursion}
use Rattle.std.proofs.lemmas.Bool.{eqb-true}
use Rattle.std.proofs.lemmas.List.{reverse-append}
use Rattle.adsc_downlink.specs.Items.{ItemData}
use Rattle.adsc_requests.specs.declared.message.Message.{Message}
use Rattle.aircraft_core.specs.declared.entry.Entry.{Entry}
use Rattle.aircraft_core.specs.declared.entry.Entry.TheVariants.{Uplink, Answer, Sample, Tick, Crew, Logon}
use Rattle.aircraft_core.specs.Downlinks.{AreDownlinks, contact_text_on, entry_texts, journal_texts, text_of_items, texts_of_items}
use Rattle.aircraft_core.specs.Entries.{latest_after, latest_of}
use Rattle.aircraft_core.specs.JournalActs.{EntryActs, JournalActs, UplinkActs, newest_first}
use Rattle.aircraft_core.specs.Reports.{item_on}
use Rattle.aircraft_core.specs.Setting.{Setting, address_of, configuration_of}
use Rattle.aircraft_core.proofs.HearingLaws.{past_with-past_of}
use Rattle.centre_core.specs.Hearing.{Says, Tells}
use Rattle.contract_rules.specs.Acts.{Act, Said, concerns}
use Rattle.contract_rules.specs.Configuration.{Configuration}
use Rattle.contract_rules.specs.Due.{Item, due_at, due_items, entry_items}
use Rattle.contract_rules.specs.LiveLinks.{Noted, heard_on}
use Rattle.contract_rules.specs.Verdicts.{noted_over, past_of, past_with}
use Rattle.contract_table.specs.Acts.{rules_message}
use Rattle.contract_table.proofs.Sendable.{all_joined}
use Rattle.flight_samples.specs.declared.sample.Sample.{Sample as FlightSample}
use Rattle.run_rules.specs.Among.{IsAmong}
use Rattle.run_rules.specs.Claims.{MadeDownlink}
use Rattle.run_rules.proofs.Deeds.{IsSettled}
use Rattle.run_rules.proofs.KnownActs.{AreKnown, IsKnown}
use Rattle.run_rules.proofs.OwnTexts.{contact_tells_nothing, due_tells}

-- ---- the acts so far

-- The past and the acts so far, the newest first, with those of several entries more.
abbrev pub past_after : Configuration → List Noted → List (List Act) → List Noted
past_after configuration past [] = past
past_after configuration past (acts ∷ others) = past_after configuration (past_with configuration past acts) others

-- The acts so far, the newest first, with those of several entries more.
abbrev pub told_with : List Act → List (List Act) → List Act
told_with told [] = told
told_with told (acts ∷ others) = told_with (reverse acts ++ told) others

-- The past of several entries more is the past of all these acts.
pub past_told : (configuration : Configuration) (told : List Act) (each : List (List Act))
    → past_after configuration (past_of configuration told) each ≡ past_of configuration (told_with told each)
past_told configuration told [] = refl
past_told configuration told (acts ∷ others) =
    ap (λ past. past_after configuration past others) (past_with-past_of configuration told acts) ∙ past_told configuration (reverse acts ++ told) others

-- The acts of a whole journal, the newest first, are told one entry after the other.
pub newest_told : (told : List Act) (each : List (List Act)) → told_with told each ≡ newest_first each ++ told
newest_told told [] = refl
newest_told told (acts ∷ others) =
    let rest = flat_map (λ (each : List Act). each) others in
    newest_told (reverse acts ++ told) others
    ∙ sym (append_assoc (reverse rest) (reverse acts) told)
    ∙ ap (λ front. front ++ told) (sym (reverse-append acts rest))

-- All of it is known where all acts are.
all_reversed : (P : Act → Type 0) (acts : List Act) → AllByRecursion P acts → AllByRecursion P (reverse acts)
all_reversed P [] all = tt
all_reversed P (act ∷ acts) all =
    subst (AllByRecursion P) (sym (reverse-append (act ∷ []) acts)) (all_joined P (reverse acts) (act ∷ []) (all_reversed P acts all.1) (all.0, tt))

known_told : (link : ℕ) (told : List Act) (each : List (List Act)) → AreKnown link told → AllByRecursion (AreKnown link) each → AreKnown link (told_with told each)
known_told link told [] known all = known
known_told link told (acts ∷ others) known all =
    known_told link (reverse acts ++ told) others
    (all_joined (IsKnown link) (reverse acts) told (all_reversed (IsKnown link) acts all.0) known) all.1

-- ---- the place

-- The element at a place of two lists is in the first, or in the second behind the first.
data Placed {A : Type 0} (front rest : List A) (index : ℕ) (x : A) : Type 0 where
  in_front : index < length front → IsAmong x front → Placed front rest index x
  behind_it : (place : ℕ) → index ≡ length front + place → slice_get rest place ≡ Some x → Placed front rest index x

placed : {A : Type 0} (front rest : List A) (index : ℕ) (x : A) → slice_get (front ++ rest) index ≡ Some x → Placed front rest index x
placed [] rest index x there = behind_it index (omega arith) there
placed (first ∷ front) rest zero x there = in_front (omega arith) (inl (cc))
placed (first ∷ front) rest (suc index) x there = next (placed front rest index x there)
  where
    next : Placed front rest index x → Placed (first ∷ front) rest (suc index) x
    next (in_front within among) = in_front (omega (arith, within)) (inr among)
    next (behind_it place same there) = behind_it place (omega (arith, same)) there

-- The entry that makes the text at this place.
record FoundAt (setting : Setting) (link : ℕ) (past : List Noted) (latest : FlightSample) (journal : List Entry) (acts : List (List Act)) (index : ℕ) (text : List ℕ) : Type 0 where
  before : List Entry
  behind : List Entry
  entry : Entry
  earlier : List (List Act)
  here : List Act
  joined : journal ≡ before ++ entry ∷ behind
  are_earlier : JournalActs latest before earlier
  are_through : JournalActs latest (before ++ entry ∷ []) (earlier ++ here ∷ [])
  is_here : EntryActs (latest_of latest before) entry here
  among : IsAmong text (entry_texts setting link (past_after (configuration_of setting) past earlier) (latest_of latest before) entry here)
  behind_those : length (journal_texts setting link past latest before earlier) ≤ index
  among_these : index < length (journal_texts setting link past latest (before ++ entry ∷ []) (earlier ++ here ∷ []))

found_at : (setting : Setting) (link : ℕ) (past : List Noted) (latest : FlightSample) (journal : List Entry) (acts : List (List Act)) (index : ℕ) (text : List ℕ)
    → JournalActs latest journal acts → slice_get (journal_texts setting link past latest journal acts) index ≡ Some text
    → FoundAt setting link past latest journal acts index text
found_at setting link past latest [] acts index text are there = absurd (cc)
found_at setting link past latest (entry ∷ journal) [] index text are there = absurd are
found_at setting link past latest (entry ∷ journal) (here ∷ acts) index text are there =
    at (placed front rest index text there) (λ place found. found_at setting link now (latest_after latest entry) journal acts place text are.1 found)
  where
    now : List Noted
    now = past_with (configuration_of setting) past here

    front : List (List ℕ)
    front = entry_texts setting link past latest entry here

    rest : List (List ℕ)
    rest = journal_texts setting link now (latest_after latest entry) journal acts

    at : Placed front rest index text
        → ((place : ℕ) → slice_get rest place ≡ Some text → FoundAt setting link now (latest_after latest entry) journal acts place text)
        → FoundAt setting link past latest (entry ∷ journal) (here ∷ acts) index text
    at (in_front within among) later = record {
      before = [];
      behind = journal;
      entry = entry;
      earlier = [];
      here = here;
      joined = refl;
      are_earlier = refl;
      are_through = (are.0, refl);
      is_here = are.0;
      among = among;
      behind_those = omega arith;
      among_these = omega (arith, within, length-append front []);
    }
    at (behind_it place same there) later =
        let found = later place there in
        let less = found.behind_those in
        let more = found.among_these in
        record {
          before = entry ∷ found.before;
          behind = found.behind;
          entry = found.entry;
          earlier = here ∷ found.earlier;
          here = found.here;
          joined = ap (λ entries. entry ∷ entries) found.joined;
          are_earlier = (are.0, found.are_earlier);
          are_through = (are.0, found.are_through);
          is_here = found.is_here;
          among = found.among;
          behind_those = omega (
            arith,
            same,
            less,
            length-append front (journal_texts setting link now (latest_after latest entry) found.before found.earlier),
          );
          among_these = omega (
            arith,
            same,
            more,
            length-append front (journal_texts setting link now (latest_after latest entry) (found.before ++ found.entry ∷ []) (found.earlier ++ found.here ∷ [])),
          );
        }

-- ---- the entry

-- An uplink of the link.
abbrev pub IsOwnUplink : ℕ → Entry → Type 0
IsOwnUplink link (Uplink line other octets) = link ≡ other
IsOwnUplink link entry = ⊥

-- All is known of the acts of an entry, and an uplink of the link is one act.
pub record IsKnownEntry (link : ℕ) (entry : Entry) : Type 0 where
  pub known : (latest : FlightSample) (acts : List Act) → EntryActs latest entry acts → AreKnown link acts
  pub sole : (latest : FlightSample) (acts : List Act) → EntryActs latest entry acts → IsOwnUplink link entry → (act : Act) × (acts ≡ act ∷ [])

each_known : (link : ℕ) (latest : FlightSample) (journal : List Entry) (acts : List (List Act)) → ((entry : Entry) → IsAmong entry journal → IsKnownEntry link entry)
    → JournalActs latest journal acts → AllByRecursion (AreKnown link) acts
each_known link latest [] acts known are = subst (AllByRecursion (AreKnown link)) (sym are) tt
each_known link latest (entry ∷ journal) [] known are = absurd are
each_known link latest (entry ∷ journal) (here ∷ acts) known are =
    ((known entry (inl refl)).known latest here are.0, each_known link (latest_after latest entry) journal acts (λ other among. known other (inr among)) are.1)

-- At acts that a link doesn't hear of nothing is due on it.
no_items : (configuration : Configuration) (link : ℕ) (past : List Noted) (acts : List Act) → AllByRecursion (λ act. concerns link act ≡ false) acts
    → entry_items configuration link past acts ≡ []
no_items configuration link past [] all = refl
no_items configuration link past (act ∷ acts) all =
    (λ i. cond (all.0 i) (due_at configuration.profile link (noted_over configuration past act) (heard_on link past)) []
    ++ no_items configuration link (noted_over configuration past act ∷ past) acts all.1 i)

said_unheard : (link other : ℕ) (messages : List Message) → (link == other) ≡ false
    → AllByRecursion (λ act. concerns link act ≡ false) (map (λ message. Said other (rules_message message)) messages)
said_unheard link other [] differs = tt
said_unheard link other (message ∷ messages) differs = (differs, said_unheard link other messages differs)

uplink_unheard : (link other : ℕ) (payload : List ℕ) (acts : List Act) → (link == other) ≡ false → UplinkActs other payload acts
    → AllByRecursion (λ act. concerns link act ≡ false) acts
uplink_unheard link other payload acts differs (inl read) =
    subst (AllByRecursion (λ act. concerns link act ≡ false)) (sym read.2) (said_unheard link other read.0.messages.items differs)
uplink_unheard link other payload acts differs (inr unread) =
    subst (AllByRecursion (λ act. concerns link act ≡ false)) (sym unread.2) (differs, tt)

-- The text is that of items that are due at the entry's one act, or a contact.
data MadeOf (setting : Setting) (link : ℕ) (past : List Noted) (latest : FlightSample) (here : List Act) (text : List ℕ) : Type 0 where
  of_act : (act : Act) (sample : FlightSample) → here ≡ act ∷ [] → 1 ≤ length (due_items (configuration_of setting) link past act)
      → text_of_items setting link sample (due_items (configuration_of setting) link past act) ≡ text → MadeOf setting link past latest here text
  of_contact : contact_text_on setting link past latest ≡ text → MadeOf setting link past latest here text

of_items : (setting : Setting) (link : ℕ) (sample : FlightSample) (items : List Item) (text : List ℕ) → IsAmong text (texts_of_items setting link sample items)
    → (1 ≤ length items) × (text_of_items setting link sample items ≡ text)
of_items setting link sample [] text among = absurd among
of_items setting link sample (item ∷ items) text (inl same) = (omega arith, same)
of_items setting link sample (item ∷ items) text (inr among) = absurd among

module _ (setting : Setting) (link : ℕ) (past : List Noted) (latest : FlightSample) (here : List Act) (text : List ℕ) where
  at_act : (act : Act) (sample : FlightSample) → here ≡ act ∷ []
      → IsAmong text (texts_of_items setting link sample (entry_items (configuration_of setting) link past here)) → MadeOf setting link past latest here text
  at_act act sample sole among =
      let alone : entry_items (configuration_of setting) link past here ≡ due_items (configuration_of setting) link past act =
      ap (entry_items (configuration_of setting) link past) sole ∙ append-nil (due_items (configuration_of setting) link past act) in
      let due = of_items setting link sample (due_items (configuration_of setting) link past act) text
      (subst (λ items. IsAmong text (texts_of_items setting link sample items)) alone among) in
      of_act act sample sole due.0 due.1

  nowhere : (sample : FlightSample) → entry_items (configuration_of setting) link past here ≡ []
      → IsAmong text (texts_of_items setting link sample (entry_items (configuration_of setting) link past here)) → MadeOf setting link past latest here text
  nowhere sample none among = absurd (subst (λ items. IsAmong text (texts_of_items setting link sample items)) none among)

  at_logon : (own : Bool) → IsAmong text (cond own (contact_text_on setting link past latest ∷ []) []) → MadeOf setting link past latest here text
  at_logon true (inl same) = of_contact same
  at_logon true (inr among) = absurd among
  at_logon false among = absurd among

  at_uplink : (line other : ℕ) (own : Bool) (entry : Entry) (payload : List ℕ) → (link == other) ≡ own → UplinkActs other payload here
      → (link ≡ other → (act : Act) × (here ≡ act ∷ []))
      → IsAmong text (texts_of_items setting link latest (entry_items (configuration_of setting) link past here)) → MadeOf setting link past latest here text
  at_uplink line other true entry payload is are sole among = let one = sole (eqb-true link other is) in at_act one.0 latest one.1 among
  at_uplink line other false entry payload is are sole among =
      nowhere latest (no_items (configuration_of setting) link past here (uplink_unheard link other payload here is are)) among

  made_of : (entry : Entry) → EntryActs latest entry here → (IsOwnUplink link entry → (act : Act) × (here ≡ act ∷ []))
      → IsAmong text (entry_texts setting link past latest entry here) → MadeOf setting link past latest here text
  made_of (Uplink line other octets) are sole among = at_uplink line other (link == other) (Uplink line other octets) octets.items refl are sole among
  made_of (Answer line other code) are sole among = nowhere latest (ap (entry_items (configuration_of setting) link past) are) among
  made_of (Sample line sample) are sole among = at_act _ sample are among
  made_of (Tick line t) are sole among = at_act _ latest are among
  made_of (Crew line on) are sole among = at_act _ latest are among
  made_of (Logon line other) are sole among = at_logon (link == other) among

-- ---- what is told

-- The downlink at a place tells what is due at one act of the entry that makes it.
pub record TellsOf (setting : Setting) (link : ℕ) (journal : List Entry) (place : ℕ) (items : List ItemData) : Type 0 where
  pub before : List Entry
  pub behind : List Entry
  pub entry : Entry
  pub joined : journal ≡ before ++ entry ∷ behind
  pub made : MadeDownlink setting journal link place entry
  pub earlier : List (List Act)
  pub are_earlier : JournalActs setting.first before earlier
  pub act : Act
  pub is_act : EntryActs (latest_of setting.first before) entry (act ∷ [])
  pub sample : FlightSample
  pub told : items ≡ map (item_on setting sample) (due_items (configuration_of setting) link (past_of (configuration_of setting) (told_with [] earlier)) act)

module _ (setting : Setting) (link : ℕ) (settled : IsSettled setting) (inside : link < length setting.addresses) (journal : List Entry)
    (known : (entry : Entry) → IsAmong entry journal → IsKnownEntry link entry) where
  among_joined : (before behind : List Entry) (entry : Entry) → IsAmong entry (before ++ entry ∷ behind)
  among_joined [] behind entry = inl refl
  among_joined (other ∷ before) behind entry = inr (among_joined before behind entry)

  among_front : (before behind : List Entry) (entry other : Entry) → IsAmong other before → IsAmong other (before ++ entry ∷ behind)
  among_front [] behind entry other among = absurd among
  among_front (first ∷ before) behind entry other (inl same) = inl same
  among_front (first ∷ before) behind entry other (inr among) = inr (among_front before behind entry other among)

  -- A downlink that tells items tells what is due at one act of the entry that makes it.
  pub tells_of : (texts : List (List ℕ)) (place : ℕ) (text : List ℕ) (items : List ItemData) → 1 ≤ place → AreDownlinks setting journal link texts
      → slice_get texts (place - 1) ≡ Some text → Says (address_of setting link) setting.registration text (Tells items)
      → TellsOf setting link journal place items
  tells_of texts place text items some are there says =
      at (found_at setting link [] setting.first journal are.acts (place - 1) text are.are_acts (sym (ap (λ ts. slice_get ts (place - 1)) are.spelled) ∙ there))
    where
      at : FoundAt setting link [] setting.first journal are.acts (place - 1) text → TellsOf setting link journal place items
      at found =
          by (made_of setting link past (latest_of setting.first found.before) found.here text found.entry found.is_here
          ((known_entry).sole (latest_of setting.first found.before) found.here found.is_here) (found.among))
        where
          known_entry : IsKnownEntry link found.entry
          known_entry = known found.entry (subst (IsAmong found.entry) (sym found.joined) (among_joined found.before found.behind found.entry))

          past : List Noted
          past = past_after (configuration_of setting) [] found.earlier

          told : List Act
          told = told_with [] found.earlier

          known_before : AreKnown link told
          known_before =
              known_told link [] found.earlier tt
              (each_known link setting.first found.before found.earlier
              (λ other among. known other (subst (IsAmong other) (sym found.joined) (among_front found.before found.behind found.entry other among))) found.are_earlier)

          made : MadeDownlink setting journal link place found.entry
          made =
              let less = found.behind_those in
              let more = found.among_these in
              record {
                before = found.before;
                behind = found.behind;
                joined = found.joined;
                earlier = journal_texts setting link [] setting.first found.before found.earlier;
                through = journal_texts setting link [] setting.first (found.before ++ found.entry ∷ []) (found.earlier ++ found.here ∷ []);
                are_earlier = record { acts = found.earlier; are_acts = found.are_earlier; spelled = refl };
                are_through = record { acts = found.earlier ++ found.here ∷ []; are_acts = found.are_through; spelled = refl };
                behind_those = omega (arith, less, some);
                among_these = omega (arith, more, some);
              }

          by : MadeOf setting link past (latest_of setting.first found.before) found.here text → TellsOf setting link journal place items
          by (of_contact same) =
              absurd (contact_tells_nothing setting link past (latest_of setting.first found.before) items settled inside
              (subst (λ t. Says (address_of setting link) setting.registration t (Tells items)) (sym same) says))
          by (of_act act sample sole some_due same) =
              let pasts : past ≡ past_of (configuration_of setting) told = past_told (configuration_of setting) [] found.earlier in
              let is_act : EntryActs (latest_of setting.first found.before) found.entry (act ∷ []) =
              subst (EntryActs (latest_of setting.first found.before) found.entry) sole found.is_here in
              let own : IsKnown link act = (known_entry.known (latest_of setting.first found.before) (act ∷ []) is_act).0 in
              record {
                before = found.before;
                behind = found.behind;
                entry = found.entry;
                joined = found.joined;
                made = made;
                earlier = found.earlier;
                are_earlier = found.are_earlier;
                act = act;
                is_act = is_act;
                sample = sample;
                told = due_tells setting link settled inside told act known_before own sample items
                    (subst (λ p. 1 ≤ length (due_items (configuration_of setting) link p act)) pasts some_due)
                    (subst (λ p. Says (address_of setting link) setting.registration (text_of_items setting link sample (due_items (configuration_of setting) link p act)) (Tells items)) pasts
                    (subst (λ t. Says (address_of setting link) setting.registration t (Tells items)) (sym same) says));
              }
