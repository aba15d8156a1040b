-- What an item that a centre hears comes from: a message that it sent, which the aircraft was brought; and what was accepted in a
-- journal stays accepted as it goes on.
use Rattle.std.proofs.Common.{◌≡◌, ◌⊎◌, ℕ, inl, inr, false, List, [], ◌∷◌, ◌++◌, map, reverse, append-nil, refl, sym, ap, ◌∙◌, subst}
use Rattle.std.specs.List.{AllByRecursion}
use Rattle.adsc_downlink.specs.Items.{ItemData}
use Rattle.adsc_requests.specs.declared.message.Message.{Message as MessageRead}
use Rattle.aircraft_core.specs.declared.entry.Entry.{Entry}
use Rattle.aircraft_core.specs.declared.entry.Entry.TheVariants.{Uplink, Answer, Sample, Tick, Crew, Logon}
use Rattle.aircraft_core.specs.Entries.{latest_after, latest_of}
use Rattle.aircraft_core.specs.JournalActs.{EntryActs, JournalActs, newest_first}
use Rattle.aircraft_core.specs.Reports.{item_on}
use Rattle.aircraft_core.specs.Setting.{Setting, configuration_of}
use Rattle.aircraft_core.proofs.OneList.{same_acts}
use Rattle.contract_rules.specs.Acts.{Act, Said, Malformed, Crew as CrewActed}
use Rattle.contract_rules.specs.Configuration.{Configuration}
use Rattle.contract_rules.specs.Due.{Item, Acknowledgement, NegativeAcknowledgement, Noncompliance, EmergencyOff, Report, due_items}
use Rattle.contract_rules.specs.LiveLinks.{Noted}
use Rattle.contract_rules.specs.Messages.{Message, number_of}
use Rattle.contract_rules.specs.Verdicts.{past_of}
use Rattle.contract_table.specs.Acts.{rules_message}
use Rattle.flight_samples.specs.declared.sample.Sample.{Sample as FlightSample}
use Rattle.run_rules.specs.Among.{IsAmong}
use Rattle.run_rules.specs.Claims.{HasAccepted, ItemBears, WasAccepted}
use Rattle.run_rules.proofs.Acknowledged.{ComesFrom, IsAnswered, due_comes}
use Rattle.run_rules.proofs.KnownActs.{IsKnown, never_unread}
use Rattle.run_rules.proofs.MadeDownlinks.{IsOwnUplink, newest_told, told_with}
use Rattle.run_rules.proofs.Members.{among_mapped}
use Rattle.run_rules.proofs.RowsGo.{Confirms}

-- What holds of all elements holds of each.
pub of_all : {A : Type 0} (P : A → Type 0) (xs : List A) (x : A) → AllByRecursion P xs → IsAmong x xs → P x
of_all P [] x all among = absurd among
of_all P (y ∷ ys) x all (inl same) = subst P same all.0
of_all P (y ∷ ys) x all (inr among) = of_all P ys x all.1 among

-- ---- one item

-- Where the number of an item comes from: a message of this act; or an emergency request that was accepted before a crew act; or it is 0.
pub data BearsFrom (link : ℕ) (past : List Noted) (act : Act) (n : ℕ) : Type 0 where
  from_message : (message : Message) → act ≡ Said link message → number_of message ≡ n → BearsFrom link past act n
  from_emergency : (message : Message) → act ≡ CrewActed false → HasAccepted link message past → number_of message ≡ n → BearsFrom link past act n
  from_nothing : n ≡ 0 → BearsFrom link past act n

module _ (configuration : Configuration) (link : ℕ) (past : List Noted) (act : Act) (setting : Setting) (sample : FlightSample) where
  -- The item that a told one was.
  was_due : (item : ItemData) → IsAmong item (map (item_on setting sample) (due_items configuration link past act))
      → (due : Item) × ComesFrom configuration link past act due × (item_on setting sample due ≡ item)
  was_due item among =
      let found = among_mapped (item_on setting sample) item (due_items configuration link past act) among in
      (found.0, of_all (ComesFrom configuration link past act) (due_items configuration link past act) found.0 (due_comes configuration link past act) found.1, found.2)

  confirms_due : (due : Item) (n : ℕ) → Confirms n (item_on setting sample due) → ComesFrom configuration link past act due → IsAnswered configuration link past act n
  confirms_due (Acknowledgement m) n confirms from = subst (IsAnswered configuration link past act) confirms from
  confirms_due (Noncompliance m) n confirms from = subst (IsAnswered configuration link past act) confirms from
  confirms_due (NegativeAcknowledgement m reason octet) n confirms from = absurd confirms
  confirms_due (EmergencyOff m) n confirms from = absurd confirms
  confirms_due (Report tag groups) n confirms from = absurd confirms

  -- A told item that confirms a number answers a message of it that was accepted.
  pub told_confirms : (item : ItemData) (n : ℕ) → IsAmong item (map (item_on setting sample) (due_items configuration link past act)) → Confirms n item
      → IsAnswered configuration link past act n
  told_confirms item n among confirms =
      let was = was_due item among in
      confirms_due was.0 n (subst (Confirms n) (sym was.2) confirms) was.1

  answered_bears : (n : ℕ) → IsAnswered configuration link past act n → BearsFrom link past act n
  answered_bears n is = from_message is.message is.said is.number

  bears_due : (due : Item) (n : ℕ) → IsKnown link act → ItemBears n (item_on setting sample due) → ComesFrom configuration link past act due → BearsFrom link past act n
  bears_due (Acknowledgement m) n known bears from = answered_bears n (subst (IsAnswered configuration link past act) bears from)
  bears_due (Noncompliance m) n known bears from = answered_bears n (subst (IsAnswered configuration link past act) bears from)
  bears_due (NegativeAcknowledgement m reason octet) n known bears (inl refused) = from_message refused.message refused.said (refused.number ∙ bears)
  bears_due (NegativeAcknowledgement m reason octet) n known bears (inr unread) = absurd (never_unread link act known unread)
  bears_due (EmergencyOff m) n known bears from = at from.number
    where
      at : (m ≡ 0) ⊎ ((message : Message) × HasAccepted link message past × (number_of message ≡ m)) → BearsFrom link past act n
      at (inl none) = from_nothing (sym bears ∙ none)
      at (inr found) = from_emergency found.0 from.crew found.1 (found.2 ∙ bears)
  bears_due (Report tag groups) n known bears from = absurd bears

  -- Where the number of a told item comes from.
  pub told_bears : (item : ItemData) (n : ℕ) → IsKnown link act → IsAmong item (map (item_on setting sample) (due_items configuration link past act)) → ItemBears n item
      → BearsFrom link past act n
  told_bears item n known among bears =
      let was = was_due item among in
      bears_due was.0 n known (subst (ItemBears n) (sym was.2) bears) was.1

-- ---- whose entry

said_on : (link other : ℕ) (message : Message) (messages : List MessageRead)
    → Said link message ∷ [] ≡ map (λ asked. Said other (rules_message asked)) messages → link ≡ other
said_on link other message [] is = absurd (cc)
said_on link other message (asked ∷ messages) is = cc

-- An entry whose act is a message of the link is an uplink of the link.
pub said_by_own : (link : ℕ) (latest : FlightSample) (made : Entry) (act : Act) (message : Message) → EntryActs latest made (act ∷ []) → act ≡ Said link message
    → IsOwnUplink link made
said_by_own link latest (Uplink line other octets) act message (inl read) said =
    said_on link other message read.0.messages.items (ap (λ a. a ∷ []) (sym said) ∙ read.2)
said_by_own link latest (Uplink line other octets) act message (inr unread) said =
    absurd (let never : Said link message ∷ [] ≡ Malformed other _ ∷ [] = ap (λ a. a ∷ []) (sym said) ∙ unread.2 in cc)
said_by_own link latest (Answer line other code) act message are said = absurd (cc)
said_by_own link latest (Sample line sample) act message are said = absurd (cc)
said_by_own link latest (Tick line t) act message are said = absurd (cc)
said_by_own link latest (Crew line on) act message are said = absurd (cc)
said_by_own link latest (Logon line other) act message are said = absurd (cc)

-- ---- as a journal goes on

-- The acts of a journal, cut at an entry.
pub record CutActs (latest : FlightSample) (before : List Entry) (made : Entry) (acts : List (List Act)) : Type 0 where
  pub front : List (List Act)
  pub here : List Act
  pub back : List (List Act)
  pub joined : acts ≡ front ++ here ∷ back
  pub are_front : JournalActs latest before front
  pub is_here : EntryActs (latest_of latest before) made here

-- The acts of a journal are cut where the journal is.
pub cut_acts : (latest : FlightSample) (before : List Entry) (made : Entry) (behind : List Entry) (acts : List (List Act))
    → JournalActs latest (before ++ made ∷ behind) acts → CutActs latest before made acts
cut_acts latest [] made behind [] are = absurd are
cut_acts latest [] made behind (here ∷ acts) are =
    record { front = []; here = here; back = acts; joined = refl; are_front = refl; is_here = are.0 }
cut_acts latest (first ∷ before) made behind [] are = absurd are
cut_acts latest (first ∷ before) made behind (here ∷ acts) are =
    let cut = cut_acts (latest_after latest first) before made behind acts are.1 in
    record {
      front = here ∷ cut.front;
      here = cut.here;
      back = cut.back;
      joined = ap (λ rest. here ∷ rest) cut.joined;
      are_front = (are.0, cut.are_front);
      is_here = cut.is_here;
    }

told_with-append : (told : List Act) (front back : List (List Act)) → told_with told (front ++ back) ≡ told_with (told_with told front) back
told_with-append told [] back = refl
told_with-append told (acts ∷ front) back = told_with-append (reverse acts ++ told) front back

accepted_later : (configuration : Configuration) (link : ℕ) (message : Message) (later told : List Act)
    → HasAccepted link message (past_of configuration told) → HasAccepted link message (past_of configuration (later ++ told))
accepted_later configuration link message [] told accepted = accepted
accepted_later configuration link message (act ∷ later) told accepted = inr (accepted_later configuration link message later told accepted)

-- What is accepted at one act of an entry is accepted in each journal that goes on from there.
pub accepted_on : (setting : Setting) (link : ℕ) (journal before behind : List Entry) (made : Entry) (acts earlier : List (List Act)) (act : Act) (request : MessageRead)
    → journal ≡ before ++ made ∷ behind → JournalActs setting.first journal acts → JournalActs setting.first before earlier
    → ((here : List Act) → EntryActs (latest_of setting.first before) made here → here ≡ act ∷ [])
    → HasAccepted link (rules_message request) (past_of (configuration_of setting) (act ∷ told_with [] earlier)) → WasAccepted setting journal link request
accepted_on setting link journal before behind made acts earlier act request joined are are_earlier alone accepted =
    record { acts = acts; are_acts = are; accepted = subst (λ told. HasAccepted link (rules_message request) (past_of (configuration_of setting) told)) (sym newest) last }
  where
    cut : CutActs setting.first before made acts
    cut = cut_acts setting.first before made behind acts (subst (λ j. JournalActs setting.first j acts) joined are)

    front : cut.front ≡ earlier
    front = same_acts setting.first before cut.front earlier cut.are_front are_earlier

    newest : newest_first acts ≡ newest_first cut.back ++ (act ∷ told_with [] earlier)
    newest =
        sym (append-nil (newest_first acts))
        ∙ sym (newest_told [] acts)
        ∙ ap (told_with []) cut.joined
        ∙ told_with-append [] cut.front (cut.here ∷ cut.back)
        ∙ newest_told (reverse cut.here ++ told_with [] cut.front) cut.back
        ∙ ap (λ here. newest_first cut.back ++ (reverse here ++ told_with [] cut.front)) (alone cut.here cut.is_here)
        ∙ ap (λ f. newest_first cut.back ++ (act ∷ told_with [] f)) front

    last : HasAccepted link (rules_message request) (past_of (configuration_of setting) (newest_first cut.back ++ (act ∷ told_with [] earlier)))
    last = accepted_later (configuration_of setting) link (rules_message request) (newest_first cut.back) (act ∷ told_with [] earlier) accepted
