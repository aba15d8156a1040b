-- What is due on a link after acts of which all is known: it can be sent, it is little, and its numbers are octets.
use Rattle.std.proofs.Common.{◌≡◌, ◌⊎◌, ℕ, ◌*◌, ◌<◌, ◌≤◌, inl, inr, List, [], ◌∷◌, length, length-append, map, flat_map, refl, sym, ap, ◌∙◌, subst, arith}
use Rattle.std.specs.List.{AllByRecursion}
use Rattle.adsc_downlink.specs.Items.{downlink_bits, item_bits}
use Rattle.adsc_requests.specs.Contents.{number_of}
use Rattle.adsc_requests.specs.declared.message.Message.{Message as MessageRead}
use Rattle.adsc_requests.specs.declared.message.Message.TheVariants as read
use Rattle.aircraft_core.specs.Reports.{item_on}
use Rattle.aircraft_core.specs.Setting.{Setting}
use Rattle.contract_rules.specs.Acts.{Act, Said, Malformed, Moved, Ticked, Crew}
use Rattle.contract_rules.specs.Configuration.{Configuration}
use Rattle.contract_rules.specs.Due.{Item, Acknowledgement, NegativeAcknowledgement, Noncompliance, EmergencyOff, Report, due_items}
use Rattle.contract_rules.specs.LiveLinks.{Noted}
use Rattle.contract_rules.specs.Messages.{Message, number_of as rules_number_of}
use Rattle.contract_rules.specs.Verdicts.{past_of}
use Rattle.contract_table.specs.Acts.{rules_act, rules_message}
use Rattle.contract_table.specs.Laws.{most_items}
use Rattle.contract_table.specs.Sending.{HasReason, IsSendable}
use Rattle.contract_table.specs.declared.act.Act.{Act as ActTold}
use Rattle.contract_table.specs.declared.act.Act.TheVariants as told
use Rattle.contract_table.proofs.DueItems.{few_items}
use Rattle.contract_table.proofs.Sendable.{due_items_sendable}
use Rattle.flight_samples.specs.declared.sample.Sample.{Sample}
use Rattle.run_rules.specs.Claims.{HasAccepted}
use Rattle.run_rules.proofs.Acknowledged.{ComesFrom, EndsEmergency, IsAnswered, IsRefused, IsUnread, due_comes}
use Rattle.run_rules.proofs.ItemSizes.{item_short}
use Rattle.run_rules.proofs.OwnItems.{IsNumbered}

-- ---- acts

-- An act of this link is a message whose number is an octet, and no malformed payload.
abbrev pub IsOwnAct : ℕ → ActTold → Type 0
IsOwnAct link (told.Said other message) = link ≡ other → number_of message < 256
IsOwnAct link (told.Malformed other refusal) = link ≡ other → ⊥
IsOwnAct link act = Unit {0}

-- The act is one of the aircraft's, with a reason where it is malformed, and one of the link is a message.
pub record IsKnown (link : ℕ) (act : Act) : Type 0 where
  pub told : ActTold
  pub is_told : act ≡ rules_act told
  pub reason : HasReason told
  pub own : IsOwnAct link told

-- All is known of each act.
abbrev pub AreKnown : ℕ → List Act → Type 0
AreKnown link acts = AllByRecursion (IsKnown link) acts

told_acts : (link : ℕ) (acts : List Act) → AreKnown link acts → (told : List ActTold) × (acts ≡ map rules_act told)
told_acts link [] known = ([], refl)
told_acts link (act ∷ acts) known =
    let rest = told_acts link acts known.1 in
    (known.0.told ∷ rest.0, (λ i. known.0.is_told i ∷ rest.1 i))

-- The rules see the number of a message.
pub number_seen : (message : MessageRead) → rules_number_of (rules_message message) ≡ number_of message
number_seen read.CancelAll = refl
number_seen (read.Cancel n) = refl
number_seen (read.CancelEmergency n) = refl
number_seen (read.Periodic n interval groups intent) = refl
number_seen (read.Event n limits) = refl
number_seen (read.Emergency n interval groups intent) = refl

-- The number of a message of the link is an octet.
said_number : (link : ℕ) (act : Act) (message : Message) → IsKnown link act → act ≡ Said link message → rules_number_of message < 256
said_number link act message known said = at known.told (sym known.is_told ∙ said) known.own
  where
    at : (t : ActTold) → rules_act t ≡ Said link message → IsOwnAct link t → rules_number_of message < 256
    at (told.Said other asked) is own =
        let same : other ≡ link = cc in
        let seen : rules_message asked ≡ message = cc in
        subst (λ n. n < 256) (sym (number_seen asked) ∙ ap rules_number_of seen) (own (sym same))
    at (told.Malformed other refusal) is own = absurd (cc)
    at (told.Moved before now) is own = absurd (cc)
    at (told.Ticked t) is own = absurd (cc)
    at (told.Crew on) is own = absurd (cc)

-- An act of which all is known is no malformed payload of the link.
pub never_unread : (link : ℕ) (act : Act) → IsKnown link act → IsUnread link act → ⊥
never_unread link act known unread = at known.told (sym known.is_told ∙ unread.1) known.own
  where
    at : (t : ActTold) → rules_act t ≡ Malformed link unread.0 → IsOwnAct link t → ⊥
    at (told.Said other asked) is own = cc
    at (told.Malformed other refusal) is own = let same : other ≡ link = cc in own (sym same)
    at (told.Moved before now) is own = cc
    at (told.Ticked t) is own = cc
    at (told.Crew on) is own = cc

accepted_number : (configuration : Configuration) (link : ℕ) (acts : List Act) (message : Message) → AreKnown link acts
    → HasAccepted link message (past_of configuration acts) → rules_number_of message < 256
accepted_number configuration link [] message known accepted = absurd accepted
accepted_number configuration link (act ∷ acts) message known (inl now) = said_number link act message known.0 now.0
accepted_number configuration link (act ∷ acts) message known (inr before) = accepted_number configuration link acts message known.1 before

-- ---- what is due

-- What follows from a fact of each element holds of all.
pub all_map : {X : Type 0} (P Q : X → Type 0) (xs : List X) → ((x : X) → P x → Q x) → AllByRecursion P xs → AllByRecursion Q xs
all_map P Q [] f all = tt
all_map P Q (x ∷ xs) f all = (f x all.0, all_map P Q xs f all.1)

module _ (configuration : Configuration) (link : ℕ) (acts : List Act) (act : Act) (known : AreKnown link acts) (own : IsKnown link act) where
  refused_number : (n octet : ℕ) → IsRefused link act n octet → (n < 256) × (octet < 256)
  refused_number n octet is =
      (subst (λ k. k < 256) is.number (said_number link act is.message own is.said), subst (λ k. k < 256) (sym is.no_octet) (omega arith))

  ending_number : (n : ℕ) → EndsEmergency link (past_of configuration acts) act n → n < 256
  ending_number n is = at is.number
    where
      at : (n ≡ 0) ⊎ ((message : Message) × HasAccepted link message (past_of configuration acts) × (rules_number_of message ≡ n)) → n < 256
      at (inl none) = subst (λ k. k < 256) (sym none) (omega arith)
      at (inr found) = subst (λ k. k < 256) found.2 (accepted_number configuration link acts found.0 known found.1)

  answered_number : (n : ℕ) → IsAnswered configuration link (past_of configuration acts) act n → n < 256
  answered_number n is = subst (λ k. k < 256) is.number (said_number link act is.message own is.said)

  numbered : (item : Item) → ComesFrom configuration link (past_of configuration acts) act item → IsNumbered item
  numbered (Acknowledgement n) from = answered_number n from
  numbered (Noncompliance n) from = answered_number n from
  numbered (NegativeAcknowledgement n reason octet) (inl refused) = refused_number n octet refused
  numbered (NegativeAcknowledgement n reason octet) (inr unread) = absurd (never_unread link act own unread)
  numbered (EmergencyOff n) from = ending_number n from
  numbered (Report tag groups) from = tt

  pub due_numbered : AllByRecursion IsNumbered (due_items configuration link (past_of configuration acts) act)
  due_numbered =
      all_map (ComesFrom configuration link (past_of configuration acts) act) IsNumbered (due_items configuration link (past_of configuration acts) act) numbered
      (due_comes configuration link (past_of configuration acts) act)

  pub due_sendable : AllByRecursion IsSendable (due_items configuration link (past_of configuration acts) act)
  due_sendable =
      let all = told_acts link acts known in
      subst (λ a. AllByRecursion IsSendable (due_items configuration link (past_of configuration acts) a)) (sym own.is_told)
      (subst (λ before. AllByRecursion IsSendable (due_items configuration link (past_of configuration before) (rules_act own.told))) (sym all.1)
      (due_items_sendable configuration link all.0 own.told own.reason))

most_of : (act : Act) → most_items act ≤ 4
most_of (Said link message) = omega arith
most_of (Malformed link fault) = omega arith
most_of (Moved before now) = omega arith
most_of (Ticked tick) = omega arith
most_of (Crew on) = omega arith

-- At most four items are due at an act.
pub due_few : (configuration : Configuration) (link : ℕ) (past : List Noted) (act : Act) → length (due_items configuration link past act) ≤ 4
due_few configuration link past act = omega (arith, few_items configuration link past act, most_of act)

-- ---- how long it is

-- Each item has at most 456 bits.
pub items_short : (setting : Setting) (sample : Sample) (items : List Item) → AllByRecursion IsSendable items
    → length (downlink_bits (map (item_on setting sample) items)) ≤ 456 * length items
unfolding downlink_bits
items_short setting sample [] can = omega arith
items_short setting sample (item ∷ items) can =
    let here = item_bits (item_on setting sample item) in
    let rest = flat_map item_bits (map (item_on setting sample) items) in
    omega (
      arith,
      length-append here rest,
      item_short setting sample item can.0,
      items_short setting sample items can.1,
    )
