-- Decoded messages that the contract rules see as one are one.
use Rattle.std.proofs.Common.{◌≡◌, ℕ, Option, Some, None, option_map, refl, ap}
use Rattle.std.specs.Bool.{Decides}
use Rattle.adsc_requests.specs.declared.message.Intent.{Intent}
use Rattle.adsc_requests.specs.declared.message.Range.{Range}
use Rattle.adsc_requests.specs.declared.message.Limits.{Limits}
use Rattle.adsc_requests.specs.declared.message.Moduli.{Moduli}
use Rattle.adsc_requests.specs.declared.message.Message.{Message}
use Rattle.adsc_requests.specs.declared.message.Message.TheVariants.{CancelAll, Cancel, CancelEmergency, Periodic, Event, Emergency}
use Rattle.adsc_requests.proofs.Injective.{same_intent, same_range, same_moduli, same_limits}
use Rattle.contract_rules.specs.Messages.{AltitudeRange, EventLimits, Reporting, same_message}
use Rattle.contract_rules.specs.Messages.{Intent as IntentSeen}
use Rattle.contract_rules.specs.Messages.{PeriodicRequest, EventRequest, EmergencyRequest}
use Rattle.contract_rules.proofs.Equality.{equality_of_messages}
use Rattle.due_event.specs.RuleTerms.{rules_limits, rules_range}
use Rattle.contract_table.specs.Acts.{reporting, rules_intent, rules_message}

same_option : {A B : Type 0} (f : A → B) → ((a b : A) → f a ≡ f b → a ≡ b) → (one other : Option A) → option_map f one ≡ option_map f other → one ≡ other
same_option f whole None None e = refl
same_option f whole None (Some b) e = absurd (let both : None ≡ Some (f b) = e in cc)
same_option f whole (Some a) None e = absurd (let both : Some (f a) ≡ None = e in cc)
same_option f whole (Some a) (Some b) e = ap (λ x. Some x) (whole a b (let both : Some (f a) ≡ Some (f b) = e in cc))

intents_seen : (one other : Intent) → rules_intent one ≡ rules_intent other → one ≡ other
intents_seen one other e =
    same_intent one other (ap (λ (x : IntentSeen). x.modulus) e) (ap (λ (x : IntentSeen). x.minutes) e)

ranges_seen : (one other : Range) → rules_range one ≡ rules_range other → one ≡ other
ranges_seen one other e =
    same_range one other (ap (λ (x : AltitudeRange). x.ceiling) e) (ap (λ (x : AltitudeRange). x.floor) e)

limits_seen : (one other : Limits) → rules_limits one ≡ rules_limits other → one ≡ other
limits_seen one other e =
    same_limits one other
    (ap (λ (x : EventLimits). x.lateral) e)
    (ap (λ (x : EventLimits). x.vertical_rate) e)
    (same_option rules_range ranges_seen one.range other.range (ap (λ (x : EventLimits). x.range) e))
    (ap (λ (x : EventLimits). x.waypoint) e)

-- What requests for reports ask is made of the same parts.
same_request : {X : Type 0} (make : ℕ → Option ℕ → Moduli → Option Intent → X) (m n : ℕ) (i j : Option ℕ) (groups others : Moduli) (one other : Option Intent)
    → reporting m i groups one ≡ reporting n j others other → make m i groups one ≡ make n j others other
same_request make m n i j groups others one other e =
    let moduli = same_moduli groups others (ap (λ (x : Reporting). x.moduli) e) in
    let intent = same_option rules_intent intents_seen one other (ap (λ (x : Reporting). x.intent) e) in
    λ k. make (ap (λ (x : Reporting). x.number) e k) (ap (λ (x : Reporting). x.interval) e k) (moduli k) (intent k)

pub messages_seen : (one other : Message) → rules_message one ≡ rules_message other → one ≡ other
messages_seen CancelAll CancelAll e = refl
messages_seen (Cancel m) (Cancel n) e = ap Cancel (let same : m ≡ n = cc in same)
messages_seen (CancelEmergency m) (CancelEmergency n) e = ap CancelEmergency (let same : m ≡ n = cc in same)
messages_seen (Periodic m i groups one) (Periodic n j others other) e =
    same_request Periodic m n i j groups others one other (asked (reporting m i groups one) (reporting n j others other) e)
  where
    asked : (a b : Reporting) → PeriodicRequest a ≡ PeriodicRequest b → a ≡ b
    asked a b e = cc
messages_seen (Emergency m i groups one) (Emergency n j others other) e =
    same_request Emergency m n i j groups others one other (asked (reporting m i groups one) (reporting n j others other) e)
  where
    asked : (a b : Reporting) → EmergencyRequest a ≡ EmergencyRequest b → a ≡ b
    asked a b e = cc
messages_seen (Event m limits) (Event n others) e =
    let parts = both m n (rules_limits limits) (rules_limits others) e in
    λ k. Event (parts.0 k) (limits_seen limits others parts.1 k)
  where
    number : (a b : ℕ) (x y : EventLimits) → EventRequest a x ≡ EventRequest b y → a ≡ b
    number a b x y e = cc

    asked : (a b : ℕ) (x y : EventLimits) → EventRequest a x ≡ EventRequest b y → x ≡ y
    asked a b x y e = cc

    both : (a b : ℕ) (x y : EventLimits) → EventRequest a x ≡ EventRequest b y → (a ≡ b) × (x ≡ y)
    both a b x y e = (number a b x y e, asked a b x y e)
messages_seen _ _ e = absurd (cc)

-- The rules' test of a repeat decides whether decoded messages are equal.
pub repeat_is_equality : (one other : Message) → Decides (same_message (rules_message one) (rules_message other)) (one ≡ other)
repeat_is_equality one other =
    let test = equality_of_messages (rules_message one) (rules_message other) in
    (λ same. messages_seen one other (test.0 same), λ equal. test.1 (ap rules_message equal))
