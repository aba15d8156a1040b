-- The computing equality of messages decides that they are equal.
use Rattle.std.proofs.Common.{◌≡◌, Bool, true, false, ◌&&◌, ◌==◌, [], ◌∷◌, Some, None, refl, ap, ◌∙◌}
use Rattle.std.specs.Bool.{Decides, beq}
use Rattle.std.specs.Option.{option_eq}
use Rattle.std.specs.Ordering.{int_eq}
use Rattle.std.specs.Prelude.{nat_eq}
use Rattle.std.specs.Cmp.{booleans_Decides}
use Rattle.std.specs.Cmp.Lexicographic.{pointwise}
use Rattle.std.proofs.lemmas.Bool.{and_parts}
use Rattle.std.proofs.lemmas.Bool.Decides.{Decides-eqb, Decides-int_eq}
use Rattle.contract_rules.specs.Messages.{Intent, AltitudeRange, Reporting, EventLimits, CancelAll, Cancel, CancelEmergency, PeriodicRequest, EventRequest, EmergencyRequest, same_intent, same_range, same_reporting, same_limits, same_message}

-- A test that is true exactly at equal values.
abbrev pub IsEquality : {A : Type 0} → (A → A → Bool) → Type 0
IsEquality {A} same = (x y : A) → Decides (same x y) (x ≡ y)

pub both : (a b : Bool) → a ≡ true → b ≡ true → (a && b) ≡ true
both a b e f = ap (λ x. x && b) e ∙ f

pub equality_of_options : {A : Type 0} (same : A → A → Bool) → IsEquality same → IsEquality (option_eq same)
equality_of_options same is None None = (λ e. refl, λ e. refl)
equality_of_options same is (Some x) (Some y) = (λ e. ap Some ((is x y).0 e), λ e. (is x y).1 (cc))
equality_of_options same is None (Some y) = (λ e. absurd (let h : false ≡ true = e in cc), λ e. cc)
equality_of_options same is (Some x) None = (λ e. absurd (let h : false ≡ true = e in cc), λ e. cc)

pub equality_of_lists : {A : Type 0} (same : A → A → Bool) → IsEquality same → IsEquality (pointwise same)
equality_of_lists same is [] [] = (λ e. refl, λ e. refl)
equality_of_lists {A} same is (x ∷ xs) (y ∷ ys) =
    let rest = equality_of_lists same is xs ys in (
      λ e. let parts = and_parts (same x y) (pointwise same xs ys) e in λ i. (is x y).0 parts.0 i ∷ rest.0 parts.1 i,
      λ e. let head : x ≡ y = cc in let tail : xs ≡ ys = cc in
          both (same x y) (pointwise same xs ys) ((is x y).1 head) (rest.1 tail),
    )
equality_of_lists same is [] (y ∷ ys) = (λ e. absurd (let h : false ≡ true = e in cc), λ e. cc)
equality_of_lists same is (x ∷ xs) [] = (λ e. absurd (let h : false ≡ true = e in cc), λ e. cc)

pub equality_of_intents : IsEquality same_intent
equality_of_intents one other = (
  λ e. let parts = and_parts (one.modulus == other.modulus) (one.minutes == other.minutes) e in
      λ i. record { modulus = (Decides-eqb one.modulus other.modulus).0 parts.0 i; minutes = (Decides-eqb one.minutes other.minutes).0 parts.1 i },
  λ e. both (one.modulus == other.modulus) (one.minutes == other.minutes)
      ((Decides-eqb one.modulus other.modulus).1 (ap (λ (x : Intent). x.modulus) e))
      ((Decides-eqb one.minutes other.minutes).1 (ap (λ (x : Intent). x.minutes) e)),
)

pub equality_of_ranges : IsEquality same_range
equality_of_ranges one other = (
  λ e. let parts = and_parts (int_eq one.ceiling other.ceiling) (int_eq one.floor other.floor) e in
      λ i. record { ceiling = (Decides-int_eq one.ceiling other.ceiling).0 parts.0 i; floor = (Decides-int_eq one.floor other.floor).0 parts.1 i },
  λ e. both (int_eq one.ceiling other.ceiling) (int_eq one.floor other.floor)
      ((Decides-int_eq one.ceiling other.ceiling).1 (ap (λ (x : AltitudeRange). x.ceiling) e))
      ((Decides-int_eq one.floor other.floor).1 (ap (λ (x : AltitudeRange). x.floor) e)),
)

pub equality_of_numbers : IsEquality (option_eq nat_eq)
equality_of_numbers = equality_of_options nat_eq Decides-eqb

pub equality_of_moduli : IsEquality (pointwise (option_eq nat_eq))
equality_of_moduli = equality_of_lists (option_eq nat_eq) equality_of_numbers

pub equality_of_reporting : IsEquality same_reporting
equality_of_reporting one other =
    let number = Decides-eqb one.number other.number in
    let interval = equality_of_numbers one.interval other.interval in
    let moduli = equality_of_moduli one.moduli other.moduli in
    let intent = equality_of_options same_intent equality_of_intents one.intent other.intent in
    let a : Bool = one.number == other.number in
    let b : Bool = option_eq nat_eq one.interval other.interval in
    let c : Bool = pointwise (option_eq nat_eq) one.moduli other.moduli in
    let d : Bool = option_eq same_intent one.intent other.intent in (
      λ e. let last = and_parts (a && b && c) d e in let third = and_parts (a && b) c last.0 in let first = and_parts a b third.0 in
          λ i. record { number = number.0 first.0 i; interval = interval.0 first.1 i; moduli = moduli.0 third.1 i; intent = intent.0 last.1 i },
      λ e. both (a && b && c) d
          (both (a && b) c (both a b (number.1 (ap (λ (x : Reporting). x.number) e)) (interval.1 (ap (λ (x : Reporting). x.interval) e))) (moduli.1 (ap (λ (x : Reporting). x.moduli) e)))
          (intent.1 (ap (λ (x : Reporting). x.intent) e)),
    )

pub equality_of_limits : IsEquality same_limits
equality_of_limits one other =
    let lateral = equality_of_numbers one.lateral other.lateral in
    let rate = equality_of_options int_eq Decides-int_eq one.vertical_rate other.vertical_rate in
    let range = equality_of_options same_range equality_of_ranges one.range other.range in
    let waypoint = booleans_Decides one.waypoint other.waypoint in
    let a : Bool = option_eq nat_eq one.lateral other.lateral in
    let b : Bool = option_eq int_eq one.vertical_rate other.vertical_rate in
    let c : Bool = option_eq same_range one.range other.range in
    let d : Bool = beq one.waypoint other.waypoint in (
      λ e. let last = and_parts (a && b && c) d e in let third = and_parts (a && b) c last.0 in let first = and_parts a b third.0 in
          λ i. record { lateral = lateral.0 first.0 i; vertical_rate = rate.0 first.1 i; range = range.0 third.1 i; waypoint = waypoint.0 last.1 i },
      λ e. both (a && b && c) d
          (both (a && b) c (both a b (lateral.1 (ap (λ (x : EventLimits). x.lateral) e)) (rate.1 (ap (λ (x : EventLimits). x.vertical_rate) e))) (range.1 (ap (λ (x : EventLimits). x.range) e)))
          (waypoint.1 (ap (λ (x : EventLimits). x.waypoint) e)),
    )

pub equality_of_messages : IsEquality same_message
equality_of_messages CancelAll CancelAll = (λ e. refl, λ e. refl)
equality_of_messages (Cancel m) (Cancel n) = (λ e. ap Cancel ((Decides-eqb m n).0 e), λ e. (Decides-eqb m n).1 (cc))
equality_of_messages (CancelEmergency m) (CancelEmergency n) = (λ e. ap CancelEmergency ((Decides-eqb m n).0 e), λ e. (Decides-eqb m n).1 (cc))
equality_of_messages (PeriodicRequest one) (PeriodicRequest other) =
    (λ e. ap PeriodicRequest ((equality_of_reporting one other).0 e), λ e. (equality_of_reporting one other).1 (cc))
equality_of_messages (EventRequest m one) (EventRequest n other) = (
  λ e. let parts = and_parts (m == n) (same_limits one other) e in
      λ i. EventRequest ((Decides-eqb m n).0 parts.0 i) ((equality_of_limits one other).0 parts.1 i),
  λ e. both (m == n) (same_limits one other) ((Decides-eqb m n).1 (cc)) ((equality_of_limits one other).1 (cc)),
)
equality_of_messages (EmergencyRequest one) (EmergencyRequest other) =
    (λ e. ap EmergencyRequest ((equality_of_reporting one other).0 e), λ e. (equality_of_reporting one other).1 (cc))
equality_of_messages _ _ = (λ e. absurd (let h : false ≡ true = e in cc), λ e. cc)
