-- What one more act leaves of each part of a link's state.
use Rattle.std.proofs.Common.{◌≡◌, ℕ, ◌+◌, Bool, true, false, cond, not, ◌&&◌, ◌==◌, List, ◌∷◌, Option, Some, None, option_map, option_and_then, refl, ap, ◌∙◌}
use Rattle.contract_rules.specs.Configuration.{Profile}
use Rattle.contract_rules.specs.Messages.{Message, EventRequest, Periodic, Demand, number_of}
use Rattle.contract_rules.specs.LookingBack.{unless}
use Rattle.contract_rules.specs.LiveLinks.{Noted}
use Rattle.contract_rules.specs.InForce.{accepts, bears}
use Rattle.contract_rules.specs.Acts.{Sample}
use Rattle.contract_rules.specs.Periodic.{is_periodic_due, periodic_report_number}
use Rattle.contract_rules.specs.Emergency.{is_anchor, anchor_time, is_emergency_due, emergency_report_number}
use Rattle.contract_rules.proofs.LinkSteps.{anchor_time_step}
use Rattle.contract_table.specs.Connections.{watched_by, watched_after, event_request}

-- ---- what may be there

pub map_unless : {A B : Type 0} (f : A → B) (ended : B → Bool) (o : Option A) → option_map f (unless (λ a. ended (f a)) o) ≡ unless ended (option_map f o)
map_unless f ended None = refl
map_unless f ended (Some a) = at (ended (f a))
  where
    at : (b : Bool) → option_map f (cond b None (Some a)) ≡ cond b None (Some (f a))
    at true = refl
    at false = refl

pub same_map : {A B : Type 0} (f g : A → B) (o : Option A) → ((a : A) → f a ≡ g a) → option_map f o ≡ option_map g o
same_map f g None same = refl
same_map f g (Some a) same = ap (λ b. Some b) (same a)

-- ---- event contracts

-- What a cancel leaves of an event contract.
pub watched_unless : (profile : Profile) (samples : List Sample) (number : ℕ) (request : Option Message)
    → option_and_then (watched_by profile samples) (unless (λ request. bears number (Some request)) request)
    ≡ unless (λ watched. bears number (Some (event_request watched))) (option_and_then (watched_by profile samples) request)
watched_unless profile samples number None = refl
watched_unless profile samples number (Some (EventRequest other limits)) = at (other == number)
  where
    at : (b : Bool) → option_and_then (watched_by profile samples) (cond b None (Some (EventRequest other limits)))
        ≡ cond b None (Some (watched_after profile other limits samples))
    at true = refl
    at false = refl
watched_unless profile samples number (Some message) = at (number_of message == number)
  where
    at : (b : Bool) → option_and_then (watched_by profile samples) (cond b None (Some message))
        ≡ unless (λ watched. bears number (Some (event_request watched))) (watched_by profile samples message)
    at true = refl
    at false = refl

-- ---- numbers and anchors

pub periodic_number_step : (link : ℕ) (noted : Noted) (heard : List Noted) (made given : Bool)
    → accepts Periodic noted ≡ made → (not (accepts Demand noted) && is_periodic_due link noted heard) ≡ given
    → periodic_report_number link (noted ∷ heard) ≡ cond made 0 (periodic_report_number link heard) + cond given 1 0
periodic_number_step link noted heard made given p q = λ i. cond (p i) 0 (periodic_report_number link heard) + cond (q i) 1 0

pub anchor_time_next : (link : ℕ) (noted : Noted) (heard : List Noted) (anchors : Bool)
    → is_anchor link noted heard ≡ anchors → anchor_time link (noted ∷ heard) ≡ cond anchors noted.time (anchor_time link heard)
anchor_time_next link noted heard anchors p = anchor_time_step link noted heard ∙ ap (λ b. cond b noted.time (anchor_time link heard)) p

pub emergency_number_step : (link : ℕ) (noted : Noted) (heard : List Noted) (anchors given : Bool)
    → is_anchor link noted heard ≡ anchors → is_emergency_due link noted heard ≡ given
    → emergency_report_number link (noted ∷ heard) ≡ cond anchors 0 (emergency_report_number link heard) + cond given 1 0
emergency_number_step link noted heard anchors given p q = λ i. cond (p i) 0 (emergency_report_number link heard) + cond (q i) 1 0
