-- An act that leaves a link as it was.
use Rattle.std.proofs.Common.{◌≡◌, ℕ, false, ◌&&◌, ◌==◌, List, ◌∷◌, Option, option_map, option_and_then, unwrap_or, refl, ap}
use Rattle.contract_rules.specs.Configuration.{Profile}
use Rattle.contract_rules.specs.Messages.{Message, Cancel, CancelEmergency, Periodic, Event, Emergency}
use Rattle.contract_rules.specs.Acts.{Said, is_cancel_all}
use Rattle.contract_rules.specs.LiveLinks.{Refused, Repeated, Noted, is_live}
use Rattle.contract_rules.specs.InForce.{accepted_cancel, request_of}
use Rattle.contract_rules.specs.Emergency.{accepted_mode_cancel}
use Rattle.contract_rules.specs.Laws.{SameStanding}
use Rattle.contract_rules.proofs.Unchanged.{standing_still}
use Rattle.contract_table.specs.Connections.{watched_by, anchor_where, connection_of}
use Rattle.contract_table.proofs.Sessions.{said}

-- A link of the same standing is the same.
pub same_connection : (profile : Profile) (link : ℕ) (one other : List Noted) → SameStanding link one other → connection_of profile link one ≡ connection_of profile link other
same_connection profile link one other same =
    λ i. record {
      link = link;
      periodic = option_map (λ contract. record { contract = contract; reports = same.periodic_number i }) (same.contracts Periodic i);
      event = option_and_then (watched_by profile (same.samples i)) (request_of (same.contracts Event i));
      emergency = request_of (same.contracts Emergency i);
      anchor = anchor_where (same.mode i) (unwrap_or (option_map (λ noted. noted.time) (same.anchor i)) 0) (same.emergency_number i);
    }

-- ---- messages that are not accepted

pub refused_kept : (link : ℕ) (message : Message) (reason : ℕ) (request : Option Message) → accepted_cancel request (Said link message) (Refused reason) ≡ false
refused_kept link (Cancel number) reason request = refl
refused_kept link _ reason request = refl

pub refused_mode : (link : ℕ) (message : Message) (reason : ℕ) → accepted_mode_cancel (Said link message) (Refused reason) ≡ false
refused_mode link (CancelEmergency number) reason = refl
refused_mode link _ reason = refl

pub repeated_kept : (link : ℕ) (message : Message) (request : Option Message) → accepted_cancel request (Said link message) Repeated ≡ false
repeated_kept link (Cancel number) request = refl
repeated_kept link _ request = refl

pub repeated_mode : (link : ℕ) (message : Message) → accepted_mode_cancel (Said link message) Repeated ≡ false
repeated_mode link (CancelEmergency number) = refl
repeated_mode link _ = refl

pub refused_step : (profile : Profile) (link : ℕ) (message : Message) (reason time : ℕ) (heard : List Noted) → is_cancel_all (Said link message) ≡ false
    → connection_of profile link (said link message false (Refused reason) time ∷ heard) ≡ connection_of profile link heard
refused_step profile link message reason time heard goes =
    same_connection profile link (said link message false (Refused reason) time ∷ heard) heard
    (standing_still link (said link message false (Refused reason) time) heard
    (record {
      admits_none = refl;
      ends_none = ap (λ e. e && (link == link) && is_live link heard) goes;
      makes_none = λ kind. refl;
      cancels_none = λ contract. refused_kept link message reason (request_of contract);
      cancels_no_mode = refused_mode link message reason;
      no_crew = refl;
      no_periodic = refl;
      no_emergency = refl;
      no_sample = refl;
      no_time = λ t. refl;
    }))

pub repeated_step : (profile : Profile) (link : ℕ) (message : Message) (time : ℕ) (heard : List Noted) → is_cancel_all (Said link message) ≡ false
    → connection_of profile link (said link message false Repeated time ∷ heard) ≡ connection_of profile link heard
repeated_step profile link message time heard goes =
    same_connection profile link (said link message false Repeated time ∷ heard) heard
    (standing_still link (said link message false Repeated time) heard
    (record {
      admits_none = refl;
      ends_none = ap (λ e. e && (link == link) && is_live link heard) goes;
      makes_none = λ kind. refl;
      cancels_none = λ contract. repeated_kept link message (request_of contract);
      cancels_no_mode = repeated_mode link message;
      no_crew = refl;
      no_periodic = refl;
      no_emergency = refl;
      no_sample = refl;
      no_time = λ t. refl;
    }))
