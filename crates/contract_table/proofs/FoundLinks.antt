-- The link that a message finds: its contracts in force, its mode, and the verdict.
use Rattle.std.proofs.Common.{◌≡◌, ℕ, Bool, true, false, cond, ◌&&◌, ◌==◌, List, [], ◌∷◌, Option, Some, None, option_map, option_and_then, is_some, refl, sym, ◌∙◌}
use Rattle.std.specs.Option.{option_or}
use Rattle.std.proofs.Math.Bool.{and-true}
use Rattle.contract_rules.specs.Configuration.{Profile}
use Rattle.contract_rules.specs.Messages.{Message, CancelAll, Cancel, CancelEmergency, PeriodicRequest, EventRequest, EmergencyRequest, Periodic, Event, Emergency, is_request, number_of}
use Rattle.contract_rules.specs.Acts.{Act, Said, Malformed, Moved, Ticked, Crew, Sample, concerns, is_cancel_all, is_crew_act}
use Rattle.contract_rules.specs.LookingBack.{unless, last_such}
use Rattle.contract_rules.specs.LiveLinks.{Verdict, Accepted, Refused, Repeated, Noted, heard_on}
use Rattle.contract_rules.specs.InForce.{Contract, Requests, contract_made, cancels, in_force, request_of, requests_in_force, is_number_in_force, is_repeat}
use Rattle.contract_rules.specs.Emergency.{is_crew_emergency, is_in_emergency_mode, turned_on, emergency_number}
use Rattle.contract_rules.specs.Events.{samples_since_acceptance}
use Rattle.contract_rules.specs.Verdicts.{verdict_on, accept_where}
use Rattle.contract_table.specs.Connections.{Series, Connection, requests_of, event_request, series_of, watched_by, anchor_where, connection_in}
use Rattle.contract_table.specs.Messages.{verdict_by}
use Rattle.contract_table.specs.NextConnection.{admitted}
use Rattle.contract_table.proofs.FlightSteps.{has_anchor}

-- ---- the requests of its contracts

module _ (profile : Profile) (samples : List Sample) where
  abbrev IsEvent : Option Contract → Type 0
  IsEvent held = option_map event_request (option_and_then (watched_by profile samples) (request_of held)) ≡ request_of held

  made_is_event : (noted : Noted) → IsEvent (contract_made Event noted)
  made_is_event noted = by noted.act noted.verdict
    where
      by : (act : Act) (verdict : Verdict) → IsEvent (contract_made Event (record { act = act; admits = noted.admits; verdict = verdict; time = noted.time }))
      by (Said link (EventRequest number limits)) Accepted = refl
      by (Said link _) Accepted = refl
      by (Said link message) _ = refl
      by _ verdict = refl

  left_is_event : (held : Option Contract) (ended : Contract → Bool) → IsEvent held → IsEvent (unless ended held)
  left_is_event None ended is = refl
  left_is_event (Some contract) ended is = by (ended contract)
    where
      by : (b : Bool) → IsEvent (cond b None (Some contract))
      by true = refl
      by false = is

  either_is_event : (made held : Option Contract) → IsEvent made → IsEvent held → IsEvent (option_or made held)
  either_is_event None held is_made is_held = is_held
  either_is_event (Some contract) held is_made is_held = is_made

  -- The event contract in force has the request of an event contract.
  pub event_in_force : (session : List Noted) → IsEvent (in_force Event (Some session))
  event_in_force [] = refl
  event_in_force (noted ∷ session) =
      either_is_event (contract_made Event noted) (unless (λ contract. cancels (Some contract) noted) (in_force Event (Some session)))
      (made_is_event noted) (left_is_event (in_force Event (Some session)) (λ contract. cancels (Some contract) noted) (event_in_force session))

pub periodic_request : (link : ℕ) (heard : List Noted) (held : Option Contract)
    → option_map (λ (series : Series). series.contract.request) (option_map (series_of link heard) held) ≡ request_of held
periodic_request link heard None = refl
periodic_request link heard (Some contract) = refl

module _ (profile : Profile) (link : ℕ) (heard session : List Noted) (since reports : ℕ) where
  abbrev found : Connection
  found = connection_in profile link (Some session) heard since reports

  pub requests_found : requests_of found ≡ requests_in_force (Some session)
  requests_found =
      λ i. record {
        periodic = periodic_request link heard (in_force Periodic (Some session)) i;
        event = event_in_force profile (samples_since_acceptance heard) session i;
        emergency = request_of (in_force Emergency (Some session));
      }

  pub mode_found : is_some found.anchor ≡ is_in_emergency_mode (Some session) heard
  mode_found = has_anchor (is_in_emergency_mode (Some session) heard) since reports

  pub verdict_found : (message : Message) → verdict_by found message ≡ verdict_on (requests_in_force (Some session)) (is_in_emergency_mode (Some session) heard) message
  verdict_found message = λ i. verdict_on (requests_found i) (mode_found i) message

-- ---- a link that is admitted

-- The flight's crew acts are heard on every link.
pub crew_on_heard : (link : ℕ) (past : List Noted) → is_crew_emergency (heard_on link past) ≡ is_crew_emergency past
crew_on_heard link [] = refl
crew_on_heard link (noted ∷ past) = at (concerns link noted.act) refl (is_crew_act noted.act) refl (crew_on_heard link past)
  where
    apart : (act : Act) → concerns link act ≡ false → is_crew_act act ≡ true → ⊥
    apart (Crew on) e c = let both : true ≡ false = e in cc
    apart (Said other message) e c = let both : false ≡ true = c in cc
    apart (Malformed other fault) e c = let both : false ≡ true = c in cc
    apart (Moved before now) e c = let both : false ≡ true = c in cc
    apart (Ticked tick) e c = let both : false ≡ true = c in cc

    at : (b : Bool) → concerns link noted.act ≡ b → (c : Bool) → is_crew_act noted.act ≡ c → is_crew_emergency (heard_on link past) ≡ is_crew_emergency past
        → is_crew_emergency (cond b (noted ∷ heard_on link past) (heard_on link past)) ≡ is_crew_emergency (noted ∷ past)
    at true e true c same =
        (λ i. turned_on (cond (c i) (Some noted) (last_such (λ noted _. is_crew_act noted.act) (heard_on link past))))
        ∙ sym (λ i. turned_on (cond (c i) (Some noted) (last_such (λ noted _. is_crew_act noted.act) past)))
    at true e false c same =
        (λ i. turned_on (cond (c i) (Some noted) (last_such (λ noted _. is_crew_act noted.act) (heard_on link past))))
        ∙ same ∙ sym (λ i. turned_on (cond (c i) (Some noted) (last_such (λ noted _. is_crew_act noted.act) past)))
    at false e true c same = absurd (apart noted.act e c)
    at false e false c same = same ∙ sym (λ i. turned_on (cond (c i) (Some noted) (last_such (λ noted _. is_crew_act noted.act) past)))

pub admitted_is : (profile : Profile) (link : ℕ) (past : List Noted) (time : ℕ)
    → connection_in profile link (Some []) (heard_on link past) time 0 ≡ admitted link (is_crew_emergency past) time
admitted_is profile link past time =
    λ i. record {
      link = link;
      periodic = None;
      event = None;
      emergency = None;
      anchor = anchor_where ((and-true (is_crew_emergency (heard_on link past)) ∙ crew_on_heard link past) i) time 0;
    }

-- ---- verdicts

-- A request that admits its link is accepted.
pub request_accepted : (message : Message) (mode : Bool) → is_request message ≡ true → verdict_on (requests_in_force (Some [])) mode message ≡ Accepted
request_accepted (PeriodicRequest asked) mode is = refl
request_accepted (EventRequest number limits) mode is = refl
request_accepted (EmergencyRequest asked) mode is = refl
request_accepted CancelAll mode is = absurd (let both : false ≡ true = is in cc)
request_accepted (Cancel number) mode is = absurd (let both : false ≡ true = is in cc)
request_accepted (CancelEmergency number) mode is = absurd (let both : false ≡ true = is in cc)

-- Whether a verdict is one on a message that ends no session.
abbrev pub is_given : Verdict → Bool
is_given Accepted = true
is_given (Refused reason) = true
is_given Repeated = true
is_given _ = false

pub given : (link : ℕ) (requests : Requests) (mode : Bool) (message : Message) → is_cancel_all (Said link message) ≡ false → is_given (verdict_on requests mode message) ≡ true
given link requests mode CancelAll goes = absurd (let both : true ≡ false = goes in cc)
given link requests mode (Cancel number) goes = by (is_number_in_force number requests)
  where
    by : (b : Bool) → is_given (accept_where b) ≡ true
    by true = refl
    by false = refl
given link requests mode (CancelEmergency number) goes = by (mode && number == emergency_number requests.emergency)
  where
    by : (b : Bool) → is_given (accept_where b) ≡ true
    by true = refl
    by false = refl
given link requests mode message goes = by (is_repeat message requests) (is_number_in_force (number_of message) requests)
  where
    by : (r n : Bool) → is_given (cond r Repeated (cond n (Refused 6) Accepted)) ≡ true
    by true n = refl
    by false true = refl
    by false false = refl
