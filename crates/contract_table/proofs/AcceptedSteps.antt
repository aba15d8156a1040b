-- An accepted message: what it makes of a link that is live, or that it admits.
use Rattle.std.proofs.Common.{◌≡◌, ℕ, ◌+◌, Bool, true, false, cond, not, ◌&&◌, ◌||◌, ◌==◌, List, [], ◌∷◌, Option, Some, None, option_map, option_and_then, is_some, refl, ap, sym, ◌∙◌, subst, add-zero}
use Rattle.std.proofs.Math.Bool.{and-false, or-true, or-false}
use Rattle.std.specs.Option.{option_or}
use Rattle.contract_rules.specs.Configuration.{Profile}
use Rattle.contract_rules.specs.Messages.{Message, Kind, CancelAll, Cancel, CancelEmergency, PeriodicRequest, EventRequest, EmergencyRequest, Periodic, Event, Emergency, Demand, Reporting, EventLimits, is_demand, is_request}
use Rattle.contract_rules.specs.Acts.{Said, is_cancel_all, is_crew_act}
use Rattle.contract_rules.specs.LookingBack.{unless, none_such, after_last}
use Rattle.contract_rules.specs.LiveLinks.{Accepted, Noted, admits_link, session_of, session_at}
use Rattle.contract_rules.specs.InForce.{Contract, contract_made, accepts, cancels, in_force, request_of, bears}
use Rattle.contract_rules.specs.Periodic.{is_periodic_due, periodic_report_number}
use Rattle.contract_rules.specs.Emergency.{is_crew_emergency, is_in_emergency_mode, accepted_mode_cancel, is_anchor, is_emergency_due, anchor_time, emergency_report_number}
use Rattle.contract_rules.specs.Events.{samples_since_acceptance}
use Rattle.contract_table.specs.Connections.{Series, Watched, Anchor, Connection, series_of, watched_by, watched_after, event_request, anchor_where, connection_in, connection_of, connection_at}
use Rattle.contract_table.specs.NextConnection.{accepted, moved_to}
use Rattle.contract_table.proofs.Sessions.{said, admits_said, session_said}
use Rattle.contract_rules.proofs.Steps.{unless_none}
use Rattle.contract_table.proofs.Parts.{map_unless, same_map, watched_unless, periodic_number_step, anchor_time_next, emergency_number_step}

-- A link by its parts.
pub from_parts : (profile : Profile) (link : ℕ) (after session : List Noted) (periodic : Option Series) (event : Option Watched) (emergency : Option Message) (anchor : Option Anchor)
    → session_of link after ≡ Some session
    → option_map (series_of link after) (in_force Periodic (Some session)) ≡ periodic
    → option_and_then (watched_by profile (samples_since_acceptance after)) (request_of (in_force Event (Some session))) ≡ event
    → request_of (in_force Emergency (Some session)) ≡ emergency
    → anchor_where (is_in_emergency_mode (Some session) after) (anchor_time link after) (emergency_report_number link after) ≡ anchor
    → connection_of profile link after ≡ record { link = link; periodic = periodic; event = event; emergency = emergency; anchor = anchor }
from_parts profile link after session periodic event emergency anchor s p e m a =
    ap (λ session. connection_in profile link session after (anchor_time link after) (emergency_report_number link after)) s
    ∙ (λ i. record { link = link; periodic = p i; event = e i; emergency = m i; anchor = a i })

module _ (profile : Profile) (link : ℕ) (admits : Bool) (time : ℕ) (heard session : List Noted) (found : session_at admits link heard ≡ Some session) where
  abbrev by : Message → Noted
  by message = said link message admits Accepted time

  abbrev since : ℕ
  since = cond admits time (anchor_time link heard)

  abbrev reports : ℕ
  reports = cond admits 0 (emergency_report_number link heard)

  abbrev mode : Bool
  mode = is_in_emergency_mode (Some session) heard

  abbrev before : Connection
  before = connection_in profile link (Some session) heard since reports

  admits_own : (message : Message) → admits_link link (by message) ≡ admits
  admits_own message = admits_said link message admits Accepted time

  -- ---- what a message leaves as it was

  in_force_left : (kind : Kind) (message : Message) → contract_made kind (by message) ≡ None
      → ((contract : Option Contract) → cancels contract (by message) ≡ false)
      → in_force kind (Some (by message ∷ session)) ≡ in_force kind (Some session)
  in_force_left kind message none kept =
      (λ i. option_or (none i) (unless (λ contract. kept (Some contract) i) (in_force kind (Some session))))
      ∙ unless_none (in_force kind (Some session))

  series_left : (message : Message) → accepts Periodic (by message) ≡ false
      → (not (accepts Demand (by message)) && is_periodic_due link (by message) heard) ≡ false
      → (contract : Contract) → series_of link (by message ∷ heard) contract ≡ series_of link heard contract
  series_left message none other contract =
      ap (λ n. record { contract = contract; reports = n })
      (periodic_number_step link (by message) heard false false none other ∙ add-zero (periodic_report_number link heard))

  mode_left : (message : Message) → accepted_mode_cancel (Said link message) Accepted ≡ false
      → is_in_emergency_mode (Some (by message ∷ session)) (by message ∷ heard) ≡ mode
  mode_left message kept =
      ap (λ c. is_crew_emergency heard && (not c && none_such (λ noted _. accepted_mode_cancel noted.act noted.verdict) (after_last (λ noted _. is_crew_act noted.act) session))) kept

  anchor_left : (message : Message)
      → accepted_mode_cancel (Said link message) Accepted ≡ false
      → is_anchor link (by message) heard ≡ admits
      → is_emergency_due link (by message) heard ≡ false
      → anchor_where (is_in_emergency_mode (Some (by message ∷ session)) (by message ∷ heard)) (anchor_time link (by message ∷ heard)) (emergency_report_number link (by message ∷ heard))
      ≡ anchor_where mode since reports
  anchor_left message kept anchors given =
      λ i. anchor_where (mode_left message kept i) (anchor_time_next link (by message) heard admits anchors i)
      ((emergency_number_step link (by message) heard admits false anchors given ∙ add-zero reports) i)

  -- ---- a periodic request or a demand

  periodic_series : (asked : Reporting) → option_map (series_of link (by (PeriodicRequest asked) ∷ heard)) (in_force Periodic (Some (by (PeriodicRequest asked) ∷ session)))
      ≡ cond (is_demand asked.interval) (option_map (series_of link heard) (in_force Periodic (Some session)))
      (Some (record { contract = record { request = PeriodicRequest asked; since = time }; reports = 1 }))
  periodic_series asked = at (is_demand asked.interval) refl
    where
      at : (b : Bool) → is_demand asked.interval ≡ b
          → option_map (series_of link (by (PeriodicRequest asked) ∷ heard)) (in_force Periodic (Some (by (PeriodicRequest asked) ∷ session)))
          ≡ cond b (option_map (series_of link heard) (in_force Periodic (Some session)))
          (Some (record { contract = record { request = PeriodicRequest asked; since = time }; reports = 1 }))
      at true demand =
          let none : contract_made Periodic (by (PeriodicRequest asked)) ≡ None = ap (λ b. cond (not b) (Some (record { request = PeriodicRequest asked; since = time })) None) demand in
          let made : contract_made Demand (by (PeriodicRequest asked)) ≡ Some (record { request = PeriodicRequest asked; since = time }) = ap (λ b. cond b (Some (record { request = PeriodicRequest asked; since = time })) None) demand in
          ap (option_map (series_of link (by (PeriodicRequest asked) ∷ heard))) (in_force_left Periodic (PeriodicRequest asked) none (λ contract. refl))
          ∙ same_map (series_of link (by (PeriodicRequest asked) ∷ heard)) (series_of link heard) (in_force Periodic (Some session))
          (series_left (PeriodicRequest asked) (ap is_some none) (ap (λ o. not (is_some o) && true) made))
      at false lasting =
          let made : contract_made Periodic (by (PeriodicRequest asked)) ≡ Some (record { request = PeriodicRequest asked; since = time }) = ap (λ b. cond (not b) (Some (record { request = PeriodicRequest asked; since = time })) None) lasting in
          let no_demand : contract_made Demand (by (PeriodicRequest asked)) ≡ None = ap (λ b. cond b (Some (record { request = PeriodicRequest asked; since = time })) None) lasting in
          ap (λ m. option_map (series_of link (by (PeriodicRequest asked) ∷ heard)) (option_or m (unless (λ contract. cancels (Some contract) (by (PeriodicRequest asked))) (in_force Periodic (Some session))))) made
          ∙ ap (λ n. Some (record { contract = record { request = PeriodicRequest asked; since = time }; reports = n }))
          (periodic_number_step link (by (PeriodicRequest asked)) heard true true (ap is_some made) (ap (λ o. not (is_some o) && true) no_demand))

  -- The periodic contract and the event contract that a message of another kind leaves.
  periodic_left : (message : Message) → contract_made Periodic (by message) ≡ None → ((contract : Option Contract) → cancels contract (by message) ≡ false)
      → (not (accepts Demand (by message)) && is_periodic_due link (by message) heard) ≡ false
      → option_map (series_of link (by message ∷ heard)) (in_force Periodic (Some (by message ∷ session))) ≡ before.periodic
  periodic_left message none kept other =
      ap (option_map (series_of link (by message ∷ heard))) (in_force_left Periodic message none kept)
      ∙ same_map (series_of link (by message ∷ heard)) (series_of link heard) (in_force Periodic (Some session)) (series_left message (ap is_some none) other)

  event_left : (message : Message) → contract_made Event (by message) ≡ None → ((contract : Option Contract) → cancels contract (by message) ≡ false)
      → samples_since_acceptance (by message ∷ heard) ≡ samples_since_acceptance heard
      → option_and_then (watched_by profile (samples_since_acceptance (by message ∷ heard))) (request_of (in_force Event (Some (by message ∷ session)))) ≡ before.event
  event_left message none kept same =
      λ i. option_and_then (watched_by profile (same i)) (request_of (in_force_left Event message none kept i))

  pub periodic_accepted : (asked : Reporting) → connection_of profile link (by (PeriodicRequest asked) ∷ heard) ≡ accepted profile time (PeriodicRequest asked) before
  periodic_accepted asked =
      from_parts profile link (by (PeriodicRequest asked) ∷ heard) (by (PeriodicRequest asked) ∷ session)
      (cond (is_demand asked.interval) before.periodic (Some (record { contract = record { request = PeriodicRequest asked; since = time }; reports = 1 })))
      before.event before.emergency before.anchor
      (session_said link (PeriodicRequest asked) admits Accepted time heard session refl found)
      (periodic_series asked)
      (event_left (PeriodicRequest asked) refl (λ contract. refl) refl)
      (ap request_of (in_force_left Emergency (PeriodicRequest asked) refl (λ contract. refl)))
      (anchor_left (PeriodicRequest asked) refl ((λ i. admits_own (PeriodicRequest asked) i || false || false) ∙ or-false (admits || false) ∙ or-false admits) refl)
      ∙ at (is_demand asked.interval)
    where
      at : (b : Bool) → record { link = link; periodic = cond b before.periodic (Some (record { contract = record { request = PeriodicRequest asked; since = time }; reports = 1 })); event = before.event; emergency = before.emergency; anchor = before.anchor }
          ≡ cond b before (record before { periodic = Some (record { contract = record { request = PeriodicRequest asked; since = time }; reports = 1 }) })
      at true = refl
      at false = refl

  -- ---- an event request

  pub event_accepted : (number : ℕ) (limits : EventLimits) → connection_of profile link (by (EventRequest number limits) ∷ heard) ≡ accepted profile time (EventRequest number limits) before
  event_accepted number limits =
      from_parts profile link (by (EventRequest number limits) ∷ heard) (by (EventRequest number limits) ∷ session)
      before.periodic (Some (watched_after profile number limits [])) before.emergency before.anchor
      (session_said link (EventRequest number limits) admits Accepted time heard session refl found)
      (periodic_left (EventRequest number limits) refl (λ contract. refl) refl)
      refl
      (ap request_of (in_force_left Emergency (EventRequest number limits) refl (λ contract. refl)))
      (anchor_left (EventRequest number limits) refl ((λ i. admits_own (EventRequest number limits) i || false || false) ∙ or-false (admits || false) ∙ or-false admits) refl)

  -- ---- an emergency request

  emergency_anchor : (asked : Reporting)
      → anchor_where (is_in_emergency_mode (Some (by (EmergencyRequest asked) ∷ session)) (by (EmergencyRequest asked) ∷ heard)) (anchor_time link (by (EmergencyRequest asked) ∷ heard)) (emergency_report_number link (by (EmergencyRequest asked) ∷ heard))
      ≡ moved_to time 1 before.anchor
  emergency_anchor asked =
      (λ i. anchor_where (mode_left (EmergencyRequest asked) refl i) (anchor_time_next link (by (EmergencyRequest asked)) heard true anchors i) (emergency_number_step link (by (EmergencyRequest asked)) heard true mode anchors given i))
      ∙ at mode
    where
      anchors : is_anchor link (by (EmergencyRequest asked)) heard ≡ true
      anchors = ap (λ b. b || cancels (in_force Emergency (session_of link heard)) (by (EmergencyRequest asked))) (or-true (admits && (link == link)))

      given : is_emergency_due link (by (EmergencyRequest asked)) heard ≡ mode
      given = ap (λ s. is_in_emergency_mode s heard) found

      at : (m : Bool) → anchor_where m time (0 + cond m 1 0) ≡ moved_to time 1 (anchor_where m since reports)
      at true = refl
      at false = refl

  pub emergency_accepted : (asked : Reporting) → connection_of profile link (by (EmergencyRequest asked) ∷ heard) ≡ accepted profile time (EmergencyRequest asked) before
  emergency_accepted asked =
      from_parts profile link (by (EmergencyRequest asked) ∷ heard) (by (EmergencyRequest asked) ∷ session)
      before.periodic before.event (Some (EmergencyRequest asked)) (moved_to time 1 before.anchor)
      (session_said link (EmergencyRequest asked) admits Accepted time heard session refl found)
      (periodic_left (EmergencyRequest asked) refl (λ contract. refl) refl)
      (event_left (EmergencyRequest asked) refl (λ contract. refl) refl)
      refl
      (emergency_anchor asked)

  -- ---- a cancel of emergency mode

  pub mode_cancelled : (number : ℕ) → connection_of profile link (by (CancelEmergency number) ∷ heard) ≡ accepted profile time (CancelEmergency number) before
  mode_cancelled number =
      from_parts profile link (by (CancelEmergency number) ∷ heard) (by (CancelEmergency number) ∷ session)
      before.periodic before.event before.emergency None
      (session_said link (CancelEmergency number) admits Accepted time heard session refl found)
      (periodic_left (CancelEmergency number) refl (λ contract. refl) refl)
      (event_left (CancelEmergency number) refl (λ contract. refl) refl)
      (ap request_of (in_force_left Emergency (CancelEmergency number) refl (λ contract. refl)))
      (ap (λ m. anchor_where m (anchor_time link (by (CancelEmergency number) ∷ heard)) (emergency_report_number link (by (CancelEmergency number) ∷ heard))) (and-false (is_crew_emergency heard)))

-- ---- a cancel of a contract, which admits no link

module _ (profile : Profile) (link number time : ℕ) (heard session : List Noted) (found : session_of link heard ≡ Some session) where
  abbrev cancel : Noted
  cancel = said link (Cancel number) false Accepted time

  abbrev held : Connection
  held = connection_in profile link (Some session) heard (anchor_time link heard) (emergency_report_number link heard)

  cancelled_periodic : option_map (series_of link (cancel ∷ heard)) (in_force Periodic (Some (cancel ∷ session)))
      ≡ unless (λ series. bears number (Some series.contract.request)) held.periodic
  cancelled_periodic =
      same_map (series_of link (cancel ∷ heard)) (series_of link heard) (unless (λ contract. bears number (Some contract.request)) (in_force Periodic (Some session)))
      (λ contract. ap (λ n. record { contract = contract; reports = n }) (add-zero (periodic_report_number link heard)))
      ∙ map_unless (series_of link heard) (λ series. bears number (Some series.contract.request)) (in_force Periodic (Some session))

  cancelled_event : option_and_then (watched_by profile (samples_since_acceptance (cancel ∷ heard))) (request_of (in_force Event (Some (cancel ∷ session))))
      ≡ unless (λ watched. bears number (Some (event_request watched))) held.event
  cancelled_event =
      ap (option_and_then (watched_by profile (samples_since_acceptance (cancel ∷ heard)))) (map_unless (λ (contract : Contract). contract.request) (λ request. bears number (Some request)) (in_force Event (Some session)))
      ∙ watched_unless profile (samples_since_acceptance heard) number (request_of (in_force Event (Some session)))

  cancelled_anchor : anchor_where (is_in_emergency_mode (Some (cancel ∷ session)) (cancel ∷ heard)) (anchor_time link (cancel ∷ heard)) (emergency_report_number link (cancel ∷ heard))
      ≡ cond (bears number held.emergency) (moved_to time 0 held.anchor) held.anchor
  cancelled_anchor =
      (λ i. anchor_where (is_in_emergency_mode (Some session) heard) (anchor_time_next link cancel heard (bears number held.emergency) anchors i)
      ((emergency_number_step link cancel heard (bears number held.emergency) false anchors refl ∙ add-zero (cond (bears number held.emergency) 0 (emergency_report_number link heard))) i))
      ∙ at (bears number held.emergency) (is_in_emergency_mode (Some session) heard)
    where
      anchors : is_anchor link cancel heard ≡ bears number held.emergency
      anchors = ap (λ session. bears number (request_of (in_force Emergency session))) found

      at : (c m : Bool) → anchor_where m (cond c time (anchor_time link heard)) (cond c 0 (emergency_report_number link heard))
          ≡ cond c (moved_to time 0 (anchor_where m (anchor_time link heard) (emergency_report_number link heard))) (anchor_where m (anchor_time link heard) (emergency_report_number link heard))
      at true true = refl
      at true false = refl
      at false m = refl

  pub contract_cancelled : connection_of profile link (cancel ∷ heard) ≡ accepted profile time (Cancel number) held
  contract_cancelled =
      from_parts profile link (cancel ∷ heard) (cancel ∷ session)
      (unless (λ series. bears number (Some series.contract.request)) held.periodic)
      (unless (λ watched. bears number (Some (event_request watched))) held.event)
      (unless (λ request. bears number (Some request)) held.emergency)
      (cond (bears number held.emergency) (moved_to time 0 held.anchor) held.anchor)
      (session_said link (Cancel number) false Accepted time heard session refl found)
      cancelled_periodic cancelled_event
      (map_unless (λ (contract : Contract). contract.request) (λ request. bears number (Some request)) (in_force Emergency (Some session)))
      cancelled_anchor

-- ---- every message

-- An accepted message makes of the link that it finds what the step says.
pub accepted_step : (profile : Profile) (link : ℕ) (message : Message) (admits : Bool) (time : ℕ) (heard session : List Noted)
    → is_cancel_all (Said link message) ≡ false → (is_request message ≡ false → admits ≡ false)
    → session_at admits link heard ≡ Some session
    → connection_of profile link (said link message admits Accepted time ∷ heard) ≡ accepted profile time message (connection_at profile link admits time heard)
accepted_step profile link message admits time heard session goes asked found =
    by message goes asked
    ∙ ap (λ s. accepted profile time message (connection_in profile link s heard (cond admits time (anchor_time link heard)) (cond admits 0 (emergency_report_number link heard)))) (sym found)
  where
    before : Connection
    before = connection_in profile link (Some session) heard (cond admits time (anchor_time link heard)) (cond admits 0 (emergency_report_number link heard))

    by : (m : Message) → is_cancel_all (Said link m) ≡ false → (is_request m ≡ false → admits ≡ false)
        → connection_of profile link (said link m admits Accepted time ∷ heard)
        ≡ accepted profile time m (connection_in profile link (Some session) heard (cond admits time (anchor_time link heard)) (cond admits 0 (emergency_report_number link heard)))
    by CancelAll goes asked = absurd (let both : true ≡ false = goes in cc)
    by (Cancel number) goes asked =
        subst (λ a. session_at a link heard ≡ Some session → connection_of profile link (said link (Cancel number) a Accepted time ∷ heard) ≡ accepted profile time (Cancel number) (connection_in profile link (Some session) heard (cond a time (anchor_time link heard)) (cond a 0 (emergency_report_number link heard))))
        (sym (asked refl)) (λ found. contract_cancelled profile link number time heard session found) found
    by (CancelEmergency number) goes asked = mode_cancelled profile link admits time heard session found number
    by (PeriodicRequest reporting) goes asked = periodic_accepted profile link admits time heard session found reporting
    by (EventRequest number limits) goes asked = event_accepted profile link admits time heard session found number limits
    by (EmergencyRequest reporting) goes asked = emergency_accepted profile link admits time heard session found reporting
