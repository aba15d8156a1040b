-- An act of the flight: what it makes of a live link.
use Rattle.std.proofs.Common.{◌≡◌, ℕ, ◌+◌, max, Bool, true, false, cond, not, ◌&&◌, ◌||◌, List, ◌∷◌, Option, Some, None, option_map, option_and_then, is_none, is_some, refl, ap, sym, ◌∙◌, add-zero}
use Rattle.std.proofs.Math.Bool.{and-true}
use Rattle.std.specs.List.{list_any}
use Rattle.contract_rules.specs.Configuration.{Profile}
use Rattle.contract_rules.specs.Messages.{Message, EventRequest, EventLimits, Periodic, Event, Emergency}
use Rattle.contract_rules.specs.Acts.{Moved, Ticked, Crew, Sample}
use Rattle.contract_rules.specs.LookingBack.{from_last}
use Rattle.contract_rules.specs.LiveLinks.{OfFlight, Noted, is_live, session_of, admits_link}
use Rattle.contract_rules.specs.InForce.{Contract, in_force, request_of}
use Rattle.contract_rules.specs.Reports.{crosses}
use Rattle.contract_rules.specs.Periodic.{is_periodic_due, periodic_report_number, crosses_since}
use Rattle.contract_rules.specs.Emergency.{is_in_emergency_mode, is_emergency_due, anchor_time, emergency_report_number, emergency_interval}
use Rattle.contract_rules.specs.Events.{Limit, Lateral, VerticalRate, Range, arms_again, exceeds, last_exceeds, samples_since_acceptance}
use Rattle.due_event.specs.Triggers.{trigger_moved}
use Rattle.contract_table.specs.Connections.{Series, Connection, series_of, watched_by, watched_after, trigger_of, anchor_where, connection_in, connection_of}
use Rattle.contract_table.specs.NextConnection.{series_counted, anchor_counted, is_series_due, crosses_from, is_anchor_due, ticked, watched_on, moved, crewed}
use Rattle.contract_table.proofs.Sessions.{session_going}
use Rattle.contract_rules.proofs.Steps.{unless_none}
use Rattle.contract_table.proofs.Parts.{same_map, periodic_number_step, anchor_time_next, emergency_number_step}
use Rattle.contract_table.proofs.AcceptedSteps.{from_parts}

-- ---- what the step looks at

-- The contract of the periodic series is the one in force.
pub series_contract : (link : ℕ) (heard : List Noted) (held : Option Contract) → option_map (λ (series : Series). series.contract) (option_map (series_of link heard) held) ≡ held
series_contract link heard None = refl
series_contract link heard (Some contract) = refl

-- A link has an anchor where it is in emergency mode.
pub has_anchor : (mode : Bool) (since reports : ℕ) → is_some (anchor_where mode since reports) ≡ mode
has_anchor true since reports = refl
has_anchor false since reports = refl

pub has_no_anchor : (mode : Bool) (since reports : ℕ) → is_none (anchor_where mode since reports) ≡ not mode
has_no_anchor true since reports = refl
has_no_anchor false since reports = refl

pub anchor_crossed : (mode : Bool) (since reports interval t0 t1 : ℕ) → crosses_from interval (anchor_where mode since reports) t0 t1 ≡ (mode && crosses since interval t0 t1)
anchor_crossed true since reports interval t0 t1 = refl
anchor_crossed false since reports interval t0 t1 = refl

-- ---- a tick

module _ (profile : Profile) (link tick time : ℕ) (heard session : List Noted) (found : session_of link heard ≡ Some session) where
  abbrev at : Noted
  at = record { act = Ticked tick; admits = false; verdict = OfFlight; time = time }

  abbrev t1 : ℕ
  t1 = max time tick

  abbrev before : Connection
  before = connection_in profile link (Some session) heard (anchor_time link heard) (emergency_report_number link heard)

  pub series_due : is_periodic_due link at heard ≡ is_series_due time t1 before
  series_due =
      ap (λ s. not (is_in_emergency_mode s heard) && crosses_since (in_force Periodic s) time t1) found
      ∙ (λ i. sym (has_no_anchor (is_in_emergency_mode (Some session) heard) (anchor_time link heard) (emergency_report_number link heard)) i
      && crosses_since (sym (series_contract link heard (in_force Periodic (Some session))) i) time t1)

  pub anchor_due : is_emergency_due link at heard ≡ is_anchor_due time t1 before
  anchor_due =
      ap (λ s. is_in_emergency_mode s heard && crosses (anchor_time link heard) (emergency_interval (request_of (in_force Emergency s))) time t1) found
      ∙ sym (anchor_crossed (is_in_emergency_mode (Some session) heard) (anchor_time link heard) (emergency_report_number link heard) (emergency_interval (request_of (in_force Emergency (Some session)))) time t1)

  tick_series : option_map (series_of link (at ∷ heard)) (in_force Periodic (Some (at ∷ session)))
      ≡ option_map (series_counted (is_series_due time t1 before)) before.periodic
  tick_series =
      ap (option_map (series_of link (at ∷ heard))) (unless_none (in_force Periodic (Some session)))
      ∙ over (in_force Periodic (Some session))
    where
      over : (held : Option Contract) → option_map (series_of link (at ∷ heard)) held ≡ option_map (series_counted (is_series_due time t1 before)) (option_map (series_of link heard) held)
      over None = refl
      over (Some contract) = ap (λ n. Some (record { contract = contract; reports = n })) (periodic_number_step link at heard false (is_series_due time t1 before) refl series_due)

  tick_anchor : anchor_where (is_in_emergency_mode (Some (at ∷ session)) (at ∷ heard)) (anchor_time link (at ∷ heard)) (emergency_report_number link (at ∷ heard))
      ≡ option_map (anchor_counted (is_anchor_due time t1 before)) before.anchor
  tick_anchor =
      (λ i. anchor_where (is_in_emergency_mode (Some session) heard) (anchor_time_next link at heard false refl i) (emergency_number_step link at heard false (is_anchor_due time t1 before) refl anchor_due i))
      ∙ by (is_in_emergency_mode (Some session) heard)
    where
      by : (m : Bool) → anchor_where m (anchor_time link heard) (emergency_report_number link heard + cond (is_anchor_due time t1 before) 1 0)
          ≡ option_map (anchor_counted (is_anchor_due time t1 before)) (anchor_where m (anchor_time link heard) (emergency_report_number link heard))
      by true = refl
      by false = refl

  pub tick_step : connection_of profile link (at ∷ heard) ≡ ticked time t1 before
  tick_step =
      from_parts profile link (at ∷ heard) (at ∷ session)
      (option_map (series_counted (is_series_due time t1 before)) before.periodic)
      before.event before.emergency
      (option_map (anchor_counted (is_anchor_due time t1 before)) before.anchor)
      (session_going link at heard session refl refl found)
      tick_series
      (ap (λ held. option_and_then (watched_by profile (samples_since_acceptance heard)) (request_of held)) (unless_none (in_force Event (Some session))))
      (ap request_of (unless_none (in_force Emergency (Some session))))
      tick_anchor

-- ---- a sample

-- A limit's event that arms again is spent by the last sample alone, and else by any.
pub spent_next : (again exceeded last some : Bool) → cond again exceeded (exceeded || some) ≡ cond again exceeded (exceeded || cond again last some)
spent_next true exceeded last some = refl
spent_next false exceeded last some = refl

-- The event of a limit after one more sample.
pub trigger_step : (profile : Profile) (limit : Limit) (limits : EventLimits) (now : Sample) (samples : List Sample)
    → trigger_of profile limit limits (now ∷ samples) ≡ trigger_moved (exceeds limit limits now) (trigger_of profile limit limits samples)
trigger_step profile limit limits now samples =
    λ i. record {
      arms_again = arms_again profile limit;
      spent = (spent_next (arms_again profile limit) (exceeds limit limits now) (last_exceeds limit limits samples) (list_any (exceeds limit limits) samples)) i;
    }

pub watched_step : (profile : Profile) (number : ℕ) (limits : EventLimits) (now : Sample) (samples : List Sample)
    → watched_after profile number limits (now ∷ samples) ≡ watched_on now (watched_after profile number limits samples)
watched_step profile number limits now samples =
    λ i. record {
      number = number;
      limits = limits;
      lateral = trigger_step profile Lateral limits now samples i;
      vertical_rate = trigger_step profile VerticalRate limits now samples i;
      range = trigger_step profile Range limits now samples i;
    }

module _ (profile : Profile) (link time : ℕ) (earlier now : Sample) (heard session : List Noted) (found : session_of link heard ≡ Some session) where
  abbrev sample : Noted
  sample = record { act = Moved earlier now; admits = false; verdict = OfFlight; time = time }

  abbrev unmoved : Connection
  unmoved = connection_in profile link (Some session) heard (anchor_time link heard) (emergency_report_number link heard)

  watched_sample : (request : Option Message) → option_and_then (watched_by profile (samples_since_acceptance (sample ∷ heard))) request ≡ option_map (watched_on now) (option_and_then (watched_by profile (samples_since_acceptance heard)) request)
  watched_sample None = refl
  watched_sample (Some (EventRequest number limits)) = ap (λ w. Some w) (watched_step profile number limits now (samples_since_acceptance heard))
  watched_sample (Some _) = refl

  pub sample_step : connection_of profile link (sample ∷ heard) ≡ moved now unmoved
  sample_step =
      from_parts profile link (sample ∷ heard) (sample ∷ session)
      unmoved.periodic (option_map (watched_on now) unmoved.event) unmoved.emergency unmoved.anchor
      (session_going link sample heard session refl refl found)
      (ap (option_map (series_of link (sample ∷ heard))) (unless_none (in_force Periodic (Some session)))
      ∙ same_map (series_of link (sample ∷ heard)) (series_of link heard) (in_force Periodic (Some session))
      (λ contract. ap (λ n. record { contract = contract; reports = n }) (add-zero (periodic_report_number link heard))))
      (ap (λ held. option_and_then (watched_by profile (samples_since_acceptance (sample ∷ heard))) (request_of held)) (unless_none (in_force Event (Some session)))
      ∙ watched_sample (request_of (in_force Event (Some session))))
      (ap request_of (unless_none (in_force Emergency (Some session))))
      (ap (λ n. anchor_where (is_in_emergency_mode (Some session) heard) (anchor_time link heard) n) (add-zero (emergency_report_number link heard)))

-- ---- a crew act

pub live_session : (link : ℕ) (heard session : List Noted) → session_of link heard ≡ Some session → is_live link heard ≡ true
live_session link heard session found = by (is_live link heard) found
  where
    by : (l : Bool) → cond l (Some (from_last (λ noted _. admits_link link noted) heard)) None ≡ Some session → l ≡ true
    by true e = refl
    by false e = absurd (let other : None ≡ Some session = e in cc)

module _ (profile : Profile) (link time : ℕ) (on : Bool) (heard session : List Noted) (found : session_of link heard ≡ Some session) where
  abbrev crew : Noted
  crew = record { act = Crew on; admits = false; verdict = OfFlight; time = time }

  abbrev uncrewed : Connection
  uncrewed = connection_in profile link (Some session) heard (anchor_time link heard) (emergency_report_number link heard)

  crew_anchor : anchor_where (is_in_emergency_mode (Some (crew ∷ session)) (crew ∷ heard)) (anchor_time link (crew ∷ heard)) (emergency_report_number link (crew ∷ heard))
      ≡ anchor_where on time 1
  crew_anchor =
      (λ i. anchor_where (and-true on i) time (0 + cond (on && live_session link heard session found i) 1 0)) ∙ by on
    where
      by : (b : Bool) → anchor_where b time (0 + cond (b && true) 1 0) ≡ anchor_where b time 1
      by true = refl
      by false = refl

  pub crew_step : connection_of profile link (crew ∷ heard) ≡ crewed on time uncrewed
  crew_step =
      from_parts profile link (crew ∷ heard) (crew ∷ session)
      uncrewed.periodic uncrewed.event uncrewed.emergency (anchor_where on time 1)
      (session_going link crew heard session refl refl found)
      (ap (option_map (series_of link (crew ∷ heard))) (unless_none (in_force Periodic (Some session)))
      ∙ same_map (series_of link (crew ∷ heard)) (series_of link heard) (in_force Periodic (Some session))
      (λ contract. ap (λ n. record { contract = contract; reports = n }) (add-zero (periodic_report_number link heard))))
      (ap (λ held. option_and_then (watched_by profile (samples_since_acceptance heard)) (request_of held)) (unless_none (in_force Event (Some session))))
      (ap request_of (unless_none (in_force Emergency (Some session))))
      crew_anchor
