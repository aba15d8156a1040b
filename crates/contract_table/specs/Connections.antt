-- What a table holds of a live link: its contracts in force and its emergency mode.
use Rattle.std.specs.Prelude.{ℕ, Bool, cond, List, Option, Some, None, option_map, option_and_then}
use Rattle.contract_rules.specs.Configuration.{Profile}
use Rattle.contract_rules.specs.Messages.{Message, EventRequest, EventLimits, Periodic, Event, Emergency}
use Rattle.contract_rules.specs.Acts.{Sample}
use Rattle.contract_rules.specs.LiveLinks.{Noted, session_of, session_at}
use Rattle.contract_rules.specs.InForce.{Contract, Requests, in_force, request_of}
use Rattle.contract_rules.specs.Periodic.{periodic_report_number}
use Rattle.contract_rules.specs.Emergency.{is_in_emergency_mode, anchor_time, emergency_report_number}
use Rattle.contract_rules.specs.Events.{Limit, Lateral, VerticalRate, Range, arms_again, is_spent, samples_since_acceptance}
use Rattle.due_event.specs.declared.trigger.Trigger.{Trigger}

-- A periodic contract in force, and the number of its next report.
pub record Series : Type 0 where
  pub contract : Contract
  pub reports : ℕ

-- An event contract in force: its number, its limits, and the event of each of three limits.
pub record Watched : Type 0 where
  pub number : ℕ
  pub limits : EventLimits
  pub lateral : Trigger
  pub vertical_rate : Trigger
  pub range : Trigger

-- The anchor of a link's emergency reports: its time, and the number of the next report.
pub record Anchor : Type 0 where
  pub since : ℕ
  pub reports : ℕ

-- A live link: its contracts in force, and the anchor of its emergency reports where it is in emergency mode.
pub record Connection : Type 0 where
  pub link : ℕ
  pub periodic : Option Series
  pub event : Option Watched
  pub emergency : Option Message
  pub anchor : Option Anchor

-- The request of an event contract.
abbrev pub event_request : Watched → Message
event_request watched = EventRequest watched.number watched.limits

-- The requests of a link's contracts in force.
abbrev pub requests_of : Connection → Requests
requests_of connection =
    record {
      periodic = option_map (λ series. series.contract.request) connection.periodic;
      event = option_map event_request connection.event;
      emergency = connection.emergency;
    }

-- ---- a link as the contract rules say it

-- The periodic contract in force on a link that heard this.
abbrev pub series_of : ℕ → List Noted → Contract → Series
series_of link heard contract = record { contract = contract; reports = periodic_report_number link heard }

-- The event of a limit after these samples since acceptance, the newest first.
abbrev pub trigger_of : Profile → Limit → EventLimits → List Sample → Trigger
trigger_of profile limit limits samples =
    record { arms_again = arms_again profile limit; spent = is_spent profile limit limits samples }

-- An event contract after these samples since its acceptance.
abbrev pub watched_after : Profile → ℕ → EventLimits → List Sample → Watched
watched_after profile number limits samples =
    record {
      number = number;
      limits = limits;
      lateral = trigger_of profile Lateral limits samples;
      vertical_rate = trigger_of profile VerticalRate limits samples;
      range = trigger_of profile Range limits samples;
    }

-- The event contract of a request, after these samples since its acceptance.
abbrev pub watched_by : Profile → List Sample → Message → Option Watched
watched_by profile samples (EventRequest number limits) = Some (watched_after profile number limits samples)
watched_by profile samples _ = None

-- An anchor in emergency mode; out of the mode there is none.
abbrev pub anchor_where : Bool → ℕ → ℕ → Option Anchor
anchor_where mode since reports = cond mode (Some (record { since = since; reports = reports })) None

-- A link with this session, which heard this, and whose emergency reports are counted so far from an anchor at this time.
abbrev pub connection_in : Profile → ℕ → Option (List Noted) → List Noted → ℕ → ℕ → Connection
connection_in profile link session heard since reports =
    record {
      link = link;
      periodic = option_map (series_of link heard) (in_force Periodic session);
      event = option_and_then (watched_by profile (samples_since_acceptance heard)) (request_of (in_force Event session));
      emergency = request_of (in_force Emergency session);
      anchor = anchor_where (is_in_emergency_mode session heard) since reports;
    }

-- A live link that heard this.
abbrev pub connection_of : Profile → ℕ → List Noted → Connection
connection_of profile link heard =
    connection_in profile link (session_of link heard) heard (anchor_time link heard) (emergency_report_number link heard)

-- A link as a message finds it at this time: at the message that admits it, it is its own anchor.
abbrev pub connection_at : Profile → ℕ → Bool → ℕ → List Noted → Connection
connection_at profile link admitted time heard =
    connection_in profile link (session_at admitted link heard) heard
    (cond admitted time (anchor_time link heard)) (cond admitted 0 (emergency_report_number link heard))
