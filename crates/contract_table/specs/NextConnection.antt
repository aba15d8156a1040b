-- What one act makes of a live link.
use Rattle.std.specs.Prelude.{ℕ, ◌+◌, max, Bool, false, cond, ◌&&◌, is_none, [], Option, Some, None, option_map}
use Rattle.contract_rules.specs.Configuration.{Profile}
use Rattle.contract_rules.specs.Messages.{Message, CancelAll, Cancel, CancelEmergency, PeriodicRequest, EventRequest, EmergencyRequest, is_demand}
use Rattle.contract_rules.specs.Acts.{Act, Moved, Ticked, Crew, Sample}
use Rattle.contract_rules.specs.Events.{Lateral, VerticalRate, Range, exceeds}
use Rattle.due_event.specs.Triggers.{trigger_moved}
use Rattle.contract_rules.specs.LookingBack.{unless}
use Rattle.contract_rules.specs.InForce.{bears}
use Rattle.contract_rules.specs.Reports.{crosses}
use Rattle.contract_rules.specs.Emergency.{emergency_interval}
use Rattle.contract_rules.specs.Periodic.{crosses_since}
use Rattle.contract_table.specs.Connections.{Series, Watched, Anchor, Connection, anchor_where, event_request, watched_after}

-- ---- messages

-- A link at its admission.
abbrev pub admitted : ℕ → Bool → ℕ → Connection
admitted link crew time =
    record { link = link; periodic = None; event = None; emergency = None; anchor = anchor_where crew time 0 }

-- An anchor at this time in place of another, if there is one.
abbrev pub moved_to : ℕ → ℕ → Option Anchor → Option Anchor
moved_to time reports anchor = option_map (λ before. record { since = time; reports = reports }) anchor

-- A link after the cancel of the contract with this number.
abbrev pub cancelled : ℕ → ℕ → Connection → Connection
cancelled time number connection =
    record {
      link = connection.link;
      periodic = unless (λ series. bears number (Some series.contract.request)) connection.periodic;
      event = unless (λ watched. bears number (Some (event_request watched))) connection.event;
      emergency = unless (λ request. bears number (Some request)) connection.emergency;
      anchor = cond (bears number connection.emergency) (moved_to time 0 connection.anchor) connection.anchor;
    }

-- A link after a message that was accepted at this time.
abbrev pub accepted : Profile → ℕ → Message → Connection → Connection
accepted profile time CancelAll connection = connection
accepted profile time (Cancel number) connection = cancelled time number connection
accepted profile time (CancelEmergency number) connection = record connection { anchor = None }
accepted profile time (PeriodicRequest asked) connection =
    cond (is_demand asked.interval) connection
    (record connection { periodic = Some (record { contract = record { request = PeriodicRequest asked; since = time }; reports = 1 }) })
accepted profile time (EventRequest number limits) connection =
    record connection { event = Some (watched_after profile number limits []) }
accepted profile time (EmergencyRequest asked) connection =
    record connection { emergency = Some (EmergencyRequest asked); anchor = moved_to time 1 connection.anchor }

-- ---- the flight's acts

-- A series and an anchor after a tick: one report more, where it is due.
abbrev pub series_counted : Bool → Series → Series
series_counted due series = record { contract = series.contract; reports = series.reports + cond due 1 0 }

abbrev pub anchor_counted : Bool → Anchor → Anchor
anchor_counted due anchor = record { since = anchor.since; reports = anchor.reports + cond due 1 0 }

-- Whether a periodic report is due at a tick that moves time.
abbrev pub is_series_due : ℕ → ℕ → Connection → Bool
is_series_due t0 t1 connection =
    is_none connection.anchor && crosses_since (option_map (λ series. series.contract) connection.periodic) t0 t1

-- Whether time from t0 to t1 crosses the grid of an anchor, if there is one.
abbrev pub crosses_from : ℕ → Option Anchor → ℕ → ℕ → Bool
crosses_from interval None t0 t1 = false
crosses_from interval (Some anchor) t0 t1 = crosses anchor.since interval t0 t1

-- Whether an emergency report is due at a tick that moves time.
abbrev pub is_anchor_due : ℕ → ℕ → Connection → Bool
is_anchor_due t0 t1 connection = crosses_from (emergency_interval connection.emergency) connection.anchor t0 t1

-- A link after a tick that moves time.
abbrev pub ticked : ℕ → ℕ → Connection → Connection
ticked t0 t1 connection =
    record connection {
      periodic = option_map (series_counted (is_series_due t0 t1 connection)) connection.periodic;
      anchor = option_map (anchor_counted (is_anchor_due t0 t1 connection)) connection.anchor;
    }

-- An event contract after a new sample.
abbrev pub watched_on : Sample → Watched → Watched
watched_on now watched =
    record {
      number = watched.number;
      limits = watched.limits;
      lateral = trigger_moved (exceeds Lateral watched.limits now) watched.lateral;
      vertical_rate = trigger_moved (exceeds VerticalRate watched.limits now) watched.vertical_rate;
      range = trigger_moved (exceeds Range watched.limits now) watched.range;
    }

-- A link after a new sample.
abbrev pub moved : Sample → Connection → Connection
moved now connection = record connection { event = option_map (watched_on now) connection.event }

-- A link after a crew act.
abbrev pub crewed : Bool → ℕ → Connection → Connection
crewed on time connection = record connection { anchor = anchor_where on time 1 }

-- A link after an act of the flight, at this time.
abbrev pub flown : ℕ → Act → Connection → Connection
flown time (Moved before now) connection = moved now connection
flown time (Ticked tick) connection = ticked time (max time tick) connection
flown time (Crew on) connection = crewed on time connection
flown time _ connection = connection
