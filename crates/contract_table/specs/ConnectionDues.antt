-- What one act makes due on a live link, by what the table holds of it.
use Rattle.std.specs.Prelude.{ℕ, max, Bool, not, ◌&&◌, is_some, List, [], ◌++◌, Option, Some, None}
use Rattle.contract_rules.specs.Acts.{Act, Moved, Ticked, Crew, Sample}
use Rattle.contract_rules.specs.Reports.{no_groups, groups_of, report_groups}
use Rattle.contract_rules.specs.Events.{Lateral, VerticalRate, Range, exceeds, is_waypoint_due}
use Rattle.contract_rules.specs.Emergency.{emergency_number}
use Rattle.contract_rules.specs.Due.{Item, EmergencyOff, Report, item_where, predicted_route, earth_reference}
use Rattle.due_event.specs.Triggers.{is_fired}
use Rattle.contract_table.specs.Dues.{on_link}
use Rattle.contract_table.specs.Connections.{Series, Watched, Anchor, Connection}
use Rattle.contract_table.specs.NextConnection.{is_series_due, is_anchor_due}

-- The groups of the next report of a periodic contract, if there is one.
abbrev pub series_groups : Option Series → List Bool
series_groups None = no_groups
series_groups (Some series) = report_groups series.reports series.contract.request

-- The number of the next emergency report.
abbrev pub anchor_reports : Option Anchor → ℕ
anchor_reports None = 0
anchor_reports (Some anchor) = anchor.reports

-- At a tick that moves time.
abbrev pub due_of_ticked : ℕ → ℕ → Connection → List Item
due_of_ticked t0 t1 connection =
    item_where (is_series_due t0 t1 connection) (Report 7 (series_groups connection.periodic))
    ++ item_where (is_anchor_due t0 t1 connection) (Report 9 (groups_of (anchor_reports connection.anchor) connection.emergency))

-- At a crew act.
abbrev pub due_of_crewed : Bool → Connection → List Item
due_of_crewed on connection =
    item_where on (Report 9 (groups_of 0 connection.emergency))
    ++ item_where (not on && is_some connection.anchor) (EmergencyOff (emergency_number connection.emergency))

-- At a sample, by an event contract.
abbrev pub due_of_watched : Sample → Sample → Watched → List Item
due_of_watched before now watched =
    item_where (is_fired (exceeds Lateral watched.limits now) watched.lateral) (Report 10 no_groups)
    ++ item_where (is_fired (exceeds VerticalRate watched.limits now) watched.vertical_rate) (Report 18 earth_reference)
    ++ item_where (is_fired (exceeds Range watched.limits now) watched.range) (Report 19 no_groups)
    ++ item_where (is_waypoint_due watched.limits before now) (Report 20 predicted_route)

-- At a sample.
abbrev pub due_of_moved : Sample → Sample → Option Watched → List Item
due_of_moved before now None = []
due_of_moved before now (Some watched) = due_of_watched before now watched

-- At an act of the flight, at this time.
abbrev pub due_of_flown : ℕ → Act → Connection → List Item
due_of_flown time (Moved before now) connection = due_of_moved before now connection.event
due_of_flown time (Ticked tick) connection = due_of_ticked time (max time tick) connection
due_of_flown time (Crew on) connection = due_of_crewed on connection
due_of_flown time _ connection = []

-- The same, each item with its link.
abbrev pub dues_flown : ℕ → Act → Connection → List (ℕ × Item)
dues_flown time act connection = on_link connection.link (due_of_flown time act connection)
