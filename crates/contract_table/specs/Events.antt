-- The reports of the events that a sample fires.
use Rattle.std.specs.Prelude.{List, ◌++◌}
use Rattle.contract_rules.specs.Reports.{no_groups}
use Rattle.contract_rules.specs.Due.{Item, Report, item_where, predicted_route, earth_reference}
use Rattle.due_event.specs.declared.fired.Fired.{Fired}

-- By rising tag.
abbrev pub events_of : Fired → List Item
events_of fired =
    item_where fired.lateral (Report 10 no_groups)
    ++ item_where fired.vrate (Report 18 earth_reference)
    ++ item_where fired.range (Report 19 no_groups)
    ++ item_where fired.waypoint (Report 20 predicted_route)
