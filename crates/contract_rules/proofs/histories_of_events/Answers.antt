-- Each clause is the history's own computation.
use Rattle.contract_rules.proofs.Worked.{lateral_event_once, lateral_event_again, deviation_to_left, climb_too_fast, descent_too_fast, altitude_event_and_malformed, above_ceiling, altitude_event_once, altitude_event_again, waypoint_changes, four_events, new_event_contract}
use Rattle.contract_rules.proofs.histories_of_events.Goals as goal

pub returns-clause-lateral_event_once : goal.returns-clause-lateral_event_once
returns-clause-lateral_event_once c = lateral_event_once

pub returns-clause-lateral_event_again : goal.returns-clause-lateral_event_again
returns-clause-lateral_event_again c = lateral_event_again

pub returns-clause-deviation_to_left : goal.returns-clause-deviation_to_left
returns-clause-deviation_to_left c = deviation_to_left

pub returns-clause-climb_too_fast : goal.returns-clause-climb_too_fast
returns-clause-climb_too_fast c = climb_too_fast

pub returns-clause-descent_too_fast : goal.returns-clause-descent_too_fast
returns-clause-descent_too_fast c = descent_too_fast

pub returns-clause-altitude_event_and_malformed : goal.returns-clause-altitude_event_and_malformed
returns-clause-altitude_event_and_malformed c = altitude_event_and_malformed

pub returns-clause-above_ceiling : goal.returns-clause-above_ceiling
returns-clause-above_ceiling c = above_ceiling

pub returns-clause-altitude_event_once : goal.returns-clause-altitude_event_once
returns-clause-altitude_event_once c = altitude_event_once

pub returns-clause-altitude_event_again : goal.returns-clause-altitude_event_again
returns-clause-altitude_event_again c = altitude_event_again

pub returns-clause-waypoint_changes : goal.returns-clause-waypoint_changes
returns-clause-waypoint_changes c = waypoint_changes

pub returns-clause-four_events : goal.returns-clause-four_events
returns-clause-four_events c = four_events

pub returns-clause-new_event_contract : goal.returns-clause-new_event_contract
returns-clause-new_event_contract c = new_event_contract
