-- Worked histories of events, in both profiles.
use Rattle.std.specs.Prelude.{true, [], ◌∷◌, Some, pos, neg_ℤ}
use Rattle.contract_rules.specs.Messages.{Message, EventRequest, Cancel}
use Rattle.contract_rules.specs.Acts.{Sample}
use Rattle.contract_rules.specs.Due.{NegativeAcknowledgement, Report}
use Rattle.contract_rules.specs.Histories.Words.{without_groups, with_route, with_earth_reference, IsWorked, profile_one, profile_two, says, moves, crew, malformed, lateral_event, vertical_rate_event, altitude_event, waypoint_event, off_track, climbing, at_altitude, towards, level_flight, nothing, only, acknowledged}

-- ---- lateral deviation

-- A lateral event comes once: at the first sample past the threshold, and never again under the contract.
abbrev pub LateralEventOnce : Type 0
LateralEventOnce =
    IsWorked profile_one 0
    ((says 0 (lateral_event 3 8), acknowledged 3)
    ∷ (moves level_flight (off_track (pos 8)), nothing)
    ∷ (moves (off_track (pos 8)) (off_track (pos 9)), only (Report 10 without_groups))
    ∷ (moves (off_track (pos 9)) (off_track (pos 9)), nothing)
    ∷ (moves (off_track (pos 9)) level_flight, nothing)
    ∷ (moves level_flight (off_track (pos 9)), nothing)
    ∷ [])

-- In profile 2 it arms again: the same samples give it a second time, after one that keeps the limit.
abbrev pub LateralEventAgain : Type 0
LateralEventAgain =
    IsWorked profile_two 0
    ((says 0 (lateral_event 3 8), acknowledged 3)
    ∷ (moves level_flight (off_track (pos 8)), nothing)
    ∷ (moves (off_track (pos 8)) (off_track (pos 9)), only (Report 10 without_groups))
    ∷ (moves (off_track (pos 9)) (off_track (pos 9)), nothing)
    ∷ (moves (off_track (pos 9)) level_flight, nothing)
    ∷ (moves level_flight (off_track (pos 9)), only (Report 10 without_groups))
    ∷ [])

-- A deviation to the left counts as one to the right.
abbrev pub DeviationToLeft : Type 0
DeviationToLeft =
    IsWorked profile_one 0
    ((says 0 (lateral_event 3 8), acknowledged 3)
    ∷ (moves level_flight (off_track (neg_ℤ (pos 8))), nothing)
    ∷ (moves (off_track (neg_ℤ (pos 8))) (off_track (neg_ℤ (pos 9))), only (Report 10 without_groups))
    ∷ [])

-- ---- vertical rate

-- A vertical rate event with a positive threshold of 5 comes at a climb of more than 20 units, of 16 ft/min each.
abbrev pub ClimbTooFast : Type 0
ClimbTooFast =
    IsWorked profile_one 0
    ((says 0 (vertical_rate_event 3 (pos 5)), acknowledged 3)
    ∷ (moves level_flight (climbing (pos 20)), nothing)
    ∷ (moves (climbing (pos 20)) (climbing (neg_ℤ (pos 21))), nothing)
    ∷ (moves (climbing (neg_ℤ (pos 21))) (climbing (pos 21)), only (Report 18 with_earth_reference))
    ∷ (moves (climbing (pos 21)) (climbing (pos 21)), nothing)
    ∷ [])

-- With a negative threshold it comes at a descent; and once per contract, in profile 2 too.
abbrev pub DescentTooFast : Type 0
DescentTooFast =
    IsWorked profile_two 0
    ((says 0 (vertical_rate_event 3 (neg_ℤ (pos 5))), acknowledged 3)
    ∷ (moves level_flight (climbing (neg_ℤ (pos 20))), nothing)
    ∷ (moves (climbing (neg_ℤ (pos 20))) (climbing (pos 21)), nothing)
    ∷ (moves (climbing (pos 21)) (climbing (neg_ℤ (pos 21))), only (Report 18 with_earth_reference))
    ∷ (moves (climbing (neg_ℤ (pos 21))) level_flight, nothing)
    ∷ (moves level_flight (climbing (neg_ℤ (pos 21))), nothing)
    ∷ [])

-- ---- altitude range

-- An altitude event beside a malformed request. The request for a range whose low limit is not below its high limit
-- is refused with reason 10 and changes nothing: the contract in force reports the sample below its floor.
abbrev pub AltitudeEventAndMalformed : Type 0
AltitudeEventAndMalformed =
    IsWorked profile_one 0
    ((says 0 (altitude_event 3 (pos 10000) (pos 9000)), acknowledged 3)
    ∷ (malformed 0 10 4 6, only (NegativeAcknowledgement 4 10 0))
    ∷ (moves level_flight level_flight, only (Report 19 without_groups))
    ∷ [])

-- Neither the floor nor the ceiling is outside the range; an altitude above the ceiling is.
abbrev pub AboveCeiling : Type 0
AboveCeiling =
    IsWorked profile_one 0
    ((says 0 (altitude_event 3 (pos 10000) (pos 9000)), acknowledged 3)
    ∷ (moves level_flight (at_altitude (pos 9000)), nothing)
    ∷ (moves (at_altitude (pos 9000)) (at_altitude (pos 10000)), nothing)
    ∷ (moves (at_altitude (pos 10000)) (at_altitude (pos 10001)), only (Report 19 without_groups))
    ∷ [])

-- A range left twice: in profile 1 the event comes once.
abbrev pub AltitudeEventOnce : Type 0
AltitudeEventOnce =
    IsWorked profile_one 0
    ((says 0 (altitude_event 3 (pos 10000) (pos 9000)), acknowledged 3)
    ∷ (moves level_flight level_flight, only (Report 19 without_groups))
    ∷ (moves level_flight (at_altitude (pos 9500)), nothing)
    ∷ (moves (at_altitude (pos 9500)) level_flight, nothing)
    ∷ [])

-- In profile 2 it comes each time that the range is left.
abbrev pub AltitudeEventAgain : Type 0
AltitudeEventAgain =
    IsWorked profile_two 0
    ((says 0 (altitude_event 3 (pos 10000) (pos 9000)), acknowledged 3)
    ∷ (moves level_flight level_flight, only (Report 19 without_groups))
    ∷ (moves level_flight (at_altitude (pos 9500)), nothing)
    ∷ (moves (at_altitude (pos 9500)) level_flight, only (Report 19 without_groups))
    ∷ (moves level_flight level_flight, nothing)
    ∷ [])

-- ---- waypoints

-- A waypoint event comes at each change of the active waypoint, of its latitude or its longitude alone too; the sample before
-- the first one after acceptance came before acceptance.
abbrev pub WaypointChanges : Type 0
WaypointChanges =
    IsWorked profile_one 0
    ((moves (towards (pos 0) (pos 0)) (towards (pos 5) (pos 7)), nothing)
    ∷ (says 0 (waypoint_event 3), acknowledged 3)
    ∷ (moves (towards (pos 5) (pos 7)) (towards (pos 6) (pos 8)), only (Report 20 with_route))
    ∷ (moves (towards (pos 6) (pos 8)) (towards (pos 6) (pos 8)), nothing)
    ∷ (moves (towards (pos 6) (pos 8)) (towards (pos 6) (pos 9)), only (Report 20 with_route))
    ∷ (moves (towards (pos 6) (pos 9)) (towards (pos 4) (pos 9)), only (Report 20 with_route))
    ∷ [])

-- ---- event contracts

-- A request for all four events: cross-track distance more than 8, climb of more than 20 units, altitude from 9000 to 10000, and
-- waypoint changes.
abbrev pub four_events : Message
four_events =
    EventRequest 3 (record { lateral = Some 8; vertical_rate = Some (pos 5); range = Some (record { ceiling = pos 10000; floor = pos 9000 }); waypoint = true })

-- A sample within all limits, and one past them all with another waypoint.
abbrev pub within_limits : Sample
within_limits =
    record { cross_track = pos 0; vertical_rate = pos 0; altitude = pos 9500; waypoint_latitude = pos 0; waypoint_longitude = pos 0 }

abbrev pub past_limits : Sample
past_limits =
    record { cross_track = pos 9; vertical_rate = pos 21; altitude = pos 8999; waypoint_latitude = pos 1; waypoint_longitude = pos 0 }

-- The events of one sample stand by rising tag; each comes by itself.
abbrev pub FourEvents : Type 0
FourEvents =
    IsWorked profile_one 0
    ((says 0 four_events, acknowledged 3)
    ∷ (moves within_limits within_limits, nothing)
    ∷ (moves within_limits past_limits, Report 10 without_groups ∷ Report 18 with_earth_reference ∷ Report 19 without_groups ∷ Report 20 with_route ∷ [])
    ∷ [])

-- Acceptance gives nothing and looks at no earlier sample: a limit that was exceeded before is reported at the first later
-- sample that exceeds it, and a new event contract arms its limits anew. Events are not suspended in emergency mode. After a
-- cancel there are none.
abbrev pub NewEventContract : Type 0
NewEventContract =
    IsWorked profile_two 0
    ((moves level_flight (off_track (pos 9)), nothing)
    ∷ (says 0 (lateral_event 3 8), acknowledged 3)
    ∷ (moves (off_track (pos 9)) (off_track (pos 9)), only (Report 10 without_groups))
    ∷ (moves (off_track (pos 9)) (off_track (pos 9)), nothing)
    ∷ (says 0 (lateral_event 4 8), acknowledged 4)
    ∷ (crew true, only (Report 9 without_groups))
    ∷ (moves (off_track (pos 9)) (off_track (pos 9)), only (Report 10 without_groups))
    ∷ (says 0 (Cancel 4), acknowledged 4)
    ∷ (moves (off_track (pos 9)) level_flight, nothing)
    ∷ (moves level_flight (off_track (pos 9)), nothing)
    ∷ [])
