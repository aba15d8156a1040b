-- Worked histories of contracts: verdicts, repeats, replacement, cancels and answers.
use Rattle.std.specs.Prelude.{true, [], ◌∷◌, Some, None, pos}
use Rattle.contract_rules.specs.Messages.{Cancel, CancelEmergency, PeriodicRequest, EmergencyRequest, Intent}
use Rattle.contract_rules.specs.Acts.{Said}
use Rattle.contract_rules.specs.Due.{Acknowledgement, NegativeAcknowledgement, Noncompliance, Report}
use Rattle.contract_rules.specs.Histories.Words.{without_groups, with_route, IsWorked, profile_one, says, ticks, moves, crew, malformed, no_moduli, route_each_second, demand, periodic, emergency, lateral_event, waypoint_event, off_track, level_flight, nothing, only, acknowledged, refused, demanded}

-- A repeat, and a number in force. The same request again is acknowledged and gives no report; another one of its
-- number is refused with reason 6.
abbrev pub RepeatAndNumberInForce : Type 0
RepeatAndNumberInForce =
    IsWorked profile_one 0
    ((says 0 (periodic 2 0xa5 route_each_second), Acknowledgement 2 ∷ Report 7 with_route ∷ [])
    ∷ (says 0 (periodic 2 0xa5 route_each_second), acknowledged 2)
    ∷ (says 0 (periodic 2 0xa6 no_moduli), refused 2 6)
    ∷ [])

-- Each kind of request is repeated alike. An event request that is repeated arms nothing again, and an emergency request that
-- is repeated in emergency mode gives no report.
abbrev pub RepeatsOfEachKind : Type 0
RepeatsOfEachKind =
    IsWorked profile_one 0
    ((says 0 (lateral_event 3 8), acknowledged 3)
    ∷ (moves level_flight (off_track (pos 9)), only (Report 10 without_groups))
    ∷ (says 0 (lateral_event 3 8), acknowledged 3)
    ∷ (moves (off_track (pos 9)) (off_track (pos 9)), nothing)
    ∷ (crew true, only (Report 9 without_groups))
    ∷ (says 0 (emergency 4 (Some 0x87) no_moduli), Acknowledgement 4 ∷ Report 9 without_groups ∷ [])
    ∷ (says 0 (emergency 4 (Some 0x87) no_moduli), acknowledged 4)
    ∷ [])

-- A number in force belongs to one contract, of whatever kind: every other request of it is refused with reason 6, a demand
-- too. Octets 47 and 80 are both 8 s and differ, as do a modulus of 0 and an absent group, and an interval of 0 s and none.
abbrev pub NumberOfAnother : Type 0
NumberOfAnother =
    IsWorked profile_one 0
    ((says 0 (periodic 2 0x47 no_moduli), Acknowledgement 2 ∷ Report 7 without_groups ∷ [])
    ∷ (says 0 (periodic 2 0x80 no_moduli), refused 2 6)
    ∷ (says 0 (periodic 2 0x47 (None ∷ Some 0 ∷ None ∷ None ∷ None ∷ None ∷ [])), refused 2 6)
    ∷ (says 0 (demand 2), refused 2 6)
    ∷ (says 0 (lateral_event 2 8), refused 2 6)
    ∷ (says 0 (emergency 2 (Some 0x47) no_moduli), refused 2 6)
    ∷ (says 0 (lateral_event 3 8), acknowledged 3)
    ∷ (says 0 (lateral_event 3 9), refused 3 6)
    ∷ (says 0 (periodic 3 0x47 no_moduli), refused 3 6)
    ∷ (says 0 (emergency 4 None no_moduli), acknowledged 4)
    ∷ (says 0 (emergency 4 (Some 0) no_moduli), refused 4 6)
    ∷ (says 0 (periodic 4 0x47 no_moduli), refused 4 6)
    ∷ [])

-- A cancel ends the contract of its number alone, of whatever kind; then the number is not in force, so that a second cancel
-- is refused with reason 5, and a new contract may bear it.
abbrev pub CancelOfEachKind : Type 0
CancelOfEachKind =
    IsWorked profile_one 0
    ((says 0 (periodic 2 0xa5 no_moduli), Acknowledgement 2 ∷ Report 7 without_groups ∷ [])
    ∷ (says 0 (lateral_event 3 8), acknowledged 3)
    ∷ (says 0 (emergency 4 None no_moduli), acknowledged 4)
    ∷ (says 0 (Cancel 2), acknowledged 2)
    ∷ (says 0 (Cancel 2), refused 2 5)
    ∷ (ticks 304, nothing)
    ∷ (moves level_flight (off_track (pos 9)), only (Report 10 without_groups))
    ∷ (says 0 (Cancel 3), acknowledged 3)
    ∷ (says 0 (Cancel 3), refused 3 5)
    ∷ (says 0 (Cancel 4), acknowledged 4)
    ∷ (says 0 (Cancel 4), refused 4 5)
    ∷ (says 0 (lateral_event 2 8), acknowledged 2)
    ∷ (moves (off_track (pos 9)) (off_track (pos 9)), only (Report 10 without_groups))
    ∷ (says 0 (Cancel 2), acknowledged 2)
    ∷ (moves (off_track (pos 9)) (off_track (pos 9)), nothing)
    ∷ [])

-- A new contract replaces that of its kind alone: the old number is not in force, and the series of reports begins anew. The
-- event contract goes on beside it.
abbrev pub Replacement : Type 0
Replacement =
    IsWorked profile_one 0
    ((says 0 (lateral_event 3 8), acknowledged 3)
    ∷ (says 0 (periodic 1 0xa5 route_each_second), Acknowledgement 1 ∷ Report 7 with_route ∷ [])
    ∷ (says 0 (periodic 5 0xa5 route_each_second), Acknowledgement 5 ∷ Report 7 with_route ∷ [])
    ∷ (says 0 (Cancel 1), refused 1 5)
    ∷ (ticks 304, only (Report 7 without_groups))
    ∷ (ticks 608, only (Report 7 with_route))
    ∷ (moves level_flight (off_track (pos 9)), only (Report 10 without_groups))
    ∷ (says 0 (Cancel 5), acknowledged 5)
    ∷ (ticks 912, nothing)
    ∷ [])

-- A demand is never in force: it may come again, and its number is not in force after it. An interval of 0 s makes a demand.
-- A demand replaces no contract.
abbrev pub DemandNeverInForce : Type 0
DemandNeverInForce =
    IsWorked profile_one 0
    ((says 0 (demand 1), demanded)
    ∷ (says 0 (demand 1), demanded)
    ∷ (says 0 (periodic 1 0x3f no_moduli), demanded)
    ∷ (says 0 (Cancel 1), refused 1 5)
    ∷ (says 0 (periodic 2 0xa5 no_moduli), Acknowledgement 2 ∷ Report 7 without_groups ∷ [])
    ∷ (says 0 (demand 1), demanded)
    ∷ (ticks 304, only (Report 7 without_groups))
    ∷ [])

-- Aircraft intent is asked for with each second report, for 10 minutes.
abbrev pub intent : Intent
intent = record { modulus = 2; minutes = 10 }

-- A request for intent is answered by a noncompliance, in place of the acknowledgement, also where it is repeated.
abbrev pub IntentAskedFor : Type 0
IntentAskedFor =
    IsWorked profile_one 0
    ((says 0 (PeriodicRequest (record { number = 1; interval = None; moduli = no_moduli; intent = Some intent })), Noncompliance 1 ∷ Report 7 without_groups ∷ [])
    ∷ (says 0 (EmergencyRequest (record { number = 4; interval = None; moduli = no_moduli; intent = Some intent })), only (Noncompliance 4))
    ∷ (says 0 (EmergencyRequest (record { number = 4; interval = None; moduli = no_moduli; intent = Some intent })), only (Noncompliance 4))
    ∷ [])

-- A cancel of a number that no contract in force bears is refused with reason 5, and so is a cancel of emergency mode on a
-- link that is not in the mode.
abbrev pub CancelOfUndefined : Type 0
CancelOfUndefined =
    IsWorked profile_one 0
    ((says 0 (demand 1), demanded)
    ∷ (says 0 (Cancel 9), refused 9 5)
    ∷ (says 0 (CancelEmergency 0), refused 0 5)
    ∷ [])

-- One payload with a periodic and an event request: its items stand in the order of its messages.
abbrev pub TwoMessages : Type 0
TwoMessages =
    IsWorked profile_one 0
    ((Said 0 (periodic 1 0xa5 no_moduli) ∷ Said 0 (waypoint_event 2) ∷ [], Acknowledgement 1 ∷ Report 7 without_groups ∷ Acknowledgement 2 ∷ [])
    ∷ [])

-- A malformed payload of a link that is not live is not heard. On a live link it is answered with its number and reason, and
-- with its octet where the reason is a duplicate group, a duplicate interval or an undefined request.
abbrev pub MalformedPayloads : Type 0
MalformedPayloads =
    IsWorked profile_one 0
    ((malformed 0 2 1 5, nothing)
    ∷ (says 0 (demand 1), demanded)
    ∷ (malformed 0 1 3 4, only (NegativeAcknowledgement 3 1 4))
    ∷ (malformed 0 2 1 5, only (NegativeAcknowledgement 1 2 5))
    ∷ (malformed 0 3 8 6, only (NegativeAcknowledgement 8 3 0))
    ∷ (malformed 0 7 9 3, only (NegativeAcknowledgement 9 7 3))
    ∷ (malformed 0 8 4 9, only (NegativeAcknowledgement 4 8 0))
    ∷ [])
