-- Worked histories of emergency mode.
use Rattle.std.specs.Prelude.{true, false, [], ◌∷◌, Some, None}
use Rattle.contract_rules.specs.Messages.{CancelAll, Cancel, CancelEmergency}
use Rattle.contract_rules.specs.Acts.{Said}
use Rattle.contract_rules.specs.Due.{Acknowledgement, NegativeAcknowledgement, EmergencyOff, Report}
use Rattle.contract_rules.specs.Histories.Words.{without_groups, with_route, IsWorked, profile_one, says, ticks, moves, malformed, crew, level_flight, no_moduli, route_each_second, demand, periodic, emergency, nothing, only, acknowledged, refused, demanded}

-- Emergency mode. Switched on at 100 s it gives a report at once and then every 304 s from there; the periodic report of
-- 304 s and of 608 s is suspended and not made up for; switched off it gives an emergency-off, and the periodic
-- contract goes on along its own grid.
abbrev pub EmergencyMode : Type 0
EmergencyMode =
    IsWorked profile_one 0
    ((says 0 (periodic 1 0xa5 no_moduli), Acknowledgement 1 ∷ Report 7 without_groups ∷ [])
    ∷ (ticks 100, nothing)
    ∷ (crew true, only (Report 9 without_groups))
    ∷ (ticks 304, nothing)
    ∷ (ticks 404, only (Report 9 without_groups))
    ∷ (ticks 608, nothing)
    ∷ (ticks 708, only (Report 9 without_groups))
    ∷ (crew false, only (EmergencyOff 0))
    ∷ (ticks 912, only (Report 7 without_groups))
    ∷ [])

-- A cancelled emergency mode. A link that is admitted while the crew's switch is on is in emergency mode, with its
-- admission for an anchor; a cancel of emergency mode is acknowledged, and no emergency report comes after it. The switch
-- off then gives no emergency-off.
abbrev pub CancelledEmergencyMode : Type 0
CancelledEmergencyMode =
    IsWorked profile_one 0
    ((crew true, nothing)
    ∷ (ticks 50, nothing)
    ∷ (says 0 (demand 1), demanded)
    ∷ (ticks 353, nothing)
    ∷ (ticks 354, only (Report 9 without_groups))
    ∷ (says 0 (CancelEmergency 1), refused 1 5)
    ∷ (says 0 (CancelEmergency 0), acknowledged 0)
    ∷ (says 0 (CancelEmergency 0), refused 0 5)
    ∷ (ticks 658, nothing)
    ∷ (crew false, nothing)
    ∷ [])

-- Periodic reports that are suspended are not counted in their series: of a contract with the route in each second report,
-- the one after emergency mode is number 1. A demand and a periodic request give their reports in the mode too.
abbrev pub SuspendedReports : Type 0
SuspendedReports =
    IsWorked profile_one 0
    ((crew true, nothing)
    ∷ (says 0 (periodic 1 0xa5 route_each_second), Acknowledgement 1 ∷ Report 7 with_route ∷ [])
    ∷ (says 0 (demand 2), Acknowledgement 2 ∷ Report 7 without_groups ∷ [])
    ∷ (ticks 304, only (Report 9 without_groups))
    ∷ (ticks 400, nothing)
    ∷ (crew false, only (EmergencyOff 0))
    ∷ (ticks 608, only (Report 7 without_groups))
    ∷ (ticks 912, only (Report 7 with_route))
    ∷ [])

-- An emergency contract gives emergency mode its interval, here octet 87, which is 64 s, its groups, and its number. It is
-- an anchor where it is accepted, and its reports are numbered from there; a sample and a malformed payload between them are
-- no part of the series.
abbrev pub EmergencyContract : Type 0
EmergencyContract =
    IsWorked profile_one 0
    ((says 0 (demand 1), demanded)
    ∷ (ticks 100, nothing)
    ∷ (crew true, only (Report 9 without_groups))
    ∷ (ticks 150, nothing)
    ∷ (says 0 (emergency 7 (Some 0x87) route_each_second), Acknowledgement 7 ∷ Report 9 with_route ∷ [])
    ∷ (ticks 164, nothing)
    ∷ (moves level_flight level_flight, nothing)
    ∷ (malformed 0 10 4 6, only (NegativeAcknowledgement 4 10 0))
    ∷ (ticks 213, nothing)
    ∷ (ticks 214, only (Report 9 without_groups))
    ∷ (ticks 278, only (Report 9 with_route))
    ∷ (ticks 342, only (Report 9 without_groups))
    ∷ (crew false, only (EmergencyOff 7))
    ∷ (ticks 406, nothing)
    ∷ [])

-- A cancel of the emergency contract is an anchor: from there reports come each 304 s again, and without groups. A cancel of
-- another contract is none.
abbrev pub CancelledEmergencyContract : Type 0
CancelledEmergencyContract =
    IsWorked profile_one 0
    ((crew true, nothing)
    ∷ (says 0 (periodic 1 0xa5 no_moduli), Acknowledgement 1 ∷ Report 7 without_groups ∷ [])
    ∷ (says 0 (emergency 7 (Some 0x87) route_each_second), Acknowledgement 7 ∷ Report 9 with_route ∷ [])
    ∷ (ticks 64, only (Report 9 without_groups))
    ∷ (ticks 70, nothing)
    ∷ (says 0 (Cancel 7), acknowledged 7)
    ∷ (ticks 128, nothing)
    ∷ (says 0 (Cancel 1), acknowledged 1)
    ∷ (ticks 368, nothing)
    ∷ (ticks 374, only (Report 9 without_groups))
    ∷ (crew false, only (EmergencyOff 0))
    ∷ [])

-- An interval of 0 s, and one that is absent, stand for 304 s.
abbrev pub DefaultInterval : Type 0
DefaultInterval =
    IsWorked profile_one 0
    ((crew true, nothing)
    ∷ (says 0 (emergency 7 (Some 0x3f) no_moduli), Acknowledgement 7 ∷ Report 9 without_groups ∷ [])
    ∷ (ticks 303, nothing)
    ∷ (ticks 304, only (Report 9 without_groups))
    ∷ (says 0 (emergency 8 None no_moduli), Acknowledgement 8 ∷ Report 9 without_groups ∷ [])
    ∷ (ticks 607, nothing)
    ∷ (ticks 608, only (Report 9 without_groups))
    ∷ [])

-- An emergency request that is accepted outside emergency mode gives no report. The crew's switch on then gives the first
-- report of the series, with the contract's groups.
abbrev pub RequestBeforeEmergency : Type 0
RequestBeforeEmergency =
    IsWorked profile_one 0
    ((says 0 (emergency 7 (Some 0x87) route_each_second), acknowledged 7)
    ∷ (ticks 64, nothing)
    ∷ (crew true, only (Report 9 with_route))
    ∷ (ticks 128, only (Report 9 without_groups))
    ∷ (ticks 192, only (Report 9 with_route))
    ∷ [])

-- A cancel of emergency mode bears the number of the emergency contract in force, and leaves that in force; it is no anchor. A
-- crew act on counts anew each time: it gives a report, begins the grid and the series anew, and a link whose mode was
-- cancelled is in it again.
abbrev pub SwitchedOnAgain : Type 0
SwitchedOnAgain =
    IsWorked profile_one 0
    ((crew true, nothing)
    ∷ (says 0 (emergency 7 (Some 0x87) route_each_second), Acknowledgement 7 ∷ Report 9 with_route ∷ [])
    ∷ (says 0 (CancelEmergency 0), refused 0 5)
    ∷ (says 0 (CancelEmergency 7), acknowledged 7)
    ∷ (ticks 64, nothing)
    ∷ (says 0 (emergency 7 (Some 0x87) route_each_second), acknowledged 7)
    ∷ (ticks 70, nothing)
    ∷ (crew true, only (Report 9 with_route))
    ∷ (ticks 128, nothing)
    ∷ (ticks 134, only (Report 9 without_groups))
    ∷ (crew true, only (Report 9 with_route))
    ∷ (ticks 198, only (Report 9 without_groups))
    ∷ (crew false, only (EmergencyOff 7))
    ∷ (crew false, nothing)
    ∷ [])

-- A new session forgets that the mode was cancelled: a request after a cancel-all, in one payload with it, finds its link in
-- emergency mode, and is the anchor.
abbrev pub ModeOfNewSession : Type 0
ModeOfNewSession =
    IsWorked profile_one 0
    ((crew true, nothing)
    ∷ (says 0 (emergency 7 (Some 0x87) no_moduli), Acknowledgement 7 ∷ Report 9 without_groups ∷ [])
    ∷ (says 0 (CancelEmergency 7), acknowledged 7)
    ∷ (ticks 100, nothing)
    ∷ (Said 0 CancelAll ∷ Said 0 (demand 1) ∷ [], demanded)
    ∷ (ticks 403, nothing)
    ∷ (ticks 404, only (Report 9 without_groups))
    ∷ (says 0 CancelAll, nothing)
    ∷ (ticks 708, nothing)
    ∷ (crew false, nothing)
    ∷ [])
