-- Worked histories of basic reports: grids, numbers and groups.
use Rattle.std.specs.Prelude.{true, false, ℕ, List, [], ◌∷◌, Option, Some, None}
use Rattle.contract_rules.specs.Messages.{PeriodicRequest}
use Rattle.contract_rules.specs.Due.{Acknowledgement, NegativeAcknowledgement, Report}
use Rattle.contract_rules.specs.Histories.Words.{without_groups, with_route, IsWorked, profile_one, says, ticks, moves, malformed, level_flight, no_moduli, route_each_second, demand, periodic, nothing, only, acknowledged}

-- A period and its moduli. A contract of 304 s asks for the predicted route with each second report: at acceptance it
-- is there, at 304 s it is not, and at 912 s, where two moments passed at once, one report comes, with the route.
abbrev pub PeriodAndModuli : Type 0
PeriodAndModuli =
    IsWorked profile_one 0
    ((says 0 (periodic 2 0xa5 route_each_second), Acknowledgement 2 ∷ Report 7 with_route ∷ [])
    ∷ (ticks 0, nothing)
    ∷ (ticks 303, nothing)
    ∷ (ticks 304, only (Report 7 without_groups))
    ∷ (ticks 912, only (Report 7 with_route))
    ∷ [])

-- The predicted route with each second report, the earth reference with each, meteorological data with each third, and
-- airframe identification with modulus 0.
abbrev pub several_moduli : List (Option ℕ)
several_moduli = None ∷ Some 2 ∷ Some 1 ∷ None ∷ Some 3 ∷ Some 0 ∷ []

-- The numbers of a series. Each group comes with the reports whose number its modulus divides, from 0 on, and never where the
-- modulus is 0. A demand, a repeat of the request, a sample and a malformed payload between the reports are not counted.
abbrev pub NumbersInSeries : Type 0
NumbersInSeries =
    IsWorked profile_one 0
    ((says 0 (periodic 2 0xa5 several_moduli), Acknowledgement 2 ∷ Report 7 (false ∷ true ∷ true ∷ false ∷ true ∷ false ∷ []) ∷ [])
    ∷ (says 0 (demand 5), Acknowledgement 5 ∷ Report 7 without_groups ∷ [])
    ∷ (says 0 (periodic 2 0xa5 several_moduli), acknowledged 2)
    ∷ (moves level_flight level_flight, nothing)
    ∷ (malformed 0 10 4 6, only (NegativeAcknowledgement 4 10 0))
    ∷ (ticks 304, only (Report 7 (false ∷ false ∷ true ∷ false ∷ false ∷ false ∷ [])))
    ∷ (ticks 608, only (Report 7 (false ∷ true ∷ true ∷ false ∷ false ∷ false ∷ [])))
    ∷ (ticks 912, only (Report 7 (false ∷ false ∷ true ∷ false ∷ true ∷ false ∷ [])))
    ∷ [])

-- The report of a demand is the first and only one of its series: each group with a modulus of at least 1 is in it.
abbrev pub GroupsOfDemand : Type 0
GroupsOfDemand =
    IsWorked profile_one 0 ((
      says 0 (PeriodicRequest (record { number = 5; interval = None; moduli = Some 1 ∷ None ∷ Some 0 ∷ None ∷ None ∷ Some 7 ∷ []; intent = None })),
      Acknowledgement 5 ∷ Report 7 (true ∷ false ∷ false ∷ false ∷ false ∷ true ∷ []) ∷ [],
    )
    ∷ [])

-- Time is the greatest tick: a tick that is not greater moves no time, so that no moment passes twice.
abbrev pub GreatestTick : Type 0
GreatestTick =
    IsWorked profile_one 0
    ((says 0 (periodic 2 0xa5 no_moduli), Acknowledgement 2 ∷ Report 7 without_groups ∷ [])
    ∷ (ticks 608, only (Report 7 without_groups))
    ∷ (ticks 304, nothing)
    ∷ (ticks 608, nothing)
    ∷ (ticks 911, nothing)
    ∷ (ticks 912, only (Report 7 without_groups))
    ∷ [])

-- The intervals of the scale codes: octet 5D is 30 times 1 s, octet C1 is 2 times 64 s, octet 80 is 8 s. Each grid begins at
-- its contract's acceptance.
abbrev pub Intervals : Type 0
Intervals =
    IsWorked profile_one 0
    ((says 0 (periodic 1 0x5d no_moduli), Acknowledgement 1 ∷ Report 7 without_groups ∷ [])
    ∷ (ticks 29, nothing)
    ∷ (ticks 30, only (Report 7 without_groups))
    ∷ (ticks 31, nothing)
    ∷ (says 0 (periodic 2 0xc1 no_moduli), Acknowledgement 2 ∷ Report 7 without_groups ∷ [])
    ∷ (ticks 158, nothing)
    ∷ (ticks 159, only (Report 7 without_groups))
    ∷ (says 0 (periodic 3 0x80 no_moduli), Acknowledgement 3 ∷ Report 7 without_groups ∷ [])
    ∷ (ticks 166, nothing)
    ∷ (ticks 167, only (Report 7 without_groups))
    ∷ [])
