-- The codes so far, and then spaces.
use Rattle.std.proofs.Common.{◌≡◌, ◌-◌, ◌++◌, map, replicate, take}
use Rattle.aircraft_core.specs.Reports.{flight_code}
use Rattle.aircraft_core.proofs.groups.flight_codes.Given as goal

abbrev pub invariant-loop-place : goal.invariant-loop-place
invariant-loop-place l = l.codes ≡ map flight_code (take l.place l.flight) ++ replicate (8 - l.place) 32
