use Rattle.std.proofs.Common.{◌≡◌}
use Rattle.std.specs.Prelude.{flat_map}
use Rattle.adsc_run.specs.Stations.{rows_of}
use Rattle.adsc_run.proofs.course.centres_of.Given as goal

-- the rows of the stations so far
abbrev pub invariant-loop-station : goal.invariant-loop-station
invariant-loop-station l =
    (goal.iterator-loop-station).can_next l.station-iterator ×
    (goal.iterator-loop-station).is_finite l.station-iterator ×
    (l.rows.items ≡ flat_map rows_of l.yielded)
