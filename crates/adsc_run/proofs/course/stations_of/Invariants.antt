use Rattle.std.proofs.Common.{◌≡◌, ℕ, [], length, Some, slice_get}
use Rattle.adsc_run.specs.Stations.{StationStands}
use Rattle.adsc_run.specs.declared.station.Station.{Station}
use Rattle.adsc_run.proofs.course.stations_of.Given as goal

-- the stations of the links so far are there, unused
abbrev pub invariant-loop-link : goal.invariant-loop-link
invariant-loop-link l = record {
  count : length l.stations.items ≡ l.link;
  each : (link : ℕ) (station : Station) → slice_get l.stations.items link ≡ Some station → StationStands l.craft.setting link [] station;
}
