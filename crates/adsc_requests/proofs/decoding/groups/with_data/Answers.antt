use Rattle.std.proofs.Common.{refl}
use Rattle.adsc_requests.specs.Reading.{with_data_at}
use Rattle.adsc_requests.proofs.ReadingLemmas.{no_waypoint_data}
use Rattle.adsc_requests.proofs.decoding.groups.with_data.Goals as goal

pub returns-in-20 : goal.returns-in-20
unfolding with_data_at
returns-in-20 c = rw c.in-20.is (rw (no_waypoint_data c.args.number c.args.octets.now, c.with_waypoint.ensures) refl)
