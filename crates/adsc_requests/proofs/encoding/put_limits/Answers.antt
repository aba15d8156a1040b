use Rattle.adsc_requests.proofs.WritingLemmas.{limits_written}
use Rattle.adsc_requests.proofs.encoding.put_limits.Goals as goal

pub returns-clause-octets : goal.returns-clause-octets
returns-clause-octets c =
    let l = c.args.limits.now in
    rw (c.put_waypoint.ensures.octets, c.put_range.ensures.octets, c.put_vrate.ensures.octets, c.put_octet.ensures.octets)
    (limits_written l.lateral l.vrate l.range l.waypoint c.args.out.now.items)
