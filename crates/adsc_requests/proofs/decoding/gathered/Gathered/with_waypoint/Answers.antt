use Rattle.adsc_requests.proofs.GatheredLemmas.{put_waypoint}
use Rattle.adsc_requests.proofs.decoding.gathered.Gathered.with_waypoint.Goals as goal

pub returns : goal.returns
returns c =
    let s = c.args.self in
    put_waypoint s.lateral s.interval s.moduli.m s.vrate s.range s.waypoint s.intent c.requires
