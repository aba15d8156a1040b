use Rattle.adsc_requests.proofs.GatheredLemmas.{put_interval}
use Rattle.adsc_requests.proofs.decoding.gathered.Gathered.with_interval.Goals as goal

pub returns : goal.returns
returns c =
    let s = c.args.self in
    put_interval s.lateral s.interval s.moduli.m s.vrate s.range s.waypoint s.intent c.args.octet c.requires
