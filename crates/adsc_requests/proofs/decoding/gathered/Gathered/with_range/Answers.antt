use Rattle.adsc_requests.proofs.GatheredLemmas.{put_range}
use Rattle.adsc_requests.proofs.decoding.gathered.Gathered.with_range.Goals as goal

pub returns : goal.returns
returns c =
    let s = c.args.self in
    put_range s.lateral s.interval s.moduli.m s.vrate s.range s.waypoint s.intent c.args.range c.requires
