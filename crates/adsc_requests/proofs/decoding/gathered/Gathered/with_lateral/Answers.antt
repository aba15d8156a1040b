use Rattle.adsc_requests.proofs.GatheredLemmas.{put_lateral}
use Rattle.adsc_requests.proofs.decoding.gathered.Gathered.with_lateral.Goals as goal

pub returns : goal.returns
returns c =
    let s = c.args.self in
    put_lateral s.lateral s.interval s.moduli.m s.vrate s.range s.waypoint s.intent c.args.threshold c.requires.new
