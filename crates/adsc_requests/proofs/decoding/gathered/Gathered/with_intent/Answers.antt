use Rattle.adsc_requests.proofs.GatheredLemmas.{put_intent}
use Rattle.adsc_requests.proofs.decoding.gathered.Gathered.with_intent.Goals as goal

pub returns : goal.returns
returns c =
    let s = c.args.self in
    put_intent s.lateral s.interval s.moduli.m s.vrate s.range s.waypoint s.intent c.args.intent c.requires
