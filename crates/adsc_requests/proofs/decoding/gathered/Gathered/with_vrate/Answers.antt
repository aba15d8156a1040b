use Rattle.std.proofs.lemmas.Int.{to_z-of_z}
use Rattle.std.specs.Int.{w8}
use Rattle.adsc_requests.proofs.GatheredLemmas.{put_vrate}
use Rattle.adsc_requests.proofs.decoding.gathered.Gathered.with_vrate.Goals as goal

pub returns : goal.returns
returns c =
    let s = c.args.self in
    rw (to_z-of_z w8 c.args.threshold c.ranges.threshold)
    (put_vrate s.lateral s.interval s.moduli.m s.vrate s.range s.waypoint s.intent c.args.threshold c.requires.new)
