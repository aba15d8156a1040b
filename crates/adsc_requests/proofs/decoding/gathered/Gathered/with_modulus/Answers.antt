use Rattle.std.proofs.Common.{◌≤◌, arith}
use Rattle.adsc_requests.proofs.GatheredLemmas.{put_modulus, modulus_range}
use Rattle.adsc_requests.proofs.decoding.gathered.Gathered.with_modulus.Goals as goal

pub overflow_sub-tag : goal.overflow_sub-tag
overflow_sub-tag c = let r : (12 ≤ c.args.tag) × (c.args.tag ≤ 17) = modulus_range c.args.tag c.requires.tag in omega arith

pub with-gathered-requires : goal.with-gathered-requires
with-gathered-requires c = let r : (12 ≤ c.args.tag) × (c.args.tag ≤ 17) = modulus_range c.args.tag c.requires.tag in omega arith

pub returns : goal.returns
returns c =
    let s = c.args.self in
    rw c.with-gathered.ensures
    (put_modulus s.lateral s.interval s.moduli.m s.vrate s.range s.waypoint s.intent c.args.tag c.args.modulus c.requires.tag s.moduli.six c.requires.new)
