use Rattle.std.proofs.Common.{below_more, arith}
use Rattle.net_script.proofs.GroundLaws.{not_from}
use Rattle.net_script.proofs.ground.first_repeat.Goals as goal

pub loop-place-preserved : goal.loop-place-preserved
loop-place-preserved c = below_more _ _ c.loop-place.invariant (not_from _ _ c.is_repeat.ensures c.if-is_repeat.false)

pub returns-clause-none : goal.returns-clause-none
returns-clause-none c place inside = c.loop-place.invariant place (omega (arith, c.loop-place-test.false))
