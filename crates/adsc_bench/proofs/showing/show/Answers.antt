use Rattle.std.proofs.Common.{refl, arith}
use Rattle.adsc_bench.proofs.ShowingLaws.{nothing_shown, shows-memory, shows_anyway, still_counts}
use Rattle.adsc_bench.proofs.showing.show.Goals as goal

pub returns-in-Err : goal.returns-in-Err
returns-in-Err g c = shows-memory _ _ _ (refl, refl)

pub loop-status-init : goal.loop-status-init
loop-status-init g c =
    let fresh = c.in-Ok.ensures.fresh in
    record { shown = nothing_shown _ _ _ c.in-Ok.ensures.stands fresh.0 fresh.1 fresh.2; counted = omega (arith, fresh.2) }

pub returns-in-Some : goal.returns-in-Some
returns-in-Some g c = shows_anyway _ _ _ _ (c.in-Some.ensures.some _ c.loop-status.invariant.shown)

pub loop-status-preserved : goal.loop-status-preserved
loop-status-preserved g c = record { shown = c.in_default.ensures.none _ c.loop-status.invariant.shown; counted = c.in_default.ensures.counted }

pub loop-status-smaller : goal.loop-status-smaller
loop-status-smaller g c =
    still_counts _ _ _ _ _ c.loop-status.invariant.shown c.in_default.ensures.number
