use Rattle.std.proofs.Common.{refl}
use Rattle.aircraft_core.proofs.CodesLaws.{code_more}
use Rattle.aircraft_core.proofs.groups.flight_codes.Goals as goal

pub loop-place-preserved : goal.loop-place-preserved
loop-place-preserved c =
    let flight = c.args.flight.now in
    let place = c.loop-place.place in
    rw c.flight_code.ensures (code_more flight place _ c.loop-place.codes c.loop-place-test.true c.requires.few refl c.loop-place.invariant)
