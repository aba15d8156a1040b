use Rattle.std.proofs.Common.{arith}
use Rattle.std.proofs.lemmas.Int.{ints}
use Rattle.flight_samples.proofs.SightLemmas.{negative_is}
use Rattle.flight_samples.proofs.sight.negative_seen.Goals as goal

pub returns-in_default : goal.returns-in_default
returns-in_default c =
    let seen = c.in_ok-value.ensures in
    negative_is c.in_ok-value.value _ c.args.digits.now seen.number (λ e. absurd (omega (arith, e))) (omega (arith, ints, seen.small))
