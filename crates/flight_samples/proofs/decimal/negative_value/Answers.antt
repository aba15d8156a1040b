use Rattle.std.proofs.Common.{◌^◌, arith}
use Rattle.std.proofs.lemmas.Int.{ints}
use Rattle.flight_samples.proofs.DecimalLemmas.{negative_some}
use Rattle.flight_samples.proofs.decimal.negative_value.Goals as goal

pub returns-in_default-clause-some : goal.returns-in_default-clause-some
returns-in_default-clause-some c =
    let read = c.in_ok-value.ensures.some in
    negative_some (2 ^ 32) read.0 c.in_ok-value.value _ c.args.digits.now read.1 read.2 (λ e. absurd (omega (arith, e))) (omega (arith, ints, read.2))
