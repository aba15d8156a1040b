use Rattle.std.proofs.Common.{arith}
use Rattle.flight_samples.proofs.SplitLemmas.{begins, no_comma}
use Rattle.flight_samples.proofs.splitter.behind_field.Goals as goal

pub returns-clause-begins : goal.returns-clause-begins
returns-clause-begins c =
    begins c.args.field.now c.split_at.result.0.now c.split_at.result.1.now c.args.text.now c.split_at.ensures.front_len c.split_at.ensures.by_index.0
    (λ k within. c.loop-place.invariant.same k (omega (arith, c.loop-place-test.false)))

pub returns-clause-whole : goal.returns-clause-whole
returns-clause-whole c = no_comma c.args.field.now (λ k within. c.loop-place.invariant.whole k (omega (arith, c.loop-place-test.false)))
