use Rattle.std.proofs.Common.{arith}
use Rattle.std.proofs.lemmas.List.{take_rest}
use Rattle.flight_samples.proofs.DecimalLemmas.{no_integer_if}
use Rattle.flight_samples.proofs.decimal.signed_value.Goals as goal

pub returns-in-45-clause-none : goal.returns-in-45-clause-none
returns-in-45-clause-none c = no_integer_if _ c.args.text.now c.in-45.len_at_least (omega arith)
    (rw take_rest at c.negative_value.ensures.none)
