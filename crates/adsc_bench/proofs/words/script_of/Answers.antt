use Rattle.std.proofs.Common.{sym, ◌∙◌, arith}
use Rattle.std.proofs.lemmas.Fmt.{decimal_injective}
use Rattle.adsc_bench.proofs.words.script_of.Goals as goal

pub returns-in_default-clause-none : goal.returns-in_default-clause-none
returns-in_default-clause-none c = λ n m are.
    let same = decimal_injective c.in_ok-lines.lines m (omega (arith, c.in_ok-lines.ensures.some.0)) (omega (arith, are.most))
    (sym c.in_ok-lines.ensures.some.1 ∙ are.lines_spelled) in
    omega (arith, same, are.least, are.most, c.in_default)

pub returns-in_default-2-clause-none : goal.returns-in_default-2-clause-none
returns-in_default-2-clause-none c = λ n m are.
    let same = decimal_injective c.in_ok-lines.lines m (omega (arith, c.in_ok-lines.ensures.some.0)) (omega (arith, are.most))
    (sym c.in_ok-lines.ensures.some.1 ∙ are.lines_spelled) in
    omega (arith, same, are.least, are.most, c.in_default)
