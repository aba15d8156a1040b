use Rattle.std.proofs.Common.{◌≡◌, ◌∙◌, ap, subst, arith}
use Rattle.adsc_run.specs.Outcomes.{IsOutcome}
use Rattle.generated_scripts.specs.Generator.{made_script}
use Rattle.adsc_bench.proofs.making.outcome_of.Goals as goal

pub unreachable-requires : goal.unreachable-requires
unreachable-requires g c = omega (arith, c.in-Err-Read.ensures.read (cc))

pub returns-in-Ok : goal.returns-in-Ok
returns-in-Ok g c =
    let left : c.in_ok-source.source.left ≡ made_script c.args.number c.args.lines
    = ap (λ source. source.left) c.in_ok-source.ensures ∙ (c.as_slice.ensures.value ∙ c.in_ok-script.ensures) in
    subst (λ bytes. IsOutcome bytes 5 c.in-Ok.outcome) left c.in-Ok.ensures.run
