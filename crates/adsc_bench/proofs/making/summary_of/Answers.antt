use Rattle.std.proofs.Common.{◌∙◌}
use Rattle.std.proofs.lemmas.Result.{IfOk-weaker}
use Rattle.adsc_bench.specs.Making.{IsSummary}
use Rattle.adsc_bench.proofs.MakingLaws.{has_craft, is_summary}
use Rattle.adsc_bench.proofs.making.summary_of.Goals as goal

pub unreachable-requires : goal.unreachable-requires
unreachable-requires g c =
    has_craft c.each_line_is_taken.ensures c.args.number c.args.lines c.in_ok-outcome.outcome c.requires.0 c.requires.1 c.in_ok-outcome.ensures
    c.in-None.is

pub returns : goal.returns
returns g c = IfOk-weaker c.summarize.result _ (λ text. IsSummary c.args.number c.args.lines text.items) (λ text spelled.
    is_summary c.a_generated_script_has_one_summary.ensures.one c.args.number c.args.lines c.in_ok-outcome.outcome c.in-Some.craft text.items
    c.requires.0 c.requires.1 c.in_ok-outcome.ensures c.in-Some.is c.len.result
    (c.len.ensures ∙ c.in_ok-outcome.outcome.refused.ok.0) spelled) c.summarize.ensures
