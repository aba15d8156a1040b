use Rattle.std.proofs.Common.{ℕ, List, ◌++◌, ap, ◌∙◌, arith}
use Rattle.adsc_io.specs.Lines.{script_lines}
use Rattle.generated_scripts.specs.Summaries.{link_line}
use Rattle.generated_scripts.proofs.SummaryLaws.{link_more, links_done}
use Rattle.generated_scripts.proofs.summary.append_links.Goals as goal

pub loop-link-preserved : goal.loop-link-preserved
loop-link-preserved c =
    link_more c.args.craft.now.setting c.args.craft.now.journal c.loop-link.link _ (script_lines c.outbox.result.now) _ _ _ (omega (arith, c.loop-link-test.true, c.links-link-end.ensures))
    c.loop-link.invariant c.outbox.ensures.texts
    (c.in_ok-append_link.ensures
    ∙ ap (λ (a : List ℕ). c.loop-link.out.items ++ link_line a (script_lines c.outbox.result.now)) (c.as_slice.ensures ∙ c.seven.ensures.value ∙ c.address.ensures))

pub returns : goal.returns
returns c =
    links_done c.args.craft.now.setting c.args.craft.now.journal c.loop-link.link _ _ _ (omega (arith, c.loop-link-test.false, c.loop-link.auto.link-end, c.links-link-end.ensures)) c.loop-link.invariant
