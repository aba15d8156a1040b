use Rattle.std.proofs.Common.{ap, ◌∙◌, List, ℕ, arith}
use Rattle.aircraft_core.specs.Setting.{address_of}
use Rattle.run_rules.specs.Output.{logon_line}
use Rattle.adsc_run.proofs.OutgoingLaws.{puts_same}
use Rattle.adsc_run.proofs.OutputLaws.{links_more, links_all}
use Rattle.adsc_run.proofs.output.links.put_links.Goals as goal

pub loop-link-preserved : goal.loop-link-preserved
loop-link-preserved g c =
    links_more c.args.craft.now.setting c.args.craft.now.journal c.loop-link.link _ _ _ _ _ (omega (arith, c.loop-link-test.true, c.links-link-end.ensures))
    c.loop-link.invariant c.outbox.ensures.texts
    (puts_same _ _ _ _ c.put.ensures
    (c.as_slice.ensures.value ∙ c.logon_line-line.ensures ∙ ap (λ (address : List ℕ). logon_line address c.logon.result) c.address.ensures
    ∙ ap (λ logon. logon_line (address_of c.args.craft.now.setting c.loop-link.link) logon) c.logon.ensures))
    c.put_downlinks.ensures

pub returns : goal.returns
returns g c =
    links_all c.args.craft.now.setting c.args.craft.now.journal c.loop-link.link _ _
    (omega (arith, c.loop-link-test.false, c.loop-link.auto.link-end, c.links-link-end.ensures)) c.loop-link.invariant
