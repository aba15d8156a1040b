use Rattle.std.proofs.Common.{ap, ◌++◌}
use Rattle.std.specs.Prelude.{codes}
use Rattle.adsc_io.specs.Lines.{ended}
use Rattle.adsc_run.proofs.OutputLaws.{so_none, so_more, so_all}
use Rattle.run_rules.specs.Output.{downlink_lines}
use Rattle.adsc_run.proofs.output.links.put_downlinks.Goals as goal

pub loop-text-init : goal.loop-text-init
loop-text-init g c = so_none _ _

pub loop-text-preserved : goal.loop-text-preserved
loop-text-preserved g c =
    so_more _ _ _ (codes "D," ++ ended c.in-Some.text.now) _ _ (rw c.in-Some.ensures.line at c.loop-text.invariant) c.put_downlink.ensures

pub returns : goal.returns
returns g c = so_all _ _ _ _ (ap downlink_lines c.in_default.ensures.end) c.loop-text.invariant
