use Rattle.std.proofs.Common.{◌∙◌}
use Rattle.run_rules.specs.Output.{refused_line}
use Rattle.adsc_run.proofs.OutgoingLaws.{puts_more}
use Rattle.adsc_run.proofs.output.refused.put_refused.Goals as goal

pub loop-one-preserved : goal.loop-one-preserved
loop-one-preserved g c =
    puts_more refused_line c.args.refused.now c.loop-one.one-index _ _ _ _ _ c.loop-one-test.true c.loop-one.invariant c.put.ensures
    (c.as_slice.ensures.value ∙ c.refused_line.ensures)
