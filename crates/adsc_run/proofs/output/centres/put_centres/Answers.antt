use Rattle.std.proofs.Common.{ap}
use Rattle.adsc_run.specs.OutcomeTexts.{lines_of_row}
use Rattle.adsc_run.proofs.OutgoingLaws.{puts_more}
use Rattle.adsc_run.proofs.output.centres.put_centres.Goals as goal

pub loop-row-preserved : goal.loop-row-preserved
loop-row-preserved g c =
    puts_more lines_of_row c.args.rows.now c.loop-row.row-index c.row-item.result _ _ _ _ c.loop-row-test.true c.loop-row.invariant c.put_centre.ensures
    (ap lines_of_row c.row-item.is)
