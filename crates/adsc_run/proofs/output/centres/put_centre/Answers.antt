use Rattle.adsc_run.proofs.OutputLaws.{four_rows}
use Rattle.adsc_run.proofs.output.centres.put_centre.Goals as goal

pub returns : goal.returns
returns g c = four_rows c.args.row.now _ _ _ _ _ c.put_row.ensures c.put_row-2.ensures c.put_row-3.ensures c.put_row-4.ensures
