use Rattle.std.proofs.Common.{ap, ◌∙◌}
use Rattle.run_rules.specs.Output.{row_line}
use Rattle.adsc_run.proofs.OutgoingLaws.{puts_same}
use Rattle.adsc_run.proofs.output.centres.put_row.Goals as goal

pub returns : goal.returns
returns g c =
    puts_same _ _ _ _ c.put.ensures
    (c.as_slice.ensures.value ∙ c.row_line-line.ensures ∙ ap (row_line c.args.row.now.address c.args.kind) c.shown.ensures.row)
