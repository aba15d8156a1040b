use Rattle.std.proofs.Common.{ap, ◌∙◌}
use Rattle.aircraft_core.specs.Entries.{line_of}
use Rattle.output_fields.specs.Fields.{number_field}
use Rattle.adsc_run.proofs.OutgoingLaws.{puts_more}
use Rattle.adsc_run.proofs.output.journal.put_entries.Goals as goal

pub loop-entry-preserved : goal.loop-entry-preserved
loop-entry-preserved g c =
    puts_more (λ entry. number_field (line_of entry)) c.args.entries.now c.loop-entry.entry-index c.entry-item.result _ _ _ _ c.loop-entry-test.true
    c.loop-entry.invariant c.put.ensures
    (c.as_slice.ensures.value ∙ c.field_of.ensures ∙ ap number_field c.line_of.ensures ∙ ap (λ entry. number_field (line_of entry)) c.entry-item.is)
