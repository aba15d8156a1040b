use Rattle.std.proofs.Common.{[], ◌∷◌, ◌++◌}
use Rattle.std.specs.List.{flat_map}
use Rattle.std.specs.Prelude.{codes}
use Rattle.output_fields.specs.Fields.{number_field}
use Rattle.run_rules.specs.Orders.{line_order}
use Rattle.adsc_run.specs.Outcomes.{journal_in}
use Rattle.adsc_run.proofs.OutgoingLaws.{puts_then}
use Rattle.adsc_run.proofs.output.journal.put_journal.Goals as goal

pub returns : goal.returns
returns g c =
    puts_then _ _ _ (codes "J") (flat_map number_field (line_order (journal_in c.args.craft.now)) ++ 10 ∷ []) c.put.ensures
    (puts_then _ _ _ (flat_map number_field (line_order (journal_in c.args.craft.now))) (10 ∷ []) c.put_entries_of.ensures c.put-2.ensures)
