use Rattle.std.proofs.Common.{refl, ◌++◌}
use Rattle.run_rules.specs.Orders.{line_order}
use Rattle.run_rules.specs.Output.{journal_line}
use Rattle.adsc_run.specs.Outcomes.{journal_in}
use Rattle.adsc_run.proofs.OutgoingLaws.{puts_then}
use Rattle.adsc_run.proofs.output.put_outcome.Goals as goal

pub returns : goal.returns
returns g c = record {
  text = journal_line (line_order (journal_in c.args.outcome.now.craft)) ++ c.put_end.ensures.text;
  such = record { behind = c.put_end.ensures.text; is_end = c.put_end.ensures.such; spelled = refl };
  puts = puts_then _ _ _ (journal_line (line_order (journal_in c.args.outcome.now.craft))) c.put_end.ensures.text c.put_journal.ensures c.put_end.ensures.puts;
}
