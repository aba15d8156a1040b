use Rattle.run_rules.proofs.JournalLines.{journal_line_shows_order}
use Rattle.run_rules.proofs.laws.a_journal_line_shows_its_order.Goals as goal

pub returns : goal.returns
returns c = journal_line_shows_order
