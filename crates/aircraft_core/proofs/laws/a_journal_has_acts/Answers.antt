use Rattle.aircraft_core.proofs.JournalLaws.{acts_more}
use Rattle.aircraft_core.proofs.laws.a_journal_has_acts.Goals as goal

pub loop-entry-preserved : goal.loop-entry-preserved
loop-entry-preserved c =
    acts_more c.args.first.now c.args.journal.now c.loop-entry.entry-index c.entry-item.result c.loop-entry-test.true c.entry-item.is c.loop-entry.invariant
    c.an_entry_has_acts.ensures
