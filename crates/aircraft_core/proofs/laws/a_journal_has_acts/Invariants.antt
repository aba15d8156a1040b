-- The entries so far have acts.
use Rattle.std.proofs.Common.{List, take}
use Rattle.contract_rules.specs.Acts.{Act}
use Rattle.aircraft_core.specs.JournalActs.{JournalActs}
use Rattle.aircraft_core.proofs.laws.a_journal_has_acts.Given as goal

abbrev pub invariant-loop-entry : goal.invariant-loop-entry
invariant-loop-entry l = (acts : List (List Act)) × JournalActs l.first (take l.entry-index l.journal) acts
