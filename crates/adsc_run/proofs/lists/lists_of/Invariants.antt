use Rattle.run_rules.specs.EarlierLines.{AreWorkersLists}
use Rattle.adsc_run.specs.Lists.{lists_in}
use Rattle.adsc_run.proofs.lists.lists_of.Given as goal

-- the entries so far are dealt out
abbrev pub invariant-loop-entry : goal.invariant-loop-entry
invariant-loop-entry l =
    (goal.iterator-loop-entry).can_next l.entry-iterator ×
    (goal.iterator-loop-entry).is_finite l.entry-iterator ×
    AreWorkersLists l.workers l.yielded (lists_in l.lists.items)
