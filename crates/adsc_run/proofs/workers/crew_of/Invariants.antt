use Rattle.std.proofs.Common.{◌≡◌, ◌++◌, length, map}
use Rattle.adsc_run.specs.Lists.{lists_in}
use Rattle.adsc_run.specs.Workers.{entries_of, passes_in}
use Rattle.adsc_run.proofs.workers.crew_of.Given as goal

-- the first passes and lists are with the workers
abbrev pub invariant-loop-crew : goal.invariant-loop-crew
invariant-loop-crew l = record {
  count : length l.passes.items ≡ length l.lists.items;
  passes : passes_in l.crew.items ++ l.passes.items ≡ l.fn.passes.items;
  entries : map entries_of l.crew.items ++ lists_in l.lists.items ≡ lists_in l.fn.lists.items;
}

abbrev pub decreases-loop-crew : goal.decreases-loop-crew
decreases-loop-crew l = length l.lists.items
