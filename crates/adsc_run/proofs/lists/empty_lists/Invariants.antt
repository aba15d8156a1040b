use Rattle.std.proofs.Common.{◌≡◌, [], All, length}
use Rattle.adsc_run.specs.Lists.{lists_in}
use Rattle.adsc_run.proofs.lists.empty_lists.Given as goal

-- so many lists are there, all empty
abbrev pub invariant-loop-worker : goal.invariant-loop-worker
invariant-loop-worker l = record {
  count : length l.lists.items ≡ l._worker;
  empty : All (λ list. list ≡ []) (lists_in l.lists.items);
}
