use Rattle.std.proofs.Common.{◌≡◌, filter}
use Rattle.adsc_run.specs.Lists.{is_filled, lists_in}
use Rattle.adsc_run.proofs.lists.filled.Given as goal

-- those of the lists so far are kept
abbrev pub invariant-loop-list : goal.invariant-loop-list
invariant-loop-list l =
    (goal.iterator-loop-list).can_next l.list-iterator ×
    (goal.iterator-loop-list).is_finite l.list-iterator ×
    (lists_in l.busy.items ≡ filter is_filled (lists_in l.yielded))
