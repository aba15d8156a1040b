use Rattle.std.proofs.Common.{◌≡◌, ◌++◌}
use Rattle.adsc_run.proofs.workers.enter_in_order.Given as goal

-- the entries so far are entered
abbrev pub invariant-loop-entry : goal.invariant-loop-entry
invariant-loop-entry g l =
    (goal.iterator-loop-entry g).can_next l.entry-iterator ×
    (goal.iterator-loop-entry g).is_finite l.entry-iterator ×
    (l.craft.journal ≡ l.fn.craft.journal ++ l.yielded) ×
    (l.craft.setting ≡ l.fn.craft.setting)
