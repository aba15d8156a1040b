use Rattle.std.proofs.Common.{◌≡◌, ◌++◌}
use Rattle.link_threads.specs.Passes.{IsPassOf}
use Rattle.adsc_run.proofs.workers.take_all.Given as goal

-- the entries so far are taken
abbrev pub invariant-loop-entry : goal.invariant-loop-entry
invariant-loop-entry g l =
    (goal.iterator-loop-entry g).can_next l.entry-iterator ×
    (goal.iterator-loop-entry g).is_finite l.entry-iterator ×
    IsPassOf l.shared l.pass ×
    (l.pass.mine ≡ l.fn.pass.mine ++ l.yielded)
