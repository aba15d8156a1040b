use Rattle.std.proofs.Common.{◌≡◌, All}
use Rattle.std.specs.Prelude.{IsOk}
use Rattle.adsc_run.specs.Workers.{passes_in}
use Rattle.adsc_run.proofs.workers.passes_of.Given as goal

-- the workers so far have taken their entries, and their passes are here
abbrev pub invariant-loop-worker : goal.invariant-loop-worker
invariant-loop-worker l =
    (goal.iterator-loop-worker).can_next l.worker-iterator ×
    (goal.iterator-loop-worker).is_finite l.worker-iterator ×
    (l.passes.items ≡ passes_in l.yielded) ×
    All (λ worker. IsOk worker.taken) l.yielded
