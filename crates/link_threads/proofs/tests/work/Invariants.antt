use Rattle.link_threads.specs.Passes.{IsPassOf}
use Rattle.link_threads.proofs.tests.work.Given as goal

abbrev pub invariant-loop-count : goal.invariant-loop-count
invariant-loop-count g l = IsPassOf l.shared l.pass
