-- The table has one link.
use Rattle.std.proofs.Common.{◌≡◌}
use Rattle.contract_table.proofs.tests.take_steps.Given as goal

abbrev pub invariant-loop-place : goal.invariant-loop-place
invariant-loop-place g l = l.table.links ≡ 1
