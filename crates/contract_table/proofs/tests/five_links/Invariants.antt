-- The table has 64 links.
use Rattle.std.proofs.Common.{◌≡◌}
use Rattle.contract_table.proofs.tests.five_links.Given as goal

abbrev pub invariant-loop-link : goal.invariant-loop-link
invariant-loop-link g l = l.table.links ≡ 64
