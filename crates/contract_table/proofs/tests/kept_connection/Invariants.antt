-- The table has six links.
use Rattle.std.proofs.Common.{◌≡◌}
use Rattle.contract_table.proofs.tests.kept_connection.Given as goal

abbrev pub invariant-loop-link : goal.invariant-loop-link
invariant-loop-link g l = l.table.links ≡ 6
