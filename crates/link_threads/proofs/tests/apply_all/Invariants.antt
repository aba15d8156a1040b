use Rattle.std.proofs.Common.{◌≡◌}
use Rattle.link_threads.proofs.tests.apply_all.Given as goal

abbrev pub invariant-loop-count : goal.invariant-loop-count
invariant-loop-count l = l.craft.setting ≡ l.fn.craft.setting
