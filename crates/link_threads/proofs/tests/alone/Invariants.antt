use Rattle.std.proofs.Common.{◌≡◌, length}
use Rattle.link_threads.proofs.tests.alone.Given as goal

abbrev pub invariant-loop-link : goal.invariant-loop-link
invariant-loop-link l = length l.craft.setting.addresses ≡ 5
