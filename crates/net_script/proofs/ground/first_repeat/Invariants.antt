use Rattle.std.proofs.Common.{◌<◌, ℕ}
use Rattle.net_script.specs.Addresses.{IsRepeat}
use Rattle.net_script.proofs.ground.first_repeat.Given as goal

-- No address so far is equal to one before it.
abbrev pub invariant-loop-place : goal.invariant-loop-place
invariant-loop-place l = (k : ℕ) → k < l.place → ¬ IsRepeat l.addresses k
