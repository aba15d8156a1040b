use Rattle.std.proofs.Common.{◌+◌}
use Rattle.net_script.specs.Addresses.{NoStarBefore}
use Rattle.net_script.specs.Fields.{fields_of}
use Rattle.net_script.proofs.ground.first_starred.Given as goal

-- No field so far is starred.
abbrev pub invariant-loop-place : goal.invariant-loop-place
invariant-loop-place l = NoStarBefore (fields_of l.line) (l.place + 1)
