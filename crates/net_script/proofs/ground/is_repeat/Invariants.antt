use Rattle.std.proofs.Common.{◌≢◌, ◌<◌, ℕ, [], get_or}
use Rattle.net_script.proofs.ground.is_repeat.Given as goal

-- No address so far is equal to the one at the place.
abbrev pub invariant-loop-earlier : goal.invariant-loop-earlier
invariant-loop-earlier l = (k : ℕ) → k < l.earlier → get_or l.addresses k [] ≢ get_or l.addresses l.place []
