use Rattle.std.proofs.Common.{◌≡◌, ◌≢◌, ◌<◌, ℕ, get_or}
use Rattle.flight_samples.proofs.splitter.behind_field.Given as goal

-- The bytes so far are the same, and no comma.
abbrev pub invariant-loop-place : goal.invariant-loop-place
invariant-loop-place l = record {
  same : (k : ℕ) → k < l.place → get_or l.field k 0 ≡ get_or l.front k 0;
  whole : (k : ℕ) → k < l.place → get_or l.field k 0 ≢ 44;
}
