use Rattle.std.proofs.Common.{◌≡◌, ℕ, [], length, Some, slice_get}
use Rattle.adsc_run.specs.declared.outbox.TextEnds.{TextEnds}
use Rattle.adsc_run.proofs.outbox.no_ends.Given as goal

-- for so many links so far no text is found
abbrev pub invariant-loop : goal.invariant-loop
invariant-loop l = record {
  count : length l.ends.items ≡ l.counter;
  none : (link : ℕ) (one : TextEnds) → slice_get l.ends.items link ≡ Some one → one.ends.items ≡ [];
}
