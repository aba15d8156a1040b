-- So many outboxes so far, all of them empty.
use Rattle.std.proofs.Common.{◌≡◌, [], All, length}
use Rattle.aircraft_core.proofs.making.empty_outboxes.Given as goal

abbrev pub invariant-loop : goal.invariant-loop
invariant-loop l = record {
  count : length l.outboxes.items ≡ l.counter;
  empty : All (λ outbox. outbox.sent ≡ []) l.outboxes.items;
}
