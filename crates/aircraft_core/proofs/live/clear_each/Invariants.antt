-- The outboxes so far are empty and have room.
use Rattle.std.proofs.Common.{◌≡◌, ℕ, ◌<◌, [], length}
use Rattle.aircraft_core.specs.Outboxes.{HasRoom, outbox_of}
use Rattle.aircraft_core.proofs.live.clear_each.Given as goal

abbrev pub invariant-loop-outbox : goal.invariant-loop-outbox
invariant-loop-outbox l = record {
  each_link : length l.outbox-items ≡ length l.fn.outboxes;
  sent : (link : ℕ) → link < l.outbox-index → (outbox_of l.outbox-items link).sent ≡ [];
  room : (link : ℕ) → link < l.outbox-index → HasRoom (outbox_of l.outbox-items link);
}
