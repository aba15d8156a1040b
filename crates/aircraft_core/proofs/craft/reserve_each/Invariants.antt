-- The outboxes so far have room, and none lost any.
use Rattle.std.proofs.Common.{◌≡◌, ℕ, ◌<◌, ◌≤◌, length}
use Rattle.aircraft_core.specs.Outboxes.{outbox_of, entry_bytes}
use Rattle.aircraft_core.proofs.craft.reserve_each.Given as goal

abbrev pub invariant-loop-outbox : goal.invariant-loop-outbox
invariant-loop-outbox l = record {
  each_link : length l.outbox-items ≡ length l.fn.outboxes;
  sent : (link : ℕ) → (outbox_of l.outbox-items link).sent ≡ (outbox_of l.fn.outboxes link).sent;
  kept : (link : ℕ) → (outbox_of l.fn.outboxes link).room ≤ (outbox_of l.outbox-items link).room;
  room : (link : ℕ) → link < l.outbox-index → entry_bytes ≤ (outbox_of l.outbox-items link).room;
}
