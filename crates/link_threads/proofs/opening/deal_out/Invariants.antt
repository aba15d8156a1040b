use Rattle.std.proofs.Common.{◌≡◌, ◌+◌, ◌≤◌, All, vec_capacity, vec_len}
use Rattle.link_threads.specs.Seats.{IsSeatAt, IsIdle, IsNewPassAt}
use Rattle.link_threads.specs.Turns.{empty_lists}
use Rattle.link_threads.proofs.opening.deal_out.Given as goal

abbrev pub invariant-loop-left : goal.invariant-loop-left
invariant-loop-left l = record {
  seat : IsSeatAt l.board.table_id l.seat;
  idle : IsIdle l.board.key l.seat.me;
  lists : l.seat.me.0.lists ≡ empty_lists l.left;
  seen : l.seat.me.0.seen ≡ l.board.key.craft.value.journal;
  count : vec_len l.passes + l.left ≡ l.count;
  room : l.count ≤ vec_capacity l.passes;
  new : All (IsNewPassAt l.board.table_id l.board.key) l.passes.items;
}

abbrev pub decreases-loop-left : goal.decreases-loop-left
decreases-loop-left l = l.left
