use Rattle.std.proofs.Common.{All}
use Rattle.link_threads.specs.Seats.{IsSeatAt, IsIdle, IsPassAt, HasGathered}
use Rattle.link_threads.proofs.closing.gather.Given as goal

abbrev pub invariant-loop-pass : goal.invariant-loop-pass
invariant-loop-pass l = record {
  seat : IsSeatAt l.board.table_id l.seat;
  idle : IsIdle l.board.key l.seat.me;
  gathered : HasGathered l.fn.passes.items l.passes.items l.seat.me.0;
  passes : All (IsPassAt l.board.table_id l.board.key) l.passes.items;
}

abbrev pub decreases-loop-pass : goal.decreases-loop-pass
decreases-loop-pass l = goal.left-loop-pass l
