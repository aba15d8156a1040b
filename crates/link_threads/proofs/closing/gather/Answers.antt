use Rattle.std.proofs.Common.{ap, ◌∙◌}
use Rattle.link_threads.specs.Passes.{Sharing}
use Rattle.link_threads.specs.Seats.{IsPassAt}
use Rattle.link_threads.proofs.Gathering.{gathered_first, gathered_more}
use Rattle.link_threads.proofs.Passing.{all_popped}
use Rattle.link_threads.proofs.closing.gather.Goals as goal

pub loop-pass-init : goal.loop-pass-init
loop-pass-init c =
    let seat = c.seat_of-seat.ensures in
    let both = all_popped (IsPassAt c.args.board.now.table_id c.args.board.now.key) c.args.passes.items c.pop.new.self.items c.in-Some.first c.in-Some.ensures.items c.requires.passes in
    record {
      seat = (seat.table ∙ ap (λ (s : Sharing). s.table) both.0, c.requires.table.0, c.requires.table.1);
      idle = (seat.idle.0, seat.idle.1, seat.start ∙ ap (λ (s : Sharing). s.opening) both.0);
      gathered = gathered_first c.args.passes.items c.pop.new.self.items c.in-Some.first c.seat_of-seat.result.me.0 c.in-Some.ensures.items seat.lists seat.seen;
      passes = both.1;
    }

pub take_in-requires-clause-pass : goal.take_in-requires-clause-pass
take_in-requires-clause-pass c =
    (all_popped (IsPassAt c.args.board.now.table_id c.args.board.now.key) c.loop-pass.passes.items c.pop-in-loop-pass.new.self.items c.in-Some-pop.pass c.in-Some-pop.ensures.items c.loop-pass.invariant.passes).0

pub loop-pass-preserved : goal.loop-pass-preserved
loop-pass-preserved c = record {
  seat = c.take_in.ensures.seat;
  idle = c.take_in.ensures.idle;
  gathered = gathered_more c.args.passes.items c.loop-pass.passes.items c.pop-in-loop-pass.new.self.items c.in-Some-pop.pass c.loop-pass.seat.me.0 c.take_in.new.seat.me.0 c.in-Some-pop.ensures.items
      c.take_in.ensures.taken c.loop-pass.invariant.gathered;
  passes =
      (all_popped (IsPassAt c.args.board.now.table_id c.args.board.now.key) c.loop-pass.passes.items c.pop-in-loop-pass.new.self.items c.in-Some-pop.pass c.in-Some-pop.ensures.items c.loop-pass.invariant.passes).1;
}
