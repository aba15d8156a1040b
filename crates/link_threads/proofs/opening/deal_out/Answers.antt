use Rattle.std.proofs.Common.{arith, ap, ◌∙◌, length, drop}
use Rattle.link_threads.specs.Turns.{Seated}
use Rattle.link_threads.specs.Seats.{IsNewPassAt, pass_of}
use Rattle.link_threads.proofs.Views.{empty_length}
use Rattle.link_threads.proofs.Passing.{one_dealt, empty_rest, new_pass, all_pushed}
use Rattle.link_threads.proofs.opening.deal_out.Goals as goal

pub deal-requires-clause-listed : goal.deal-requires-clause-listed
deal-requires-clause-listed c = omega (arith, ap length c.loop-left.invariant.lists, empty_length c.loop-left.left)

pub invariant_of-push_reserved : goal.invariant_of-push_reserved
invariant_of-push_reserved c =
    let me = c.deal.ensures.dealt in
    let lists = c.loop-left.seat.me.0.lists in (
      ap (λ (m : Seated). m.1) me,
      ap (λ (m : Seated). m.0.turn) me,
      ap (λ (m : Seated). length m.0.lists) me ∙ one_dealt c.loop-left.seat.me.0.lists (omega (arith, ap length c.loop-left.invariant.lists, empty_length c.loop-left.left)),
    )

pub loop-left-preserved : goal.loop-left-preserved
loop-left-preserved c =
    let was = c.loop-left.invariant in
    let now = c.deal.ensures.now in
    record {
      seat = (c.deal.ensures.same.0 ∙ was.seat.0, was.seat.1, was.seat.2);
      idle = (ap (λ (m : Seated). m.1) now, ap (λ (m : Seated). m.0.turn) now ∙ was.idle.1, ap (λ (m : Seated). m.0.start) now ∙ was.idle.2);
      lists = ap (λ (m : Seated). m.0.lists) now ∙ ap (drop 1) was.lists ∙ empty_rest c.loop-left.left c.loop-left-test.true;
      seen = ap (λ (m : Seated). m.0.seen) now ∙ was.seen;
      count = omega (arith, c.push_reserved.ensures.len, was.count, c.loop-left-test.true);
      room = omega (arith, c.push_reserved.ensures.capacity, was.room);
      new = all_pushed (IsNewPassAt c.args.board.now.table_id c.args.board.now.key) c.push_reserved.new.self.items c.loop-left.passes.items (pass_of c.deal.result) c.push_reserved.ensures.items was.new
          (new_pass c.args.board.now.table_id c.args.board.now.key c.loop-left.seat.me.0 c.loop-left.left c.deal.result (c.deal.ensures.table ∙ was.seat.0) c.deal.ensures.dealt was.idle.2 was.lists was.seen);
    }
