use Rattle.std.proofs.Common.{arith}
use Rattle.link_threads.proofs.SeatSteps.{joins}
use Rattle.link_threads.proofs.turns.join.Goals as goal

pub join_seat-requires : goal.join_seat-requires
join_seat-requires c =
    let seat = c.requires.seat in
    (seat.0, c.requires.other.0, c.requires.other_idle.0, omega (arith, seat.1), joins c.args.board.now.key c.args.seat.now.id c.args.other.id c.args.seat.now.me.0 c.args.other.me.0 c.requires.idle.1 c.requires.other_idle.1)
