use Rattle.std.proofs.Common.{arith}
use Rattle.link_threads.proofs.SeatSteps.{notes}
use Rattle.link_threads.proofs.turns.note.Goals as goal

pub split_seat-requires : goal.split_seat-requires
split_seat-requires c =
    let seat = c.requires.seat in
    (seat.0, omega (arith, seat.1), notes c.args.board.now.key c.args.seat.now.id c.args.seat.now.me.0 c.requires.idle.1)
