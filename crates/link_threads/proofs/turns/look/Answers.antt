use Rattle.std.proofs.Common.{arith}
use Rattle.link_threads.proofs.Allowed.{look_allowed}
use Rattle.link_threads.proofs.turns.look.Goals as goal

pub load-requires : goal.load-requires
load-requires c =
    let seat = c.requires.seat in
    (seat.0, omega (arith, seat.1), look_allowed c.args.board.now.key c.args.board.now.table_id.slots c.args.seat.now.id c.args.seat.now.me seat.2 c.requires.idle.0)
