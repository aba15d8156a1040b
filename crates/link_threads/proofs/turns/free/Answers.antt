use Rattle.std.proofs.Common.{arith}
use Rattle.link_threads.proofs.Allowed.{free_allowed}
use Rattle.link_threads.proofs.turns.free.Goals as goal

pub store-requires : goal.store-requires
store-requires c =
    let seat = c.requires.seat in
    (seat.0, omega (arith, seat.1), free_allowed c.args.board.now.key c.args.board.now.table_id.slots c.args.seat.now.id c.args.seat.now.me seat.2 c.requires.turn c.requires.whole)
