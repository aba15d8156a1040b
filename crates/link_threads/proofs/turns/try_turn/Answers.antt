use Rattle.std.proofs.Common.{arith}
use Rattle.link_threads.proofs.Allowed.{try_allowed}
use Rattle.link_threads.proofs.turns.try_turn.Goals as goal

pub compare_exchange-requires : goal.compare_exchange-requires
compare_exchange-requires c =
    let seat = c.requires.seat in
    (seat.0, omega (arith, seat.1), try_allowed c.args.board.now.key c.args.board.now.table_id.slots c.args.seat.now.id c.args.seat.now.me seat.2 c.requires.idle c.requires.listed)
