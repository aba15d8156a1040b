use Rattle.std.proofs.Common.{ap}
use Rattle.link_threads.specs.Turns.{Seated}
use Rattle.link_threads.proofs.Gathering.{takes_in}
use Rattle.link_threads.proofs.closing.take_in.Goals as goal

pub returns-clause-taken : goal.returns-clause-taken
returns-clause-taken c =
    takes_in c.args.seat.now.me.0 c.seat_of.result.me.0 c.join.new.seat.me.0 c.args.pass (ap (λ (me : Seated). me.0) c.join.ensures.now) c.seat_of.ensures.lists c.seat_of.ensures.seen
