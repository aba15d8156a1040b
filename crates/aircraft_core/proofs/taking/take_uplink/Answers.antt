use Rattle.aircraft_core.proofs.TakingLaws.{uplink_sent}
use Rattle.aircraft_core.proofs.taking.take_uplink.Goals as goal

pub returns-clause-taken : goal.returns-clause-taken
returns-clause-taken c =
    uplink_sent c.args.setup.now c.args.latest.now c.args.link c.args.payload.now c.args.table.now c.hear_payload.new.table c.hear_payload.new.out
    c.args.outbox.now.sent c.send.new.outbox.sent (rw c.new-out.ensures at c.hear_payload.ensures.heard) c.send.ensures.sent c.send.ensures.unbroken
