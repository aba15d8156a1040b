use Rattle.std.proofs.Common.{length, ap, ◌∙◌, arith}
use Rattle.aircraft_core.proofs.SentLaws.{items_sent, nothing_sent, payload_size}
use Rattle.aircraft_core.proofs.downlink.send.Goals as goal

pub returns-then-bit-eq0-clause-sent : goal.returns-then-bit-eq0-clause-sent
returns-then-bit-eq0-clause-sent c sample items same =
    (nothing_sent c.args.setup.now c.args.link sample items c.args.out c.args.outbox.now.sent (omega arith) same).0

pub returns-then-bit-eq0-clause-unbroken : goal.returns-then-bit-eq0-clause-unbroken
returns-then-bit-eq0-clause-unbroken c sample items same =
    (nothing_sent c.args.setup.now c.args.link sample items c.args.out c.args.outbox.now.sent (omega arith) same).1

pub send-requires-clause-some : goal.send-requires-clause-some
send-requires-clause-some c =
    rw c.as_slice.ensures.value ((payload_size c.finish-payload.result.items c.args.out c.finish-payload.ensures.bits c.bit.ensures.within).0 (omega arith))

pub send-requires-clause-few : goal.send-requires-clause-few
send-requires-clause-few c =
    rw c.as_slice.ensures.value (payload_size c.finish-payload.result.items c.args.out c.finish-payload.ensures.bits c.bit.ensures.within).1

pub send-requires-clause-room : goal.send-requires-clause-room
send-requires-clause-room c =
    let few = (payload_size c.finish-payload.result.items c.args.out c.finish-payload.ensures.bits c.bit.ensures.within).1 in
    omega (arith, few, c.requires.room, ap length c.as_slice.ensures.value)

pub returns-clause-sent : goal.returns-clause-sent
returns-clause-sent c sample items same =
    (items_sent c.args.setup.now c.args.link sample items c.args.out c.args.outbox.now.sent c.send.new.self.sent c.as_slice.result.now c.address.result c.registration.result
    (omega arith) same (c.as_slice.ensures.value ∙ c.finish-payload.ensures.octets) c.address.ensures c.registration.ensures c.send.ensures.sent c.send.ensures.unbroken).0

pub returns-clause-unbroken : goal.returns-clause-unbroken
returns-clause-unbroken c sample items same =
    (items_sent c.args.setup.now c.args.link sample items c.args.out c.args.outbox.now.sent c.send.new.self.sent c.as_slice.result.now c.address.result c.registration.result
    (omega arith) same (c.as_slice.ensures.value ∙ c.finish-payload.ensures.octets) c.address.ensures c.registration.ensures c.send.ensures.sent c.send.ensures.unbroken).1
