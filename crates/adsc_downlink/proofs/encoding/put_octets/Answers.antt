-- There is room for the octets that are still to be written.
use Rattle.std.proofs.Common.{length-append, arith, ◌++◌}
use Rattle.bit_terms.specs.Octets.{octets_bits}
use Rattle.adsc_downlink.proofs.Lists.{room_for_octet}
use Rattle.adsc_downlink.proofs.encoding.put_octets.Goals as goal

pub put-requires-clause-room : goal.put-requires-clause-room
put-requires-clause-room c =
    omega (
      arith,
      room_for_octet c.args.octets.now c.loop-octet.octet-index c.loop-octet.out (c.args.out.now ++ octets_bits c.args.octets.now) c.loop-octet-test.true c.loop-octet.invariant,
      length-append c.args.out.now (octets_bits c.args.octets.now),
    )
