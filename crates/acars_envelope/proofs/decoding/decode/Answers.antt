use Rattle.std.proofs.Common.{length}
use Rattle.acars_envelope.proofs.CapitalDigits.{decoded}
use Rattle.acars_envelope.proofs.decoding.decode.Goals as goal

pub unwrap-requires : goal.unwrap-requires
unwrap-requires c =
    (decoded c.args.digits.now c.decode_to_slice.new.out (length c.args.octets.now) c.decode_to_slice.result
    c.requires.size c.requires.capital c.decode_to_slice.ensures.value).ok

pub returns-clause-octets : goal.returns-clause-octets
returns-clause-octets c =
    (decoded c.args.digits.now c.decode_to_slice.new.out (length c.args.octets.now) c.decode_to_slice.result
    c.requires.size c.requires.capital c.decode_to_slice.ensures.value).octets
