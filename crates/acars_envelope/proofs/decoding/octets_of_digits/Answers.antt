use Rattle.acars_envelope.proofs.CapitalDigits.{right_octets}
use Rattle.acars_envelope.proofs.decoding.octets_of_digits.Goals as goal

pub returns-clause-right : goal.returns-clause-right
returns-clause-right c =
    right_octets c.args.text.now c.read_octets.result c.read_octets.ensures.found c.read_octets.ensures.spelled c.read_octets.ensures.bytes
