use Rattle.std.proofs.Common.{rules}
use Rattle.adsc_bits.proofs.PackingLaws.{octets_of-octets_bits}
use Rattle.adsc_bits.proofs.writer.octets_are_spelled.Goals as goal

pub returns : goal.returns
returns c = octets_of-octets_bits c.args.octets.now (λ i. let octet = c.type_inv.octets i in search rules)
