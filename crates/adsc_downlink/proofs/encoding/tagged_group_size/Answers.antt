-- The octet of the tag, and those of the data.
use Rattle.std.proofs.Common.{arith}
use Rattle.adsc_downlink.proofs.Sizes.{length-tagged_group_bits}
use Rattle.adsc_downlink.proofs.encoding.tagged_group_size.Goals as goal

pub returns-clause-exact : goal.returns-clause-exact
returns-clause-exact c = omega (arith, length-tagged_group_bits c.args.group.now)
