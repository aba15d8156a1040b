-- The tag, and then the data.
use Rattle.std.proofs.Common.{◌++◌, arith, ap, ◌∙◌, append_assoc}
use Rattle.bit_terms.specs.Bits.{unsigned_bits}
use Rattle.adsc_groups.specs.Groups.{group_bits}
use Rattle.adsc_groups.specs.GroupView.{group_data}
use Rattle.adsc_downlink.specs.Items.{tagged_group_bits}
use Rattle.adsc_downlink.proofs.Sizes.{length-tagged_group_bits}
use Rattle.adsc_downlink.proofs.encoding.encode_tagged_group.Goals as goal

pub put-requires-clause-room : goal.put-requires-clause-room
put-requires-clause-room c = omega (arith, length-tagged_group_bits c.args.group.now)

pub encode_group-requires : goal.encode_group-requires
encode_group-requires c = omega (arith, length-tagged_group_bits c.args.group.now)

pub returns : goal.returns
unfolding tagged_group_bits
returns c =
    c.encode_group.ensures.bits
    ∙ ap (λ bits. bits ++ group_bits (group_data c.args.group.now)) (c.put.ensures.bits ∙ ap (λ tag. c.args.out.now ++ unsigned_bits 8 tag) c.group_tag.ensures.value)
    ∙ append_assoc c.args.out.now (unsigned_bits 8 (group_data c.args.group.now).tag) (group_bits (group_data c.args.group.now))
