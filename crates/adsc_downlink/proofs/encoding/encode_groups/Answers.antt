-- There is room for the groups that are still to be written.
use Rattle.std.proofs.Common.{◌++◌, flat_map, map, length-append, arith}
use Rattle.adsc_downlink.specs.Items.{tagged_group_bits}
use Rattle.adsc_downlink.specs.ItemView.{report_group_data}
use Rattle.adsc_downlink.proofs.Lists.{room_for_item}
use Rattle.adsc_downlink.proofs.encoding.encode_groups.Goals as goal

pub encode_tagged_group-requires : goal.encode_tagged_group-requires
encode_tagged_group-requires c =
    omega (
      arith,
      room_for_item tagged_group_bits report_group_data c.args.groups.now c.loop-group.group-index c.group-item.result c.loop-group.out
          (c.args.out.now ++ flat_map tagged_group_bits (map report_group_data c.args.groups.now)) c.loop-group-test.true c.group-item.is c.loop-group.invariant,
      length-append c.args.out.now (flat_map tagged_group_bits (map report_group_data c.args.groups.now)),
    )
