-- What is counted, and what is still to be counted, is the whole.
use Rattle.std.proofs.Common.{◌≡◌, ◌+◌, ◌*◌, ◌≤◌, length, flat_map, map, drop}
use Rattle.adsc_downlink.specs.Items.{tagged_group_bits}
use Rattle.adsc_downlink.specs.ItemView.{report_group_data}
use Rattle.adsc_downlink.proofs.encoding.groups_size.Given as goal

abbrev pub invariant-loop-group : goal.invariant-loop-group
invariant-loop-group l = record {
  whole : 8 * l.size + length (flat_map tagged_group_bits (map report_group_data (drop l.group-index l.groups)))
      ≡ length (flat_map tagged_group_bits (map report_group_data l.groups));
  within : l.size ≤ 18 * l.group-index;
}
