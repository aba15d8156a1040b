-- What is counted, and what is still to be counted, is the whole.
use Rattle.std.proofs.Common.{◌≡◌, ◌+◌, ◌*◌, ◌≤◌, length, flat_map, map, drop}
use Rattle.adsc_downlink.specs.Items.{item_bits}
use Rattle.adsc_downlink.specs.ItemView.{item_data}
use Rattle.adsc_downlink.proofs.encoding.items_size.Given as goal

abbrev pub invariant-loop-item : goal.invariant-loop-item
invariant-loop-item l = record {
  whole : 8 * l.size + length (flat_map item_bits (map item_data (drop l.item-index l.items))) ≡ length (flat_map item_bits (map item_data l.items));
  within : l.size ≤ 155 * l.item-index;
}
