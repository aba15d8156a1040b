-- What is written, and what is still to be written, is the whole.
use Rattle.std.proofs.Common.{◌≡◌, ◌++◌, flat_map, map, take, drop}
use Rattle.adsc_downlink.specs.Encodings.{EncodesEach, EncodesItem}
use Rattle.adsc_downlink.specs.Items.{item_bits}
use Rattle.adsc_downlink.specs.ItemView.{item_data}
use Rattle.adsc_downlink.proofs.encoding.encode_items.Given as goal

abbrev pub invariant-loop-item : goal.invariant-loop-item
invariant-loop-item l = record {
  whole : l.out ++ flat_map item_bits (map item_data (drop l.item-index l.items)) ≡ l.fn.out ++ flat_map item_bits (map item_data l.items);
  encodes : EncodesEach EncodesItem (map item_data (take l.item-index l.items)) (flat_map item_bits (map item_data (take l.item-index l.items)));
}
