-- What was read, and what is still to be read, is what reading gives from the beginning.
use Rattle.std.proofs.Common.{◌≡◌, ◌-◌, ◌≤◌, map}
use Rattle.arrayvec.specs.ArrayVec.{array_vec_len}
use Rattle.bit_terms.specs.Reading.{all_unread}
use Rattle.adsc_downlink.specs.ItemView.{item_data}
use Rattle.adsc_downlink.specs.Reading.{downlink_at, items_at}
use Rattle.adsc_downlink.proofs.Stepping.{with_items}
use Rattle.adsc_downlink.proofs.decoding.read_items.Given as goal

abbrev pub invariant-loop-from : goal.invariant-loop-from
invariant-loop-from l = record {
  some : 1 ≤ array_vec_len l.list;
  few : array_vec_len l.list ≤ 8;
  whole : downlink_at (all_unread l.fn.payload) ≡ with_items (map item_data l.list.items) (items_at (8 - array_vec_len l.list) l.from);
}

abbrev pub decreases-loop-from : goal.decreases-loop-from
decreases-loop-from l = 8 - array_vec_len l.list
