-- What was heard, and what is still to be heard, is the whole.
use Rattle.std.proofs.Common.{◌≡◌, ◌+◌, ◌≤◌, map, drop}
use Rattle.adsc_downlink.specs.ItemView.{item_data}
use Rattle.centre_core.specs.Steps.{table_after_items, taken_count}
use Rattle.centre_core.proofs.table.CentreTable.hear_all.Given as goal

abbrev pub invariant-loop-item : goal.invariant-loop-item
invariant-loop-item l = record {
  table : table_after_items (map item_data (drop l.item-index l.items)) l.self ≡ table_after_items (map item_data l.items) l.fn.self;
  matched : l.matched + taken_count (map item_data (drop l.item-index l.items)) l.self ≡ taken_count (map item_data l.items) l.fn.self;
  few : l.matched ≤ l.item-index;
}
