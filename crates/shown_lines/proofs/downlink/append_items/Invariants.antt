use Rattle.std.proofs.Common.{◌≡◌, ◌+◌, ◌*◌, ◌≤◌, ◌++◌, length, map, take}
use Rattle.std.specs.List.{flat_map}
use Rattle.adsc_downlink.specs.ItemView.{item_data}
use Rattle.shown_lines.specs.Texts.{item_text}
use Rattle.shown_lines.specs.declared.room.TheConstants.{ITEM_ROOM}
use Rattle.shown_lines.proofs.downlink.append_items.Given as goal

-- what was appended so far are the lines of the items so far
abbrev pub invariant-loop-item : goal.invariant-loop-item
invariant-loop-item l = record {
  text : l.out ≡ l.fn.out ++ flat_map item_text (map item_data (take l.item-index l.items));
  size : length l.out ≤ length l.fn.out + ITEM_ROOM * l.item-index;
}
