use Rattle.std.proofs.Common.{◌≡◌, ◌+◌, ◌*◌, ◌≤◌, ◌++◌, length, map, take}
use Rattle.std.specs.List.{flat_map}
use Rattle.adsc_downlink.specs.ItemView.{report_group_data}
use Rattle.shown_lines.specs.Texts.{group_text}
use Rattle.shown_lines.specs.declared.room.TheConstants.{GROUP_ROOM}
use Rattle.shown_lines.proofs.downlink.append_groups.Given as goal

-- what was appended so far are the lines of the groups so far
abbrev pub invariant-loop-group : goal.invariant-loop-group
invariant-loop-group l = record {
  text : l.out ≡ l.fn.out ++ flat_map group_text (map report_group_data (take l.group-index l.groups));
  size : length l.out ≤ length l.fn.out + GROUP_ROOM * l.group-index;
}
