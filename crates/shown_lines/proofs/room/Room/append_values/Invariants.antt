use Rattle.std.proofs.Common.{◌≡◌, ◌+◌, ◌*◌, ◌≤◌, ◌++◌, length, take}
use Rattle.shown_lines.specs.Fields.{value_fields}
use Rattle.shown_lines.proofs.room.Room.append_values.Given as goal

-- what was appended so far are the numbers so far
abbrev pub invariant-loop-value : goal.invariant-loop-value
invariant-loop-value l = record {
  text : l.self ≡ l.fn.self ++ value_fields (take l.value-index l.values);
  size : length l.self ≤ length l.fn.self + 12 * l.value-index;
}
