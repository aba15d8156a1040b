use Rattle.std.proofs.Common.{◌≡◌, ◌+◌, ◌*◌, ◌≤◌, ◌++◌, length, take}
use Rattle.std.specs.List.{flat_map}
use Rattle.shown_lines.specs.UplinkTexts.{message_text}
use Rattle.shown_lines.specs.declared.room.TheConstants.{MESSAGE_ROOM}
use Rattle.shown_lines.proofs.uplink.append_messages.Given as goal

-- what was appended so far are the lines of the messages so far
abbrev pub invariant-loop-message : goal.invariant-loop-message
invariant-loop-message l = record {
  text : l.out ≡ l.fn.out ++ flat_map message_text (take l.message-index l.messages);
  size : length l.out ≤ length l.fn.out + MESSAGE_ROOM * l.message-index;
}
