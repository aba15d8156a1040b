use Rattle.std.proofs.Common.{◌≡◌, ◌+◌, ◌*◌, ◌≤◌, ◌++◌, length, map, take}
use Rattle.std.specs.List.{flat_map}
use Rattle.afn_logon.specs.Contents.{application_data}
use Rattle.shown_lines.specs.LogonTexts.{offered_line}
use Rattle.shown_lines.proofs.logon.append_offered.Given as goal

-- what was appended so far are the lines of the applications so far
abbrev pub invariant-loop-application : goal.invariant-loop-application
invariant-loop-application l = record {
  text : l.out ≡ l.fn.out ++ flat_map offered_line (map application_data (take l.application-index l.applications));
  size : length l.out ≤ length l.fn.out + 19 * l.application-index;
}
