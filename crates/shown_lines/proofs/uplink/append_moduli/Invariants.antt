use Rattle.std.proofs.Common.{◌≡◌, ◌+◌, ◌*◌, ◌≤◌, ◌++◌, length, take}
use Rattle.shown_lines.specs.UplinkTexts.{moduli_text}
use Rattle.shown_lines.proofs.uplink.append_moduli.Given as goal

-- what was appended so far are the lines of the moduli so far
abbrev pub invariant-loop-place : goal.invariant-loop-place
invariant-loop-place l = record {
  text : l.out ≡ l.fn.out ++ moduli_text 12 (take l.place l.moduli);
  size : length l.out ≤ length l.fn.out + 28 * l.place;
}
