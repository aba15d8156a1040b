use Rattle.std.proofs.Common.{◌≤◌, length}
use Rattle.acars_envelope.specs.Faults.{AreRight, is_right_in_head}
use Rattle.acars_envelope.proofs.reader.check_head.Given as goal

abbrev pub invariant-loop-place : goal.invariant-loop-place
invariant-loop-place l = record {
  there : l.place ≤ length l.text;
  right : AreRight (is_right_in_head l.text) 0 l.place;
}
