use Rattle.std.proofs.Common.{◌≡◌, ◌≤◌, ◌-◌, ◌==◌, length, slice_index}
use Rattle.std.specs.Prelude.{if◌then◌else◌}
use Rattle.acars_envelope.specs.Faults.{AreRight, is_right_in_registration}
use Rattle.acars_envelope.proofs.ads.check_registration.Given as goal

abbrev pub invariant-loop-place : goal.invariant-loop-place
invariant-loop-place l = record {
  there : l.place ≤ length l.text;
  before : l.before ≡ (if l.place == 12 then 46 else slice_index l.text (l.place - 1));
  right : AreRight (is_right_in_registration l.text) 12 l.place;
}
