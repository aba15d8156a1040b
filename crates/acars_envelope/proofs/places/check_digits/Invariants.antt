use Rattle.acars_envelope.specs.Faults.{AreRight, is_right_digit}
use Rattle.acars_envelope.proofs.places.check_digits.Given as goal

abbrev pub invariant-loop-place : goal.invariant-loop-place
invariant-loop-place l = AreRight (is_right_digit l.text) l.from l.place
