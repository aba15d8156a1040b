use Rattle.std.proofs.Common.{rules, arith}
use Rattle.acars_envelope.specs.Faults.{is_right_in_registration}
use Rattle.acars_envelope.proofs.RegistrationLaws.{AreRight-more, before_next}
use Rattle.acars_envelope.proofs.ads.check_registration.Goals as goal

pub loop-place-preserved : goal.loop-place-preserved
loop-place-preserved c = record {
  there = search rules;
  before = before_next c.args.text.now c.loop-place.place c.in-Some.character.now (omega arith) (search rules);
  right = AreRight-more (is_right_in_registration c.args.text.now) 12 c.loop-place.place c.loop-place.invariant.right (search rules);
}
