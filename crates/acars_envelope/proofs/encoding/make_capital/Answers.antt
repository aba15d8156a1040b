use Rattle.std.proofs.Common.{arith, get_or}
use Rattle.std.specs.Char.{to_ascii_uppercase}
use Rattle.std.proofs.lemmas.List.{get_or_default}
use Rattle.std.proofs.lemmas.List.Edits.{map_over_more}
use Rattle.acars_envelope.proofs.encoding.make_capital.Goals as goal

pub loop-digit-preserved : goal.loop-digit-preserved
loop-digit-preserved c =
    rw c.to_ascii_uppercase.ensures.value
    (map_over_more to_ascii_uppercase c.args.digits.now c.loop-digit.digits c.loop-digit.digit-index
    (get_or c.loop-digit.digits c.loop-digit.digit-index 0) (omega arith) c.loop-digit.invariant
    (get_or_default c.loop-digit.digits c.loop-digit.digit-index 0 (get_or c.loop-digit.digits c.loop-digit.digit-index 0) (omega arith)))
