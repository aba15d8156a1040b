use Rattle.std.proofs.Common.{◌≡◌, ◌++◌, take, drop, map}
use Rattle.std.specs.Char.{to_ascii_uppercase}
use Rattle.acars_envelope.proofs.encoding.make_capital.Given as goal

abbrev pub invariant-loop-digit : goal.invariant-loop-digit
invariant-loop-digit l = l.digits ≡ map to_ascii_uppercase (take l.digit-index l.initial.digits) ++ drop l.digit-index l.initial.digits
