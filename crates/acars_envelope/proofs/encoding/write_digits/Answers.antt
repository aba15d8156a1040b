use Rattle.std.proofs.Common.{arith, map, ap, ◌∙◌}
use Rattle.std.specs.Char.{to_ascii_uppercase}
use Rattle.acars_envelope.proofs.CapitalDigits.{capital_digits}
use Rattle.acars_envelope.proofs.encoding.write_digits.Goals as goal

pub returns-clause-written : goal.returns-clause-written
returns-clause-written c =
    c.make_capital.ensures ∙ ap (map to_ascii_uppercase) c.encode.ensures ∙ capital_digits c.args.octets.now (λ i. omega (arith, c.type_inv.octets i))

pub returns-clause-bytes : goal.returns-clause-bytes
returns-clause-bytes c = λ i. omega (arith, c.type_inv.octets i)
