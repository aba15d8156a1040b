use Rattle.std.proofs.Common.{arith, ◌-◌, length}
use Rattle.acars_envelope.specs.Faults.{is_capital_digit}
use Rattle.acars_envelope.proofs.TextLaws.{AllPass-piece}
use Rattle.acars_envelope.proofs.ads.append_payload.Goals as goal

pub append_octets-requires-clause-capital : goal.append_octets-requires-clause-capital
append_octets-requires-clause-capital c =
    AllPass-piece is_capital_digit c.args.text.now 19 (length c.args.text.now - 4) (omega arith) (omega arith)
    (λ place from_on below. c.requires.digits place from_on (omega arith))
