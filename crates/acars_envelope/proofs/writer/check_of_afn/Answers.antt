use Rattle.std.proofs.Common.{arith, codes}
use Rattle.acars_envelope.proofs.CheckSteps.{check_of_two}
use Rattle.acars_envelope.proofs.writer.check_of_afn.Goals as goal

pub returns : goal.returns
returns c =
    check_of_two (codes "AFN") c.args.text.now c.with_octets-register.result c.with_octets.result
    (omega arith) c.with_octets-register.ensures c.with_octets.ensures
