use Rattle.std.proofs.Common.{arith, codes}
use Rattle.acars_envelope.proofs.CheckSteps.{check_of_three}
use Rattle.acars_envelope.proofs.writer.check_of_ads.Goals as goal

pub returns : goal.returns
returns c =
    check_of_three (codes "ADS") c.args.registration.now c.args.payload.now c.with_octets-register.result c.with_octets-register-2.result c.with_octets.result
    (omega arith) c.with_octets-register.ensures (rw c.seven.ensures.value at c.with_octets-register-2.ensures) c.with_octets.ensures
