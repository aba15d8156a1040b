use Rattle.std.proofs.Common.{arith}
use Rattle.acars_envelope.proofs.CheckSteps.{check_from_register}
use Rattle.acars_envelope.proofs.check.check_code.Goals as goal

pub returns : goal.returns
returns c = check_from_register c.args.bytes.now c.with_octets.result (omega arith) c.with_octets.ensures
