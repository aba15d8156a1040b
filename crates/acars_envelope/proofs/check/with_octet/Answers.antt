use Rattle.std.proofs.Common.{◌≡◌, ◌*◌, ◌%◌, ◌^◌, refl, ap, arith}
use Rattle.std.specs.Int.Bits.{bit_xor}
use Rattle.acars_envelope.proofs.CheckSteps.{absorbs_octet}
use Rattle.acars_envelope.proofs.check.with_octet.Goals as goal

pub returns : goal.returns
returns c =
    let register = c.args.register in
    let moved : register * 256 % 65536 ≡ register % 2 ^ 8 * 2 ^ 8 = omega arith in
    absorbs_octet register c.args.octet _ c.remainder.result _ refl (ap (λ up. bit_xor up c.remainder.result) moved) c.remainder.ensures
