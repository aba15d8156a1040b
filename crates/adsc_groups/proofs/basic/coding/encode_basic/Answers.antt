-- The fields, one after the other.
use Rattle.std.proofs.Common.{refl, rules, append_assoc, append-nil, to_z-of_z, FitsSigned, w32}
use Rattle.adsc_groups.specs.Basic.{basic_bits}
use Rattle.adsc_groups.proofs.BasicLaws.{basic_encodes}
use Rattle.adsc_groups.proofs.basic.coding.encode_basic.Goals as goal

pub returns-clause-bits : goal.returns-clause-bits
unfolding basic_bits
returns-clause-bits c =
    let lat : FitsSigned w32 c.args.basic.now.lat = search rules in
    let lon : FitsSigned w32 c.args.basic.now.lon = search rules in
    let alt : FitsSigned w32 c.args.basic.now.alt = search rules in
    simp (
      c.put-5.ensures.bits,
      c.put-4.ensures.bits,
      c.put-3.ensures.bits,
      c.put-2.ensures.bits,
      c.put.ensures.bits,
      c.put_signed-3.ensures.bits,
      c.put_signed-2.ensures.bits,
      c.put_signed.ensures.bits,
      to_z-of_z,
      append_assoc,
      append-nil,
    ) refl

pub returns-clause-encodes : goal.returns-clause-encodes
returns-clause-encodes c = basic_encodes c.args.basic.now
