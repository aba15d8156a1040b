-- The fields, one after the other.
use Rattle.std.proofs.Common.{refl, rules, append_assoc, append-nil, to_z-of_z, FitsSigned, w32}
use Rattle.adsc_groups.proofs.kinds.coding.encode_motion.Goals as goal

pub returns-clause-bits : goal.returns-clause-bits
returns-clause-bits c =
    let vrate : FitsSigned w32 c.args.motion.now.vrate = search rules in
    simp (c.put-4.ensures.bits, c.put_signed.ensures.bits, c.put-3.ensures.bits, c.put-2.ensures.bits, c.put.ensures.bits, to_z-of_z, append_assoc, append-nil) refl
