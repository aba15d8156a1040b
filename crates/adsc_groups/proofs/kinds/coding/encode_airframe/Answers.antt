-- The fields, one after the other.
use Rattle.std.proofs.Common.{refl, append-nil}
use Rattle.adsc_groups.proofs.kinds.coding.encode_airframe.Goals as goal

pub returns-clause-bits : goal.returns-clause-bits
returns-clause-bits c =
    simp (c.put.ensures.bits, append-nil) refl
