-- The mask has ones at the lowest places.
use Rattle.std.proofs.Common.{ap, ◌∙◌, ◌-◌, bit_and}
use Rattle.std.proofs.lemmas.Nat.{one_shl, and_mask}
use Rattle.adsc_bits.proofs.shifts.low_part.Goals as goal

pub returns : goal.returns
returns c = ap (λ n. bit_and c.args.number (n - 1)) (one_shl c.args.width 64 c.requires) ∙ and_mask c.args.number c.args.width
