-- Neither part loses a digit, so `|` adds.
use Rattle.std.proofs.Common.{arith, ap, ◌∙◌, bit_or}
use Rattle.std.proofs.lemmas.Nat.{shl_whole, or_shifted}
use Rattle.adsc_bits.proofs.shifts.joined.Goals as goal

pub returns : goal.returns
returns c = ap (λ n. bit_or n c.args.low) (shl_whole c.args.high 32 c.args.width 64 c.requires.high_fits (omega arith)) ∙ or_shifted c.args.high c.args.width c.args.low c.requires.low_fits
