-- No octets and no bits after them.
use Rattle.std.proofs.Common.{refl}
use Rattle.bit_terms.specs.Bits.{unsigned_bits}
use Rattle.adsc_bits.proofs.writer.BitWriter.new.Goals as goal

pub returns : goal.returns
unfolding unsigned_bits
returns c = rw c.new.ensures refl
