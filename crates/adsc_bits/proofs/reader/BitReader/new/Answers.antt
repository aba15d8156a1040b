-- No bits are pending.
use Rattle.std.proofs.Common.{refl}
use Rattle.bit_terms.specs.Bits.{unsigned_bits}
use Rattle.adsc_bits.proofs.reader.BitReader.new.Goals as goal

pub returns : goal.returns
unfolding unsigned_bits
returns c = refl
