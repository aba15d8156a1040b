-- The length of what is written, by the fields.
use Rattle.std.proofs.Common.{arith}
use Rattle.adsc_bits.proofs.Written.{length_written}
use Rattle.adsc_bits.proofs.writer.BitWriter.bit.Goals as goal

pub returns-clause-count : goal.returns-clause-count
returns-clause-count c = omega (arith, length_written _ _ _ _ c.self.view_is)

pub returns-clause-within : goal.returns-clause-within
returns-clause-within c = omega (arith, length_written _ _ _ _ c.self.view_is)
