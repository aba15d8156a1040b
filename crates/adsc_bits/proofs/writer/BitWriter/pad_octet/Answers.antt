-- No bits are missing.
use Rattle.std.proofs.Common.{arith}
use Rattle.adsc_bits.proofs.Written.{written_none}
use Rattle.adsc_bits.proofs.writer.BitWriter.pad_octet.Goals as goal

pub returns-else-missing-gt0-clause-bits : goal.returns-else-missing-gt0-clause-bits
returns-else-missing-gt0-clause-bits c = written_none _ _ (omega arith)
