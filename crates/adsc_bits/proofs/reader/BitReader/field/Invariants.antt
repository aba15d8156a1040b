-- The gathered bits and the octets after them are what was left.
use Rattle.std.proofs.Common.{◌+◌, ◌-◌, ◌≡◌, ◌^◌, ◌<◌, ◌++◌}
use Rattle.bit_terms.specs.Bits.{unsigned_bits}
use Rattle.bit_terms.specs.Octets.{octets_bits}
use Rattle.adsc_bits.proofs.reader.BitReader.field.Given as goal

abbrev pub invariant-loop-count : goal.invariant-loop-count
invariant-loop-count l = record {
  bits : unsigned_bits l.count l.gathered ++ octets_bits l.rest ≡ l.fn.self.left;
  below : l.gathered < 2 ^ l.count;
  short : l.count < l.width + 8;
}

abbrev pub decreases-loop-count : goal.decreases-loop-count
decreases-loop-count l = l.width - l.count
