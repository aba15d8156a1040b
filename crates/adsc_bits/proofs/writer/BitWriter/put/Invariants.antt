-- The octets and the pending bits are what was written with the field.
use Rattle.std.proofs.Common.{◌+◌, ◌*◌, ◌≡◌, ◌^◌, ◌<◌, ◌≤◌, ◌++◌}
use Rattle.arrayvec.specs.ArrayVec.{array_vec_len}
use Rattle.bit_terms.specs.Bits.{unsigned_bits}
use Rattle.bit_terms.specs.Octets.{octets_bits}
use Rattle.adsc_bits.proofs.writer.BitWriter.put.Given as goal

abbrev pub invariant-loop-count : goal.invariant-loop-count
invariant-loop-count l = record {
  bits : octets_bits l.self-inside.octets.items ++ unsigned_bits l.count l.pending ≡ l.fn.self ++ unsigned_bits l.width l.value;
  below : l.pending < 2 ^ l.count;
  short : l.count < 40;
  room : 8 * array_vec_len l.self-inside.octets + l.count ≤ 2040;
}

abbrev pub decreases-loop-count : goal.decreases-loop-count
decreases-loop-count l = l.count
