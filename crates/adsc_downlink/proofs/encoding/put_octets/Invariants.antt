-- What is written, and what is still to be written, is the whole.
use Rattle.std.proofs.Common.{◌≡◌, ◌++◌, drop}
use Rattle.bit_terms.specs.Octets.{octets_bits}
use Rattle.adsc_downlink.proofs.encoding.put_octets.Given as goal

abbrev pub invariant-loop-octet : goal.invariant-loop-octet
invariant-loop-octet l = l.out ++ octets_bits (drop l.octet-index l.octets) ≡ l.fn.out ++ octets_bits l.octets
