use Rattle.std.proofs.Common.{take}
use Rattle.bit_terms.specs.Octets.{octets_bits}
use Rattle.acars_envelope.specs.Register.{Absorbs}
use Rattle.acars_envelope.proofs.check.with_octets.Given as goal

abbrev pub invariant-loop-octet : goal.invariant-loop-octet
invariant-loop-octet l = Absorbs l.register (octets_bits (take l.octet-index l.octets)) l.after
