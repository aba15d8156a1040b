use Rattle.std.proofs.Common.{◌≡◌, ◌≤◌, ◌+◌, ◌*◌, ◌++◌, length, take}
use Rattle.adsc_requests.specs.Writing.{modulus_tags, moduli_octets}
use Rattle.adsc_requests.proofs.encoding.put_moduli.Given as goal

abbrev pub invariant-loop-place : goal.invariant-loop-place
invariant-loop-place l = record {
  octets : l.out.items ≡ l.fn.out.items ++ moduli_octets l.groups.m (take l.place modulus_tags);
  len : length l.out.items ≤ length l.fn.out.items + 2 * l.place;
}
