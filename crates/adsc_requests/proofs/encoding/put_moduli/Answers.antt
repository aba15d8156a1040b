use Rattle.std.proofs.Common.{◌∙◌, ◌++◌, ap, sym, arith, append_assoc, take}
use Rattle.adsc_requests.specs.Writing.{modulus_tags, moduli_octets}
use Rattle.adsc_requests.proofs.WritingLemmas.{moduli_octets-more}
use Rattle.adsc_requests.proofs.encoding.put_moduli.Goals as goal

pub loop-place-preserved : goal.loop-place-preserved
loop-place-preserved c = record {
  octets = rw (c.put_octet.ensures.octets, c.loop-place.invariant.octets)
      (append_assoc c.args.out.now.items (moduli_octets c.args.groups.m (take c.loop-place.place modulus_tags)) _
      ∙ ap (λ x. c.args.out.now.items ++ x) (sym (moduli_octets-more c.args.groups.m c.loop-place.place c.loop-place-test.true)));
  len = omega (arith, c.put_octet.ensures.len);
}
