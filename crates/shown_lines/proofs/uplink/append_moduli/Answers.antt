use Rattle.std.proofs.Common.{◌++◌, ◌∙◌, ap, sym, take, append_assoc, arith}
use Rattle.shown_lines.specs.UplinkTexts.{moduli_text}
use Rattle.shown_lines.proofs.UplinkLaws.{moduli_text-more}
use Rattle.shown_lines.proofs.uplink.append_moduli.Goals as goal

pub loop-place-preserved : goal.loop-place-preserved
loop-place-preserved c = record {
  text = rw (c.append_modulus.ensures.text, c.loop-place.invariant.text)
      (append_assoc c.args.out.now (moduli_text 12 (take c.loop-place.place c.args.moduli.now)) _
      ∙ ap (λ x. c.args.out.now ++ x) (sym (moduli_text-more 12 c.args.moduli.now c.loop-place.place (omega arith))));
  size = omega (arith, c.append_modulus.ensures.size, c.loop-place.invariant.size);
}
