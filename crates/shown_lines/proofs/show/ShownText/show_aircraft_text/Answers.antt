use Rattle.std.proofs.Common.{inl, refl}
use Rattle.shown_lines.specs.Meanings.Meaning.{refused}
use Rattle.shown_lines.specs.declared.refusal.TextRefusal.TheVariants as refusal
use Rattle.shown_lines.proofs.AircraftLaws.{envelope_is_shown, means_its_fault}
use Rattle.shown_lines.proofs.show.ShownText.show_aircraft_text.Goals as goal

pub returns-in-Ok : goal.returns-in-Ok
returns-in-Ok c =
    envelope_is_shown _ _ _ c.unseal.result c.in-Ok.envelope _ c.in-Ok.is c.in-Ok.ensures.found c.unseal.ensures.right c.unseal.ensures.first c.show_body.ensures

pub returns-in-Err : goal.returns-in-Err
returns-in-Err c = record {
  meaning = refused (refusal.Envelope c.in-Err.fault);
  means = inl (c.in-Err.fault, c.in-Err.ensures.fault, refl);
  only = means_its_fault _ c.unseal.result _ c.in-Err.is c.in-Err.ensures.none c.unseal.ensures.first;
  shown = c.show_refusal.ensures.way;
  spelled = c.show_refusal.ensures.text;
}
