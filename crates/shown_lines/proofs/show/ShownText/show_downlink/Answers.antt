use Rattle.std.proofs.Common.{inl, inr, refl, map, ap, ◌∙◌}
use Rattle.bit_terms.specs.Octets.{octets_bits}
use Rattle.adsc_downlink.specs.ItemView.{item_data}
use Rattle.adsc_downlink.proofs.OneReading.{never_both_readings, same_fault_found, same_items_read}
use Rattle.shown_lines.specs.Meanings.Meaning.{downlink, refused}
use Rattle.shown_lines.specs.declared.refusal.TextRefusal.TheVariants as refusal
use Rattle.shown_lines.proofs.show.ShownText.show_downlink.Goals as goal

pub returns-in-Ok : goal.returns-in-Ok
returns-in-Ok c =
    let items = map item_data c.decode_items.new.list.items in
    record {
      meaning = downlink c.args.address.now c.args.registration.now items;
      means = inl (items, c.in-Ok.ensures.found, refl);
      only = λ other means. elim means [
        | inl encoded ↦ encoded.2 ∙ ap (downlink c.args.address.now c.args.registration.now)
            (same_items_read encoded.0 items (octets_bits c.args.payload.now) encoded.1 c.in-Ok.ensures.found)
        | inr faulty ↦ absurd (never_both_readings items (octets_bits c.args.payload.now) faulty.0.bit faulty.0.why c.in-Ok.ensures.found faulty.1)
      ];
      shown = refl;
      spelled = rw c.as_slice-items.ensures.value at c.append_downlink.ensures;
    }

pub returns-in-Err : goal.returns-in-Err
returns-in-Err c = record {
  meaning = refused (refusal.Payload c.in-Err.fault);
  means = inr (c.in-Err.fault, c.in-Err.ensures.fault, refl);
  only = λ other means. elim means [
    | inl encoded ↦ absurd (never_both_readings encoded.0 (octets_bits c.args.payload.now) c.in-Err.fault.bit c.in-Err.fault.why encoded.1 c.in-Err.ensures.fault)
    | inr faulty ↦
        let same = same_fault_found (octets_bits c.args.payload.now) faulty.0.bit c.in-Err.fault.bit faulty.0.why c.in-Err.fault.why faulty.1 c.in-Err.ensures.fault in
        faulty.2 ∙ (λ i. refused (refusal.Payload (record { bit = same.0 i; why = same.1 i })))
  ];
  shown = c.show_refusal.ensures.way;
  spelled = c.show_refusal.ensures.text;
}
