-- A payload has one reading.
use Rattle.std.proofs.Common.{map, Ok, Err, ap, ◌∙◌}
use Rattle.std.proofs.lemmas.Result.{err_from_is_err_and}
use Rattle.bit_terms.specs.Octets.{octets_bits}
use Rattle.bit_terms.proofs.ReadingLaws.{err_same}
use Rattle.adsc_downlink.specs.ItemView.{item_data, items_data}
use Rattle.adsc_downlink.proofs.OneReading.{never_both_readings, same_items_read}
use Rattle.adsc_downlink.proofs.SameValues.{same_items}
use Rattle.adsc_downlink.proofs.decoding.decode_downlink.Goals as goal

pub returns-in_err-decode_items-clause-only : goal.returns-in_err-decode_items-clause-only
returns-in_err-decode_items-clause-only c items encoded =
    absurd (never_both_readings (items_data items) (octets_bits c.args.payload.now) _ _ encoded c.in_err-decode_items.ensures.fault)

pub returns-in_err-decode_items-clause-refused : goal.returns-in_err-decode_items-clause-refused
returns-in_err-decode_items-clause-refused c r fault =
    let p = err_from_is_err_and c.from_residual.result c.from_residual.ensures.1 in
    rw (p.1, p.2) (ap (λ e. Err e) (err_same {A = Unit {0}} _ r (c.in_err-decode_items.ensures.refused r fault)))

pub returns-clause-only : goal.returns-clause-only
returns-clause-only c items encoded =
    ap (λ x. Ok x) (same_items _ items
    (same_items_read (map item_data c.decode_items.new.list.items) (items_data items) (octets_bits c.args.payload.now) c.in_ok-decode_items.ensures.found encoded))

pub returns-clause-refused : goal.returns-clause-refused
returns-clause-refused c r fault =
    absurd (never_both_readings (map item_data c.decode_items.new.list.items) (octets_bits c.args.payload.now) r.bit r.why c.in_ok-decode_items.ensures.found fault)
