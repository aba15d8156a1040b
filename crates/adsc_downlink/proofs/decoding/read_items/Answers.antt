-- Each turn of the loop, and each way out of it.
use Rattle.std.proofs.Common.{Err, ◌≡◌, ◌++◌, ◌+◌, [], ◌∷◌, map, length, ap, ap₂, ◌∙◌, sym, arith, ◌-◌, ◌<◌}
use Rattle.std.proofs.lemmas.List.{map-append}
use Rattle.std.proofs.lemmas.Result.{err_from_is_err_and}
use Rattle.bit_terms.specs.Reading.{all_unread}
use Rattle.adsc_downlink.specs.ItemView.{item_data}
use Rattle.adsc_downlink.specs.Reading.{item_at, items_at, downlink_at}
use Rattle.adsc_downlink.proofs.Stepping.{with_items, first_item, first_refused, items_stop_full, items_stop_end, items_stop_refused, items_step}
use Rattle.adsc_downlink.proofs.decoding.read_items.Goals as goal

pub returns-in_err-decode_item : goal.returns-in_err-decode_item
returns-in_err-decode_item c =
    let p = err_from_is_err_and c.from_residual.result c.from_residual.ensures.1 in
    rw (p.1, p.2) (record { exact = first_refused (all_unread c.args.payload.now) c.in_err-decode_item.field-0.0 (ap item_at (sym c.new-from.ensures) ∙ c.in_err-decode_item.ensures) })

pub loop-from-init : goal.loop-from-init
loop-from-init c =
    let listed : c.push.new.self.items ≡ c.in_ok-decode_item.field-0 ∷ [] = c.push.ensures.items ∙ ap (λ xs. xs ++ c.in_ok-decode_item.field-0 ∷ []) c.requires.empty in
    let counted : length c.push.new.self.items ≡ 1 = ap length listed in
    let first = first_item (all_unread c.args.payload.now) c.decode_item.new.from (item_data c.in_ok-decode_item.field-0)
    (ap item_at (sym c.new-from.ensures) ∙ c.in_ok-decode_item.ensures) in
    record {
      some = omega arith;
      few = omega arith;
      whole = first ∙ ap₂ (λ front count. with_items front (items_at (8 - count) c.decode_item.new.from)) (ap (map item_data) (sym listed)) (sym counted);
    }

pub returns-then-len-eq8 : goal.returns-then-len-eq8
returns-then-len-eq8 c =
    let full : length c.loop-from.list.items ≡ 8 = omega arith in
    record {
      exact = items_stop_full (map item_data c.loop-from.list.items) (length c.loop-from.list.items) (downlink_at (all_unread c.args.payload.now)) c.loop-from.from
          c.loop-from.invariant.whole full (sym c.at_end.ensures ∙ c.loop-from-test.true)
          ∙ ap (λ refusal. Err refusal) (sym c.ninth_item.ensures);
    }

pub returns-in_err-decode_item-2 : goal.returns-in_err-decode_item-2
returns-in_err-decode_item-2 c =
    let p = err_from_is_err_and c.from_residual-in_err-decode_item-2.result c.from_residual-in_err-decode_item-2.ensures.1 in
    let room : length c.loop-from.list.items < 8 = omega arith in
    rw (p.1, p.2)
    (record {
      exact = items_stop_refused (map item_data c.loop-from.list.items) (length c.loop-from.list.items) (downlink_at (all_unread c.args.payload.now)) c.loop-from.from
          c.loop-from.invariant.whole c.in_err-decode_item-2.field-0.0 room (sym c.at_end.ensures ∙ c.loop-from-test.true) c.in_err-decode_item-2.ensures;
    })

pub loop-from-preserved : goal.loop-from-preserved
loop-from-preserved c =
    let room : length c.loop-from.list.items < 8 = omega arith in
    let step = items_step (map item_data c.loop-from.list.items) (length c.loop-from.list.items) (downlink_at (all_unread c.args.payload.now)) c.loop-from.from
    c.loop-from.invariant.whole (item_data c.in_ok-decode_item-2.field-0) c.decode_item-in-loop-from.new.from room
    (sym c.at_end.ensures ∙ c.loop-from-test.true) c.in_ok-decode_item-2.ensures in
    let listed : map item_data c.loop-from.list.items ++ item_data c.in_ok-decode_item-2.field-0 ∷ [] ≡ map item_data c.push-in-loop-from.new.self.items =
    sym (ap (map item_data) c.push-in-loop-from.ensures.items ∙ map-append item_data c.loop-from.list.items (c.in_ok-decode_item-2.field-0 ∷ [])) in
    let counted : length c.loop-from.list.items + 1 ≡ length c.push-in-loop-from.new.self.items = sym c.push-in-loop-from.ensures.len in
    record {
      some = omega (arith, c.push-in-loop-from.ensures.len);
      few = omega (arith, c.push-in-loop-from.ensures.len);
      whole = step ∙ ap₂ (λ front count. with_items front (items_at (8 - count) c.decode_item-in-loop-from.new.from)) listed counted;
    }

pub returns : goal.returns
returns c =
    record {
      exact = items_stop_end (map item_data c.loop-from.list.items) (length c.loop-from.list.items) (downlink_at (all_unread c.args.payload.now)) c.loop-from.from
          c.loop-from.invariant.whole (sym c.at_end.ensures ∙ c.loop-from-test.false);
    }
