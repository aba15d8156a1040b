-- There is room for the items that are still to be written.
use Rattle.std.proofs.Common.{◌++◌, flat_map, map, length-append, ap, ◌∙◌, subst, arith}
use Rattle.std.proofs.lemmas.List.{take_all}
use Rattle.adsc_downlink.specs.Encodings.{EncodesEach, EncodesItem}
use Rattle.adsc_downlink.specs.Items.{item_bits}
use Rattle.adsc_downlink.specs.ItemView.{item_data}
use Rattle.adsc_downlink.proofs.Lists.{one_more, room_for_item}
use Rattle.adsc_downlink.proofs.Canonical.{canonical_more}
use Rattle.adsc_downlink.proofs.Sizes.{whole_items}
use Rattle.adsc_downlink.proofs.encoding.encode_items.Goals as goal

pub encode_item-requires : goal.encode_item-requires
encode_item-requires c =
    omega (
      arith,
      room_for_item item_bits item_data c.args.items.now c.loop-item.item-index c.item-item.result c.loop-item.out
          (c.args.out.now ++ flat_map item_bits (map item_data c.args.items.now)) c.loop-item-test.true c.item-item.is c.loop-item.invariant.whole,
      length-append c.args.out.now (flat_map item_bits (map item_data c.args.items.now)),
    )

pub loop-item-preserved : goal.loop-item-preserved
loop-item-preserved c = record {
  whole = one_more item_bits item_data c.args.items.now c.loop-item.item-index c.item-item.result c.loop-item.out c.encode_item.new.out
      (c.args.out.now ++ flat_map item_bits (map item_data c.args.items.now)) c.loop-item-test.true c.loop-item.invariant.whole
      (c.encode_item.ensures.bits ∙ ap (λ x. c.loop-item.out ++ item_bits (item_data x)) c.item-item.is);
  encodes = canonical_more c.args.items.now c.loop-item.item-index c.item-item.result c.loop-item-test.true c.item-item.is c.loop-item.invariant.encodes
      c.encode_item.ensures.encodes;
}

pub returns-clause-encodes : goal.returns-clause-encodes
returns-clause-encodes c =
    subst (λ xs. EncodesEach EncodesItem (map item_data xs) (flat_map item_bits (map item_data xs)))
    (take_all c.loop-item.item-index c.args.items.now c.loop-item-test.false) c.loop-item.invariant.encodes

pub returns-clause-whole : goal.returns-clause-whole
returns-clause-whole c = whole_items c.args.items.now
