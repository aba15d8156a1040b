-- The canonical encoding is an encoding.
use Rattle.std.proofs.Common.{◌≡◌, ℕ, ◌+◌, ◌<◌, List, [], ◌∷◌, ◌++◌, length, map, flat_map, get_or, take, refl, sym, ap, ◌∙◌, subst, arith, append-nil}
use Rattle.std.proofs.lemmas.List.{take_more, map-append, length-map}
use Rattle.std.proofs.lemmas.List.Concat.{flat_map-append}
use Rattle.adsc_groups.specs.Basic.{basic_bits, basic_fields, basic_values}
use Rattle.adsc_groups.specs.BasicView.{basic_data}
use Rattle.adsc_groups.specs.Groups.{group_bits, group_fields}
use Rattle.adsc_groups.specs.GroupView.{group_data}
use Rattle.adsc_groups.specs.declared.group.Group.{Group}
use Rattle.adsc_groups.proofs.FieldsLaws.{canonical_encodes}
use Rattle.adsc_groups.proofs.FitLaws.{basic_fits, group_fits}
use Rattle.adsc_downlink.specs.Items.{tagged_group_bits, report_bits, item_bits}
use Rattle.adsc_downlink.specs.ItemView.{report_group_data, report_data, item_data}
use Rattle.adsc_downlink.specs.Encodings.{EncodesEach, EncodesTaggedGroup, EncodesReport, EncodesItem}
use Rattle.adsc_downlink.specs.declared.report.ReportGroup.{ReportGroup}
use Rattle.adsc_downlink.specs.declared.report.Report.{Report}
use Rattle.adsc_downlink.specs.declared.item.Item.{Item}
use Rattle.adsc_downlink.proofs.DownlinkFaults.{each_more}

canonical_group : (group : Group) → EncodesTaggedGroup (group_data group) (tagged_group_bits (group_data group))
unfolding tagged_group_bits group_bits
canonical_group group = record {
  body = group_bits (group_data group);
  stands = refl;
  encoded = ((group_fits group).0, canonical_encodes (group_fields (group_data group).tag) (group_data group).values (group_fits group).1);
}

canonical_groups : (groups : List ReportGroup) → EncodesEach EncodesTaggedGroup (map report_group_data groups) (flat_map tagged_group_bits (map report_group_data groups))
canonical_groups [] = refl
canonical_groups (group ∷ groups) = (
  tagged_group_bits (report_group_data group),
  flat_map tagged_group_bits (map report_group_data groups),
  refl,
  canonical_group group.0,
  canonical_groups groups,
)

pub canonical_report : (one : Report) → EncodesReport (report_data one) (report_bits (report_data one))
unfolding report_bits basic_bits
canonical_report one = record {
  known = one.tag_known;
  few = omega (arith, one.few, length-map one.groups.items report_group_data);
  basic = basic_bits (basic_data one.basic);
  behind = flat_map tagged_group_bits (map report_group_data one.groups.items);
  stands = refl;
  encodes_basic = canonical_encodes basic_fields (basic_values (basic_data one.basic)) (basic_fits one.basic);
  encodes_groups = canonical_groups one.groups.items;
}

-- One more item of those that are encoded.
pub canonical_more : (items : List Item) (i : ℕ) (item : Item) → i < length items → item ≡ get_or items i item
    → EncodesEach EncodesItem (map item_data (take i items)) (flat_map item_bits (map item_data (take i items)))
    → EncodesItem (item_data item) (item_bits (item_data item))
    → EncodesEach EncodesItem (map item_data (take (i + 1) items)) (flat_map item_bits (map item_data (take (i + 1) items)))
canonical_more items i item here is before encoded =
    let more : take (i + 1) items ≡ take i items ++ item ∷ [] = take_more items i item here ∙ ap (λ x. take i items ++ x ∷ []) (sym is) in
    let listed : map item_data (take (i + 1) items) ≡ map item_data (take i items) ++ item_data item ∷ [] =
    ap (map item_data) more ∙ map-append item_data (take i items) (item ∷ []) in
    let bits : flat_map item_bits (map item_data (take i items) ++ item_data item ∷ []) ≡ flat_map item_bits (map item_data (take i items)) ++ item_bits (item_data item) =
    flat_map-append item_bits (map item_data (take i items)) (item_data item ∷ []) ∙ ap (λ b. flat_map item_bits (map item_data (take i items)) ++ b) (append-nil (item_bits (item_data item))) in
    let grown = each_more (map item_data (take i items)) (item_data item) (flat_map item_bits (map item_data (take i items))) (item_bits (item_data item)) before encoded in
    subst (λ xs. EncodesEach EncodesItem xs (flat_map item_bits xs)) (sym listed)
    (subst (EncodesEach EncodesItem (map item_data (take i items) ++ item_data item ∷ [])) (sym bits) grown)
