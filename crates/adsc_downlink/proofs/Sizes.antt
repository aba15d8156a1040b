-- How long encodings are.
use Rattle.std.proofs.Common.{◌≡◌, ℕ, ◌+◌, ◌*◌, ◌%◌, Bool, true, false, List, [], ◌∷◌, ◌++◌, length, map, flat_map, ap, sym, ◌∙◌, length-append, refl, arith, if◌then◌else◌}
use Rattle.bit_terms.specs.Bits.{unsigned_bits}
use Rattle.bit_terms.specs.Octets.{octets_bits}
use Rattle.bit_terms.proofs.BitsLaws.{length-unsigned_bits}
use Rattle.bit_terms.proofs.OctetsLaws.{length-octets_bits}
use Rattle.adsc_groups.specs.Basic.{basic_bits, basic_fields, basic_values}
use Rattle.adsc_groups.specs.BasicView.{basic_data}
use Rattle.adsc_groups.specs.Groups.{GroupData, group_bits, group_fields}
use Rattle.adsc_groups.specs.GroupView.{group_data, group_size}
use Rattle.adsc_groups.specs.declared.basic.Basic.{Basic}
use Rattle.adsc_groups.specs.declared.group.Group.{Group}
use Rattle.adsc_groups.proofs.FieldsLaws.{length-fields_bits}
use Rattle.adsc_groups.proofs.FitLaws.{basic_fits, group_fits}
use Rattle.adsc_groups.specs.declared.group.Group.TheVariants as groups
use Rattle.contract_rules.specs.Reasons.{names_octet}
use Rattle.adsc_downlink.specs.Codes.{noncompliance_octets}
use Rattle.adsc_downlink.specs.Items.{tagged_group_bits, report_bits, item_bits}
use Rattle.adsc_downlink.specs.Items.ItemData.{nack, report}
use Rattle.adsc_downlink.specs.ItemView.{report_group_data, report_data, item_data}
use Rattle.adsc_downlink.specs.declared.item.Item.{Item}
use Rattle.adsc_downlink.specs.declared.item.Item.TheVariants as items
use Rattle.adsc_downlink.specs.declared.report.Report.{Report}
use Rattle.adsc_downlink.specs.declared.report.ReportGroup.{ReportGroup}

pub length-basic_bits : (basic : Basic) → length (basic_bits (basic_data basic)) ≡ 80
unfolding basic_bits
length-basic_bits basic = length-fields_bits basic_fields (basic_values (basic_data basic)) (basic_fits basic)

pub length-group_bits : (group : Group) → length (group_bits (group_data group)) ≡ group_size group
unfolding group_bits
length-group_bits group = length-fields_bits (group_fields (group_data group).tag) (group_data group).values (group_fits group).1

pub length-tagged_group_bits : (group : Group) → length (tagged_group_bits (group_data group)) ≡ 8 + group_size group
unfolding tagged_group_bits
length-tagged_group_bits group =
    omega (arith, length-append (unsigned_bits 8 (group_data group).tag) (group_bits (group_data group)), length-unsigned_bits 8 (group_data group).tag, length-group_bits group)

pub length-octets : (octets : List ℕ) (count : ℕ) → length octets ≡ count → length (octets_bits octets) ≡ 8 * count
length-octets octets count same = omega (arith, length-octets_bits octets)

pub length-nack : (n reason place : ℕ) → length (item_bits (nack n reason place)) ≡ 8 * (if names_octet reason then 4 else 3)
unfolding item_bits
length-nack n reason place = chosen (names_octet reason)
  where
    chosen : (test : Bool) → length (octets_bits (4 ∷ n ∷ reason ∷ (if test then place ∷ [] else []))) ≡ 8 * (if test then 4 else 3)
    chosen true = length-octets_bits (4 ∷ n ∷ reason ∷ place ∷ [])
    chosen false = length-octets_bits (4 ∷ n ∷ reason ∷ [])

pub length-report_bits : (tag : ℕ) (basic : Basic) (groups : List GroupData)
    → length (report_bits (record { tag = tag; basic = basic_data basic; groups = groups })) ≡ 88 + length (flat_map tagged_group_bits groups)
unfolding report_bits
length-report_bits tag basic groups =
    omega (
      arith,
      length-append (unsigned_bits 8 tag) (basic_bits (basic_data basic) ++ flat_map tagged_group_bits groups),
      length-append (basic_bits (basic_data basic)) (flat_map tagged_group_bits groups),
      length-unsigned_bits 8 tag,
      length-basic_bits basic,
    )

pub length-report : (one : Report) (groups : List ReportGroup) (size : ℕ) → groups ≡ one.groups.items → 8 * size ≡ length (flat_map tagged_group_bits (map report_group_data groups))
    → 8 * (11 + size) ≡ length (item_bits (report (report_data one)))
unfolding item_bits
length-report one groups size same counted =
    let whole = length-report_bits one.tag one.basic (map report_group_data one.groups.items) in
    let listed : length (flat_map tagged_group_bits (map report_group_data groups)) ≡ length (flat_map tagged_group_bits (map report_group_data one.groups.items)) =
    ap (λ xs. length (flat_map tagged_group_bits (map report_group_data xs))) same in
    let sum : 8 * (11 + size) ≡ 88 + length (flat_map tagged_group_bits (map report_group_data one.groups.items)) = omega (arith, counted, listed) in
    sum ∙ sym whole

-- ---- whole octets

whole_sum : (a b : ℕ) → a % 8 ≡ 0 → b % 8 ≡ 0 → (a + b) % 8 ≡ 0
whole_sum a b one other = omega arith

-- The data of a group is whole octets.
whole_group : (group : Group) → group_size group % 8 ≡ 0
whole_group (groups.FlightId id) = refl
whole_group (groups.Route route) = refl
whole_group (groups.Earth motion) = refl
whole_group (groups.Air motion) = refl
whole_group (groups.Weather weather) = refl
whole_group (groups.Airframe airframe) = refl
whole_group (groups.Intermediate intermediate) = refl
whole_group (groups.Fixed fixed) = refl

whole_groups : (list : List ReportGroup) → length (flat_map tagged_group_bits (map report_group_data list)) % 8 ≡ 0
whole_groups [] = refl
whole_groups (group ∷ others) =
    ap (λ n. n % 8) (length-append (tagged_group_bits (report_group_data group)) (flat_map tagged_group_bits (map report_group_data others)))
    ∙ whole_sum (length (tagged_group_bits (report_group_data group))) (length (flat_map tagged_group_bits (map report_group_data others)))
    (omega (arith, length-tagged_group_bits group.0, whole_group group.0)) (whole_groups others)

whole_octets : (octets : List ℕ) → length (octets_bits octets) % 8 ≡ 0
whole_octets octets = omega (arith, length-octets_bits octets)

-- An item is whole octets, and so are items.
pub whole_item : (item : Item) → length (item_bits (item_data item)) % 8 ≡ 0
unfolding item_bits
whole_item (items.Ack n) = whole_octets (3 ∷ n ∷ [])
whole_item (items.Nack k) = whole_octets (4 ∷ k.n ∷ k.reason ∷ (if names_octet k.reason then k.octet ∷ [] else []))
whole_item (items.Noncompliance n) = whole_octets (5 ∷ n ∷ noncompliance_octets)
whole_item (items.EmergencyOff n) = whole_octets (6 ∷ n ∷ [])
whole_item (items.Report one) =
    omega (arith, length-report_bits one.tag one.basic (map report_group_data one.groups.items), whole_groups one.groups.items)

pub whole_items : (list : List Item) → length (flat_map item_bits (map item_data list)) % 8 ≡ 0
whole_items [] = refl
whole_items (item ∷ others) =
    ap (λ n. n % 8) (length-append (item_bits (item_data item)) (flat_map item_bits (map item_data others)))
    ∙ whole_sum (length (item_bits (item_data item))) (length (flat_map item_bits (map item_data others))) (whole_item item) (whole_items others)
