-- How long the encodings of items are.
use Rattle.std.proofs.Common.{◌≡◌, ℕ, ◌+◌, ◌*◌, ◌≤◌, Bool, true, false, cond, ℤ, List, [], ◌∷◌, ◌++◌, length, map, flat_map, length-append, refl, arith}
use Rattle.bit_terms.specs.Bits.{unsigned_bits}
use Rattle.bit_terms.specs.Signed.{signed_bits}
use Rattle.bit_terms.proofs.BitsLaws.{length-unsigned_bits}
use Rattle.bit_terms.proofs.SignedLaws.{length-signed_bits}
use Rattle.bit_terms.proofs.OctetsLaws.{length-octets_bits}
use Rattle.adsc_groups.specs.Basic.{basic_bits}
use Rattle.adsc_groups.specs.Fields.{Field, fields_bits, size_of}
use Rattle.adsc_groups.specs.Fields.Field.{number, signed, padding}
use Rattle.adsc_groups.specs.Groups.{GroupData, group_bits, group_fields}
use Rattle.adsc_downlink.specs.Items.{ItemData, tagged_group_bits, report_bits, item_bits, downlink_bits}
use Rattle.adsc_downlink.specs.Items.ItemData.{ack, nack, noncompliance, emergency_off, report}
use Rattle.adsc_downlink.proofs.Sizes.{length-nack}
use Rattle.contract_rules.specs.Due.{Item}
use Rattle.contract_rules.specs.Reasons.{names_octet}
use Rattle.flight_samples.specs.declared.sample.Sample.{Sample}
use Rattle.aircraft_core.specs.Reports.{group_on, groups_from, item_on}
use Rattle.aircraft_core.specs.Sending.{item_bits_on}
use Rattle.aircraft_core.specs.Setting.{Setting}

-- ---- groups

length-fields : (fields : List Field) (values : List ℤ) → length (fields_bits fields values) ≤ size_of fields
length-fields [] values = omega arith
length-fields (padding width ∷ fields) values =
    omega (arith, length-append (unsigned_bits width 0) (fields_bits fields values), length-unsigned_bits width 0, length-fields fields values)
length-fields (number width ∷ fields) [] = omega arith
length-fields (number width ∷ fields) (value ∷ values) = front (number width) _ _ (length-unsigned_bits width _) (length-fields fields values)
  where
    front : (field : Field) (here rest : List Bool) → length here ≡ width → length rest ≤ size_of fields → length (here ++ rest) ≤ width + size_of fields
    front field here rest size below = omega (arith, length-append here rest)
length-fields (signed width ∷ fields) [] = omega arith
length-fields (signed width ∷ fields) (value ∷ values) =
    omega (arith, length-append (signed_bits width value) (fields_bits fields values), length-signed_bits width value, length-fields fields values)

length-tagged_group : (group : GroupData) → length (tagged_group_bits group) ≤ 8 + size_of (group_fields group.tag)
unfolding tagged_group_bits group_bits
length-tagged_group group =
    omega (
      arith,
      length-append (unsigned_bits 8 group.tag) (fields_bits (group_fields group.tag) group.values),
      length-unsigned_bits 8 group.tag,
      length-fields (group_fields group.tag) group.values,
    )

length-next_group : (setting : Setting) (sample : Sample) (tag : ℕ) (flag : Bool) (flags : List Bool)
    → length (flat_map tagged_group_bits (groups_from setting sample tag (flag ∷ flags)))
    ≤ (8 + size_of (group_fields tag)) + length (flat_map tagged_group_bits (groups_from setting sample (tag + 1) flags))
length-next_group setting sample tag true flags =
    let group = group_on setting sample tag in
    let rest = flat_map tagged_group_bits (groups_from setting sample (tag + 1) flags) in
    omega (arith, length-append (tagged_group_bits group) rest, length-tagged_group group)
length-next_group setting sample tag false flags = omega arith

-- All six groups have 46 octets with their tags.
pub length-groups : (setting : Setting) (sample : Sample) (flags : List Bool) → length flags ≡ 6
    → length (flat_map tagged_group_bits (groups_from setting sample 12 flags)) ≤ 368
length-groups setting sample (a ∷ b ∷ c ∷ d ∷ e ∷ f ∷ []) six =
    omega (
      arith,
      length-next_group setting sample 12 a (b ∷ c ∷ d ∷ e ∷ f ∷ []),
      length-next_group setting sample 13 b (c ∷ d ∷ e ∷ f ∷ []),
      length-next_group setting sample 14 c (d ∷ e ∷ f ∷ []),
      length-next_group setting sample 15 d (e ∷ f ∷ []),
      length-next_group setting sample 16 e (f ∷ []),
      length-next_group setting sample 17 f [],
    )
length-groups setting sample _ six = absurd (omega arith)

-- ---- items

-- An item that is no report has at most five octets.
pub ack_fits : (n : ℕ) → length (item_bits (ack n)) ≤ 40
unfolding item_bits
ack_fits n = omega (arith, length-octets_bits (3 ∷ n ∷ []))

pub nack_fits : (n reason octet : ℕ) → length (item_bits (nack n reason octet)) ≤ 40
nack_fits n reason octet = omega (arith, length-nack n reason octet, size (names_octet reason))
  where
    size : (named : Bool) → 8 * cond named 4 3 ≤ 32
    size true = omega arith
    size false = omega arith

pub noncompliance_fits : (n : ℕ) → length (item_bits (noncompliance n)) ≤ 40
unfolding item_bits
noncompliance_fits n = omega (arith, length-octets_bits (5 ∷ n ∷ 1 ∷ 21 ∷ 64 ∷ []))

pub emergency_off_fits : (n : ℕ) → length (item_bits (emergency_off n)) ≤ 40
unfolding item_bits
emergency_off_fits n = omega (arith, length-octets_bits (6 ∷ n ∷ []))

-- An item has a bit.
some_bit : (item : ItemData) → 1 ≤ length (item_bits item)
unfolding item_bits report_bits
some_bit (ack n) = omega (arith, length-octets_bits (3 ∷ n ∷ []))
some_bit (nack n reason place) = omega (arith, length-nack n reason place, size (names_octet reason))
  where
    size : (named : Bool) → 1 ≤ 8 * cond named 4 3
    size true = omega arith
    size false = omega arith
some_bit (noncompliance n) = omega (arith, length-octets_bits (5 ∷ n ∷ 1 ∷ 21 ∷ 64 ∷ []))
some_bit (emergency_off n) = omega (arith, length-octets_bits (6 ∷ n ∷ []))
some_bit (report one) =
    omega (arith, length-append (unsigned_bits 8 one.tag) (basic_bits one.basic ++ flat_map tagged_group_bits one.groups), length-unsigned_bits 8 one.tag)

-- Items without a bit are none.
pub no_items : (setting : Setting) (sample : Sample) (items : List Item) → length (item_bits_on setting sample items) ≡ 0 → items ≡ []
unfolding downlink_bits
no_items setting sample [] none = refl
no_items setting sample (item ∷ items) none =
    absurd (omega (
      arith,
      length-append (item_bits (item_on setting sample item)) (flat_map item_bits (map (item_on setting sample) items)),
      some_bit (item_on setting sample item),
    ))
