-- Encodings of items are whole octets.
use Rattle.std.proofs.Common.{◌≡◌, ℕ, zero, suc, ◌%◌, ◌==◌, Bool, true, false, List, [], ◌∷◌, ◌++◌, length, if◌then◌else◌, refl, ap, ap₂, ◌∙◌, arith, length-append}
use Rattle.bit_terms.specs.Bits.{unsigned_bits}
use Rattle.bit_terms.specs.Octets.{octets_bits, number_spelled}
use Rattle.bit_terms.proofs.BitsLaws.{length-unsigned_bits}
use Rattle.bit_terms.proofs.OctetsLaws.{length-octets_bits, number_spelled-lt, unsigned_bits-number_spelled}
use Rattle.hex.specs.Hex.{IsBytes}
use Rattle.adsc_bits.specs.Packing.{octets_of}
use Rattle.adsc_groups.specs.Fields.{size_of}
use Rattle.adsc_groups.specs.Basic.{basic_fields, basic_values}
use Rattle.adsc_groups.specs.Groups.{GroupData, group_fields}
use Rattle.adsc_groups.specs.Tables.{flight_id_fields, route_fields, motion_fields, weather_fields, airframe_fields, intermediate_fields, fixed_fields}
use Rattle.adsc_groups.proofs.FieldsLaws.{length-encoding}
use Rattle.contract_rules.specs.Reasons.{names_octet}
use Rattle.adsc_downlink.specs.Codes.{noncompliance_octets}
use Rattle.adsc_downlink.specs.Encodings.{EncodesDownlink, EncodesEach, EncodesItem, EncodesReport, EncodesTaggedGroup}
use Rattle.adsc_downlink.specs.Items.{ItemData, ReportData, item_bits}
use Rattle.adsc_downlink.specs.Items.ItemData.{ack, nack, noncompliance, emergency_off, report}

-- ---- the octets of bits

eight : (a b c d e f g h : Bool) → unsigned_bits 8 (number_spelled (a ∷ b ∷ c ∷ d ∷ e ∷ f ∷ g ∷ h ∷ [])) ≡ a ∷ b ∷ c ∷ d ∷ e ∷ f ∷ g ∷ h ∷ []
eight a b c d e f g h = unsigned_bits-number_spelled (a ∷ b ∷ c ∷ d ∷ e ∷ f ∷ g ∷ h ∷ [])

-- whole octets have the bits that they were made of
pub octets_bits-octets_of : (bits : List Bool) → length bits % 8 ≡ 0 → octets_bits (octets_of bits) ≡ bits
unfolding octets_of
octets_bits-octets_of [] whole = refl
octets_bits-octets_of (a ∷ []) whole = cc
octets_bits-octets_of (a ∷ b ∷ []) whole = cc
octets_bits-octets_of (a ∷ b ∷ c ∷ []) whole = cc
octets_bits-octets_of (a ∷ b ∷ c ∷ d ∷ []) whole = cc
octets_bits-octets_of (a ∷ b ∷ c ∷ d ∷ e ∷ []) whole = cc
octets_bits-octets_of (a ∷ b ∷ c ∷ d ∷ e ∷ f ∷ []) whole = cc
octets_bits-octets_of (a ∷ b ∷ c ∷ d ∷ e ∷ f ∷ g ∷ []) whole = cc
octets_bits-octets_of (a ∷ b ∷ c ∷ d ∷ e ∷ f ∷ g ∷ h ∷ rest) whole =
    ap₂ (λ (front : List Bool) (back : List Bool). front ++ back) (eight a b c d e f g h) (octets_bits-octets_of rest (omega (arith, whole)))

pub octets_of_bytes : (bits : List Bool) → IsBytes (octets_of bits)
unfolding octets_of
octets_of_bytes [] i = omega arith
octets_of_bytes (a ∷ []) i = omega arith
octets_of_bytes (a ∷ b ∷ []) i = omega arith
octets_of_bytes (a ∷ b ∷ c ∷ []) i = omega arith
octets_of_bytes (a ∷ b ∷ c ∷ d ∷ []) i = omega arith
octets_of_bytes (a ∷ b ∷ c ∷ d ∷ e ∷ []) i = omega arith
octets_of_bytes (a ∷ b ∷ c ∷ d ∷ e ∷ f ∷ []) i = omega arith
octets_of_bytes (a ∷ b ∷ c ∷ d ∷ e ∷ f ∷ g ∷ []) i = omega arith
octets_of_bytes (a ∷ b ∷ c ∷ d ∷ e ∷ f ∷ g ∷ h ∷ rest) zero = number_spelled-lt (a ∷ b ∷ c ∷ d ∷ e ∷ f ∷ g ∷ h ∷ [])
octets_of_bytes (a ∷ b ∷ c ∷ d ∷ e ∷ f ∷ g ∷ h ∷ rest) (suc i) = octets_of_bytes rest i

-- ---- encodings

whole_octets : (octets : List ℕ) → length (octets_bits octets) % 8 ≡ 0
whole_octets octets = omega (arith, length-octets_bits octets)

whole_both : (front back : List Bool) → length front % 8 ≡ 0 → length back % 8 ≡ 0 → length (front ++ back) % 8 ≡ 0
whole_both front back one other = omega (arith, length-append front back)

-- each table of a group's fields has whole octets
whole_fields : (tag : ℕ) → size_of (group_fields tag) % 8 ≡ 0
whole_fields tag = at (tag == 12) (tag == 13) (tag == 14) (tag == 15) (tag == 16) (tag == 17) (tag == 22)
  where
    at : (a b c d e f g : Bool)
        → size_of (if a then flight_id_fields else if b then route_fields else if c then motion_fields else if d then motion_fields
        else if e then weather_fields else if f then airframe_fields else if g then intermediate_fields else fixed_fields) % 8 ≡ 0
    at true b c d e f g = refl
    at false true c d e f g = refl
    at false false true d e f g = refl
    at false false false true e f g = refl
    at false false false false true f g = refl
    at false false false false false true g = refl
    at false false false false false false true = refl
    at false false false false false false false = refl

whole_group : (group : GroupData) (bits : List Bool) → EncodesTaggedGroup group bits → length bits % 8 ≡ 0
whole_group group bits encodes =
    omega (
      arith,
      ap length encodes.stands,
      length-append (unsigned_bits 8 group.tag) encodes.body,
      length-unsigned_bits 8 group.tag,
      length-encoding (group_fields group.tag) group.values encodes.body encodes.encoded.1,
      whole_fields group.tag,
    )

whole_each : {A : Type 0} (Encoded : A → List Bool → Type 0) → ((x : A) (bits : List Bool) → Encoded x bits → length bits % 8 ≡ 0)
    → (xs : List A) (bits : List Bool) → EncodesEach Encoded xs bits → length bits % 8 ≡ 0
whole_each Encoded one [] bits encodes = ap (λ (b : List Bool). length b % 8) encodes
whole_each Encoded one (x ∷ xs) bits (front, back, stands, first, others) =
    ap (λ (b : List Bool). length b % 8) stands ∙ whole_both front back (one x front first) (whole_each Encoded one xs back others)

whole_report : (one : ReportData) (bits : List Bool) → EncodesReport one bits → length bits % 8 ≡ 0
whole_report one bits encodes =
    omega (
      arith,
      ap length encodes.stands,
      length-append (unsigned_bits 8 one.tag) (encodes.basic ++ encodes.behind),
      length-append encodes.basic encodes.behind,
      length-unsigned_bits 8 one.tag,
      length-encoding basic_fields (basic_values one.basic) encodes.basic encodes.encodes_basic,
      whole_each EncodesTaggedGroup whole_group one.groups encodes.behind encodes.encodes_groups,
    )

whole_item : (item : ItemData) (bits : List Bool) → EncodesItem item bits → length bits % 8 ≡ 0
unfolding item_bits
whole_item (ack n) bits encodes = ap (λ (b : List Bool). length b % 8) encodes.1 ∙ whole_octets (3 ∷ n ∷ [])
whole_item (nack n reason place) bits encodes =
    ap (λ (b : List Bool). length b % 8) encodes.4 ∙ whole_octets (4 ∷ n ∷ reason ∷ (if names_octet reason then place ∷ [] else []))
whole_item (noncompliance n) bits encodes = ap (λ (b : List Bool). length b % 8) encodes.1 ∙ whole_octets (5 ∷ n ∷ noncompliance_octets)
whole_item (emergency_off n) bits encodes = ap (λ (b : List Bool). length b % 8) encodes.1 ∙ whole_octets (6 ∷ n ∷ [])
whole_item (report one) bits encodes = whole_report one bits encodes

-- an encoding of items is whole octets
pub whole_encoding : (items : List ItemData) (bits : List Bool) → EncodesDownlink items bits → length bits % 8 ≡ 0
whole_encoding items bits encodes = whole_each EncodesItem whole_item items bits encodes.encoded
