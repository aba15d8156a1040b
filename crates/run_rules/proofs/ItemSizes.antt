-- An item that can be sent has at most 456 bits: a report with all six groups has 57 octets, and no other item has more than five.
use Rattle.std.proofs.Common.{◌≡◌, ◌+◌, ◌≤◌, Bool, ℤ, List, [], ◌∷◌, ◌++◌, length, flat_map, length-append, arith}
use Rattle.bit_terms.specs.Bits.{unsigned_bits}
use Rattle.bit_terms.specs.Signed.{signed_bits}
use Rattle.bit_terms.proofs.BitsLaws.{length-unsigned_bits}
use Rattle.bit_terms.proofs.SignedLaws.{length-signed_bits}
use Rattle.adsc_downlink.specs.Items.{item_bits, report_bits, tagged_group_bits}
use Rattle.adsc_groups.specs.Basic.{basic_bits, basic_fields, basic_values}
use Rattle.adsc_groups.specs.Fields.{Field, fields_bits, size_of}
use Rattle.adsc_groups.specs.Fields.Field.{number, signed, padding}
use Rattle.aircraft_core.specs.Reports.{basic_data_of, groups_from, item_on}
use Rattle.aircraft_core.specs.Setting.{Setting}
use Rattle.aircraft_core.proofs.SizeLaws.{ack_fits, emergency_off_fits, length-groups, nack_fits, noncompliance_fits}
use Rattle.contract_rules.specs.Due.{Item, Acknowledgement, NegativeAcknowledgement, Noncompliance, EmergencyOff, Report}
use Rattle.contract_table.specs.Sending.{IsSendable}
use Rattle.flight_samples.specs.declared.sample.Sample.{Sample}

-- Fields have at most their widths.
fields_fit : (fields : List Field) (values : List ℤ) → length (fields_bits fields values) ≤ size_of fields
fields_fit [] values = omega arith
fields_fit (padding width ∷ fields) values =
    omega (arith, length-append (unsigned_bits width 0) (fields_bits fields values), length-unsigned_bits width 0, fields_fit fields values)
fields_fit (number width ∷ fields) [] = omega arith
fields_fit (number width ∷ fields) (value ∷ values) = front (number width) _ _ (length-unsigned_bits width _) (fields_fit fields values)
  where
    front : (field : Field) (here rest : List Bool) → length here ≡ width → length rest ≤ size_of fields
        → length (here ++ rest) ≤ width + size_of fields
    front field here rest size below = omega (arith, length-append here rest)
fields_fit (signed width ∷ fields) [] = omega arith
fields_fit (signed width ∷ fields) (value ∷ values) =
    omega (arith, length-append (signed_bits width value) (fields_bits fields values), length-signed_bits width value, fields_fit fields values)

-- Each item that can be sent.
pub item_short : (setting : Setting) (sample : Sample) (item : Item) → IsSendable item → length (item_bits (item_on setting sample item)) ≤ 456
unfolding item_bits report_bits basic_bits
item_short setting sample (Acknowledgement n) can = omega (arith, ack_fits n)
item_short setting sample (NegativeAcknowledgement n reason octet) can = omega (arith, nack_fits n reason octet)
item_short setting sample (Noncompliance n) can = omega (arith, noncompliance_fits n)
item_short setting sample (EmergencyOff n) can = omega (arith, emergency_off_fits n)
item_short setting sample (Report tag flags) can =
    let groups = flat_map tagged_group_bits (groups_from setting sample 12 flags) in
    let basic = fields_bits basic_fields (basic_values (basic_data_of sample)) in
    omega (
      arith,
      length-append (unsigned_bits 8 tag) (basic ++ groups),
      length-append basic groups,
      length-unsigned_bits 8 tag,
      fields_fit basic_fields (basic_values (basic_data_of sample)),
      length-groups setting sample flags can.1,
    )
