-- Downlink items and their canonical encoding (RTCA DO-258A / EUROCAE ED-100A; the layout and the canonical encoding are this project's profile).
use Rattle.std.specs.Prelude.{ℕ, Bool, List, [], ◌∷◌, ◌++◌, flat_map, if◌then◌else◌}
use Rattle.bit_terms.specs.Bits.{unsigned_bits}
use Rattle.bit_terms.specs.Octets.{octets_bits}
use Rattle.adsc_groups.specs.Basic.{BasicData, basic_bits}
use Rattle.adsc_groups.specs.Groups.{GroupData, group_bits}
use Rattle.contract_rules.specs.Reasons.{names_octet}
use Rattle.adsc_downlink.specs.Codes.{noncompliance_octets}

-- A report as plain data: its tag, its basic data, and its groups in their order.
pub record ReportData : Type 0 where
  pub tag : ℕ
  pub basic : BasicData
  pub groups : List GroupData

-- An item as plain data. `nack` has its number, its reason and the place of the faulty octet, which is 0 for reasons that have none.
pub data ItemData : Type 0 where
  ack noncompliance emergency_off : ℕ → ItemData
  nack : ℕ → ℕ → ℕ → ItemData
  report : ReportData → ItemData

-- ---- the canonical encoding, in which padding is zeros

-- A group behind its tag.
unfoldable pub tagged_group_bits : GroupData → List Bool
tagged_group_bits group = unsigned_bits 8 group.tag ++ group_bits group

-- A report: its tag, ten octets of basic data, its groups.
unfoldable pub report_bits : ReportData → List Bool
report_bits one = unsigned_bits 8 one.tag ++ (basic_bits one.basic ++ flat_map tagged_group_bits one.groups)

-- An item: its tag, and what the table of items lists behind it.
unfoldable pub item_bits : ItemData → List Bool
item_bits (ack n) = octets_bits (3 ∷ n ∷ [])
item_bits (nack n reason place) = octets_bits (4 ∷ n ∷ reason ∷ (if names_octet reason then place ∷ [] else []))
item_bits (noncompliance n) = octets_bits (5 ∷ n ∷ noncompliance_octets)
item_bits (emergency_off n) = octets_bits (6 ∷ n ∷ [])
item_bits (report one) = report_bits one

-- A downlink: its items, one after the other.
unfoldable pub downlink_bits : List ItemData → List Bool
downlink_bits items = flat_map item_bits items
