-- Which bits encode which items, whatever the padding (RTCA DO-258A / EUROCAE ED-100A; the layout of items is this project's profile).
use Rattle.std.specs.Prelude.{◌≡◌, ◌<◌, ◌≤◌, Bool, List, [], ◌∷◌, ◌++◌, length, IsTrue}
use Rattle.bit_terms.specs.Bits.{unsigned_bits}
use Rattle.adsc_groups.specs.Fields.{Encodes}
use Rattle.adsc_groups.specs.Basic.{basic_fields, basic_values}
use Rattle.adsc_groups.specs.Groups.{GroupData, EncodesGroup}
use Rattle.adsc_downlink.specs.Codes.{is_report_tag, is_reason, is_place_of}
use Rattle.adsc_downlink.specs.Items.{ReportData, ItemData, item_bits}
use Rattle.adsc_downlink.specs.Items.ItemData.{ack, nack, noncompliance, emergency_off, report}

-- These bits encode these things, one after the other, and nothing else.
abbrev pub EncodesEach : {A : Type 0} → (A → List Bool → Type 0) → List A → List Bool → Type 0
EncodesEach encodes [] bits = bits ≡ []
EncodesEach encodes (x ∷ xs) bits = (front : List Bool) × (back : List Bool) × (bits ≡ front ++ back) × encodes x front × EncodesEach encodes xs back

-- A group is encoded behind its tag.
pub record EncodesTaggedGroup (group : GroupData) (bits : List Bool) : Type 0 where
  pub body : List Bool
  pub stands : bits ≡ unsigned_bits 8 group.tag ++ body
  pub encoded : EncodesGroup group body

-- A report is its tag, ten octets of basic data, and up to eight groups in any order.
pub record EncodesReport (one : ReportData) (bits : List Bool) : Type 0 where
  pub known : IsTrue (is_report_tag one.tag)
  pub few : length one.groups ≤ 8
  pub basic : List Bool
  pub behind : List Bool
  pub stands : bits ≡ unsigned_bits 8 one.tag ++ (basic ++ behind)
  pub encodes_basic : Encodes basic_fields (basic_values one.basic) basic
  pub encodes_groups : EncodesEach EncodesTaggedGroup one.groups behind

-- These bits encode this item. Only a report has padding: every other item is encoded in one way, and numbers and places are octets.
abbrev pub EncodesItem : ItemData → List Bool → Type 0
EncodesItem (ack n) bits = (n < 256) × (bits ≡ item_bits (ack n))
EncodesItem (nack n reason place) bits =
    (n < 256) × IsTrue (is_reason reason) × (place < 256) × IsTrue (is_place_of reason place) × (bits ≡ item_bits (nack n reason place))
EncodesItem (noncompliance n) bits = (n < 256) × (bits ≡ item_bits (noncompliance n))
EncodesItem (emergency_off n) bits = (n < 256) × (bits ≡ item_bits (emergency_off n))
EncodesItem (report one) bits = EncodesReport one bits

-- A downlink is one to eight items, and nothing else.
pub record EncodesDownlink (items : List ItemData) (bits : List Bool) : Type 0 where
  pub some : 1 ≤ length items
  pub few : length items ≤ 8
  pub encoded : EncodesEach EncodesItem items bits
