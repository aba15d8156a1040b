-- Where a payload that is no downlink goes wrong first, from the left, and why (this project's profile).
--
-- Everything before the fault is right: whole items, and of the item at fault its tag and the octets or fields before the fault. At the fault
-- stands one of four things. Short: a field isn't wholly there. Tag: an octet in the place of a tag is no item's, nor, behind a report, a
-- group's. Value: an octet is none of those that may stand there. Many: a ninth item begins, or a ninth group of a report.
use Rattle.std.specs.Prelude.{◌≡◌, ℕ, ◌+◌, ◌*◌, ◌<◌, ◌≤◌, ℤ, Bool, true, false, List, [], ◌∷◌, ◌++◌, ◌&&◌, ◌⊎◌, length, IsTrue}
use Rattle.bit_terms.specs.Bits.{unsigned_bits}
use Rattle.bit_terms.specs.Octets.{octets_bits}
use Rattle.bit_terms.specs.Reading.{Unread}
use Rattle.adsc_groups.specs.Fields.{Encodes, IsFirstCut}
use Rattle.adsc_groups.specs.Basic.{basic_fields}
use Rattle.adsc_groups.specs.Groups.{GroupData, IsGroupTag, is_group_tag, group_fields}
use Rattle.contract_rules.specs.Reasons.{names_octet}
use Rattle.adsc_downlink.specs.Codes.{any, is_report_tag, is_item_tag, is_octet_tag, item_tests}
use Rattle.adsc_downlink.specs.Items.{ItemData}
use Rattle.adsc_downlink.specs.Items.ItemData.{ack, nack, noncompliance, emergency_off, report}
use Rattle.adsc_downlink.specs.Encodings.{EncodesEach, EncodesTaggedGroup, EncodesItem}
use Rattle.adsc_downlink.specs.declared.refusal.DownWhy.{DownWhy}
use Rattle.adsc_downlink.specs.declared.refusal.DownWhy.TheVariants as why

-- ---- an octet that must pass a test

-- The octets pass the tests, one test for each.
abbrev pub PassEach : List (ℕ → Bool) → List ℕ → Type 0
PassEach [] octets = octets ≡ []
PassEach (test ∷ tests) [] = ⊥
PassEach (test ∷ tests) (octet ∷ octets) = (octet < 256) × IsTrue (test octet) × PassEach tests octets

-- The octet that must stand next isn't wholly there, or doesn't pass.
abbrev pub IsOctetFault : (ℕ → Bool) → List Bool → DownWhy → Type 0
IsOctetFault test left cause =
    (cause ≡ why.Short) × (length left < 8)
    ⊎ (octet : ℕ) × (others : List Bool) × (octet < 256) × (left ≡ unsigned_bits 8 octet ++ others) × (test octet ≡ false) × (cause ≡ why.Value)

-- Of octets that must pass these tests some pass, and the next is at fault.
pub record IsFirstOctetFault (tests : List (ℕ → Bool)) (unread : Unread) (bit : ℕ) (cause : DownWhy) : Type 0 where
  pub before : List (ℕ → Bool)
  pub test : ℕ → Bool
  pub behind : List (ℕ → Bool)
  pub octets : List ℕ
  pub rest : List Bool
  pub in_turn : tests ≡ before ++ test ∷ behind
  pub pass : PassEach before octets
  pub stand : unread.left ≡ octets_bits octets ++ rest
  pub fault : IsOctetFault test rest cause
  pub place : bit ≡ unread.at + 8 * length octets

-- ---- the groups of a report

-- A group begins here, where so many may still stand: it is one too many, or a field of it isn't wholly there.
pub record IsGroupFault (room : ℕ) (unread : Unread) (bit : ℕ) (cause : DownWhy) : Type 0 where
  pub tag : ℕ
  pub body : List Bool
  pub octet : tag < 256
  pub stands : unread.left ≡ unsigned_bits 8 tag ++ body
  pub known : IsGroupTag tag
  pub fault : (room ≡ 0) × (cause ≡ why.Many) × (bit ≡ unread.at)
      ⊎ (1 ≤ room) × (cause ≡ why.Short) × IsFirstCut (group_fields tag) (record { left = body; at = unread.at + 8 }) bit

-- Behind the tag of a report stand the basic data and whole groups, and then a group that is at fault.
pub record IsFirstGroupFault (unread : Unread) (bit : ℕ) (cause : DownWhy) : Type 0 where
  pub values : List ℤ
  pub basic : List Bool
  pub groups : List GroupData
  pub front : List Bool
  pub rest : List Bool
  pub room : ℕ
  pub stand : unread.left ≡ basic ++ (front ++ rest)
  pub encodes_basic : Encodes basic_fields values basic
  pub encodes_groups : EncodesEach EncodesTaggedGroup groups front
  pub eight : length groups + room ≡ 8
  pub fault : IsGroupFault room (record { left = rest; at = unread.at + length basic + length front }) bit cause

-- ---- an item

-- Behind the number and the reason of a negative acknowledgement the place of the faulty octet isn't wholly there.
pub record IsPlaceCut (unread : Unread) (bit : ℕ) : Type 0 where
  pub octets : List ℕ
  pub rest : List Bool
  pub pass : PassEach (any ∷ names_octet ∷ []) octets
  pub stand : unread.left ≡ octets_bits octets ++ rest
  pub cut : length rest < 8
  pub place : bit ≡ unread.at + 16

-- Behind this tag of an item something is at fault.
abbrev pub IsBodyFault : ℕ → Unread → ℕ → DownWhy → Type 0
IsBodyFault tag unread bit cause =
    IsTrue (is_octet_tag tag) × IsFirstOctetFault (item_tests tag) unread bit cause
    ⊎ (tag ≡ 4) × IsPlaceCut unread bit × (cause ≡ why.Short)
    ⊎ IsTrue (is_report_tag tag) × IsFirstCut basic_fields unread bit × (cause ≡ why.Short)
    ⊎ IsTrue (is_report_tag tag) × IsFirstGroupFault unread bit cause

-- An item begins here, and behind its tag something is at fault.
pub record IsItemFault (unread : Unread) (bit : ℕ) (cause : DownWhy) : Type 0 where
  pub tag : ℕ
  pub body : List Bool
  pub octet : tag < 256
  pub stands : unread.left ≡ unsigned_bits 8 tag ++ body
  pub fault : IsBodyFault tag (record { left = body; at = unread.at + 8 }) bit cause

-- ---- a downlink

-- Whether the last of these items is a report, behind which a group may stand.
abbrev pub is_report : ItemData → Bool
is_report (report one) = true
is_report (ack n) = false
is_report (nack n reason place) = false
is_report (noncompliance n) = false
is_report (emergency_off n) = false

abbrev pub ends_in_report : List ItemData → Bool
ends_in_report [] = false
ends_in_report (item ∷ []) = is_report item
ends_in_report (item ∷ other ∷ items) = ends_in_report (other ∷ items)

-- Behind these whole items the octet of a tag is at fault: it isn't wholly there, though something is or something must be; it is no tag that may
-- stand there; or it begins a ninth item.
abbrev pub IsTagFault : List ItemData → List Bool → DownWhy → Type 0
IsTagFault items left cause =
    (cause ≡ why.Short) × (length left < 8) × ((items ≡ []) ⊎ (0 < length left))
    ⊎ (tag : ℕ) × (others : List Bool) × (tag < 256) × (left ≡ unsigned_bits 8 tag ++ others)
    × ((cause ≡ why.Tag) × (is_item_tag tag ≡ false) × ((ends_in_report items && is_group_tag tag) ≡ false)
    ⊎ (cause ≡ why.Many) × IsTrue (is_item_tag tag) × (length items ≡ 8))

-- Whole items stand first, and then, at this bit, the first fault.
pub record IsFirstDownlinkFault (bits : List Bool) (bit : ℕ) (cause : DownWhy) : Type 0 where
  pub items : List ItemData
  pub front : List Bool
  pub rest : List Bool
  pub few : length items ≤ 8
  pub encoded : EncodesEach EncodesItem items front
  pub stand : bits ≡ front ++ rest
  pub fault : (bit ≡ length front) × IsTagFault items rest cause
      ⊎ (length items < 8) × IsItemFault (record { left = rest; at = length front }) bit cause
