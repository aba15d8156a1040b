-- Which items an aircraft can send, the bits that it sends them as, and how many these are at most. It serves private contracts.
use Rattle.std.specs.Prelude.{ℕ, ◌+◌, ◌≤◌, ◌==◌, Bool, cond, List, [], ◌∷◌, map, IsTrue}
use Rattle.std.specs.List.{AllByRecursion}
use Rattle.adsc_downlink.specs.Codes.{is_reason, is_place_of, is_report_tag}
use Rattle.adsc_downlink.specs.Items.{downlink_bits}
use Rattle.contract_rules.specs.Due.{Item, NegativeAcknowledgement, Report}
use Rattle.contract_table.specs.declared.due.Due.{Due}
use Rattle.contract_table.specs.Dues.{items_on, rules_due, rules_item}
use Rattle.flight_samples.specs.declared.sample.Sample.{Sample}
use Rattle.aircraft_core.specs.Reports.{item_on}
use Rattle.aircraft_core.specs.Setting.{Setting}

-- A negative acknowledgement has a reason of the table, and an octet only where that names one; a report has one of the six tags. The
-- other items can always be sent.
abbrev pub IsSendable : Item → Type 0
IsSendable (NegativeAcknowledgement number reason octet) = IsTrue (is_reason reason) × IsTrue (is_place_of reason octet)
IsSendable (Report tag flags) = IsTrue (is_report_tag tag)
IsSendable item = Unit {0}

-- Each of these items can be sent.
abbrev pub AreSendable : List Item → Type 0
AreSendable items = AllByRecursion IsSendable items

-- These dues, in the terms of the contract rules: items, each with its link.
abbrev pub rules_dues : List Due → List (ℕ × Item)
rules_dues dues = map rules_due dues

-- The items of these dues, in their order.
abbrev pub items_in : List Due → List Item
items_in dues = map (λ due. rules_item due.item) dues

-- The items of one link among these dues, in their order.
abbrev pub items_of_link : ℕ → List Due → List Item
items_of_link link dues = items_on link (rules_dues dues)

-- The bits of these items, with their data.
abbrev pub item_bits_on : Setting → Sample → List Item → List Bool
item_bits_on setting sample items = downlink_bits (map (item_on setting sample) items)

-- How many bits an item has at most: a report with all six groups has 57 octets, and no other item has more than five.
abbrev pub most_bits : Item → ℕ
most_bits (Report tag flags) = 456
most_bits item = 40

-- The same of several items.
abbrev pub most_bits_of : List Item → ℕ
most_bits_of [] = 0
most_bits_of (item ∷ items) = most_bits item + most_bits_of items

-- How many bits one payload has at most.
abbrev pub payload_bits : ℕ
payload_bits = 2040

-- The links of dues never fall, and the first is not below this one.
abbrev pub RisesFrom : ℕ → List (ℕ × Item) → Type 0
RisesFrom link [] = Unit {0}
RisesFrom link (due ∷ dues) = (link ≤ due.0) × RisesFrom due.0 dues

-- How many dues at the front are on this link.
abbrev pub count_at_front : ℕ → List Due → ℕ
count_at_front link [] = 0
count_at_front link (due ∷ dues) = cond (link == due.link) (count_at_front link dues + 1) 0
