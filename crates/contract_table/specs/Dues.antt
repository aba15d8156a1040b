-- What is due at an act: as a table answers it, and as the contract rules say it.
use Rattle.std.specs.Prelude.{ℕ, ◌==◌, cond, List, [], ◌∷◌, map, flat_map}
use Rattle.std.specs.List.{range_with_len}
use Rattle.contract_rules.specs.Configuration.{Configuration}
use Rattle.contract_rules.specs.Acts.{Act}
use Rattle.contract_rules.specs.LiveLinks.{Noted}
use Rattle.contract_rules.specs.Due.{Item, Acknowledgement, NegativeAcknowledgement, Noncompliance, EmergencyOff, Report, due_items}
use Rattle.contract_table.specs.declared.due.DueItem.{DueItem}
use Rattle.contract_table.specs.declared.due.DueItem.TheVariants as due
use Rattle.contract_table.specs.declared.due.Due.{Due}
use Rattle.contract_table.specs.declared.due.Dues.{Dues}

-- An item.
abbrev pub rules_item : DueItem → Item
rules_item (due.Ack n) = Acknowledgement n
rules_item (due.Nack n reason octet) = NegativeAcknowledgement n reason octet
rules_item (due.Noncompliance n) = Noncompliance n
rules_item (due.EmergencyOff n) = EmergencyOff n
rules_item (due.Report tag groups) = Report tag groups

-- An item with its link.
abbrev pub rules_due : Due → ℕ × Item
rules_due due = (due.link, rules_item due.item)

-- The items of an answer, each with its link.
abbrev pub dues_in : Dues → List (ℕ × Item)
dues_in dues = map rules_due dues.list.items

-- Items that are due on one link.
abbrev pub on_link : ℕ → List Item → List (ℕ × Item)
on_link link items = map (λ item. (link, item)) items

-- The items that the contract rules make due on each of so many links at an act, by rising link.
abbrev pub dues_of : Configuration → ℕ → List Noted → Act → List (ℕ × Item)
dues_of configuration links past act =
    flat_map (λ link. on_link link (due_items configuration link past act)) (range_with_len 0 links)

-- The items of one link among those of all, in their order.
abbrev pub items_on : ℕ → List (ℕ × Item) → List Item
items_on link [] = []
items_on link (due ∷ dues) = cond (link == due.0) (due.1 ∷ items_on link dues) (items_on link dues)
