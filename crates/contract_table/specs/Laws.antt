-- The laws of the definitions, as statements.
use Rattle.std.specs.Prelude.{◌≡◌, ℕ, ◌<◌, ◌≤◌, List, length, map}
use Rattle.std.specs.Bool.{Decides}
use Rattle.std.specs.List.{AllByRecursion}
use Rattle.std.specs.List.Sorted.{IsNonDecreasingBy}
use Rattle.contract_rules.specs.Configuration.{Configuration}
use Rattle.contract_rules.specs.Messages.{same_message}
use Rattle.contract_rules.specs.Acts.{Act, Said, Malformed, Moved, Ticked, Crew}
use Rattle.contract_rules.specs.LiveLinks.{Noted}
use Rattle.contract_rules.specs.Verdicts.{past_of}
use Rattle.contract_rules.specs.Due.{Item, due_items}
use Rattle.adsc_requests.specs.declared.message.Message.{Message}
use Rattle.contract_table.specs.declared.act.Act.{Act as ActTold}
use Rattle.contract_table.specs.Acts.{rules_act, rules_message}
use Rattle.contract_table.specs.Dues.{dues_of, items_on}
use Rattle.contract_table.specs.Sending.{HasReason, IsSendable}

-- ---- messages

-- Decoded messages that the contract rules see as one are one.
abbrev pub MessagesSeenAlikeAreEqual : Type 0
MessagesSeenAlikeAreEqual = (one other : Message) → rules_message one ≡ rules_message other → one ≡ other

-- The test by which the contract rules find a repeat decides whether two decoded messages are equal.
abbrev pub RepeatIsEquality : Type 0
RepeatIsEquality = (one other : Message) → Decides (same_message (rules_message one) (rules_message other)) (one ≡ other)

-- ---- what is due

-- Of the items due at an act on so many links, those of each link are the ones that the contract rules make due on it.
abbrev pub EachLinkHasItsItems : Type 0
EachLinkHasItsItems =
    (configuration : Configuration) (links link : ℕ) (past : List Noted) (act : Act) → link < links
    → items_on link (dues_of configuration links past act) ≡ due_items configuration link past act

-- The items due at an act stand by rising link.
abbrev pub ItemsStandByRisingLink : Type 0
ItemsStandByRisingLink =
    (configuration : Configuration) (links : ℕ) (past : List Noted) (act : Act)
    → IsNonDecreasingBy (λ (due : ℕ × Item). due.0) (dues_of configuration links past act)

-- The most items that an act makes due on one link: an answer and a report at a message, an answer at a payload that could
-- not be read, four events at a sample, two reports at a tick, one item at a crew act.
abbrev pub most_items : Act → ℕ
most_items (Said link message) = 2
most_items (Malformed link fault) = 1
most_items (Moved before now) = 4
most_items (Ticked tick) = 2
most_items (Crew on) = 1

abbrev pub FewItemsAreDue : Type 0
FewItemsAreDue =
    (configuration : Configuration) (link : ℕ) (past : List Noted) (act : Act)
    → length (due_items configuration link past act) ≤ most_items act

-- After whatever acts an aircraft's contracts were told, the items due at one more can be sent.
abbrev pub DueItemsCanBeSent : Type 0
DueItemsCanBeSent =
    (configuration : Configuration) (link : ℕ) (told : List ActTold) (act : ActTold) → HasReason act
    → AllByRecursion IsSendable (due_items configuration link (past_of configuration (map rules_act told)) (rules_act act))
