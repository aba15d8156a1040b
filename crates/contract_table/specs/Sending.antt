-- Which items a downlink can carry (RTCA DO-258A / EUROCAE ED-100A; the reasons are this project's profile).
use Rattle.std.specs.Prelude.{◌≡◌, ℕ, Bool, ◌==◌, ◌&&◌, ◌||◌, nat_le, length, IsTrue}
use Rattle.contract_rules.specs.Due.{Item, NegativeAcknowledgement, Report}
use Rattle.contract_rules.specs.Reasons.{names_octet}
use Rattle.contract_table.specs.declared.act.Act.{Act}
use Rattle.contract_table.specs.declared.act.Act.TheVariants.{Malformed}

-- The reasons of a negative acknowledgement are 1 to 13.
abbrev pub is_reason : ℕ → Bool
is_reason reason = nat_le 1 reason && nat_le reason 13

-- A payload that could not be read was refused for one of the reasons.
abbrev pub HasReason : Act → Type 0
HasReason (Malformed link refusal) = IsTrue (is_reason refusal.reason)
HasReason act = Unit {0}

-- A report is a basic report, an emergency report or one of the four events.
abbrev pub is_report_tag : ℕ → Bool
is_report_tag tag = tag == 7 || tag == 9 || tag == 10 || tag == 18 || tag == 19 || tag == 20

-- A negative acknowledgement has one of the reasons, and an octet only where that names one; a report has one of the tags, and
-- says of each of six groups whether it has it. Every other item can be sent.
abbrev pub IsSendable : Item → Type 0
IsSendable (NegativeAcknowledgement number reason octet) = IsTrue (is_reason reason) × IsTrue (names_octet reason || octet == 0)
IsSendable (Report tag groups) = IsTrue (is_report_tag tag) × (length groups ≡ 6)
IsSendable item = Unit {0}
