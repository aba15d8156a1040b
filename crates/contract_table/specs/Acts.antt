-- What an aircraft's contracts are told, in the terms of the contract rules.
use Rattle.std.specs.Prelude.{ℕ, ◌<◌, ◌≤◌, Option, option_map}
use Rattle.contract_rules.specs.Acts.{Act, Said, Malformed, Moved, Ticked, Crew, Fault}
use Rattle.contract_rules.specs.Messages.{Message, CancelAll, Cancel, CancelEmergency, PeriodicRequest, EventRequest, EmergencyRequest, Intent, Reporting}
use Rattle.adsc_requests.specs.declared.message.Intent.{Intent as IntentAsked}
use Rattle.adsc_requests.specs.declared.message.Moduli.{Moduli}
use Rattle.adsc_requests.specs.declared.message.Message.{Message as MessageRead}
use Rattle.adsc_requests.specs.declared.message.Message.TheVariants as read
use Rattle.adsc_requests.specs.declared.refusal.Refusal.{Refusal}
use Rattle.due_event.specs.RuleTerms.{rules_limits, rules_sample}
use Rattle.contract_table.specs.declared.act.Act.{Act as ActTold}
use Rattle.contract_table.specs.declared.act.Act.TheVariants as told

-- The aircraft intent that is asked for.
abbrev pub rules_intent : IntentAsked → Intent
rules_intent intent = record { modulus = intent.modulus; minutes = intent.minutes }

-- What a request for reports asks.
abbrev pub reporting : ℕ → Option ℕ → Moduli → Option IntentAsked → Reporting
reporting n interval groups intent =
    record { number = n; interval = interval; moduli = groups.m; intent = option_map rules_intent intent }

-- A message.
abbrev pub rules_message : MessageRead → Message
rules_message read.CancelAll = CancelAll
rules_message (read.Cancel n) = Cancel n
rules_message (read.CancelEmergency n) = CancelEmergency n
rules_message (read.Periodic n interval groups intent) = PeriodicRequest (reporting n interval groups intent)
rules_message (read.Event n limits) = EventRequest n (rules_limits limits)
rules_message (read.Emergency n interval groups intent) = EmergencyRequest (reporting n interval groups intent)

-- Why a payload could not be read.
abbrev pub rules_fault : Refusal → Fault
rules_fault refusal = record { reason = refusal.reason; number = refusal.number; octet = refusal.octet }

-- An act.
abbrev pub rules_act : ActTold → Act
rules_act (told.Said link message) = Said link (rules_message message)
rules_act (told.Malformed link refusal) = Malformed link (rules_fault refusal)
rules_act (told.Moved before now) = Moved (rules_sample before) (rules_sample now)
rules_act (told.Ticked t) = Ticked t
rules_act (told.Crew on) = Crew on

-- The greatest moment of a tick, in seconds.
abbrev pub last_moment : ℕ
last_moment = 999999999

-- A table of so many links takes an act of one of them, a tick of a moment within the limit, and each other act.
abbrev pub IsTaken : ℕ → ActTold → Type 0
IsTaken links (told.Said link message) = link < links
IsTaken links (told.Malformed link refusal) = link < links
IsTaken links (told.Ticked t) = t ≤ last_moment
IsTaken links _ = Unit {0}
