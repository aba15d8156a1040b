-- What the contract rules make due can be sent, and fits a payload.
use Rattle.std.proofs.Common.{◌≡◌, ℕ, ◌+◌, ◌≤◌, Bool, true, false, cond, ◌==◌, ◌||◌, List, [], ◌∷◌, ◌++◌, Option, Some, None, refl, arith}
use Rattle.std.specs.Prelude.{IsTrue}
use Rattle.std.proofs.lemmas.Bool.Decides.{nat_tests}
use Rattle.adsc_downlink.specs.Codes.{is_reason}
use Rattle.contract_rules.specs.Acts.{Said, Malformed, Moved, Ticked, Crew, Sample, Fault}
use Rattle.contract_rules.specs.Configuration.{Configuration, Profile}
use Rattle.contract_rules.specs.Due.{Item, Acknowledgement, Noncompliance, Report, item_where, answer_to_request, answer_to, due_of_message, due_of_fault, due_of_sample, due_at, due_items}
use Rattle.contract_rules.specs.InForce.{Requests, is_number_in_force, is_repeat, requests_in_force}
use Rattle.contract_rules.specs.LiveLinks.{Verdict, OfFlight, Unheard, Unreadable, Ended, Accepted, Refused, Repeated, Noted, heard_on, session_at, admits}
use Rattle.contract_rules.specs.Messages.{Message, CancelAll, Cancel, CancelEmergency, PeriodicRequest, EventRequest, EmergencyRequest, EventLimits, asks_for_intent, number_of}
use Rattle.contract_rules.specs.Periodic.{gives_basic_report}
use Rattle.contract_rules.specs.Emergency.{gives_emergency_report, is_in_emergency_mode}
use Rattle.contract_rules.specs.Reasons.{names_octet}
use Rattle.contract_rules.specs.Reports.{report_groups}
use Rattle.contract_rules.specs.Verdicts.{accept_where, verdict_on, verdict_in, noted_over}
use Rattle.aircraft_core.specs.Sending.{AreSendable, IsSendable, most_bits, most_bits_of}

-- ---- several items

pub sendable-append : (one more : List Item) → AreSendable one → AreSendable more → AreSendable (one ++ more)
sendable-append [] more first second = second
sendable-append (item ∷ one) more first second = (first.0, sendable-append one more first.1 second)

pub most_bits-append : (one more : List Item) → most_bits_of (one ++ more) ≡ most_bits_of one + most_bits_of more
most_bits-append [] more = omega arith
most_bits-append (item ∷ one) more = omega (arith, most_bits-append one more)

-- A report of a tag, where it is due.
report_where : (holds : Bool) (tag : ℕ) (flags : List Bool) → IsSendable (Report tag flags) → AreSendable (item_where holds (Report tag flags))
report_where true tag flags known = (known, tt)
report_where false tag flags known = tt

bits_where : (holds : Bool) (tag : ℕ) (flags : List Bool) → most_bits_of (item_where holds (Report tag flags)) ≤ 456
bits_where true tag flags = omega arith
bits_where false tag flags = omega arith

-- ---- verdicts

-- A refusal has one of the reasons.
abbrev HasReason : Verdict → Type 0
HasReason (Refused reason) = IsTrue (is_reason reason)
HasReason verdict = Unit {0}

accept_has_reason : (holds : Bool) → HasReason (accept_where holds)
accept_has_reason true = tt
accept_has_reason false = refl

request_has_reason : (repeated borne : Bool) → HasReason (cond repeated Repeated (cond borne (Refused 6) Accepted))
request_has_reason true borne = tt
request_has_reason false true = refl
request_has_reason false false = tt

message_has_reason : (requests : Requests) (mode : Bool) (message : Message) → HasReason (verdict_on requests mode message)
message_has_reason requests mode CancelAll = tt
message_has_reason requests mode (Cancel number) = accept_has_reason (is_number_in_force number requests)
message_has_reason requests mode (CancelEmergency number) = accept_has_reason _
message_has_reason requests mode (PeriodicRequest asked) =
    request_has_reason (is_repeat (PeriodicRequest asked) requests) (is_number_in_force (number_of (PeriodicRequest asked)) requests)
message_has_reason requests mode (EventRequest number limits) =
    request_has_reason (is_repeat (EventRequest number limits) requests) (is_number_in_force number requests)
message_has_reason requests mode (EmergencyRequest asked) =
    request_has_reason (is_repeat (EmergencyRequest asked) requests) (is_number_in_force (number_of (EmergencyRequest asked)) requests)

heard_has_reason : (session : Option (List Noted)) (heard : List Noted) (message : Message) → HasReason (verdict_in session heard message)
heard_has_reason None heard message = tt
heard_has_reason (Some session) heard message =
    message_has_reason (requests_in_force (Some session)) (is_in_emergency_mode (Some session) heard) message

-- ---- messages

-- An answer to a request, and one to a message, can be sent, and has at most five octets.
record IsAnswer (items : List Item) : Type 0 where
  sendable : AreSendable items
  small : most_bits_of items ≤ 40

request_answer : (message : Message) → IsAnswer (answer_to_request message)
request_answer message = by (asks_for_intent message)
  where
    by : (intent : Bool) → IsAnswer (cond intent (Noncompliance (number_of message)) (Acknowledgement (number_of message)) ∷ [])
    by true = record { sendable = (tt, tt); small = omega arith }
    by false = record { sendable = (tt, tt); small = omega arith }

answer : (verdict : Verdict) (message : Message) → HasReason verdict → IsAnswer (answer_to message verdict)
answer OfFlight message known = record { sendable = tt; small = omega arith }
answer Unheard message known = record { sendable = tt; small = omega arith }
answer Unreadable message known = record { sendable = tt; small = omega arith }
answer Ended message known = record { sendable = tt; small = omega arith }
answer Accepted message known = request_answer message
answer Repeated message known = request_answer message
answer (Refused reason) message known = record { sendable = ((known, no_place (names_octet reason)), tt); small = omega arith }
  where
    no_place : (named : Bool) → IsTrue (named || true)
    no_place true = refl
    no_place false = refl

-- A message gives one report at most.
one_report : (verdict : Verdict) (mode : Bool) (message : Message) (flags : List Bool)
    → most_bits_of (item_where (gives_basic_report verdict message) (Report 7 flags)) + most_bits_of (item_where (gives_emergency_report verdict mode message) (Report 9 flags)) ≤ 456
one_report Accepted mode CancelAll flags = omega arith
one_report Accepted mode (Cancel number) flags = omega arith
one_report Accepted mode (CancelEmergency number) flags = omega arith
one_report Accepted mode (PeriodicRequest asked) flags = omega arith
one_report Accepted mode (EventRequest number limits) flags = omega arith
one_report Accepted mode (EmergencyRequest asked) flags = omega (arith, bits_where mode 9 flags)
one_report OfFlight mode message flags = omega arith
one_report Unheard mode message flags = omega arith
one_report Unreadable mode message flags = omega arith
one_report Ended mode message flags = omega arith
one_report Repeated mode message flags = omega arith
one_report (Refused reason) mode message flags = omega arith

-- What an act of one link makes due can be sent, and has at most 62 octets.
pub record IsLinkDue (items : List Item) : Type 0 where
  pub sendable : AreSendable items
  pub small : most_bits_of items ≤ 496

message_due : (verdict : Verdict) (mode : Bool) (message : Message) → HasReason verdict → IsLinkDue (due_of_message verdict mode message)
message_due verdict mode message known =
    let flags = report_groups 0 message in
    let answered = answer verdict message known in
    let basic = item_where (gives_basic_report verdict message) (Report 7 flags) in
    let emergency = item_where (gives_emergency_report verdict mode message) (Report 9 flags) in
    record {
      sendable = sendable-append (answer_to message verdict ++ basic) emergency
          (sendable-append (answer_to message verdict) basic answered.sendable (report_where (gives_basic_report verdict message) 7 flags refl))
          (report_where (gives_emergency_report verdict mode message) 9 flags refl);
      small = omega (
        arith,
        answered.small,
        one_report verdict mode message flags,
        most_bits-append (answer_to message verdict ++ basic) emergency,
        most_bits-append (answer_to message verdict) basic,
      );
    }

fault_due : (verdict : Verdict) (fault : Fault) → 1 ≤ fault.reason → fault.reason ≤ 13 → IsLinkDue (due_of_fault verdict fault)
fault_due Unreadable fault low high =
    record { sendable = ((is_one_of low high, place (names_octet fault.reason)), tt); small = omega arith }
  where
    is_one_of : 1 ≤ fault.reason → fault.reason ≤ 13 → IsTrue (is_reason fault.reason)
    is_one_of low high = grind (arith, nat_tests)

    place : (named : Bool) → IsTrue (named || cond named fault.octet 0 == 0)
    place true = refl
    place false = refl
fault_due OfFlight fault low high = record { sendable = tt; small = omega arith }
fault_due Unheard fault low high = record { sendable = tt; small = omega arith }
fault_due Ended fault low high = record { sendable = tt; small = omega arith }
fault_due Accepted fault low high = record { sendable = tt; small = omega arith }
fault_due (Refused reason) fault low high = record { sendable = tt; small = omega arith }
fault_due Repeated fault low high = record { sendable = tt; small = omega arith }

nothing_due : IsLinkDue []
nothing_due = record { sendable = tt; small = omega arith }

link_due_where : (holds : Bool) (items : List Item) → IsLinkDue items → IsLinkDue (cond holds items [])
link_due_where true items due = due
link_due_where false items due = nothing_due

module _ (configuration : Configuration) (link : ℕ) (past : List Noted) where
  pub said_due : (other : ℕ) (message : Message) → IsLinkDue (due_items configuration link past (Said other message))
  said_due other message =
      link_due_where (link == other) (due_at configuration.profile link (noted_over configuration past (Said other message)) (heard_on link past))
      (message_due _ _ message (heard_has_reason (session_at (admits configuration past (Said other message)) other (heard_on other past)) (heard_on other past) message))

  pub malformed_due : (other : ℕ) (fault : Fault) → 1 ≤ fault.reason → fault.reason ≤ 13 → IsLinkDue (due_items configuration link past (Malformed other fault))
  malformed_due other fault low high =
      link_due_where (link == other) (due_at configuration.profile link (noted_over configuration past (Malformed other fault)) (heard_on link past))
      (fault_due _ fault low high)

-- ---- acts of the flight

-- What an act of the flight makes due on a link can be sent, and fits a payload.
pub record IsFlightDue (items : List Item) : Type 0 where
  pub sendable : AreSendable items
  pub small : most_bits_of items ≤ 1824

one_where : (holds : Bool) (item : Item) → IsSendable item → most_bits item ≤ 456 → IsFlightDue (item_where holds item)
one_where true item known small = record { sendable = (known, tt); small = omega arith }
one_where false item known small = record { sendable = tt; small = omega arith }

two_where : (holds also : Bool) (tag other : ℕ) (flags more : List Bool) → IsSendable (Report tag flags) → IsSendable (Report other more)
    → IsFlightDue (item_where holds (Report tag flags) ++ item_where also (Report other more))
two_where holds also tag other flags more known known_too = record {
  sendable = sendable-append (item_where holds (Report tag flags)) (item_where also (Report other more)) (report_where holds tag flags known) (report_where also other more known_too);
  small = omega (
    arith,
    most_bits-append (item_where holds (Report tag flags)) (item_where also (Report other more)),
    bits_where holds tag flags,
    bits_where also other more,
  );
}

events_due : (a b c d : Bool) (none earth route : List Bool)
    → IsFlightDue (((item_where a (Report 10 none) ++ item_where b (Report 18 earth)) ++ item_where c (Report 19 none)) ++ item_where d (Report 20 route))
events_due a b c d none earth route =
    let lateral = item_where a (Report 10 none) in
    let vertical = item_where b (Report 18 earth) in
    let range = item_where c (Report 19 none) in
    let waypoint = item_where d (Report 20 route) in
    record {
      sendable = sendable-append ((lateral ++ vertical) ++ range) waypoint
          (sendable-append (lateral ++ vertical) range (sendable-append lateral vertical (report_where a 10 none refl) (report_where b 18 earth refl))
          (report_where c 19 none refl))
          (report_where d 20 route refl);
      small = omega (
        arith,
        most_bits-append ((lateral ++ vertical) ++ range) waypoint,
        most_bits-append (lateral ++ vertical) range,
        most_bits-append lateral vertical,
        bits_where a 10 none,
        bits_where b 18 earth,
        bits_where c 19 none,
        bits_where d 20 route,
      );
    }

sample_due : (profile : Profile) (limits : Option EventLimits) (samples : List Sample) (before now : Sample) → IsFlightDue (due_of_sample profile limits samples before now)
sample_due profile None samples before now = record { sendable = tt; small = omega arith }
sample_due profile (Some limits) samples before now = events_due _ _ _ _ _ _ _

module _ (configuration : Configuration) (link : ℕ) (past : List Noted) where
  pub moved_due : (before now : Sample) → IsFlightDue (due_items configuration link past (Moved before now))
  moved_due before now = sample_due _ _ _ before now

  pub ticked_due : (tick : ℕ) → IsFlightDue (due_items configuration link past (Ticked tick))
  ticked_due tick = two_where _ _ 7 9 _ _ refl refl

  pub crew_due : (on : Bool) → IsFlightDue (due_items configuration link past (Crew on))
  crew_due true = one_where _ _ refl (omega arith)
  crew_due false = one_where _ _ tt (omega arith)
