-- The items due on a link at an act: the answer, then the reports.
use Rattle.std.specs.Prelude.{ℕ, Bool, true, false, cond, List, [], ◌∷◌, ◌++◌, Option, Some, None, option_and_then}
use Rattle.contract_rules.specs.Configuration.{Configuration, Profile}
use Rattle.contract_rules.specs.Messages.{Message, EventRequest, EventLimits, Event, Periodic, Emergency, number_of, asks_for_intent}
use Rattle.contract_rules.specs.Acts.{Act, Said, Malformed, Moved, Ticked, Crew, Sample, Fault, concerns}
use Rattle.contract_rules.specs.LiveLinks.{Verdict, Unreadable, Accepted, Refused, Repeated, Noted, heard_on, session_of, session_at}
use Rattle.contract_rules.specs.InForce.{request_of, in_force, request_in_force}
use Rattle.contract_rules.specs.Reasons.{names_octet}
use Rattle.contract_rules.specs.Reports.{no_groups, groups_of, report_groups}
use Rattle.contract_rules.specs.Periodic.{gives_basic_report, is_periodic_due, periodic_report_number}
use Rattle.contract_rules.specs.Events.{Lateral, VerticalRate, Range, is_event_due, is_waypoint_due, samples_since_acceptance}
use Rattle.contract_rules.specs.Emergency.{is_in_emergency_mode, gives_emergency_report, is_emergency_due, is_emergency_off_due, emergency_report_number, emergency_number}
use Rattle.contract_rules.specs.Verdicts.{noted_over, past_with}

-- What is due: an acknowledgement; a negative acknowledgement with its number, reason and faulty octet; a
-- noncompliance notification; an emergency-off; or a report with its tag and, for tags 12 to 17 in turn, whether it
-- has that group.
pub data Item : Type 0 where
  Acknowledgement : ℕ → Item
  NegativeAcknowledgement : ℕ → ℕ → ℕ → Item
  Noncompliance : ℕ → Item
  EmergencyOff : ℕ → Item
  Report : ℕ → List Bool → Item

-- An item that is there where a test holds.
abbrev pub item_where : Bool → Item → List Item
item_where holds item = cond holds (item ∷ []) []

-- The groups of a report that has the predicted route alone.
abbrev pub predicted_route : List Bool
predicted_route = false ∷ true ∷ false ∷ false ∷ false ∷ false ∷ []

-- The groups of a report that has the earth reference alone.
abbrev pub earth_reference : List Bool
earth_reference = false ∷ false ∷ true ∷ false ∷ false ∷ false ∷ []

-- ---- messages and malformed payloads

-- A request is answered by an acknowledgement, or by a noncompliance where it asks for intent.
abbrev pub answer_to_request : Message → List Item
answer_to_request message =
    cond (asks_for_intent message) (Noncompliance (number_of message)) (Acknowledgement (number_of message)) ∷ []

-- The answer to a message of this verdict: an acceptance or a repeat is acknowledged (a cancel asks for no intent), a
-- refusal gives its reason, and there is none where the message isn't heard or ends the session.
abbrev pub answer_to : Message → Verdict → List Item
answer_to message Accepted = answer_to_request message
answer_to message Repeated = answer_to_request message
answer_to message (Refused reason) = NegativeAcknowledgement (number_of message) reason 0 ∷ []
answer_to message _ = []

-- The items due at a message, by its verdict and by whether its link is in emergency mode: the answer, and the report
-- that it gives at once, with the groups of a first report.
abbrev pub due_of_message : Verdict → Bool → Message → List Item
due_of_message verdict mode message =
    answer_to message verdict
    ++ item_where (gives_basic_report verdict message) (Report 7 (report_groups 0 message))
    ++ item_where (gives_emergency_report verdict mode message) (Report 9 (report_groups 0 message))

-- The octet that a negative acknowledgement of a malformed payload names; 0 where its reason names none.
abbrev pub octet_named : Fault → ℕ
octet_named fault = cond (names_octet fault.reason) fault.octet 0

-- The items due at a malformed payload: a negative acknowledgement, where the link is live.
abbrev pub due_of_fault : Verdict → Fault → List Item
due_of_fault Unreadable fault = NegativeAcknowledgement fault.number fault.reason (octet_named fault) ∷ []
due_of_fault _ fault = []

-- ---- samples

-- The limits that an event request watches.
abbrev pub limits_of : Message → Option EventLimits
limits_of (EventRequest number limits) = Some limits
limits_of _ = None

-- The limits of the event contract in force after a session, if there is one.
abbrev pub limits_in_force : Option (List Noted) → Option EventLimits
limits_in_force session = option_and_then limits_of (request_of (in_force Event session))

-- The events due at a sample by these limits, if there are any, after the samples since acceptance; by rising tag.
-- Lateral and altitude range events have no group, a vertical rate event has the earth reference, a waypoint event the
-- predicted route.
abbrev pub due_of_sample : Profile → Option EventLimits → List Sample → Sample → Sample → List Item
due_of_sample profile None samples before now = []
due_of_sample profile (Some limits) samples before now =
    item_where (is_event_due profile Lateral limits samples now) (Report 10 no_groups)
    ++ item_where (is_event_due profile VerticalRate limits samples now) (Report 18 earth_reference)
    ++ item_where (is_event_due profile Range limits samples now) (Report 19 no_groups)
    ++ item_where (is_waypoint_due limits before now) (Report 20 predicted_route)

-- ---- ticks and crew acts

-- The next report of the periodic contract in force, with its number's groups.
abbrev pub periodic_report : ℕ → List Noted → Item
periodic_report link heard = Report 7 (groups_of (periodic_report_number link heard) (request_in_force Periodic link heard))

-- The emergency report of number r: its groups are those of the emergency contract in force; without one it has none.
abbrev pub emergency_report : ℕ → ℕ → List Noted → Item
emergency_report r link heard = Report 9 (groups_of r (request_in_force Emergency link heard))

-- Emergency-off bears the number of the emergency contract in force, or 0.
abbrev pub emergency_off : ℕ → List Noted → Item
emergency_off link heard = EmergencyOff (emergency_number (request_in_force Emergency link heard))

-- ---- acts and entries

-- The items due on a link at a noted act that it hears, after what it heard before. At a crew act on the report is the
-- first of its series.
abbrev pub due_at : Profile → ℕ → Noted → List Noted → List Item
due_at profile link noted heard = elim (noted.act) [
  | Said _ message ↦
      due_of_message noted.verdict (is_in_emergency_mode (session_at noted.admits link heard) heard) message
  | Malformed _ fault ↦ due_of_fault noted.verdict fault
  | Moved before now ↦
      due_of_sample profile (limits_in_force (session_of link heard)) (samples_since_acceptance heard) before now
  | Ticked tick ↦
      item_where (is_periodic_due link noted heard) (periodic_report link heard)
      ++ item_where (is_emergency_due link noted heard) (emergency_report (emergency_report_number link heard) link heard)
  | Crew true ↦ item_where (is_emergency_due link noted heard) (emergency_report 0 link heard)
  | Crew false ↦ item_where (is_emergency_off_due link noted heard) (emergency_off link heard)
]

-- The items due on a link at an act after a past, in order; none where the link doesn't hear of the act.
abbrev pub due_items : Configuration → ℕ → List Noted → Act → List Item
due_items configuration link past act =
    cond (concerns link act) (due_at configuration.profile link (noted_over configuration past act) (heard_on link past)) []

-- The items due on a link at an entry, whose acts stand with the oldest first.
abbrev pub entry_items : Configuration → ℕ → List Noted → List Act → List Item
entry_items configuration link past [] = []
entry_items configuration link past (act ∷ acts) =
    due_items configuration link past act ++ entry_items configuration link (noted_over configuration past act ∷ past) acts

-- The items due on a link at each of several entries, the oldest first, after a past.
abbrev pub history_items : Configuration → ℕ → List Noted → List (List Act) → List (List Item)
history_items configuration link past [] = []
history_items configuration link past (entry ∷ entries) =
    entry_items configuration link past entry ∷ history_items configuration link (past_with configuration past entry) entries
