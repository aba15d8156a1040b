-- The items that the contract rules make due can be sent.
use Rattle.std.proofs.Common.{◌≡◌, ℕ, ◌==◌, Bool, true, false, cond, ◌&&◌, ◌||◌, List, [], ◌∷◌, ◌++◌, length, map, filter, IsTrue, Option, Some, None, refl, ◌∙◌}
use Rattle.std.specs.List.{AllByRecursion}
use Rattle.std.specs.Option.{option_or}
use Rattle.std.proofs.lemmas.List.{length-map}
use Rattle.adsc_requests.specs.declared.message.Message.TheVariants as read
use Rattle.contract_rules.specs.Configuration.{Configuration, Profile}
use Rattle.contract_rules.specs.Messages.{Message, CancelAll, Cancel, CancelEmergency, PeriodicRequest, EventRequest, EmergencyRequest, EventLimits, Kind, Periodic, Emergency, number_of, asks_for_intent, is_request_of}
use Rattle.contract_rules.specs.Acts.{Act, Said, Malformed, Moved, Ticked, Crew, Sample, Fault, concerns}
use Rattle.contract_rules.specs.LookingBack.{Test, from_last, unless}
use Rattle.contract_rules.specs.LiveLinks.{Verdict, OfFlight, Unheard, Unreadable, Ended, Accepted, Refused, Repeated, Noted, is_live, admits, admits_link, heard_on, session_of, session_at}
use Rattle.contract_rules.specs.InForce.{Contract, Requests, accepted_request, cancels, in_force, request_of, is_number_in_force, is_repeat, requests_in_force}
use Rattle.contract_rules.specs.Reasons.{names_octet}
use Rattle.contract_rules.specs.Reports.{groups_of, is_modulus_due, report_groups}
use Rattle.contract_rules.specs.Emergency.{gives_emergency_report, is_in_emergency_mode, is_emergency_due, is_emergency_off_due, emergency_report_number, emergency_number}
use Rattle.contract_rules.specs.Periodic.{gives_basic_report, is_periodic_due, periodic_report_number}
use Rattle.contract_rules.specs.Events.{Lateral, VerticalRate, Range, is_event_due, is_waypoint_due, samples_since_acceptance}
use Rattle.contract_rules.specs.Due.{Item, Report, item_where, predicted_route, earth_reference, answer_to_request, answer_to, due_of_message, due_of_fault, due_of_sample, limits_in_force, due_at, due_items, emergency_report, emergency_off, periodic_report}
use Rattle.contract_rules.specs.Reports.{no_groups}
use Rattle.contract_rules.specs.Verdicts.{accept_where, verdict_on_request, verdict_on, verdict_in, verdict_of, noted_over, past_of}
use Rattle.contract_table.specs.Acts.{rules_act}
use Rattle.contract_table.specs.Sending.{HasReason, IsSendable, is_reason}
use Rattle.contract_table.specs.declared.act.Act.{Act as ActTold}
use Rattle.contract_table.specs.declared.act.Act.TheVariants as told

-- ---- lists of items

pub all_joined : {X : Type 0} (P : X → Type 0) (one more : List X) → AllByRecursion P one → AllByRecursion P more → AllByRecursion P (one ++ more)
all_joined P [] more first second = second
all_joined P (x ∷ one) more first second = (first.0, all_joined P one more first.1 second)

all_filtered : {X : Type 0} (P : X → Type 0) (test : X → Bool) (xs : List X) → AllByRecursion P xs → AllByRecursion P (filter test xs)
all_filtered P test [] all = tt
all_filtered P test (x ∷ xs) all = by (test x) (all_filtered P test xs all.1)
  where
    by : (b : Bool) → AllByRecursion P (filter test xs) → AllByRecursion P (cond b (x ∷ filter test xs) (filter test xs))
    by true rest = (all.0, rest)
    by false rest = rest

all_from_last : {X : Type 0} (P : X → Type 0) (test : Test X) (xs : List X) → AllByRecursion P xs → AllByRecursion P (from_last test xs)
all_from_last P test [] all = tt
all_from_last P test (x ∷ xs) all = (all.0, by (test x xs) (all_from_last P test xs all.1))
  where
    by : (b : Bool) → AllByRecursion P (from_last test xs) → AllByRecursion P (cond b [] (from_last test xs))
    by true rest = tt
    by false rest = rest

sendable_where : (holds : Bool) (item : Item) → (holds ≡ true → IsSendable item) → AllByRecursion IsSendable (item_where holds item)
sendable_where true item can = (can refl, tt)
sendable_where false item can = tt

-- ---- requests for reports ask for six groups

-- A request for reports says of each of six groups how often it is asked for.
abbrev AsksForSix : Act → Type 0
AsksForSix (Said link (PeriodicRequest asked)) = length asked.moduli ≡ 6
AsksForSix (Said link (EmergencyRequest asked)) = length asked.moduli ≡ 6
AsksForSix act = Unit {0}

abbrev AllAskForSix : List Noted → Type 0
AllAskForSix past = AllByRecursion (λ (noted : Noted). AsksForSix noted.act) past

six_groups : (r : ℕ) (moduli : List (Option ℕ)) → length moduli ≡ 6 → length (map (is_modulus_due r) moduli) ≡ 6
six_groups r moduli six = length-map moduli (is_modulus_due r) ∙ six

-- What a decoded message asks.
told_asks : (act : ActTold) → AsksForSix (rules_act act)
told_asks (told.Said link read.CancelAll) = tt
told_asks (told.Said link (read.Cancel n)) = tt
told_asks (told.Said link (read.CancelEmergency n)) = tt
told_asks (told.Said link (read.Periodic n interval groups intent)) = groups.six
told_asks (told.Said link (read.Event n limits)) = tt
told_asks (told.Said link (read.Emergency n interval groups intent)) = groups.six
told_asks (told.Malformed link refusal) = tt
told_asks (told.Moved before now) = tt
told_asks (told.Ticked t) = tt
told_asks (told.Crew on) = tt

past_asks : (configuration : Configuration) (acts : List ActTold) → AllAskForSix (past_of configuration (map rules_act acts))
past_asks configuration [] = tt
past_asks configuration (act ∷ acts) = (told_asks act, past_asks configuration acts)

-- ---- the groups of the contract in force

-- Each report of a contract, if there is one, says of six groups whether it has them.
abbrev GivesSix : Option Contract → Type 0
GivesSix held = (r : ℕ) → length (groups_of r (request_of held)) ≡ 6

-- Requests of this kind ask for reports.
abbrev AsksForReports : Kind → Type 0
AsksForReports kind = (link r : ℕ) (message : Message) → is_request_of kind message ≡ true → AsksForSix (Said link message) → length (report_groups r message) ≡ 6

periodic_asks : AsksForReports Periodic
periodic_asks link r (PeriodicRequest asked) is six = six_groups r asked.moduli six
periodic_asks link r message is six = absurd (let both : false ≡ true = is in cc)

emergency_asks : AsksForReports Emergency
emergency_asks link r (EmergencyRequest asked) is six = six_groups r asked.moduli six
emergency_asks link r message is six = absurd (let both : false ≡ true = is in cc)

module _ (kind : Kind) (asks_for_reports : AsksForReports kind) where
  six_unless : (ended : Contract → Bool) (held : Option Contract) → GivesSix held → GivesSix (unless ended held)
  six_unless ended None six = six
  six_unless ended (Some contract) six = by (ended contract)
    where
      by : (b : Bool) → GivesSix (cond b None (Some contract))
      by true = λ r. refl
      by false = six

  six_made : (act : Act) (verdict : Verdict) (time : ℕ) (rest : Option Contract) → AsksForSix act → GivesSix rest
      → GivesSix (option_or (accepted_request kind act verdict time) rest)
  six_made (Said link message) Accepted time rest asks six = by (is_request_of kind message) refl
    where
      by : (b : Bool) → is_request_of kind message ≡ b → GivesSix (option_or (cond b (Some (record { request = message; since = time })) None) rest)
      by true is = λ r. asks_for_reports link r message is asks
      by false is = six
  six_made act verdict time rest asks six = six

  six_in_force : (session : List Noted) → AllAskForSix session → GivesSix (in_force kind (Some session))
  six_in_force [] asks = λ r. refl
  six_in_force (noted ∷ session) asks =
      six_made noted.act noted.verdict noted.time (unless (λ contract. cancels (Some contract) noted) (in_force kind (Some session))) asks.0
      (six_unless (λ contract. cancels (Some contract) noted) (in_force kind (Some session)) (six_in_force session asks.1))

  six_on_link : (link : ℕ) (heard : List Noted) → AllAskForSix heard → GivesSix (in_force kind (session_of link heard))
  six_on_link link heard asks = by (is_live link heard)
    where
      by : (live : Bool) → GivesSix (in_force kind (cond live (Some (from_last (λ noted _. admits_link link noted) heard)) None))
      by true =
          six_in_force (from_last (λ noted _. admits_link link noted) heard)
          (all_from_last (λ (noted : Noted). AsksForSix noted.act) (λ noted _. admits_link link noted) heard asks)
      by false = λ r. refl

-- ---- verdicts

-- A refusal has one of the reasons.
abbrev IsGiven : Verdict → Type 0
IsGiven (Refused reason) = IsTrue (is_reason reason)
IsGiven verdict = Unit {0}

given_where : (holds : Bool) → IsGiven (accept_where holds)
given_where true = tt
given_where false = refl

given_on_request : (requests : Requests) (message : Message) → IsGiven (verdict_on_request requests message)
given_on_request requests message = by (is_repeat message requests) (is_number_in_force (number_of message) requests)
  where
    by : (repeated borne : Bool) → IsGiven (cond repeated Repeated (cond borne (Refused 6) Accepted))
    by true borne = tt
    by false true = refl
    by false false = tt

given_on : (requests : Requests) (mode : Bool) (message : Message) → IsGiven (verdict_on requests mode message)
given_on requests mode CancelAll = tt
given_on requests mode (Cancel number) = given_where (is_number_in_force number requests)
given_on requests mode (CancelEmergency number) = given_where (mode && number == emergency_number requests.emergency)
given_on requests mode (PeriodicRequest asked) = given_on_request requests (PeriodicRequest asked)
given_on requests mode (EventRequest number limits) = given_on_request requests (EventRequest number limits)
given_on requests mode (EmergencyRequest asked) = given_on_request requests (EmergencyRequest asked)

given_in : (session : Option (List Noted)) (heard : List Noted) (message : Message) → IsGiven (verdict_in session heard message)
given_in None heard message = tt
given_in (Some session) heard message = given_on (requests_in_force (Some session)) (is_in_emergency_mode (Some session) heard) message

given_of : (configuration : Configuration) (past : List Noted) (act : Act) → IsGiven (verdict_of configuration past act)
given_of configuration past (Said link message) = given_in (session_at (admits configuration past (Said link message)) link (heard_on link past)) (heard_on link past) message
given_of configuration past (Malformed link fault) = by (is_live link past)
  where
    by : (live : Bool) → IsGiven (cond live Unreadable Unheard)
    by true = tt
    by false = tt
given_of configuration past (Moved before now) = tt
given_of configuration past (Ticked tick) = tt
given_of configuration past (Crew on) = tt

-- ---- messages and malformed payloads

request_sendable : (message : Message) → AllByRecursion IsSendable (answer_to_request message)
request_sendable message = by (asks_for_intent message)
  where
    by : (b : Bool) → AllByRecursion IsSendable (cond b (Item.Noncompliance (number_of message)) (Item.Acknowledgement (number_of message)) ∷ [])
    by true = (tt, tt)
    by false = (tt, tt)

no_octet : (b : Bool) → (b || 0 == 0) ≡ true
no_octet true = refl
no_octet false = refl

answer_sendable : (message : Message) (verdict : Verdict) → IsGiven verdict → AllByRecursion IsSendable (answer_to message verdict)
answer_sendable message Accepted given = request_sendable message
answer_sendable message Repeated given = request_sendable message
answer_sendable message (Refused reason) given = ((given, no_octet (names_octet reason)), tt)
answer_sendable message Unheard given = tt
answer_sendable message Unreadable given = tt
answer_sendable message Ended given = tt
answer_sendable message OfFlight given = tt

basic_six : (link : ℕ) (verdict : Verdict) (message : Message) → AsksForSix (Said link message) → gives_basic_report verdict message ≡ true
    → length (report_groups 0 message) ≡ 6
basic_six link Accepted (PeriodicRequest asked) asks gives = six_groups 0 asked.moduli asks
basic_six link verdict message asks gives = absurd (let both : false ≡ true = gives in cc)

emergency_six : (link : ℕ) (verdict : Verdict) (mode : Bool) (message : Message) → AsksForSix (Said link message) → gives_emergency_report verdict mode message ≡ true
    → length (report_groups 0 message) ≡ 6
emergency_six link Accepted mode (EmergencyRequest asked) asks gives = six_groups 0 asked.moduli asks
emergency_six link verdict mode message asks gives = absurd (let both : false ≡ true = gives in cc)

message_sendable : (link : ℕ) (verdict : Verdict) (mode : Bool) (message : Message) → IsGiven verdict → AsksForSix (Said link message)
    → AllByRecursion IsSendable (due_of_message verdict mode message)
message_sendable link verdict mode message given asks =
    let basic = item_where (gives_basic_report verdict message) (Report 7 (report_groups 0 message)) in
    let emergency = item_where (gives_emergency_report verdict mode message) (Report 9 (report_groups 0 message)) in
    all_joined IsSendable (answer_to message verdict ++ basic) emergency
    (all_joined IsSendable (answer_to message verdict) basic (answer_sendable message verdict given)
    (sendable_where (gives_basic_report verdict message) (Report 7 (report_groups 0 message)) (λ gives. (refl, basic_six link verdict message asks gives))))
    (sendable_where (gives_emergency_report verdict mode message) (Report 9 (report_groups 0 message)) (λ gives. (refl, emergency_six link verdict mode message asks gives)))

octet_where : (names : Bool) (octet : ℕ) → (names || cond names octet 0 == 0) ≡ true
octet_where true octet = refl
octet_where false octet = refl

fault_sendable : (verdict : Verdict) (fault : Fault) → IsTrue (is_reason fault.reason) → AllByRecursion IsSendable (due_of_fault verdict fault)
fault_sendable Unreadable fault reason = ((reason, octet_where (names_octet fault.reason) fault.octet), tt)
fault_sendable verdict fault reason = tt

-- ---- samples

sample_sendable : (profile : Profile) (limits : Option EventLimits) (samples : List Sample) (before now : Sample)
    → AllByRecursion IsSendable (due_of_sample profile limits samples before now)
sample_sendable profile None samples before now = tt
sample_sendable profile (Some limits) samples before now =
    by (is_event_due profile Lateral limits samples now) (is_event_due profile VerticalRate limits samples now)
    (is_event_due profile Range limits samples now) (is_waypoint_due limits before now)
  where
    by : (a b c d : Bool)
        → AllByRecursion IsSendable (item_where a (Report 10 no_groups) ++ item_where b (Report 18 earth_reference) ++ item_where c (Report 19 no_groups) ++ item_where d (Report 20 predicted_route))
    by a b c d =
        let lateral = item_where a (Report 10 no_groups) in
        let rate = item_where b (Report 18 earth_reference) in
        let range = item_where c (Report 19 no_groups) in
        let waypoint = item_where d (Report 20 predicted_route) in
        all_joined IsSendable (lateral ++ rate ++ range) waypoint
        (all_joined IsSendable (lateral ++ rate) range
        (all_joined IsSendable lateral rate
        (sendable_where a (Report 10 no_groups) (λ is. (refl, refl))) (sendable_where b (Report 18 earth_reference) (λ is. (refl, refl))))
        (sendable_where c (Report 19 no_groups) (λ is. (refl, refl))))
        (sendable_where d (Report 20 predicted_route) (λ is. (refl, refl)))

-- ---- every act

-- A payload that could not be read was refused for one of the reasons.
abbrev HasReasonSeen : Act → Type 0
HasReasonSeen (Malformed link fault) = IsTrue (is_reason fault.reason)
HasReasonSeen act = Unit {0}

told_reason : (act : ActTold) → HasReason act → HasReasonSeen (rules_act act)
told_reason (told.Said link message) has = tt
told_reason (told.Malformed link refusal) has = has
told_reason (told.Moved before now) has = tt
told_reason (told.Ticked t) has = tt
told_reason (told.Crew on) has = tt

module _ (profile : Profile) (link time : ℕ) (admitted : Bool) (verdict : Verdict) (heard : List Noted) (asks_before : AllAskForSix heard) (given : IsGiven verdict) where
  abbrev noted : Act → Noted
  noted act = record { act = act; admits = admitted; verdict = verdict; time = time }

  act_sendable : (act : Act) → AsksForSix act → HasReasonSeen act → AllByRecursion IsSendable (due_at profile link (noted act) heard)
  act_sendable (Said other message) asks reason =
      message_sendable other verdict (is_in_emergency_mode (session_at admitted link heard) heard) message given asks
  act_sendable (Malformed other fault) asks reason = fault_sendable verdict fault reason
  act_sendable (Moved before now) asks reason =
      sample_sendable profile (limits_in_force (session_of link heard)) (samples_since_acceptance heard) before now
  act_sendable (Ticked tick) asks reason =
      all_joined IsSendable (item_where (is_periodic_due link (noted (Ticked tick)) heard) (periodic_report link heard))
      (item_where (is_emergency_due link (noted (Ticked tick)) heard) (emergency_report (emergency_report_number link heard) link heard))
      (sendable_where (is_periodic_due link (noted (Ticked tick)) heard) (periodic_report link heard)
      (λ is. (refl, six_on_link Periodic periodic_asks link heard asks_before (periodic_report_number link heard))))
      (sendable_where (is_emergency_due link (noted (Ticked tick)) heard) (emergency_report (emergency_report_number link heard) link heard)
      (λ is. (refl, six_on_link Emergency emergency_asks link heard asks_before (emergency_report_number link heard))))
  act_sendable (Crew true) asks reason =
      sendable_where (is_emergency_due link (noted (Crew true)) heard) (emergency_report 0 link heard)
      (λ is. (refl, six_on_link Emergency emergency_asks link heard asks_before 0))
  act_sendable (Crew false) asks reason = sendable_where (is_emergency_off_due link (noted (Crew false)) heard) (emergency_off link heard) (λ is. tt)

pub due_items_sendable : (configuration : Configuration) (link : ℕ) (told : List ActTold) (act : ActTold) → HasReason act
    → AllByRecursion IsSendable (due_items configuration link (past_of configuration (map rules_act told)) (rules_act act))
due_items_sendable configuration link told act reason =
    by (past_of configuration (map rules_act told)) (past_asks configuration told) (concerns link (rules_act act))
  where
    by : (past : List Noted) → AllAskForSix past → (hears : Bool)
        → AllByRecursion IsSendable (cond hears (due_at configuration.profile link (noted_over configuration past (rules_act act)) (heard_on link past)) [])
    by past asks true =
        let noted = noted_over configuration past (rules_act act) in
        act_sendable configuration.profile link noted.time noted.admits noted.verdict (heard_on link past)
        (all_filtered (λ (noted : Noted). AsksForSix noted.act) (λ noted. concerns link noted.act) past asks)
        (given_of configuration past (rules_act act)) (rules_act act) (told_asks act) (told_reason act reason)
    by past asks false = tt
