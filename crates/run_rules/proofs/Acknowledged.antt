-- What an item that is due on a link comes from. An acknowledgement comes from a message of its number that was accepted, then or
-- before; an emergency-off bears 0 or the number of an emergency request that was accepted.
use Rattle.std.proofs.Common.{◌≡◌, ◌⊎◌, ℕ, ◌==◌, ◌||◌, ◌&&◌, Bool, true, false, cond, inl, inr, List, [], ◌∷◌, ◌++◌, Option, Some, None, refl, sym, ap, ◌∙◌, subst}
use Rattle.std.specs.List.{AllByRecursion}
use Rattle.std.proofs.lemmas.Bool.{eqb-true}
use Rattle.contract_rules.specs.Acts.{Act, Said, Malformed, Moved, Ticked, Crew, Sample, Fault, concerns}
use Rattle.contract_rules.specs.Configuration.{Configuration, Profile}
use Rattle.contract_rules.specs.Due.{Item, Acknowledgement, NegativeAcknowledgement, Noncompliance, EmergencyOff, Report, earth_reference, predicted_route, item_where, answer_to_request, answer_to, due_of_fault, due_of_sample, due_at, due_items, limits_in_force}
use Rattle.contract_rules.specs.Emergency.{emergency_number, emergency_report_number, gives_emergency_report, is_emergency_due, is_emergency_off_due, is_in_emergency_mode}
use Rattle.contract_rules.specs.Events.{Lateral, VerticalRate, Range, is_event_due, is_waypoint_due, samples_since_acceptance}
use Rattle.contract_rules.specs.InForce.{Contract, Requests, accepted_request, in_force, is_number_in_force, is_repeat, repeats, request_in_force, request_of, requests_in_force}
use Rattle.contract_rules.specs.LiveLinks.{Verdict, OfFlight, Unheard, Unreadable, Ended, Accepted, Refused, Repeated, Noted, admits, heard_on, session_at, session_of}
use Rattle.contract_rules.specs.Messages.{Message, CancelAll, Cancel, CancelEmergency, PeriodicRequest, EventRequest, EmergencyRequest, EventLimits, Kind, Periodic, Event, Emergency, asks_for_intent, is_request_of, number_of}
use Rattle.contract_rules.specs.Periodic.{gives_basic_report, is_periodic_due, periodic_report_number}
use Rattle.contract_rules.specs.Reports.{groups_of, no_groups, report_groups}
use Rattle.contract_rules.specs.Verdicts.{noted_over, verdict_in, verdict_of, verdict_on, accept_where}
use Rattle.contract_rules.proofs.Equality.{equality_of_messages}
use Rattle.contract_rules.proofs.LiveAndInForce.{WasInForce, was_in_force}
use Rattle.contract_rules.proofs.LiveAndInForce.WasInForce.{made_now, was_before}
use Rattle.contract_table.proofs.Sendable.{all_joined}
use Rattle.run_rules.specs.Claims.{HasAccepted}

-- ---- what is in force was accepted

record IsMade (link : ℕ) (contract : Contract) (act : Act) (verdict : Verdict) : Type 0 where
  said : act ≡ Said link contract.request
  accepted : verdict ≡ Accepted

made_by : (kind : Kind) (link : ℕ) (contract : Contract) (act : Act) (verdict : Verdict) (time : ℕ) → concerns link act ≡ true
    → accepted_request kind act verdict time ≡ Some contract → IsMade link contract act verdict
made_by kind link contract (Said other message) Accepted time own made = at (is_request_of kind message) made
  where
    at : (b : Bool) → cond b (Some (record { request = message; since = time })) None ≡ Some contract → IsMade link contract (Said other message) Accepted
    at true is =
        let same : message ≡ contract.request = ap (λ (o : Option Contract). elim o [ None ↦ message | Some held ↦ held.request ]) is in
        record { said = (λ i. Said (sym (eqb-true link other own) i) (same i)); accepted = refl }
    at false is = absurd (cc)
made_by kind link contract act verdict time own made = absurd (let none : None ≡ Some contract = made in cc)

-- The request of a contract in force on a link was accepted on it.
pub in_force_accepted : (kind : Kind) (link : ℕ) (past : List Noted) (contract : Contract)
    → in_force kind (session_of link (heard_on link past)) ≡ Some contract → HasAccepted link contract.request past
in_force_accepted kind link [] contract is = absurd (let none : None ≡ Some contract = is in cc)
in_force_accepted kind link (noted ∷ past) contract is = at (concerns link noted.act) refl (in_force_accepted kind link past contract) is
  where
    from : concerns link noted.act ≡ true → WasInForce kind link noted (heard_on link past) contract
        → (in_force kind (session_of link (heard_on link past)) ≡ Some contract → HasAccepted link contract.request past)
        → HasAccepted link contract.request (noted ∷ past)
    from own (made_now made) before =
        let is = made_by kind link contract noted.act noted.verdict noted.time own made in inl (is.said, is.accepted)
    from own (was_before none held) before = inr (before held)

    at : (b : Bool) → concerns link noted.act ≡ b
        → (in_force kind (session_of link (heard_on link past)) ≡ Some contract → HasAccepted link contract.request past)
        → in_force kind (session_of link (cond b (noted ∷ heard_on link past) (heard_on link past))) ≡ Some contract
        → HasAccepted link contract.request (noted ∷ past)
    at true own before is = from own (was_in_force kind link noted (heard_on link past) contract is) before
    at false other before is = inr (before is)

-- The request in force is that of a contract in force.
request_held : (link : ℕ) (past : List Noted) (held : Option Contract) (request : Message) → request_of held ≡ Some request
    → ((contract : Contract) → held ≡ Some contract → HasAccepted link contract.request past) → HasAccepted link request past
request_held link past None request is accepted = absurd (let none : None ≡ Some request = is in cc)
request_held link past (Some contract) request is accepted =
    let same : contract.request ≡ request = cc in subst (λ m. HasAccepted link m past) same (accepted contract refl)

-- So was the request that is in force.
pub request_accepted : (kind : Kind) (link : ℕ) (past : List Noted) (request : Message)
    → request_in_force kind link (heard_on link past) ≡ Some request → HasAccepted link request past
request_accepted kind link past request is =
    request_held link past (in_force kind (session_of link (heard_on link past))) request is (in_force_accepted kind link past)

-- ---- a repeat was accepted before

repeat_of : (message : Message) (request : Option Message) → repeats message request ≡ true → request ≡ Some message
repeat_of message None is = absurd (let never : false ≡ true = is in cc)
repeat_of message (Some request) is = ap Some (sym ((equality_of_messages message request).0 is))

or_true : (a b : Bool) → (a || b) ≡ true → (a ≡ true) ⊎ (b ≡ true)
or_true true b is = inl refl
or_true false b is = inr is

-- The message is in force, by one of the three kinds.
repeat_in_force : (message : Message) (session : Option (List Noted)) → is_repeat message (requests_in_force session) ≡ true
    → (kind : Kind) × (request_of (in_force kind session) ≡ Some message)
repeat_in_force message session is =
    at (or_true (repeats message periodic || repeats message event) (repeats message emergency) is)
  where
    periodic : Option Message
    periodic = request_of (in_force Periodic session)

    event : Option Message
    event = request_of (in_force Event session)

    emergency : Option Message
    emergency = request_of (in_force Emergency session)

    first : (repeats message periodic ≡ true) ⊎ (repeats message event ≡ true) → (kind : Kind) × (request_of (in_force kind session) ≡ Some message)
    first (inl is) = (Periodic, repeat_of message periodic is)
    first (inr is) = (Event, repeat_of message event is)

    at : ((repeats message periodic || repeats message event) ≡ true) ⊎ (repeats message emergency ≡ true)
        → (kind : Kind) × (request_of (in_force kind session) ≡ Some message)
    at (inl is) = first (or_true (repeats message periodic) (repeats message event) is)
    at (inr is) = (Emergency, repeat_of message emergency is)

repeated_request : (repeated borne : Bool) → cond repeated Repeated (cond borne (Refused 6) Accepted) ≡ Repeated → repeated ≡ true
repeated_request true borne is = refl
repeated_request false true is = cc
repeated_request false false is = cc

never_repeated : (holds : Bool) → accept_where holds ≡ Repeated → ⊥
never_repeated true is = cc
never_repeated false is = cc

repeated_is_repeat : (requests : Requests) (mode : Bool) (message : Message) → verdict_on requests mode message ≡ Repeated → is_repeat message requests ≡ true
repeated_is_repeat requests mode CancelAll is = cc
repeated_is_repeat requests mode (Cancel number) is = absurd (never_repeated (is_number_in_force number requests) is)
repeated_is_repeat requests mode (CancelEmergency number) is = absurd (never_repeated (mode && number == emergency_number requests.emergency) is)
repeated_is_repeat requests mode (PeriodicRequest asked) is =
    repeated_request (is_repeat (PeriodicRequest asked) requests) (is_number_in_force (number_of (PeriodicRequest asked)) requests) is
repeated_is_repeat requests mode (EventRequest number limits) is =
    repeated_request (is_repeat (EventRequest number limits) requests) (is_number_in_force (number_of (EventRequest number limits)) requests) is
repeated_is_repeat requests mode (EmergencyRequest asked) is =
    repeated_request (is_repeat (EmergencyRequest asked) requests) (is_number_in_force (number_of (EmergencyRequest asked)) requests) is

none_begun : (kind : Kind) (message : Message) → request_of (in_force kind (Some [])) ≡ Some message → ⊥
none_begun kind message is = let none : None ≡ Some message = is in cc

-- A message whose verdict is a repeat was accepted before.
pub repeated_accepted : (configuration : Configuration) (link : ℕ) (past : List Noted) (message : Message)
    → verdict_of configuration past (Said link message) ≡ Repeated → HasAccepted link message past
repeated_accepted configuration link past message is = at (admits configuration past (Said link message)) is
  where
    held : (session : Option (List Noted)) → session_of link (heard_on link past) ≡ session → verdict_in session (heard_on link past) message ≡ Repeated
        → HasAccepted link message past
    held None e is = absurd (let never : Unheard ≡ Repeated = is in cc)
    held (Some session) e is =
        let found = repeat_in_force message (Some session)
        (repeated_is_repeat (requests_in_force (Some session)) (is_in_emergency_mode (Some session) (heard_on link past)) message is) in
        request_accepted found.0 link past message (ap (λ s. request_of (in_force found.0 s)) e ∙ found.1)

    at : (b : Bool) → verdict_in (session_at b link (heard_on link past)) (heard_on link past) message ≡ Repeated → HasAccepted link message past
    at true is =
        let found = repeat_in_force message (Some [])
        (repeated_is_repeat (requests_in_force (Some [])) (is_in_emergency_mode (Some []) (heard_on link past)) message is) in
        absurd (none_begun found.0 message found.1)
    at false is = held (session_of link (heard_on link past)) refl is

-- ---- what an item comes from

-- At this act of the link a message of this number was accepted, then or before.
pub record IsAnswered (configuration : Configuration) (link : ℕ) (past : List Noted) (act : Act) (n : ℕ) : Type 0 where
  pub message : Message
  pub said : act ≡ Said link message
  pub number : number_of message ≡ n
  pub accepted : HasAccepted link message (noted_over configuration past act ∷ past)

-- The act is a message of this number, which was refused, or a malformed payload.
pub record IsRefused (link : ℕ) (act : Act) (n octet : ℕ) : Type 0 where
  pub message : Message
  pub said : act ≡ Said link message
  pub number : number_of message ≡ n
  pub no_octet : octet ≡ 0

-- The act is a malformed payload of the link.
abbrev pub IsUnread : ℕ → Act → Type 0
IsUnread link act = (fault : Fault) × (act ≡ Malformed link fault)

-- A number that an emergency-off bears, at a crew act.
pub record EndsEmergency (link : ℕ) (past : List Noted) (act : Act) (n : ℕ) : Type 0 where
  pub crew : act ≡ Crew false
  pub number : (n ≡ 0) ⊎ ((message : Message) × HasAccepted link message past × (number_of message ≡ n))

-- What an item that is due at an act comes from. Of a report nothing is said, since it bears no number.
abbrev pub ComesFrom : Configuration → ℕ → List Noted → Act → Item → Type 0
ComesFrom configuration link past act (Acknowledgement n) = IsAnswered configuration link past act n
ComesFrom configuration link past act (Noncompliance n) = IsAnswered configuration link past act n
ComesFrom configuration link past act (NegativeAcknowledgement n reason octet) = IsRefused link act n octet ⊎ IsUnread link act
ComesFrom configuration link past act (EmergencyOff n) = EndsEmergency link past act n
ComesFrom configuration link past act (Report tag flags) = Unit {0}

module _ (configuration : Configuration) (link : ℕ) (past : List Noted) where
  Come : Act → List Item → Type 0
  Come act items = AllByRecursion (ComesFrom configuration link past act) items

  report_where : (act : Act) (holds : Bool) (tag : ℕ) (flags : List Bool) → AllByRecursion (ComesFrom configuration link past act) (item_where holds (Report tag flags))
  report_where act true tag flags = (tt, tt)
  report_where act false tag flags = tt

  answered : (message : Message) → HasAccepted link message (noted_over configuration past (Said link message) ∷ past)
      → AllByRecursion (ComesFrom configuration link past (Said link message)) (answer_to_request message)
  answered message accepted = by (asks_for_intent message)
    where
      is : IsAnswered configuration link past (Said link message) (number_of message)
      is = record { message = message; said = refl; number = refl; accepted = accepted }

      by : (intent : Bool) → AllByRecursion (ComesFrom configuration link past (Said link message)) (cond intent (Noncompliance (number_of message)) (Acknowledgement (number_of message)) ∷ [])
      by true = (is, tt)
      by false = (is, tt)

  answer_comes : (message : Message) (verdict : Verdict) → verdict_of configuration past (Said link message) ≡ verdict
      → AllByRecursion (ComesFrom configuration link past (Said link message)) (answer_to message verdict)
  answer_comes message OfFlight is = tt
  answer_comes message Unheard is = tt
  answer_comes message Unreadable is = tt
  answer_comes message Ended is = tt
  answer_comes message Accepted is = answered message (inl (refl, is))
  answer_comes message Repeated is = answered message (inr (repeated_accepted configuration link past message is))
  answer_comes message (Refused reason) is = (inl (record { message = message; said = refl; number = refl; no_octet = refl }), tt)

  message_comes : (message : Message) → AllByRecursion (ComesFrom configuration link past (Said link message))
      (due_at configuration.profile link (noted_over configuration past (Said link message)) (heard_on link past))
  message_comes message =
      let verdict = verdict_of configuration past (Said link message) in
      let mode = is_in_emergency_mode (session_at (admits configuration past (Said link message)) link (heard_on link past)) (heard_on link past) in
      let from = ComesFrom configuration link past (Said link message) in
      let answer = answer_to message verdict in
      let basic = item_where (gives_basic_report verdict message) (Report 7 (report_groups 0 message)) in
      let emergency = item_where (gives_emergency_report verdict mode message) (Report 9 (report_groups 0 message)) in
      all_joined from (answer ++ basic) emergency
      (all_joined from answer basic (answer_comes message verdict refl) (report_where (Said link message) (gives_basic_report verdict message) 7 (report_groups 0 message)))
      (report_where (Said link message) (gives_emergency_report verdict mode message) 9 (report_groups 0 message))

  fault_comes : (fault : Fault) (verdict : Verdict) → AllByRecursion (ComesFrom configuration link past (Malformed link fault)) (due_of_fault verdict fault)
  fault_comes fault Unreadable = (inr (fault, refl), tt)
  fault_comes fault verdict = tt

  sample_comes : (act : Act) (profile : Profile) (limits : Option EventLimits) (samples : List Sample) (before now : Sample)
      → AllByRecursion (ComesFrom configuration link past act) (due_of_sample profile limits samples before now)
  sample_comes act profile None samples before now = tt
  sample_comes act profile (Some limits) samples before now =
      let from = ComesFrom configuration link past act in
      let lateral = is_event_due profile Lateral limits samples now in
      let vertical = is_event_due profile VerticalRate limits samples now in
      let range = is_event_due profile Range limits samples now in
      let waypoint = is_waypoint_due limits before now in
      let first = item_where lateral (Report 10 no_groups) in
      let second = item_where vertical (Report 18 earth_reference) in
      let third = item_where range (Report 19 no_groups) in
      all_joined from (first ++ second ++ third) (item_where waypoint (Report 20 predicted_route))
      (all_joined from (first ++ second) third
      (all_joined from first second (report_where act lateral 10 no_groups) (report_where act vertical 18 earth_reference))
      (report_where act range 19 no_groups))
      (report_where act waypoint 20 predicted_route)

  tick_comes : (act : Act) (holds also : Bool) (one other : List Bool)
      → AllByRecursion (ComesFrom configuration link past act) (item_where holds (Report 7 one) ++ item_where also (Report 9 other))
  tick_comes act holds also one other =
      all_joined (ComesFrom configuration link past act) (item_where holds (Report 7 one)) (item_where also (Report 9 other))
      (report_where act holds 7 one) (report_where act also 9 other)

  off_comes : (holds : Bool) (request : Option Message) → request_in_force Emergency link (heard_on link past) ≡ request
      → AllByRecursion (ComesFrom configuration link past (Crew false)) (item_where holds (EmergencyOff (emergency_number request)))
  off_comes false request is = tt
  off_comes true None is = (record { crew = refl; number = inl refl }, tt)
  off_comes true (Some request) is =
      (record { crew = refl; number = inr (request, request_accepted Emergency link past request is, refl) }, tt)

  -- What is due at an act that the link hears.
  heard_comes : (act : Act) → concerns link act ≡ true
      → AllByRecursion (ComesFrom configuration link past act) (due_at configuration.profile link (noted_over configuration past act) (heard_on link past))
  heard_comes (Said other message) own =
      subst (λ l. AllByRecursion (ComesFrom configuration link past (Said l message))
      (due_at configuration.profile link (noted_over configuration past (Said l message)) (heard_on link past)))
      (eqb-true link other own) (message_comes message)
  heard_comes (Malformed other fault) own =
      subst (λ l. AllByRecursion (ComesFrom configuration link past (Malformed l fault))
      (due_of_fault (verdict_of configuration past (Malformed other fault)) fault)) (eqb-true link other own)
      (fault_comes fault (verdict_of configuration past (Malformed other fault)))
  heard_comes (Moved before now) own =
      sample_comes (Moved before now) configuration.profile (limits_in_force (session_of link (heard_on link past))) (samples_since_acceptance (heard_on link past)) before now
  heard_comes (Ticked tick) own =
      let noted = noted_over configuration past (Ticked tick) in
      let heard = heard_on link past in
      tick_comes (Ticked tick) (is_periodic_due link noted heard) (is_emergency_due link noted heard)
      (groups_of (periodic_report_number link heard) (request_in_force Periodic link heard))
      (groups_of (emergency_report_number link heard) (request_in_force Emergency link heard))
  heard_comes (Crew true) own =
      report_where (Crew true) (is_emergency_due link (noted_over configuration past (Crew true)) (heard_on link past)) 9
      (groups_of 0 (request_in_force Emergency link (heard_on link past)))
  heard_comes (Crew false) own =
      off_comes (is_emergency_off_due link (noted_over configuration past (Crew false)) (heard_on link past))
      (request_in_force Emergency link (heard_on link past)) refl

  -- Each item that is due at an act comes from something.
  pub due_comes : (act : Act) → AllByRecursion (ComesFrom configuration link past act) (due_items configuration link past act)
  due_comes act = at (concerns link act) refl
    where
      at : (b : Bool) → concerns link act ≡ b
          → AllByRecursion (ComesFrom configuration link past act)
          (cond b (due_at configuration.profile link (noted_over configuration past act) (heard_on link past)) [])
      at true own = heard_comes act own
      at false other = tt
