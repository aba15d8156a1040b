-- The calls that the acts of a history make on a link's mode, and that the mode after them is the one of the contract rules.
use Rattle.std.specs.Prelude.{◌≡◌, ℕ, max, Bool, true, false, cond, List, [], ◌∷◌, Option, Some, None}
use Rattle.contract_rules.specs.Configuration.{Configuration}
use Rattle.contract_rules.specs.Messages.{Message, Cancel, CancelEmergency, EmergencyRequest, Emergency}
use Rattle.contract_rules.specs.Acts.{Act, Said, Ticked, Crew as CrewAct}
use Rattle.contract_rules.specs.LiveLinks.{Verdict, Accepted, OfFlight, Noted, is_live, admits_link, heard_on, session_of, time_after}
use Rattle.contract_rules.specs.InForce.{bears, in_force, request_of}
use Rattle.contract_rules.specs.Emergency.{is_crew_emergency, is_in_emergency_mode, anchor_time, emergency_interval, is_emergency_due, emergency_report_number}
use Rattle.contract_rules.specs.Verdicts.{past_of}
use Rattle.due_emergency.specs.Calls.{Call, Admitted, Crew, Cancelled, Contract, Tick, Counted}
use Rattle.due_emergency.specs.Modes.{ModeState, mode_after, is_tick_due}

-- The call that an act with this verdict makes at a time, where the emergency contract in force has this request, if there
-- is one: a crew act and a tick do, and of the accepted messages a cancel of emergency mode, an emergency request, and a
-- cancel of that contract.
abbrev pub call_made : Option Message → Act → Verdict → ℕ → Option Call
call_made request (CrewAct on) verdict time = Some (Crew on time)
call_made request (Ticked tick) verdict time = Some (Tick (max time tick))
call_made request (Said link (CancelEmergency number)) Accepted time = Some Cancelled
call_made request (Said link (EmergencyRequest asked)) Accepted time =
    Some (Contract (Some (emergency_interval (Some (EmergencyRequest asked)))) time)
call_made request (Said link (Cancel number)) Accepted time = cond (bears number request) (Some (Contract None time)) None
call_made request _ verdict time = None

-- The calls with one more, if there is one.
abbrev pub with_call : Option Call → List Call → List Call
with_call None calls = calls
with_call (Some call) calls = call ∷ calls

-- The calls from the admission on, where an act admits the link; else those before it.
abbrev pub since_admission : Bool → Bool → ℕ → List Call → List Call
since_admission admitted on time calls = cond admitted (Admitted on time ∷ []) calls

-- The calls with the count of an emergency report, where one is given.
abbrev pub with_count : Bool → List Call → List Call
with_count due calls = cond due (Counted ∷ calls) calls

-- The calls that all acts make which a live link heard, from its admission on, the newest first: each act its own, and
-- then the count of the emergency report that falls due at it.
abbrev pub calls_of : ℕ → List Noted → List Call
calls_of link [] = []
calls_of link (noted ∷ heard) =
    with_count (is_emergency_due link noted heard)
    (with_call (call_made (request_of (in_force Emergency (session_of link heard))) noted.act noted.verdict noted.time)
    (since_admission (admits_link link noted) (is_crew_emergency heard) noted.time (calls_of link heard)))

-- The mode of a link by the contract rules.
abbrev pub rules_mode : ℕ → List Noted → ModeState
rules_mode link heard =
    record {
      is_on = is_in_emergency_mode (session_of link heard) heard;
      grid = record {
        anchor = anchor_time link heard;
        interval = emergency_interval (request_of (in_force Emergency (session_of link heard)));
        last = time_after heard;
      };
      reports = emergency_report_number link heard;
    }

-- After the calls that the acts of a history make on a live link, its mode is the one of the contract rules.
abbrev pub ModeIsOfRules : Type 0
ModeIsOfRules =
    (configuration : Configuration) (link : ℕ) (acts : List Act) → let heard = heard_on link (past_of configuration acts) in
    is_live link heard ≡ true → mode_after (calls_of link heard) ≡ rules_mode link heard

-- A tick, noted after what a link heard.
abbrev pub tick_noted : List Noted → ℕ → Noted
tick_noted heard tick = record { act = Ticked tick; admits = false; verdict = OfFlight; time = time_after heard }

-- At a tick an emergency report falls due by the calls exactly where it does by the contract rules.
abbrev pub TickIsOfRules : Type 0
TickIsOfRules =
    (configuration : Configuration) (link : ℕ) (acts : List Act) (tick : ℕ)
    → let heard = heard_on link (past_of configuration acts) in
    is_live link heard ≡ true
    → is_tick_due (calls_of link heard) (max (time_after heard) tick) ≡ is_emergency_due link (tick_noted heard tick) heard
