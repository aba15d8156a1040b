-- The verdict on a message or a malformed payload, and the past as a list of noted acts.
-- The reasons, their numbers and repeats are this project's profile.
use Rattle.std.specs.Prelude.{Bool, cond, ◌&&◌, ◌==◌, List, [], ◌∷◌, Option, Some, None}
use Rattle.contract_rules.specs.Configuration.{Configuration}
use Rattle.contract_rules.specs.Messages.{Message, CancelAll, Cancel, CancelEmergency, number_of}
use Rattle.contract_rules.specs.Acts.{Act, Said, Malformed}
use Rattle.contract_rules.specs.LiveLinks.{Verdict, OfFlight, Unheard, Unreadable, Ended, Accepted, Refused, Repeated, Noted, is_live, admits, time_after, heard_on, session_at}
use Rattle.contract_rules.specs.InForce.{Requests, requests_in_force, is_number_in_force, is_repeat}
use Rattle.contract_rules.specs.Emergency.{is_in_emergency_mode, emergency_number}

-- Refused since no such contract is in force: reason 5.
abbrev pub undefined_contract : Verdict
undefined_contract = Refused 5

-- Refused since the contract's number is in force: reason 6.
abbrev pub contract_exists : Verdict
contract_exists = Refused 6

-- Accepted where a test holds, else refused since no such contract is in force.
abbrev pub accept_where : Bool → Verdict
accept_where holds = cond holds Accepted undefined_contract

-- The verdict on a request, of whatever kind: a repeat; refused, where its number is in force; else accepted.
abbrev pub verdict_on_request : Requests → Message → Verdict
verdict_on_request requests message =
    cond (is_repeat message requests) Repeated
    (cond (is_number_in_force (number_of message) requests) contract_exists Accepted)

-- The verdict on a message of a live link, by the requests in force and by whether the link is in emergency mode. A
-- cancel of emergency mode has to bear the number of the emergency contract in force, or 0 where there is none.
abbrev pub verdict_on : Requests → Bool → Message → Verdict
verdict_on requests mode CancelAll = Ended
verdict_on requests mode (Cancel number) = accept_where (is_number_in_force number requests)
verdict_on requests mode (CancelEmergency number) = accept_where (mode && number == emergency_number requests.emergency)
verdict_on requests mode message = verdict_on_request requests message

-- The verdict on a message of a link with this session, which heard this. Without a session the message is unheard.
abbrev pub verdict_in : Option (List Noted) → List Noted → Message → Verdict
verdict_in None heard message = Unheard
verdict_in (Some session) heard message =
    verdict_on (requests_in_force (Some session)) (is_in_emergency_mode (Some session) heard) message

-- The verdict on an act after a past. A message is heard where its link is live or admitted by it, and a malformed
-- payload where its link is live.
abbrev pub verdict_of : Configuration → List Noted → Act → Verdict
verdict_of configuration past (Said link message) =
    verdict_in (session_at (admits configuration past (Said link message)) link (heard_on link past))
    (heard_on link past) message
verdict_of configuration past (Malformed link fault) = cond (is_live link past) Unreadable Unheard
verdict_of configuration past _ = OfFlight

-- An act, noted over the past before it.
abbrev pub noted_over : Configuration → List Noted → Act → Noted
noted_over configuration past act =
    record {
      act = act;
      admits = admits configuration past act;
      verdict = verdict_of configuration past act;
      time = time_after past;
    }

-- The past that acts make, both the newest first: each act is noted over the past before it.
abbrev pub past_of : Configuration → List Act → List Noted
past_of configuration [] = []
past_of configuration (act ∷ acts) = let past = past_of configuration acts in noted_over configuration past act ∷ past

-- The past with the acts of one more entry, the oldest of them first.
abbrev pub past_with : Configuration → List Noted → List Act → List Noted
past_with configuration past [] = past
past_with configuration past (act ∷ acts) = past_with configuration (noted_over configuration past act ∷ past) acts
