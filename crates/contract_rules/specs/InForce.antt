-- The contracts in force on a link. At most one periodic, one event and one emergency contract is in force on a link;
-- a demand never is. The kinds of contracts are those of ICAO Doc 10037; what replaces and what ends one is this project's profile.
use Rattle.std.specs.Prelude.{ℕ, Bool, false, cond, ◌==◌, ◌||◌, List, Option, Some, None, is_some, option_map}
use Rattle.contract_rules.specs.Messages.{Message, Cancel, Kind, Periodic, Event, Emergency, number_of, is_request_of, same_message}
use Rattle.contract_rules.specs.Acts.{Act, Said}
use Rattle.contract_rules.specs.LookingBack.{standing}
use Rattle.contract_rules.specs.LiveLinks.{Verdict, Accepted, Noted, session_of}

-- A contract: the request as it was accepted, and the time of its acceptance.
pub record Contract : Type 0 where
  pub request : Message
  pub since : ℕ

-- The contract that a request of this kind with verdict accepted makes, at the time before it.
abbrev pub accepted_request : Kind → Act → Verdict → ℕ → Option Contract
accepted_request kind (Said link message) Accepted time =
    cond (is_request_of kind message) (Some (record { request = message; since = time })) None
accepted_request kind _ _ _ = None

-- The contract of this kind that an act makes: an accepted request of the kind does.
abbrev pub contract_made : Kind → Noted → Option Contract
contract_made kind noted = accepted_request kind noted.act noted.verdict noted.time

-- Whether an act is an accepted request of this kind.
abbrev pub accepts : Kind → Noted → Bool
accepts kind noted = is_some (contract_made kind noted)

-- The request of a contract, if there is one.
abbrev pub request_of : Option Contract → Option Message
request_of contract = option_map (λ held. held.request) contract

-- Whether a contract's request, if there is one, bears the number.
abbrev pub bears : ℕ → Option Message → Bool
bears number None = false
bears number (Some request) = number_of request == number

-- Whether an act with this verdict is an accepted cancel of the contract with this request, if there is one.
abbrev pub accepted_cancel : Option Message → Act → Verdict → Bool
accepted_cancel request (Said link (Cancel number)) Accepted = bears number request
accepted_cancel request _ _ = false

-- Whether an act is an accepted cancel of a contract, if there is one.
abbrev pub cancels : Option Contract → Noted → Bool
cancels contract noted = accepted_cancel (request_of contract) noted.act noted.verdict

-- The contract of a kind in force after a session: that of the last accepted request of the kind, unless an accepted
-- cancel of its number came after it. Without a session none is in force.
abbrev pub in_force : Kind → Option (List Noted) → Option Contract
in_force kind None = None
in_force kind (Some session) = standing (contract_made kind) (λ contract noted. cancels (Some contract) noted) session

-- The request of the contract of a kind in force on a link, after what it heard.
abbrev pub request_in_force : Kind → ℕ → List Noted → Option Message
request_in_force kind link heard = request_of (in_force kind (session_of link heard))

-- The requests of the contracts in force.
pub record Requests : Type 0 where
  pub periodic : Option Message
  pub event : Option Message
  pub emergency : Option Message

-- The requests of the contracts in force after a session.
abbrev pub requests_in_force : Option (List Noted) → Requests
requests_in_force session =
    record {
      periodic = request_of (in_force Periodic session);
      event = request_of (in_force Event session);
      emergency = request_of (in_force Emergency session);
    }

-- A number is in force where a contract in force bears it.
abbrev pub is_number_in_force : ℕ → Requests → Bool
is_number_in_force number requests =
    bears number requests.periodic || bears number requests.event || bears number requests.emergency

-- Whether a message is the request of a contract, if there is one.
abbrev pub repeats : Message → Option Message → Bool
repeats message None = false
repeats message (Some request) = same_message message request

-- A request is a repeat where its number, kind and content are those of a contract in force.
abbrev pub is_repeat : Message → Requests → Bool
is_repeat message requests =
    repeats message requests.periodic || repeats message requests.event || repeats message requests.emergency
