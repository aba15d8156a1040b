-- What a message of a link makes of the live links, and what is due at it.
use Rattle.std.specs.Prelude.{ℕ, ◌==◌, ◌&&◌, Bool, cond, not, is_some, List, [], filter, map, Option, Some, None}
use Rattle.std.specs.Option.{option_or}
use Rattle.contract_rules.specs.Configuration.{Profile}
use Rattle.contract_rules.specs.Messages.{Message, is_request}
use Rattle.contract_rules.specs.LiveLinks.{Verdict, Accepted, Ended, has_room}
use Rattle.contract_rules.specs.Verdicts.{verdict_on}
use Rattle.contract_rules.specs.Due.{Item, due_of_message}
use Rattle.contract_table.specs.Connections.{Connection, requests_of}
use Rattle.contract_table.specs.Dues.{on_link}
use Rattle.contract_table.specs.NextConnection.{admitted, accepted}
use Rattle.contract_table.specs.Places.{connection_on, link_of, put}

-- The link that a request admits, where there is room for it.
abbrev pub admitted_where : Option ℕ → Bool → ℕ → ℕ → List Connection → Option Connection
admitted_where kept crew time link connections =
    cond (has_room kept link (map link_of connections)) (Some (admitted link crew time)) None

-- The link that a message finds: a live one, or one that it admits.
abbrev pub found_by : Option ℕ → Bool → ℕ → ℕ → Message → List Connection → Option Connection
found_by kept crew time link message connections =
    option_or (connection_on link connections)
    (cond (is_request message && has_room kept link (map link_of connections)) (Some (admitted link crew time)) None)

-- The verdict on a message that finds this link.
abbrev pub verdict_by : Connection → Message → Verdict
verdict_by connection message = verdict_on (requests_of connection) (is_some connection.anchor) message

-- The live links after a message of this verdict that finds this link.
abbrev pub links_after : Profile → ℕ → Message → Connection → List Connection → Verdict → List Connection
links_after profile time message connection connections Accepted = put link_of (accepted profile time message connection) connections
links_after profile time message connection connections Ended = filter (λ other. not (connection.link == other.link)) connections
links_after profile time message connection connections _ = connections

-- The live links after a message that finds this link, if it finds one.
abbrev pub heard_by : Profile → ℕ → Message → List Connection → Option Connection → List Connection
heard_by profile time message connections None = connections
heard_by profile time message connections (Some connection) =
    links_after profile time message connection connections (verdict_by connection message)

-- The items due at a message that finds this link, if it finds one.
abbrev pub due_by : Message → Option Connection → List (ℕ × Item)
due_by message None = []
due_by message (Some connection) =
    on_link connection.link (due_of_message (verdict_by connection message) (is_some connection.anchor) message)
