-- Worked histories of links: admission, sessions, and acts that are not heard.
use Rattle.std.specs.Prelude.{◌≡◌, ℕ, true, false, List, [], ◌∷◌, map, None, pos}
use Rattle.contract_rules.specs.Configuration.{Configuration}
use Rattle.contract_rules.specs.Messages.{Message, CancelAll, Cancel, CancelEmergency}
use Rattle.contract_rules.specs.Acts.{Said, Moved, Ticked}
use Rattle.contract_rules.specs.LiveLinks.{Noted, latest_sample}
use Rattle.contract_rules.specs.Verdicts.{noted_over, past_of}
use Rattle.contract_rules.specs.Due.{Item, Acknowledgement, Report, due_items}
use Rattle.contract_rules.specs.Histories.Words.{without_groups, with_route, IsWorked, profile_one, kept_for, says, ticks, moves, crew, malformed, no_moduli, route_each_second, demand, periodic, lateral_event, emergency, off_track, level_flight, nothing, only, acknowledged, demanded}

-- What is due on the links of messages, each on its own, after a past.
abbrev pub answers_of : Configuration → List Noted → List (ℕ × Message) → List (List Item)
answers_of configuration past [] = []
answers_of configuration past (said ∷ others) =
    due_items configuration said.0 past (Said said.0 said.1)
    ∷ answers_of configuration (noted_over configuration past (Said said.0 said.1) ∷ past) others

-- Messages of several links: for each its link, the message, and what is due on the link at it.
abbrev pub AreAnswered : Configuration → List (ℕ × Message × List Item) → Type 0
AreAnswered configuration messages =
    answers_of configuration [] (map (λ said. (said.0, said.1)) messages) ≡ map (λ said. said.2) messages

-- Six links. The first five that ask are admitted, and a live link may ask again; the sixth is not heard. The second link
-- cancels all, and then the sixth is admitted.
abbrev pub SixLinks : Type 0
SixLinks =
    AreAnswered profile_one
    ((0, demand 1, demanded) ∷ (1, demand 1, demanded) ∷ (2, demand 1, demanded) ∷ (3, demand 1, demanded) ∷ (4, demand 1, demanded)
    ∷ (5, demand 1, nothing) ∷ (4, demand 1, demanded) ∷ (1, CancelAll, nothing) ∷ (5, demand 1, demanded) ∷ (1, demand 1, nothing) ∷ [])

-- Links have any number: the same of links 64 to 69.
abbrev pub SixHighLinks : Type 0
SixHighLinks =
    AreAnswered profile_one
    ((64, demand 1, demanded) ∷ (65, demand 1, demanded) ∷ (66, demand 1, demanded) ∷ (67, demand 1, demanded) ∷ (68, demand 1, demanded)
    ∷ (69, demand 1, nothing) ∷ [])

-- A kept connection. One is kept for the sixth link, so the fifth is not heard, and the sixth is admitted.
abbrev pub BesideKeptLink : Type 0
BesideKeptLink =
    AreAnswered (kept_for 5)
    ((0, demand 1, demanded) ∷ (1, demand 1, demanded) ∷ (2, demand 1, demanded) ∷ (3, demand 1, demanded)
    ∷ (4, demand 1, nothing) ∷ (5, demand 1, demanded) ∷ (4, demand 1, nothing) ∷ [])

-- The connection stays kept while its link is not live: the others are four, before and after its cancel-all.
abbrev pub KeptLinkGone : Type 0
KeptLinkGone =
    AreAnswered (kept_for 0)
    ((0, demand 1, demanded) ∷ (1, demand 1, demanded) ∷ (2, demand 1, demanded) ∷ (3, demand 1, demanded) ∷ (4, demand 1, demanded)
    ∷ (5, demand 1, nothing) ∷ (0, CancelAll, nothing) ∷ (5, demand 1, nothing) ∷ (0, demand 1, demanded)
    ∷ (1, CancelAll, nothing) ∷ (5, demand 1, demanded) ∷ [])

-- What is due on a link beside another one, whose messages and malformed payloads it does not hear.
abbrev pub TwoLinks : Type 0
TwoLinks =
    IsWorked profile_one 1
    ((says 0 (demand 1), nothing)
    ∷ (says 1 (periodic 2 0xa5 no_moduli), Acknowledgement 2 ∷ Report 7 without_groups ∷ [])
    ∷ (says 0 (periodic 2 0xa6 no_moduli), nothing)
    ∷ (says 0 (Cancel 2), nothing)
    ∷ (malformed 0 10 2 6, nothing)
    ∷ (ticks 304, only (Report 7 without_groups))
    ∷ (says 0 CancelAll, nothing)
    ∷ (ticks 608, only (Report 7 without_groups))
    ∷ [])

-- A cancel-all and a new session. The cancel-all is not answered and ends the contract: no report at 304 s, and a
-- cancel of its number is not heard. The same request is accepted as a new one, whose grid begins at its acceptance.
abbrev pub NewSession : Type 0
NewSession =
    IsWorked profile_one 0
    ((says 0 (periodic 2 0xa5 route_each_second), Acknowledgement 2 ∷ Report 7 with_route ∷ [])
    ∷ (ticks 100, nothing)
    ∷ (says 0 CancelAll, nothing)
    ∷ (ticks 304, nothing)
    ∷ (says 0 (Cancel 2), nothing)
    ∷ (says 0 (periodic 2 0xa5 route_each_second), Acknowledgement 2 ∷ Report 7 with_route ∷ [])
    ∷ (ticks 607, nothing)
    ∷ (ticks 608, only (Report 7 without_groups))
    ∷ [])

-- A cancel-all and a request in one payload: the request opens a new session, and its contract is a new one.
abbrev pub CancelAllAndRequest : Type 0
CancelAllAndRequest =
    IsWorked profile_one 0
    ((says 0 (periodic 2 0xa5 no_moduli), Acknowledgement 2 ∷ Report 7 without_groups ∷ [])
    ∷ (ticks 100, nothing)
    ∷ (Said 0 CancelAll ∷ Said 0 (periodic 2 0xa5 no_moduli) ∷ [], Acknowledgement 2 ∷ Report 7 without_groups ∷ [])
    ∷ (ticks 304, nothing)
    ∷ (ticks 404, only (Report 7 without_groups))
    ∷ [])

-- Nothing but a request is heard on a link that is not live, and nothing of the flight is due on it; an event request and an
-- emergency request admit it as a demand does.
abbrev pub NotLive : Type 0
NotLive =
    IsWorked profile_one 0
    ((says 0 (Cancel 1), nothing)
    ∷ (says 0 (CancelEmergency 0), nothing)
    ∷ (says 0 CancelAll, nothing)
    ∷ (malformed 0 2 1 5, nothing)
    ∷ (ticks 304, nothing)
    ∷ (moves level_flight (off_track (pos 9)), nothing)
    ∷ (crew true, nothing)
    ∷ (crew false, nothing)
    ∷ (says 0 (lateral_event 3 8), acknowledged 3)
    ∷ (says 0 CancelAll, nothing)
    ∷ (says 0 (emergency 4 None no_moduli), acknowledged 4)
    ∷ [])

-- The latest sample is the last that was taken, or else the one that the flight began with.
abbrev pub LatestSample : Type 0
LatestSample =
    (latest_sample level_flight [] ≡ level_flight)
    × (latest_sample level_flight
    (past_of profile_one (Ticked 5 ∷ Said 0 (demand 1) ∷ Moved (off_track (pos 8)) (off_track (pos 9)) ∷ Moved level_flight (off_track (pos 8)) ∷ []))
    ≡ off_track (pos 9))
