-- Emergency mode of a link: when it holds, its anchor and interval, and when its reports fall due.
-- This project's profile.
use Rattle.std.specs.Prelude.{ℕ, max, Bool, true, false, not, ◌&&◌, ◌||◌, ◌==◌, List, Option, Some, None, option_map, unwrap_or, if◌then◌else◌}
use Rattle.contract_rules.specs.Configuration.{default_emergency_interval}
use Rattle.contract_rules.specs.Messages.{Message, CancelEmergency, EmergencyRequest, Emergency, number_of, interval_of}
use Rattle.contract_rules.specs.Acts.{Act, Said, Ticked, Crew, is_crew_act, is_crew_on}
use Rattle.contract_rules.specs.LookingBack.{count_from, last_such, after_last, none_such}
use Rattle.contract_rules.specs.LiveLinks.{Verdict, Accepted, Noted, is_live, admits_link, session_of, session_at}
use Rattle.contract_rules.specs.InForce.{accepts, cancels, in_force, request_in_force}
use Rattle.contract_rules.specs.Reports.{crosses}

-- Whether an act, if there is one, is a crew act on.
abbrev pub turned_on : Option Noted → Bool
turned_on None = false
turned_on (Some noted) = is_crew_on noted.act

-- Whether the last crew act is on.
abbrev pub is_crew_emergency : List Noted → Bool
is_crew_emergency heard = turned_on (last_such (λ noted _. is_crew_act noted.act) heard)

-- Whether an act with this verdict is an accepted cancel of emergency mode.
abbrev pub accepted_mode_cancel : Act → Verdict → Bool
accepted_mode_cancel (Said link (CancelEmergency number)) Accepted = true
accepted_mode_cancel _ _ = false

-- A link with this session is in emergency mode where the last crew act that it heard is on, and no cancel of emergency
-- mode was accepted after that in the session. A link without a session is not.
abbrev pub is_in_emergency_mode : Option (List Noted) → List Noted → Bool
is_in_emergency_mode None heard = false
is_in_emergency_mode (Some session) heard =
    is_crew_emergency heard
    && none_such (λ noted _. accepted_mode_cancel noted.act noted.verdict)
    (after_last (λ noted _. is_crew_act noted.act) session)

-- An act is an anchor of a link's emergency reports where it is a crew act, admits the link, makes an emergency
-- contract, or is an accepted cancel of the emergency contract in force before it.
abbrev pub is_anchor : ℕ → Noted → List Noted → Bool
is_anchor link noted heard =
    is_crew_act noted.act
    || admits_link link noted
    || accepts Emergency noted
    || cancels (in_force Emergency (session_of link heard)) noted

-- The anchor of a link's emergency reports: the latest act that is one.
abbrev pub emergency_anchor : ℕ → List Noted → Option Noted
emergency_anchor link heard = last_such (is_anchor link) heard

-- The time of the anchor; 0 where there is none.
abbrev pub anchor_time : ℕ → List Noted → ℕ
anchor_time link heard = unwrap_or (option_map (λ noted. noted.time) (emergency_anchor link heard)) 0

-- An interval in seconds, or 304 s in place of 0 s.
abbrev pub interval_or_default : ℕ → ℕ
interval_or_default seconds = if seconds == 0 then default_emergency_interval else seconds

-- The interval of emergency reports: that of the emergency contract, or 304 s where there is none, or its interval is
-- absent or 0 s.
abbrev pub emergency_interval : Option Message → ℕ
emergency_interval None = default_emergency_interval
emergency_interval (Some request) = interval_or_default (interval_of request)

-- The number of the emergency contract, or 0 where there is none.
abbrev pub emergency_number : Option Message → ℕ
emergency_number None = 0
emergency_number (Some request) = number_of request

-- An accepted emergency request gives an emergency report at once, where its link is in emergency mode.
abbrev pub gives_emergency_report : Verdict → Bool → Message → Bool
gives_emergency_report Accepted mode (EmergencyRequest asked) = mode
gives_emergency_report _ mode _ = false

-- An emergency report falls due on a link: at a crew act on, where it is live; at an accepted emergency request in
-- emergency mode; and at a tick in the mode that crosses the grid of the emergency interval, which begins at the anchor.
abbrev pub is_emergency_due : ℕ → Noted → List Noted → Bool
is_emergency_due link noted heard = elim (noted.act) [
  | Said _ message ↦
      gives_emergency_report noted.verdict (is_in_emergency_mode (session_at noted.admits link heard) heard) message
  | Ticked tick ↦
      is_in_emergency_mode (session_of link heard) heard
      && crosses (anchor_time link heard) (emergency_interval (request_in_force Emergency link heard)) noted.time (max noted.time tick)
  | Crew on ↦ on && is_live link heard
  | _ ↦ false
]

-- Emergency-off falls due on a link at a crew act off, where the link is in emergency mode before it.
abbrev pub is_emergency_off_due : ℕ → Noted → List Noted → Bool
is_emergency_off_due link noted heard = elim (noted.act) [
  | Crew on ↦ not on && is_in_emergency_mode (session_of link heard) heard
  | _ ↦ false
]

-- The number, counted from 0, of the next emergency report: how many fell due from the anchor on.
abbrev pub emergency_report_number : ℕ → List Noted → ℕ
emergency_report_number link heard = count_from (is_anchor link) (is_emergency_due link) heard
