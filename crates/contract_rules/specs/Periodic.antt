-- Periodic reports: when a basic report falls due, and its number in its series.
-- That such contracts exist follows ICAO Doc 10037; the moments of reports are this project's profile.
use Rattle.std.specs.Prelude.{ℕ, max, Bool, true, false, not, ◌&&◌, List, Option, Some, None}
use Rattle.contract_rules.specs.Messages.{Message, PeriodicRequest, Demand, Periodic, interval_of}
use Rattle.contract_rules.specs.Acts.{Said, Ticked}
use Rattle.contract_rules.specs.LookingBack.{count_from}
use Rattle.contract_rules.specs.LiveLinks.{Verdict, Accepted, Noted, session_of}
use Rattle.contract_rules.specs.InForce.{Contract, accepts, in_force}
use Rattle.contract_rules.specs.Reports.{crosses}
use Rattle.contract_rules.specs.Emergency.{is_in_emergency_mode}

-- An accepted demand or periodic request gives a basic report at once, in emergency mode too.
abbrev pub gives_basic_report : Verdict → Message → Bool
gives_basic_report Accepted (PeriodicRequest asked) = true
gives_basic_report _ _ = false

-- Whether time from t0 to t1 crosses the grid of a periodic contract, if there is one: it begins at the acceptance and
-- has the contract's interval.
abbrev pub crosses_since : Option Contract → ℕ → ℕ → Bool
crosses_since None t0 t1 = false
crosses_since (Some contract) t0 t1 = crosses contract.since (interval_of contract.request) t0 t1

-- A basic report falls due on a link: at an accepted demand or periodic request; and at a tick that crosses the grid of
-- the periodic contract in force, where the link is not in emergency mode.
abbrev pub is_periodic_due : ℕ → Noted → List Noted → Bool
is_periodic_due link noted heard = elim (noted.act) [
  | Said _ message ↦ gives_basic_report noted.verdict message
  | Ticked tick ↦
      not (is_in_emergency_mode (session_of link heard) heard)
      && crosses_since (in_force Periodic (session_of link heard)) noted.time (max noted.time tick)
  | _ ↦ false
]

-- The number, counted from 0, of the next report of the periodic contract: how many fell due from the last accepted
-- periodic request on, those of demands left aside.
abbrev pub periodic_report_number : ℕ → List Noted → ℕ
periodic_report_number link heard =
    count_from (λ noted _. accepts Periodic noted)
    (λ noted before. not (accepts Demand noted) && is_periodic_due link noted before) heard
