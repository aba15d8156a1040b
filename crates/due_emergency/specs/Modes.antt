-- Emergency mode of one link after the calls that were made on it, the newest first; the oldest is its admission.
-- The words are those of the contract rules, said of calls in place of acts. This project's profile.
use Rattle.std.specs.Prelude.{◌≡◌, ℕ, Bool, ◌&&◌, ◌||◌, List, is_some, unwrap_or}
use Rattle.contract_rules.specs.Configuration.{default_emergency_interval}
use Rattle.contract_rules.specs.LookingBack.{last_such, after_last, none_such, count_from}
use Rattle.contract_rules.specs.Reports.{crosses}
use Rattle.due_periodic.specs.Grids.{GridState}
use Rattle.due_emergency.specs.Calls.{Call, is_switch, is_switched_on, is_cancel, is_contract, interval_at, is_count, moment_of, moment_at}

-- A link is in emergency mode where the crew's switch was last set on, and emergency mode was not cancelled since.
abbrev pub is_in_mode : List Call → Bool
is_in_mode calls =
    is_switched_on (last_such (λ call _. is_switch call) calls)
    && none_such (λ call _. is_cancel call) (after_last (λ call _. is_switch call) calls)

-- The interval of emergency reports: that of the emergency contract in force, or else 304 s.
abbrev pub interval_of : List Call → ℕ
interval_of calls = unwrap_or (interval_at (last_such (λ call _. is_contract call) calls)) default_emergency_interval

-- The admission, each crew call and each call of an emergency contract are anchors of emergency reports.
abbrev pub is_anchor : Call → Bool
is_anchor call = is_switch call || is_contract call

-- The moment of the latest anchor.
abbrev pub anchor_moment : List Call → ℕ
anchor_moment calls = moment_at (last_such (λ call _. is_anchor call) calls)

-- The last moment of a call.
abbrev pub last_moment : List Call → ℕ
last_moment calls = moment_at (last_such (λ call _. is_some (moment_of call)) calls)

-- How many emergency reports were counted since the anchor.
abbrev pub report_count : List Call → ℕ
report_count calls = count_from (λ call _. is_anchor call) (λ call _. is_count call) calls

-- At a tick to this moment an emergency report is due where the link is in emergency mode and the moment crosses the
-- grid of the interval, which begins at the anchor.
abbrev pub is_tick_due : List Call → ℕ → Bool
is_tick_due calls moment =
    is_in_mode calls && crosses (anchor_moment calls) (interval_of calls) (last_moment calls) moment

-- What a mode says of its link: whether the link is in emergency mode, the grid of its emergency reports, and how many
-- were counted since the anchor, which is the grid's.
pub record ModeState : Type 0 where
  pub is_on : Bool
  pub grid : GridState
  pub reports : ℕ

-- The mode after these calls.
abbrev pub mode_after : List Call → ModeState
mode_after calls =
    record {
      is_on = is_in_mode calls;
      grid = record { anchor = anchor_moment calls; interval = interval_of calls; last = last_moment calls };
      reports = report_count calls;
    }

-- A mode stands for the calls that were made on it, the newest first.
abbrev pub StandsFor : ModeState → List Call → Type 0
StandsFor mode calls = mode ≡ mode_after calls
