-- What is told to the emergency mode of a link, call by call.
use Rattle.std.specs.Prelude.{ℕ, Bool, true, false, Option, Some, None, unwrap_or}

-- A call, with its moment in seconds where it has one: the link is admitted, while the crew's switch is on or off; the
-- crew switches emergency on or off; emergency mode is cancelled; an emergency contract of an interval in seconds is
-- accepted, or the one in force is cancelled; time moves on; an emergency report is counted.
pub data Call : Type 0 where
  Admitted : Bool → ℕ → Call
  Crew : Bool → ℕ → Call
  Cancelled : Call
  Contract : Option ℕ → ℕ → Call
  Tick : ℕ → Call
  Counted : Call

-- Whether a call tells how the crew's switch stands: the admission does, and each crew call.
abbrev pub is_switch : Call → Bool
is_switch (Admitted on moment) = true
is_switch (Crew on moment) = true
is_switch _ = false

-- Whether the crew's switch is on by a call, if there is one.
abbrev pub is_switched_on : Option Call → Bool
is_switched_on (Some (Admitted on moment)) = on
is_switched_on (Some (Crew on moment)) = on
is_switched_on _ = false

-- Whether a call cancels emergency mode.
abbrev pub is_cancel : Call → Bool
is_cancel Cancelled = true
is_cancel _ = false

-- Whether a call is of an emergency contract: one is accepted, or the one in force is cancelled.
abbrev pub is_contract : Call → Bool
is_contract (Contract interval moment) = true
is_contract _ = false

-- The interval that a call leaves to a link, if there is one: none but at an accepted emergency contract.
abbrev pub interval_at : Option Call → Option ℕ
interval_at (Some (Contract interval moment)) = interval
interval_at _ = None

-- Whether a call counts an emergency report.
abbrev pub is_count : Call → Bool
is_count Counted = true
is_count _ = false

-- The moment of a call, where it has one.
abbrev pub moment_of : Call → Option ℕ
moment_of (Admitted on moment) = Some moment
moment_of (Crew on moment) = Some moment
moment_of (Contract interval moment) = Some moment
moment_of (Tick moment) = Some moment
moment_of _ = None

-- The moment of a call, if there is one that has a moment; else 0.
abbrev pub moment_at : Option Call → ℕ
moment_at None = 0
moment_at (Some call) = unwrap_or (moment_of call) 0
