-- When a call may answer a fault of a source or a sink.
-- A source and a sink count their faults in a number of 64 bits that never falls. A fault may be answered only where
-- the count rose in this very call, and a call that succeeds passed over none. This is this project's profile.
use Rattle.std.specs.Prelude.{◌≡◌, ℕ, ◌+◌, ◌-◌, ◌^◌, ◌≤◌, min, Result, OnOk, OnErr}

-- a counter of 64 bits after one more event: it stays at its last value
abbrev pub count_after : ℕ → ℕ
count_after count = min (count + 1) (2 ^ 64 - 1)

-- the count rose, or stands at the last value of its counter
abbrev pub Rose : ℕ → ℕ → Type 0
Rose before now = count_after before ≤ now

-- The count of faults around one call: it doesn't fall, an error comes only where it rose, and a success only where it
-- stayed as it was.
pub record HasCause {T E : Type 0} (before now : ℕ) (result : Result T E) : Type 0 where
  pub later : before ≤ now
  pub failed : OnErr result (Rose before now)
  pub kept : OnOk result (now ≡ before)
