-- The generator draw by draw: a linear congruential generator with a state of 64 bits, of which a draw gives the upper 31. The multiplier
-- is Knuth's; that it is taken is this project's profile.
use Rattle.std.specs.Prelude.{ℕ, zero, suc, ◌+◌, ◌*◌, ◌/◌, ◌%◌, ◌^◌}

-- The state that a draw leaves.
unfoldable pub next_state : ℕ → ℕ
next_state state = (state * 6364136223846793005 + 1442695040888963407) % 2 ^ 64

-- The state that so many draws leave.
abbrev pub state_after : ℕ → ℕ → ℕ
state_after zero state = state
state_after (suc draws) state = state_after draws (next_state state)

-- What a draw gives that leaves this state: the state shifted right by 33 bits.
unfoldable pub given_by : ℕ → ℕ
given_by state = state / 2 ^ 33

-- What the draw of this number gives, counted from 1 at this state.
abbrev pub draw : ℕ → ℕ → ℕ
draw state number = given_by (state_after number state)
