-- The statuses that calls answer (this project's profile).
use Rattle.std.specs.Prelude.{ℕ}

-- The call did what it is for.
abbrev pub done : ℕ
done = 0

-- What was given is refused, and a struct says where and why.
abbrev pub refused : ℕ
refused = 1

-- A struct that was given spells no value.
abbrev pub no_struct : ℕ
no_struct = 2
