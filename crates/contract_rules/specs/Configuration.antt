-- How an aircraft is set up for the rules, and the numbers of this project's profiles. They are said here and nowhere else.
use Rattle.std.specs.Prelude.{ℕ, Option}

-- This project's profiles. They differ in the lateral and altitude range events alone: in profile 1 each comes once per
-- contract, in profile 2 it arms again.
pub data Profile : Type 0 where
  ProfileOne : Profile
  ProfileTwo : Profile

-- What an aircraft is set up with: its profile, and the link for which one of the five connections is kept, if any.
pub record Configuration : Type 0 where
  pub profile : Profile
  pub kept : Option ℕ

-- At most five links are live at once.
abbrev pub max_live_links : ℕ
max_live_links = 5

-- The reporting interval of emergency mode, in seconds, where no emergency contract in force gives one.
abbrev pub default_emergency_interval : ℕ
default_emergency_interval = 304
