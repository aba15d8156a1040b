-- The reasons of a negative acknowledgement behind which an octet stands (this project's profile).
use Rattle.std.specs.Prelude.{ℕ, Bool, ◌||◌, ◌==◌}

-- A duplicate group, a duplicate interval and an undefined request, which are reasons 1, 2 and 7, name the place of the faulty octet.
abbrev pub names_octet : ℕ → Bool
names_octet reason = reason == 1 || reason == 2 || reason == 7
