-- How many zeros fill an octet (this project's profile: a message is whole octets).
use Rattle.std.specs.Prelude.{ℕ, ◌-◌, ◌%◌}

-- How many bits are missing after `count` bits to the end of the octet: none where the octet is whole.
abbrev pub padding : ℕ → ℕ
padding count = (8 - count % 8) % 8
