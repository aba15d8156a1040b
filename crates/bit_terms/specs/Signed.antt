-- Signed fields, in two's complement (this project's profile).
use Rattle.std.specs.Prelude.{ℕ, ◌+◌, ◌-◌, ◌^◌, Bool, List, ℤ, pos, negsuc, neg_ℤ, ◌-ℤ◌, ◌≤ℤ◌, ◌<ℤ◌, nat_lt, if◌then◌else◌}
use Rattle.bit_terms.specs.Bits.{unsigned_bits}

-- The number that stands for a signed value in a field of `width` bits: the value itself from 0 up, and below 0 the value plus two to the width.
abbrev pub twos_complement : ℕ → ℤ → ℕ
twos_complement width (pos n) = n
twos_complement width (negsuc n) = 2 ^ width - (n + 1)

-- The bits of a signed field of `width` bits with this value.
abbrev pub signed_bits : ℕ → ℤ → List Bool
signed_bits width value = unsigned_bits width (twos_complement width value)

-- The value fits a signed field of `width` bits: it lies from minus two to the width less one, up to below two to the width less one.
abbrev pub FitsSigned : ℕ → ℤ → Type 0
FitsSigned width value = (neg_ℤ (pos (2 ^ (width - 1))) ≤ℤ value) × (value <ℤ pos (2 ^ (width - 1)))

-- The signed value for which a number stands in a field of `width` bits: the number itself below half of two to the width, else the number less two to the width.
abbrev pub signed_of : ℕ → ℕ → ℤ
signed_of width number = if nat_lt number (2 ^ (width - 1)) then pos number else (pos number -ℤ pos (2 ^ width))
