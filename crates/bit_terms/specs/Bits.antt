-- The bits of a field that holds a number from 0 up. The most significant bit stands first (this project's profile).
use Rattle.std.specs.Prelude.{ℕ, zero, suc, Bool, List, [], ◌∷◌, ◌==◌}
use Rattle.std.specs.Int.{bit_at}

-- The bits of a field of `width` bits with this value: its binary digits, the most significant first.
-- A value that needs more bits than the field has keeps its lowest ones.
unfoldable pub unsigned_bits : ℕ → ℕ → List Bool
unsigned_bits zero value = []
unsigned_bits (suc width) value = (bit_at value width == 1) ∷ unsigned_bits width value
