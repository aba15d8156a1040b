-- What the sixteen bits that the check code is computed in stand for, in terms of the long division.
use Rattle.std.specs.Prelude.{◌≡◌, ℕ, ◌+◌, Bool, List, ◌++◌, length}
use Rattle.bit_terms.specs.Bits.{unsigned_bits}
use Rattle.acars_envelope.specs.Check.{add_at_front, divided}

-- Dividing on past some bits turns one register into another: whatever follows, dividing the bits with
-- the register added at the front goes on as dividing what follows with the new register added.
pub record Absorbs (register : ℕ) (bits : List Bool) (after : ℕ) : Type 0 where
  pub by : (n : ℕ) (rest : List Bool)
      → divided (length bits + n) (add_at_front (bits ++ rest) (unsigned_bits 16 register))
      ≡ divided n (add_at_front rest (unsigned_bits 16 after))
