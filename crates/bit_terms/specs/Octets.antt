-- The bits of octets, and the number that bits spell. Bits go most significant first, octets in the order in which they are sent (this project's profile).
use Rattle.std.specs.Prelude.{ℕ, ◌+◌, ◌^◌, Bool, true, false, List, [], ◌∷◌, length, flat_map}
use Rattle.bit_terms.specs.Bits.{unsigned_bits}

-- The bits of a list of octets: the eight bits of each octet, joined.
abbrev pub octets_bits : List ℕ → List Bool
octets_bits octets = flat_map (unsigned_bits 8) octets

-- The number that bits spell, the most significant first: a one counts two to the power of the number of bits after it.
unfoldable pub number_spelled : List Bool → ℕ
number_spelled [] = 0
number_spelled (true ∷ bits) = 2 ^ length bits + number_spelled bits
number_spelled (false ∷ bits) = number_spelled bits
