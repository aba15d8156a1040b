-- The octets that bits spell (this project's profile: the most significant bit of each octet first).
use Rattle.std.specs.Prelude.{ℕ, Bool, List, [], ◌∷◌}
use Rattle.bit_terms.specs.Octets.{number_spelled}

-- The octets that bits spell, eight bits each. Bits after the last whole octet are left out.
unfoldable pub octets_of : List Bool → List ℕ
octets_of (a ∷ b ∷ c ∷ d ∷ e ∷ f ∷ g ∷ h ∷ rest) = number_spelled (a ∷ b ∷ c ∷ d ∷ e ∷ f ∷ g ∷ h ∷ []) ∷ octets_of rest
octets_of short = []
