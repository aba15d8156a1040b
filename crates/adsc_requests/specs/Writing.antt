-- The octets of parts of a message, as they are written one behind the other.
use Rattle.std.specs.Prelude.{ℕ, ◌-◌, List, [], ◌∷◌, flat_map, Option, None, option_map, slice_index_or}
use Rattle.adsc_requests.specs.Contents.{group_if, collected, collected_from, single}
use Rattle.adsc_requests.specs.Grammar.{group_octets}

-- The octets of a group, where there is one.
abbrev pub octets_if : ℕ → Option (List ℕ) → List ℕ
octets_if t octets = flat_map group_octets (group_if t octets)

-- The octets of the groups, by rising tag, whose data a function gives.
abbrev pub collected_octets : (ℕ → Option (List ℕ)) → List ℕ
collected_octets octets = flat_map group_octets (collected octets)

-- The tags of the reporting modulus groups.
abbrev pub modulus_tags : List ℕ
modulus_tags = 12 ∷ 13 ∷ 14 ∷ 15 ∷ 16 ∷ 17 ∷ []

-- The octets of the reporting modulus groups of these tags.
abbrev pub moduli_octets : List (Option ℕ) → List ℕ → List ℕ
moduli_octets moduli tags = flat_map group_octets (collected_from (λ t. option_map single (slice_index_or moduli (t - 12) None)) tags)
