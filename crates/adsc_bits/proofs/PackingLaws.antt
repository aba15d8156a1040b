-- The laws of the octets that bits spell.
use Rattle.std.proofs.Common.{◌≡◌, ℕ, suc, ◌<◌, Bool, List, [], ◌∷◌, ◌++◌, get_or, ap₂, ◌∙◌, refl}
use Rattle.bit_terms.specs.Bits.{unsigned_bits}
use Rattle.bit_terms.specs.Octets.{octets_bits, number_spelled}
use Rattle.bit_terms.proofs.OctetsLaws.{number_spelled-unsigned_bits}
use Rattle.adsc_bits.specs.Packing.{octets_of}

-- Eight bits of an octet, and then the octets of the rest.
octets_of-more : (octet : ℕ) (rest : List Bool) → octets_of (unsigned_bits 8 octet ++ rest) ≡ number_spelled (unsigned_bits 8 octet) ∷ octets_of rest
unfolding octets_of unsigned_bits
octets_of-more octet rest = refl

-- The octets of the bits of octets are these octets.
pub octets_of-octets_bits : (octets : List ℕ) → ((i : ℕ) → get_or octets i 0 < 256) → octets_of (octets_bits octets) ≡ octets
unfolding octets_of
octets_of-octets_bits [] bytes = refl
octets_of-octets_bits (octet ∷ octets) bytes =
    octets_of-more octet (octets_bits octets)
    ∙ ap₂ (λ (first : ℕ) rest. first ∷ rest) (number_spelled-unsigned_bits 8 octet (bytes 0)) (octets_of-octets_bits octets (λ i. bytes (suc i)))
