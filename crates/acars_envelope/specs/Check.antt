-- The check code: a cyclic redundancy check of 16 bits with the generator x^16 + x^12 + x^5 + 1, by
-- division of polynomials whose coefficients are added modulo 2. All of it, generator, start, order of
-- bits and complement, is this project's profile.
-- A polynomial is the list of its coefficients, the highest power first.
use Rattle.std.specs.Prelude.{◌≡◌, ℕ, zero, suc, Bool, true, false, not, List, [], ◌∷◌, ◌++◌, length, drop, map, replicate}
use Rattle.bit_terms.specs.Bits.{unsigned_bits}
use Rattle.bit_terms.specs.Octets.{octets_bits, number_spelled}

-- Two coefficients added modulo 2.
abbrev pub bit_sum : Bool → Bool → Bool
bit_sum false b = b
bit_sum true b = not b

-- A polynomial with another added to its highest powers.
abbrev pub add_at_front : List Bool → List Bool → List Bool
add_at_front [] addend = []
add_at_front (a ∷ rest) [] = a ∷ rest
add_at_front (a ∷ rest) (b ∷ addend) = bit_sum a b ∷ add_at_front rest addend

-- The generator below its highest power: x^12 + x^5 + 1, in sixteen coefficients.
abbrev pub generator_rest : List Bool
generator_rest =
    false ∷ false ∷ false ∷ true ∷ false ∷ false ∷ false ∷ false ∷
    false ∷ false ∷ true ∷ false ∷ false ∷ false ∷ false ∷ true ∷ []

-- The generator x^16 + x^12 + x^5 + 1.
abbrev pub generator : List Bool
generator = true ∷ generator_rest

-- What so many steps of long division by the generator leave: a step takes the highest power away, and
-- where its coefficient is 1 the generator is taken off there.
abbrev pub divided : ℕ → List Bool → List Bool
divided zero polynomial = polynomial
divided (suc steps) [] = []
divided (suc steps) (false ∷ rest) = divided steps rest
divided (suc steps) (true ∷ rest) = divided steps (drop 1 (add_at_front (true ∷ rest) generator))

-- What long division leaves of an octet times x^16.
abbrev pub octet_remainder : ℕ → List Bool
octet_remainder octet = divided 8 (unsigned_bits 8 octet ++ replicate 16 false)

-- The bits of a message times x^16, with ones added to its sixteen highest powers.
abbrev pub dividend : List Bool → List Bool
dividend message = add_at_front (message ++ replicate 16 false) (replicate 16 true)

-- The check code of octets: the number that the remainder of their bits' dividend spells, each bit
-- turned round.
abbrev pub check_of : List ℕ → ℕ
check_of octets =
    let message = octets_bits octets in
    number_spelled (map not (divided (length message) (dividend message)))

-- A polynomial times the generator.
abbrev pub times_generator : List Bool → List Bool
times_generator [] = replicate 16 false
times_generator (false ∷ rest) = false ∷ times_generator rest
times_generator (true ∷ rest) = add_at_front (false ∷ times_generator rest) generator

-- The remainder of a polynomial: below x^16, and with it some quotient times the generator is the
-- polynomial.
pub record IsRemainder (polynomial remainder : List Bool) : Type 0 where
  pub quotient : List Bool
  pub below : length remainder ≡ 16
  pub whole : polynomial ≡ add_at_front (times_generator quotient) (replicate (length quotient) false ++ remainder)
