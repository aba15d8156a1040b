-- The codes of a flight's characters.
use Rattle.std.proofs.Common.{◌≡◌, ℕ, zero, suc, ◌-◌, ◌<◌, ◌≤◌, true, pos, List, [], ◌∷◌, ◌++◌, length, map, get_or, replicate, length-append, refl, arith}
use Rattle.std.specs.List.{AllPass}
use Rattle.std.proofs.lemmas.List.{length-map, length-replicate}
use Rattle.std.proofs.lemmas.List.Elements.{All-head, All-tail}
use Rattle.std.proofs.lemmas.Bool.Decides.{nat_tests}
use Rattle.acars_envelope.specs.Names.{IsFlight, is_name_character}
use Rattle.aircraft_core.specs.Reports.{flight_code, flight_codes}

code_is_small : (character : ℕ) → is_name_character character ≡ true → flight_code character < 64
code_is_small character name = grind (arith, nat_tests)

own_are_small : (flight : List ℕ) → AllPass is_name_character flight → (i : ℕ) → get_or (map flight_code flight) i 0 < 64
own_are_small [] names i = omega arith
own_are_small (character ∷ flight) names zero = code_is_small character (All-head (λ c. is_name_character c ≡ true) character flight names)
own_are_small (character ∷ flight) names (suc i) = own_are_small flight (All-tail (λ c. is_name_character c ≡ true) character flight names) i

spaces_are_small : (n i : ℕ) → get_or (replicate n 32) i 0 < 64
spaces_are_small zero i = omega arith
spaces_are_small (suc n) zero = omega arith
spaces_are_small (suc n) (suc i) = spaces_are_small n i

joined_are_small : (front back : List ℕ) → ((i : ℕ) → get_or front i 0 < 64) → ((i : ℕ) → get_or back i 0 < 64) → (i : ℕ) → get_or (front ++ back) i 0 < 64
joined_are_small [] back first second i = second i
joined_are_small (x ∷ front) back first second zero = first 0
joined_are_small (x ∷ front) back first second (suc i) = joined_are_small front back (λ j. first (suc j)) second i

-- they have six bits
pub codes_are_small : (flight : List ℕ) → IsFlight flight → (i : ℕ) → get_or (flight_codes flight) i 0 < 64
codes_are_small flight is =
    joined_are_small (map flight_code flight) (replicate (8 - length flight) 32) (own_are_small flight is.characters) (spaces_are_small (8 - length flight))

-- eight numbers, one by one
eight : (codes : List ℕ) → length codes ≡ 8
    → pos (get_or codes 0 0) ∷ pos (get_or codes 1 0) ∷ pos (get_or codes 2 0) ∷ pos (get_or codes 3 0)
    ∷ pos (get_or codes 4 0) ∷ pos (get_or codes 5 0) ∷ pos (get_or codes 6 0) ∷ pos (get_or codes 7 0) ∷ [] ≡ map pos codes
eight (a ∷ b ∷ c ∷ d ∷ e ∷ f ∷ g ∷ h ∷ []) size = refl
eight _ size = absurd (omega arith)

length-flight_codes : (flight : List ℕ) → length flight ≤ 8 → length (flight_codes flight) ≡ 8
length-flight_codes flight few =
    omega (
      arith,
      length-append (map flight_code flight) (replicate (8 - length flight) 32),
      length-map flight flight_code,
      length-replicate {A = ℕ} (8 - length flight) 32,
    )

pub eight_codes : (flight : List ℕ) → IsFlight flight
    → pos (get_or (flight_codes flight) 0 0) ∷ pos (get_or (flight_codes flight) 1 0) ∷ pos (get_or (flight_codes flight) 2 0) ∷ pos (get_or (flight_codes flight) 3 0)
    ∷ pos (get_or (flight_codes flight) 4 0) ∷ pos (get_or (flight_codes flight) 5 0) ∷ pos (get_or (flight_codes flight) 6 0) ∷ pos (get_or (flight_codes flight) 7 0) ∷ []
    ≡ map pos (flight_codes flight)
eight_codes flight is = eight (flight_codes flight) (length-flight_codes flight is.few)
