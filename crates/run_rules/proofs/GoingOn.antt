-- Readings and allowed orders, when more lines come.
use Rattle.std.proofs.Common.{◌≡◌, ◌⊎◌, ◌<◌, ◌-◌, ◌+◌, ℕ, zero, suc, inl, inr, true, List, [], ◌∷◌, ◌++◌, length, Option, Some, None, slice_get, refl, sym, ap, ◌∙◌, arith, true≢false}
use Rattle.run_rules.specs.Among.{IsAmong}
use Rattle.run_rules.specs.Orders.{IsOrdered, MayPass, is_burst_line, place_on, reading_at}
use Rattle.run_rules.specs.declared.reading.Reading.{Reading}
use Rattle.run_rules.proofs.Members.{among_parts}

-- ---- what stands at a place

pub slice_get-more : {A : Type 0} (front back : List A) (place : ℕ) (item : A) → slice_get front place ≡ Some item → slice_get (front ++ back) place ≡ Some item
slice_get-more [] back place item there = absurd (cc)
slice_get-more (first ∷ front) back zero item there = there
slice_get-more (first ∷ front) back (suc place) item there = slice_get-more front back place item there

pub slice_get-seam : {A : Type 0} (front : List A) (item : A) (back : List A) → slice_get (front ++ item ∷ back) (length front) ≡ Some item
slice_get-seam [] item back = refl
slice_get-seam (first ∷ front) item back = slice_get-seam front item back

pub newest_reading : (readings : List Reading) (reading : Reading) (rest : List Reading)
    → reading_at (readings ++ reading ∷ rest) (length readings + 1) ≡ Some reading
newest_reading readings reading rest =
    let place : length readings + 1 - 1 ≡ length readings = omega arith in
    ap (slice_get (readings ++ reading ∷ rest)) place ∙ slice_get-seam readings reading rest

-- ---- readings so far

pub burst_more : (readings rest : List Reading) (number : ℕ) → is_burst_line (reading_at readings number) ≡ true
    → is_burst_line (reading_at (readings ++ rest) number) ≡ true
burst_more readings rest number is_burst = at (reading_at readings number) refl is_burst
  where
    at : (found : Option Reading) → reading_at readings number ≡ found → is_burst_line found ≡ true → is_burst_line (reading_at (readings ++ rest) number) ≡ true
    at None e is_burst = absurd (true≢false (sym is_burst))
    at (Some reading) e is_burst = ap is_burst_line (slice_get-more readings rest (number - 1) reading e) ∙ is_burst

pub place_more : (addresses : List (List ℕ)) (readings rest : List Reading) (number place : ℕ) → place_on addresses (reading_at readings number) ≡ Some place
    → place_on addresses (reading_at (readings ++ rest) number) ≡ Some place
place_more addresses readings rest number place is_place = at (reading_at readings number) refl is_place
  where
    at : (found : Option Reading) → reading_at readings number ≡ found → place_on addresses found ≡ Some place
        → place_on addresses (reading_at (readings ++ rest) number) ≡ Some place
    at None e is_place = absurd (cc)
    at (Some reading) e is_place = ap (place_on addresses) (slice_get-more readings rest (number - 1) reading e) ∙ is_place

-- ---- orders

module _ (addresses : List (List ℕ)) (workers : ℕ) where
  pub pass_more : (readings rest : List Reading) (earlier later : ℕ) → MayPass addresses readings workers earlier later
      → MayPass addresses (readings ++ rest) workers earlier later
  pass_more readings rest earlier later pass =
      record {
        burst = λ number from upto. burst_more readings rest number (pass.burst number from upto);
        one = pass.one;
        other = pass.other;
        earlier_place = place_more addresses readings rest earlier pass.one pass.earlier_place;
        later_place = place_more addresses readings rest later pass.other pass.later_place;
        apart = pass.apart;
      }

  pub ordered_more : (readings rest : List Reading) (order : List ℕ) → IsOrdered addresses readings workers order
      → IsOrdered addresses (readings ++ rest) workers order
  ordered_more readings rest [] ordered = tt
  ordered_more readings rest (first ∷ order) ordered =
      (λ number among. at number (ordered.0 number among), ordered_more readings rest order ordered.1)
    where
      at : (number : ℕ) → (first < number) ⊎ ((number < first) × MayPass addresses readings workers number first)
          → (first < number) ⊎ ((number < first) × MayPass addresses (readings ++ rest) workers number first)
      at number (inl before) = inl before
      at number (inr passes) = inr (passes.0, pass_more readings rest number first passes.1)

  -- Behind an order all of whose lines are earlier another goes on.
  pub ordered_behind : (readings : List Reading) (order later : List ℕ) → IsOrdered addresses readings workers order → IsOrdered addresses readings workers later
      → ((earlier number : ℕ) → IsAmong earlier order → IsAmong number later → earlier < number)
      → IsOrdered addresses readings workers (order ++ later)
  ordered_behind readings [] later ordered behind above = behind
  ordered_behind readings (first ∷ order) later ordered behind above = (
    λ number among. at number (among_parts number order later among),
    ordered_behind readings order later ordered.1 behind (λ earlier number early late. above earlier number (inr early) late),
  )
    where
      at : (number : ℕ) → IsAmong number order ⊎ IsAmong number later → (first < number) ⊎ ((number < first) × MayPass addresses readings workers number first)
      at number (inl among) = ordered.0 number among
      at number (inr among) = inl (above first number (inl refl) among)
