-- Decimal numbers as texts, this project's profile: digits without a leading zero, and a `-` before them for a number below 0.
use Rattle.std.specs.Prelude.{◌≡◌, ◌⊎◌, ◌+◌, ◌<◌, ℕ, ℤ, pos, negsuc, neg_ℤ, List, ◌∷◌, length, slice_index}
use Rattle.std.specs.Prelude.{◌≤ℤ◌, ◌<ℤ◌}
use Rattle.std.specs.Str.Parse.{IsNumeral, digits_value}
use Rattle.flight_samples.specs.declared.decimal.NumberFault.{NumberFault}
use Rattle.flight_samples.specs.declared.decimal.NumberFault.TheVariants.{NotNumber, Range}

-- The text has one digit or more and nothing else, and begins with 0 only where that is all of it.
pub record IsNaturalForm (text : List ℕ) : Type 0 where
  pub numeral : IsNumeral 10 text
  pub no_leading_zero : slice_index text 0 ≡ 48 → length text ≡ 1

-- The text is the decimal text of the natural number n.
pub record IsNaturalText (n : ℕ) (text : List ℕ) : Type 0 where
  pub form : IsNaturalForm text
  pub value : digits_value 10 text ≡ n

-- The text is the decimal text of the integer: below 0 it is `-` and the text of the number without its sign, so `-0` is none.
abbrev pub IsIntegerText : ℤ → List ℕ → Type 0
IsIntegerText (pos n) text = IsNaturalText n text
IsIntegerText (negsuc n) text = (digits : List ℕ) × (text ≡ 45 ∷ digits) × IsNaturalText (n + 1) digits

-- Why a text is no natural number from low to high: it is the text of no number, or of one outside.
abbrev pub IsNaturalFault : ℕ → ℕ → List ℕ → NumberFault → Type 0
IsNaturalFault low high text NotNumber = (n : ℕ) → ¬ IsNaturalText n text
IsNaturalFault low high text Range = (n : ℕ) × IsNaturalText n text × ((n < low) ⊎ (high < n))

-- The text is the text of the integer z in the form that numbers from low on have: with a `-` only where low is below 0.
pub record IsNumberText (low z : ℤ) (text : List ℕ) : Type 0 where
  pub written : IsIntegerText z text
  pub sign : (pos 0 ≤ℤ low) → (pos 0 ≤ℤ z)

-- Why a text is no integer from low to high: it is the text of no number by the form, or of one outside.
abbrev pub IsIntegerFault : ℤ → ℤ → List ℕ → NumberFault → Type 0
IsIntegerFault low high text NotNumber = (z : ℤ) → ¬ IsNumberText low z text
IsIntegerFault low high text Range = (z : ℤ) × IsNumberText low z text × ((z <ℤ low) ⊎ (high <ℤ z))

-- z and v are equal, or both at or above the limit, or both at or below minus the limit.
abbrev pub AgreeWithin : ℕ → ℤ → ℤ → Type 0
AgreeWithin limit z v =
    (z ≡ v) ⊎ (((pos limit ≤ℤ z) × (pos limit ≤ℤ v)) ⊎ ((z ≤ℤ neg_ℤ (pos limit)) × (v ≤ℤ neg_ℤ (pos limit))))
