-- Lemmas on the columns of a sample.
use Rattle.std.proofs.Common.{◌≡◌, ◌+◌, ◌-◌, ◌<◌, ◌^◌, ◌&&◌, ℕ, zero, suc, ℤ, pos, negsuc, Bool, true, List, [], ◌∷◌, map, length, get_or, sym, ◌∙◌, ap, refl, subst, arith, w32, w64, to_z, of_z, ◌≤ℤ◌, drop}
use Rattle.std.specs.List.{AllByRecursion}
use Rattle.std.proofs.lemmas.Bool.{and_parts}
use Rattle.std.proofs.lemmas.List.Elements.{All-get_or, All-from_recursion}
use Rattle.std.proofs.lemmas.Int.{ints, to_z-of_z}
use mir.Val.{SFits}
use lib.Signed.{le_z, le_z_yes}
use Rattle.std.proofs.lemmas.Float.{T_from_true}
use Rattle.std.proofs.lemmas.List.{drop_all}
use Rattle.std.proofs.Math.Seq.{drop-cons}
use Rattle.std.proofs.lemmas.List.{get_or-map}
use Rattle.flight_samples.specs.Columns.{Range, IsIn, flags}
use Rattle.flight_samples.specs.SampleText.{IsColumnFault, IsFirstBadColumn, IsValueAt, column_count, ranges, range_at}
use Rattle.flight_samples.specs.declared.decimal.NumberFault.{NumberFault}
use Rattle.flight_samples.specs.declared.columns.Limits.{Limits}

-- The range of a column's limits.
abbrev pub range_of : Limits → Range
range_of l = record { low = l.low; high = l.high }

-- What a read past the end of a table of limits gives.
abbrev pub no_limits : Limits
no_limits = record { low = pos 0; high = pos 0 }

-- Where a table of limits has the ranges of the columns, so has each of its entries.
pub limits_agree : (table : List Limits) (place : ℕ) (d : Limits) → place < length table → map range_of table ≡ ranges
    → range_of (get_or table place d) ≡ range_at place
limits_agree table place d within same =
    sym (get_or-map range_of table place d flags within) ∙ ap (λ rs. get_or rs place flags) same

-- The range lies within the numbers of 32 bits.
abbrev FitsWord : Range → Type 0
FitsWord r = (negsuc (2 ^ 31 - 1) ≤ℤ r.low) × (r.high ≤ℤ pos (2 ^ 31 - 1))

abbrev fits_word : Range → Bool
fits_word r = le_z (negsuc (2 ^ 31 - 1)) r.low && le_z r.high (pos (2 ^ 31 - 1))

abbrev all_fit_word : List Range → Bool
all_fit_word [] = true
all_fit_word (r ∷ rs) = fits_word r && all_fit_word rs

all_fit : (rs : List Range) → all_fit_word rs ≡ true → AllByRecursion FitsWord rs
all_fit [] h = tt
all_fit (r ∷ rs) h =
    let both = and_parts (fits_word r) (all_fit_word rs) h in
    let ends = and_parts (le_z (negsuc (2 ^ 31 - 1)) r.low) (le_z r.high (pos (2 ^ 31 - 1))) both.0 in
    ((le_z_yes (T_from_true _ ends.0), le_z_yes (T_from_true _ ends.1)), all_fit rs both.1)

ranges_fit : (place : ℕ) → place < column_count → FitsWord (range_at place)
unfolding ranges
ranges_fit place within = All-get_or FitsWord ranges place flags within (All-from_recursion FitsWord ranges (all_fit ranges refl))

fits_between : (z : ℤ) → negsuc (2 ^ 31 - 1) ≤ℤ z → z ≤ℤ pos (2 ^ 31 - 1) → SFits w32 z
fits_between (pos n) low high = record { sfits = omega (arith, ints, high) }
fits_between (negsuc n) low high = record { sfits = omega (arith, ints, low) }

wider : (z : ℤ) → SFits w32 z → SFits w64 z
wider (pos n) fits = record { sfits = omega (arith, fits.sfits) }
wider (negsuc n) fits = record { sfits = omega (arith, fits.sfits) }

-- The values are each in its column's range.
abbrev pub InRanges : List ℤ → Type 0
InRanges values = (place : ℕ) → place < column_count → IsIn (range_at place) (get_or values place (pos 0))

-- So each value is the same after a move through a word of 32 bits.
kept : (values : List ℤ) → InRanges values → (place : ℕ) → place < column_count
    → to_z w32 (of_z w32 (get_or values place (pos 0))) ≡ get_or values place (pos 0)
kept values in_ranges place within =
    let fit = ranges_fit place within in
    let at = in_ranges place within in
    to_z-of_z w32 _ (fits_between (get_or values place (pos 0)) (omega (arith, ints, fit.0, at.0)) (omega (arith, ints, fit.1, at.1)))

-- So is a single value of a column.
pub kept_value : (z : ℤ) (place : ℕ) → place < column_count → IsIn (range_at place) z → to_z w32 (of_z w32 z) ≡ z
kept_value z place within at =
    let fit = ranges_fit place within in
    to_z-of_z w32 z (fits_between z (omega (arith, ints, fit.0, at.0)) (omega (arith, ints, fit.1, at.1)))

-- It fits a word of 64 bits too.
pub in_word : (values : List ℤ) → InRanges values → (place : ℕ) → place < column_count → SFits w64 (get_or values place (pos 0))
in_word values in_ranges place within =
    let fit = ranges_fit place within in
    let at = in_ranges place within in
    wider (get_or values place (pos 0)) (fits_between (get_or values place (pos 0)) (omega (arith, ints, fit.0, at.0)) (omega (arith, ints, fit.1, at.1)))

pub kept_in_range : (values : List ℤ) → InRanges values → (place : ℕ) → place < column_count
    → IsIn (range_at place) (to_z w32 (of_z w32 (get_or values place (pos 0))))
kept_in_range values in_ranges place within = rw (kept values in_ranges place within) (in_ranges place within)

-- The values at the next n places from a place on.
abbrev values_from : List ℤ → ℕ → ℕ → List ℤ
values_from values place zero = []
values_from values place (suc n) = to_z w32 (of_z w32 (get_or values place (pos 0))) ∷ values_from values (suc place) n

values_from_are : (values : List ℤ) (place n : ℕ)
    → ((k : ℕ) → k < length values → to_z w32 (of_z w32 (get_or values k (pos 0))) ≡ get_or values k (pos 0))
    → length values ≡ place + n → values_from values place n ≡ drop place values
values_from_are values place zero same size = sym (drop_all place values (omega arith))
values_from_are values place (suc n) same size =
    let within : place < length values = omega arith in
    ap (λ z. z ∷ values_from values (suc place) n) (same place within)
    ∙ ap (λ rest. get_or values place (pos 0) ∷ rest) (values_from_are values (suc place) n same (size ∙ omega arith))
    ∙ sym (drop-cons values place (pos 0) within)

-- The values of a sample that is made of a list of values are the list.
pub kept_values : (values : List ℤ) → length values ≡ column_count → InRanges values → values_from values 0 column_count ≡ values
kept_values values size in_ranges =
    values_from_are values 0 column_count (λ k within. kept values in_ranges k (omega arith)) size

-- The first bad column, where a loop has read those before it.
pub bad_at : (fields : List (List ℕ)) (values : List ℤ) (place : ℕ) (why : NumberFault) → place < column_count → IsColumnFault fields place why
    → ((earlier : ℕ) → earlier < place → IsValueAt fields earlier (get_or values earlier (pos 0)))
    → IsFirstBadColumn fields (place + 1 - 1) why
bad_at fields values place why inside bad read =
    let e : place ≡ place + 1 - 1 = omega arith in
    subst (λ p. IsFirstBadColumn fields p why) e
    (record { inside = inside; bad = bad; before = λ earlier below. (get_or values earlier (pos 0), read earlier below) })
