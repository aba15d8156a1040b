-- The bytes of the lines that are made: none of them is a newline, and they are few.
use Rattle.std.proofs.Common.{◌≡◌, ◌≢◌, ℕ, suc, ◌*◌, ◌==◌, ◌<◌, ◌≤◌, ◌^◌, ℤ, pos, negsuc, Bool, true, false, not, List, [], ◌∷◌, All, length, get_or, flat_map, sym, ◌∙◌, ap, arith, length-append}
use Rattle.std.specs.Prelude.{◌≤ℤ◌, decimal}
use Rattle.std.specs.Fmt.{signed_decimal}
use Rattle.std.specs.Int.Signed.{mag}
use Rattle.std.specs.List.{AllByRecursion, list_all}
use Rattle.std.proofs.lemmas.Fmt.{decimal_is_IsNumeral, length-decimal-le, length_signed_le}
use Rattle.std.proofs.lemmas.Int.{ints}
use Rattle.std.proofs.lemmas.List.Elements.{All-append, All-cons, All-from_get_or, All-nil}
use Rattle.std.proofs.lemmas.List.Sums.{AllPass-from_list_all}
use Rattle.std.proofs.lemmas.Str.Parse.{digit_at}
use Rattle.adsc_io.specs.Lines.{IsUnbroken}
use Rattle.generated_scripts.specs.Limits.{IsSampleWithin}
use Rattle.generated_scripts.specs.Texts.{column_field, sample_columns}
use Rattle.generated_scripts.specs.declared.line.MadeSample.{MadeSample}

-- ---- texts by computation

abbrev is_no_newline : ℕ → Bool
is_no_newline byte = not (byte == 10)

-- A text of which each byte passes the test has no newline.
pub unbroken_by : (text : List ℕ) → list_all is_no_newline text ≡ true → IsUnbroken text
unbroken_by text passes k d below newline =
    let is = AllPass-from_list_all is_no_newline text passes k d below in
    let both : true ≡ false = sym is ∙ ap is_no_newline newline in cc

-- ---- numbers

-- What holds of each digit holds of all bytes of a number.
pub decimal_all : (P : ℕ → Type 0) → ((c : ℕ) → 48 ≤ c → c ≤ 57 → P c) → (n : ℕ) → n < 2 ^ 64 → All P (decimal n)
decimal_all P each n small =
    let are = (decimal_is_IsNumeral n small).0.1 in
    All-from_get_or P (decimal n) 0 (λ i within. let here = digit_at (decimal n) i are within in each (get_or (decimal n) i 0) here.0 here.1)

-- A column's value isn't great.
abbrev pub IsSmall : ℤ → Type 0
IsSmall z = mag z ≤ 1048576

pub signed_all : (P : ℕ → Type 0) → ((c : ℕ) → 48 ≤ c → c ≤ 57 → P c) → P 45 → (z : ℤ) → IsSmall z → All P (signed_decimal z)
signed_all P each sign (pos n) small = decimal_all P each n (omega (arith, small))
signed_all P each sign (negsuc n) small = All-cons P 45 (decimal (suc n)) sign (decimal_all P each (suc n) (omega (arith, small)))

signed_short : (z : ℤ) → IsSmall z → length (signed_decimal z) ≤ 11
signed_short z small = length_signed_le 10 z (omega (arith, small)) (omega (arith, small))

-- ---- columns

small_within : (l h : ℕ) (z : ℤ) → l ≤ 1048575 → h ≤ 1048576 → negsuc l ≤ℤ z → z ≤ℤ pos h → IsSmall z
small_within l h (pos n) low high above below = omega (arith, ints, low, high, above, below)
small_within l h (negsuc n) low high above below = omega (arith, ints, low, high, above, below)

zero_small : IsSmall (pos 0)
zero_small = omega arith

pub columns_small : (s : MadeSample) → IsSampleWithin s → AllByRecursion IsSmall (sample_columns s)
columns_small s is = (
  lat,
  (
    lon,
    (
      alt,
      (
        zero_small,
        (
          zero_small,
          (
            zero_small,
            (
              zero_small,
              (
                wlat,
                (
                  zero_small,
                  (
                    zero_small,
                    (
                      zero_small,
                      (
                        zero_small,
                        (
                          zero_small,
                          (
                            zero_small,
                            (zero_small, (zero_small, (zero_small, (vr, (zero_small, (zero_small, (zero_small, (zero_small, (zero_small, (zero_small, (zero_small, (xtk, tt)))))))))))),
                          ),
                        ),
                      ),
                    ),
                  ),
                ),
              ),
            ),
          ),
        ),
      ),
    ),
  ),
)
  where
    lat : IsSmall s.lat
    lat = small_within 524287 524288 s.lat (omega arith) (omega arith) is.lat.0 is.lat.1

    lon : IsSmall s.lon
    lon = small_within 1048575 1048575 s.lon (omega arith) (omega arith) is.lon.0 is.lon.1

    alt : IsSmall s.alt
    alt = small_within 32767 32767 s.alt (omega arith) (omega arith) is.alt.0 is.alt.1

    wlat : IsSmall s.wlat
    wlat = small_within 524287 524288 s.wlat (omega arith) (omega arith) is.wlat.0 is.wlat.1

    vr : IsSmall s.vr
    vr = small_within 2047 2047 s.vr (omega arith) (omega arith) is.vr.0 is.vr.1

    xtk : IsSmall s.xtk
    xtk = small_within 32766 32767 s.xtk (omega arith) (omega arith) is.xtk.0 is.xtk.1

-- Columns have no newline, and each has at most 12 bytes.
pub fields_unbroken : (zs : List ℤ) → AllByRecursion IsSmall zs → IsUnbroken (flat_map column_field zs)
fields_unbroken [] all = All-nil (λ byte. byte ≢ 10)
fields_unbroken (z ∷ zs) all =
    All-append (λ byte. byte ≢ 10) (column_field z) (flat_map column_field zs)
    (All-cons (λ byte. byte ≢ 10) 44 (signed_decimal z) (λ e. omega (arith, e)) (signed_all (λ byte. byte ≢ 10) (λ c low high e. omega (arith, low, e)) (λ e. omega (arith, e)) z all.0))
    (fields_unbroken zs all.1)

pub fields_short : (zs : List ℤ) → AllByRecursion IsSmall zs → length (flat_map column_field zs) ≤ 12 * length zs
fields_short [] all = omega arith
fields_short (z ∷ zs) all =
    omega (arith, length-append (column_field z) (flat_map column_field zs), signed_short z all.0, fields_short zs all.1)

pub moment_short : (t : ℕ) → t ≤ 999999999 → length (decimal t) ≤ 9
moment_short t few = length-decimal-le 9 t (omega arith) (omega (arith, few)) (omega (arith, few))
