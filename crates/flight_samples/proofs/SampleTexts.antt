-- A sample has one text: its values as std writes them, with commas between them.
use Rattle.std.proofs.Common.{◌≡◌, ◌↔◌, ◌<◌, ℕ, zero, suc, ℤ, pos, negsuc, List, [], ◌∷◌, map, length, get_or, refl, sym, ◌∙◌, ap, subst, arith, eqb, false, ◌==◌}
use Rattle.std.proofs.lemmas.Bool.{ne_eqb}
use Rattle.std.proofs.lemmas.Int.{ints}
use Rattle.std.specs.List.{All, AllZip, join_with_byte}
use Rattle.std.specs.Fmt.{decimal, signed_decimal}
use Rattle.std.specs.Prelude.{FitsSigned}
use Rattle.std.specs.Int.{w64}
use Rattle.std.specs.Str.Parse.{AllDigits}
use Rattle.std.proofs.lemmas.Fmt.{decimal_is_IsNumeral}
use Rattle.std.proofs.lemmas.Str.Parse.{digit_at}
use Rattle.std.proofs.lemmas.List.{same_lists, get_or_default, get_or-map, length-map}
use Rattle.std.proofs.lemmas.List.Elements.{All-cons, All-from_get_or, All-head, All-tail}
use Rattle.std.proofs.lemmas.List.Splits.{slice_split_at, slice_split_none, join_with_byte-slice_split}
use Rattle.flight_samples.specs.Columns.{Range, IsIn, flags}
use Rattle.flight_samples.specs.Decimals.{IsIntegerText}
use Rattle.flight_samples.specs.SampleText.{AreSampleValues, IsSampleText, IsValueAt, column_count, columns_of, ranges, sample_text}
use Rattle.flight_samples.specs.Samples.{values_of}
use Rattle.flight_samples.specs.declared.sample.Sample.{Sample}
use Rattle.flight_samples.proofs.ColumnLemmas.{InRanges, in_word}
use Rattle.flight_samples.proofs.DecimalTexts.{integer_text-signed_decimal, signed_decimal_from_integer_text}

-- The text that std's decimals write for the values of a sample.
abbrev written : List ℤ → List ℕ
written values = join_with_byte 44 (map signed_decimal values)

-- A byte that is no comma.
abbrev NoComma : ℕ → Type 0
NoComma byte = eqb byte 44 ≡ false

digits_no_comma : (digits : List ℕ) → AllDigits 10 digits → All NoComma digits
digits_no_comma digits are = All-from_get_or NoComma digits 0 (λ i within.
    ne_eqb (get_or digits i 0) 44 (λ e. absurd (omega (arith, e, (digit_at digits i are within).0))))

decimal_no_comma : (z : ℤ) → FitsSigned w64 z → All NoComma (signed_decimal z)
decimal_no_comma (pos n) small = digits_no_comma (decimal n) (decimal_is_IsNumeral n (omega (arith, small.sfits))).0.1
decimal_no_comma (negsuc n) small =
    All-cons NoComma 45 (decimal (suc n)) refl (digits_no_comma (decimal (suc n)) (decimal_is_IsNumeral (suc n) (omega (arith, small.sfits))).0.1)

-- Pieces without commas are the columns of the text that they are joined to.
columns_of-join : (z : ℤ) (zs : List ℤ) → All (λ x. FitsSigned w64 x) (z ∷ zs) → columns_of (written (z ∷ zs)) ≡ map signed_decimal (z ∷ zs)
columns_of-join z [] small =
    slice_split_none (λ b. b == 44) (signed_decimal z) (decimal_no_comma z (All-head (λ x. FitsSigned w64 x) z [] small))
columns_of-join z (y ∷ ys) small =
    slice_split_at (λ b. b == 44) (signed_decimal z) 44 (written (y ∷ ys)) (decimal_no_comma z (All-head (λ x. FitsSigned w64 x) z (y ∷ ys) small)) refl
    ∙ ap (λ rest. signed_decimal z ∷ rest) (columns_of-join y ys (All-tail (λ x. FitsSigned w64 x) z (y ∷ ys) small))

zip_at : (rs : List Range) (zs : List ℤ) → AllZip IsIn rs zs → (k : ℕ) → k < length rs → IsIn (get_or rs k flags) (get_or zs k (pos 0))
zip_at [] [] all k within = absurd (omega arith)
zip_at [] (z ∷ zs) all k within = absurd all
zip_at (r ∷ rs) [] all k within = absurd all
zip_at (r ∷ rs) (z ∷ zs) all zero within = all.0
zip_at (r ∷ rs) (z ∷ zs) all (suc k) within = zip_at rs zs all.1 k (omega arith)

-- The values of a sample are in their ranges.
in_ranges : (s : Sample) → InRanges (values_of s)
unfolding ranges
in_ranges s place within = zip_at ranges (values_of s) (s.lat_range, (s.lon_range, (s.alt_range, (s.sec_range, (s.tcas_range, (s.acc_range, (s.red_range, (s.wlat_range, (s.wlon_range, (s.walt_range, (s.eta_range, (s.nlat_range, (s.nlon_range, (s.nalt_range, (s.tinv_range, (s.track_range, (s.gs_range, (s.vr_range, (s.hinv_range, (s.heading_range, (s.mach_range, (s.wind_range, (s.winv_range, (s.wdir_range, (s.temp_range, (s.xtk_range, tt)))))))))))))))))))))))))) place within

sizes : (values : List ℤ) → length values ≡ column_count → InRanges values → All (λ x. FitsSigned w64 x) values
sizes values count inside_ranges = All-from_get_or (λ x. FitsSigned w64 x) values (pos 0) (λ i within. in_word values inside_ranges i (omega arith))

value_at : (values : List ℤ) → length values ≡ column_count → InRanges values → (place : ℕ) → place < column_count
    → IsValueAt (map signed_decimal values) place (get_or values place (pos 0))
value_at values count inside_ranges place within =
    let z = get_or values place (pos 0) in
    let at = inside_ranges place within in
    let text = integer_text-signed_decimal z (in_word values inside_ranges place within) in
    let inside : place < length values = omega arith in
    record {
      written = record {
        written = subst (IsIntegerText z) (sym (get_or-map signed_decimal values place (pos 0) [] inside)) text;
        sign = λ low. omega (arith, ints, low, at.0);
      };
      within = at;
    }

-- Values in their ranges are read from the text that is written for them.
values-written : (values : List ℤ) → length values ≡ column_count → InRanges values → AreSampleValues (columns_of (written values)) values
values-written [] count inside_ranges = absurd (omega arith)
values-written (z ∷ zs) count inside_ranges =
    subst (λ fields. AreSampleValues fields (z ∷ zs)) (sym (columns_of-join z zs (sizes (z ∷ zs) count inside_ranges)))
    (record {
      field_count = length-map (z ∷ zs) signed_decimal ∙ count;
      value_count = count;
      each = value_at (z ∷ zs) count inside_ranges;
    })

-- And no other text gives these values.
written_from_values : (values : List ℤ) (text : List ℕ) → AreSampleValues (columns_of text) values → text ≡ written values
written_from_values values text are =
    let count : length (columns_of text) ≡ length (map signed_decimal values) = are.field_count ∙ sym (length-map values signed_decimal ∙ are.value_count) in
    sym (join_with_byte-slice_split 44 text)
    ∙ ap (join_with_byte 44) (same_lists (columns_of text) (map signed_decimal values) count (λ k d within.
    let place : k < column_count = omega (arith, are.field_count) in
    let inside : k < length values = omega (arith, are.value_count) in
    let inside_ranges : InRanges values = λ p below. (are.each p below).within in
    get_or_default (columns_of text) k d [] within
    ∙ signed_decimal_from_integer_text (get_or values k (pos 0)) (get_or (columns_of text) k []) (in_word values inside_ranges k place) (are.each k place).written.written
    ∙ sym (get_or-map signed_decimal values k (pos 0) d inside)))

-- The text that is written for a sample is its text, and it has no other.
pub one_text : (s : Sample) (text : List ℕ) → IsSampleText s text ↔ (text ≡ sample_text s)
one_text s text =
    (written_from_values (values_of s) text, λ is. subst (IsSampleText s) (sym is) (values-written (values_of s) refl (in_ranges s)))
