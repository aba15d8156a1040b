-- Right fields of a sample line give a sample.
use Rattle.std.proofs.Common.{◌≡◌, ◌-◌, ◌<◌, ℕ, ℤ, suc, pos, List, drop, get_or, length, length-drop, lit<, map, refl, sym, ap, ◌∙◌, subst, arith, inl, inr}
use Rattle.std.specs.List.{range_with_len}
use Rattle.std.proofs.lemmas.List.FromFn.{get_or-map-range_with_len}
use Rattle.flight_samples.specs.Columns.{IsIn}
use Rattle.flight_samples.specs.Decimals.{IsNumberText}
use Rattle.flight_samples.specs.SampleText.{AreSampleValues, IsValueAt, column_count, range_at, ranges}
use Rattle.flight_samples.specs.Samples.{values_of}
use Rattle.flight_samples.specs.declared.sample.Sample.{Sample as SampleValue}
use Rattle.net_script.specs.Fields.{field_at}
use Rattle.net_script.specs.Forms.{AreRightBefore, HasForm, a_column}
use Rattle.net_script.specs.declared.letter.Letter.TheVariants.{Sample}
use Rattle.net_script.specs.declared.limits.TheConstants.{SAMPLE_FIELDS}
use Rattle.net_script.proofs.Deciding.{IsDecided}
use Rattle.net_script.proofs.EachForm.{each_column}
use Rattle.net_script.proofs.FieldsLaws.{field-drop}

-- ---- a sample of its values

-- The values are in the ranges of their columns.
abbrev AreIn : (ℕ → ℤ) → Type 0
AreIn values = (place : ℕ) → place < column_count → IsIn (range_at place) (values place)

made_of : (values : ℕ → ℤ) → AreIn values → SampleValue
unfolding ranges
made_of values are = record {
  lat = values 0;
  lon = values 1;
  alt = values 2;
  sec = values 3;
  tcas = values 4;
  acc = values 5;
  red = values 6;
  wlat = values 7;
  wlon = values 8;
  walt = values 9;
  eta = values 10;
  nlat = values 11;
  nlon = values 12;
  nalt = values 13;
  tinv = values 14;
  track = values 15;
  gs = values 16;
  vr = values 17;
  hinv = values 18;
  heading = values 19;
  mach = values 20;
  wind = values 21;
  winv = values 22;
  wdir = values 23;
  temp = values 24;
  xtk = values 25;
  lat_range = are 0 (lit< tt);
  lon_range = are 1 (lit< tt);
  alt_range = are 2 (lit< tt);
  sec_range = are 3 (lit< tt);
  tcas_range = are 4 (lit< tt);
  acc_range = are 5 (lit< tt);
  red_range = are 6 (lit< tt);
  wlat_range = are 7 (lit< tt);
  wlon_range = are 8 (lit< tt);
  walt_range = are 9 (lit< tt);
  eta_range = are 10 (lit< tt);
  nlat_range = are 11 (lit< tt);
  nlon_range = are 12 (lit< tt);
  nalt_range = are 13 (lit< tt);
  tinv_range = are 14 (lit< tt);
  track_range = are 15 (lit< tt);
  gs_range = are 16 (lit< tt);
  vr_range = are 17 (lit< tt);
  hinv_range = are 18 (lit< tt);
  heading_range = are 19 (lit< tt);
  mach_range = are 20 (lit< tt);
  wind_range = are 21 (lit< tt);
  winv_range = are 22 (lit< tt);
  wdir_range = are 23 (lit< tt);
  temp_range = are 24 (lit< tt);
  xtk_range = are 25 (lit< tt);
}

values_made : (values : ℕ → ℤ) (are : AreIn values) → values_of (made_of values are) ≡ map values (range_with_len 0 column_count)
unfolding made_of
values_made values are = refl

value_made : (values : ℕ → ℤ) (are : AreIn values) (place : ℕ) → place < column_count
    → get_or (values_of (made_of values are)) place (pos 0) ≡ values place
value_made values are place within =
    ap (λ vs. get_or vs place (pos 0)) (values_made values are)
    ∙ get_or-map-range_with_len values 0 column_count place place (pos 0) within (omega arith)

-- ---- the values of right fields

-- The text writes a number of the column.
abbrev Writes : ℕ → List ℕ → ℤ → Type 0
Writes place text z = IsNumberText (range_at place).low z text × IsIn (range_at place) z

-- The number that the text writes, or 0 where it writes none of the column.
number_in : (place : ℕ) (text : List ℕ) → IsDecided (HasForm (a_column place) text) → ℤ
number_in place text (inl (z, written, inside)) = z
number_in place text (inr none) = pos 0

writes : (place : ℕ) (text : List ℕ) (decided : IsDecided (HasForm (a_column place) text)) → HasForm (a_column place) text
    → Writes place text (number_in place text decided)
unfolding number_in
writes place text (inl (z, written, inside)) has = (written, inside)
writes place text (inr none) has = absurd (none has)

value_of : List (List ℕ) → ℕ → ℤ
value_of fields k = number_in k (field_at fields (suc k)) (each_column (range_at k) (field_at fields (suc k)))

-- Each value is written in its column.
value_is : (fields : List (List ℕ)) → length fields ≡ SAMPLE_FIELDS → AreRightBefore Sample fields (length fields)
    → (k : ℕ) → k < column_count → Writes k (field_at fields (suc k)) (value_of fields k)
unfolding value_of
value_is fields count right k within =
    let back : suc k - 1 ≡ k = omega arith in
    writes k (field_at fields (suc k)) (each_column (range_at k) (field_at fields (suc k)))
    (subst (λ p. HasForm (a_column p) (field_at fields (suc k))) back (right (suc k) (omega arith) (omega (arith, count))))

pub some_sample : (fields : List (List ℕ)) → length fields ≡ SAMPLE_FIELDS → AreRightBefore Sample fields (length fields)
    → (sample : SampleValue) × AreSampleValues (drop 1 fields) (values_of sample)
some_sample fields count right = (
  sample,
  record {
    field_count = omega (arith, count, length-drop 1 fields);
    value_count = refl;
    each = value_at;
  },
)
  where
    are : AreIn (value_of fields)
    are k within = (value_is fields count right k within).1

    sample : SampleValue
    sample = made_of (value_of fields) are

    value_at : (k : ℕ) → k < column_count → IsValueAt (drop 1 fields) k (get_or (values_of sample) k (pos 0))
    value_at k within =
        let value = value_is fields count right k within in
        let written = subst (IsNumberText (range_at k).low (value_of fields k)) (sym (field-drop fields k)) value.0 in
        subst (IsValueAt (drop 1 fields) k) (sym (value_made (value_of fields) are k within))
        (record { written = written; within = value.1 })
