-- The text of a sample: its values as decimal numbers, one in each column, with commas between them. This project's profile.
use Rattle.std.specs.Prelude.{◌≡◌, ◌≢◌, ◌==◌, ◌-◌, ◌<◌, ◌≤◌, ℕ, ℤ, pos, List, All, map, false, length, slice_index_or, []}
use Rattle.std.specs.Fmt.{signed_decimal}
use Rattle.std.specs.List.{join_with_byte, slice_split}
use Rattle.flight_samples.specs.Columns.{Range, IsIn, columns, flags}
use Rattle.flight_samples.specs.Decimals.{IsNumberText, IsIntegerFault}
use Rattle.flight_samples.specs.Samples.{values_of}
use Rattle.flight_samples.specs.declared.decimal.NumberFault.{NumberFault}
use Rattle.flight_samples.specs.declared.sample.Sample.{Sample}
use Rattle.flight_samples.specs.declared.read.SampleRefusal.{SampleRefusal}
use Rattle.flight_samples.specs.declared.read.SampleRefusal.TheVariants.{Count, Column, NoMemory}

-- A byte that may stand in the text: no quote, carriage return or newline, and none above 7E hexadecimal.
abbrev pub IsPlain : ℕ → Type 0
IsPlain byte = (byte ≤ 0x7E) × (byte ≢ 34) × (byte ≢ 13) × (byte ≢ 10)

-- The columns of a text: the pieces between its commas. An empty text has one empty column.
abbrev pub columns_of : List ℕ → List (List ℕ)
columns_of text = slice_split (λ byte. byte == 44) text

-- No byte of the field is a comma.
abbrev pub HasNoComma : List ℕ → Type 0
HasNoComma field = All (λ byte. (byte == 44) ≡ false) field

-- How many columns a sample has.
abbrev pub column_count : ℕ
column_count = 26

-- The ranges of a sample's columns.
unfoldable pub ranges : List Range
ranges = map (λ c. c.range) columns

-- The range of the column at this place, counted from 0.
abbrev pub range_at : ℕ → Range
range_at place = slice_index_or ranges place flags

-- The value z is written at the place, and is in that column's range.
pub record IsValueAt (fields : List (List ℕ)) (place : ℕ) (z : ℤ) : Type 0 where
  pub written : IsNumberText (range_at place).low z (slice_index_or fields place [])
  pub within : IsIn (range_at place) z

-- Why the field at the place gives no value of its column.
abbrev pub IsColumnFault : List (List ℕ) → ℕ → NumberFault → Type 0
IsColumnFault fields place why = IsIntegerFault (range_at place).low (range_at place).high (slice_index_or fields place []) why

-- The fields are the texts of these values, one for each column of a sample.
pub record AreSampleValues (fields : List (List ℕ)) (values : List ℤ) : Type 0 where
  pub field_count : length fields ≡ column_count
  pub value_count : length values ≡ column_count
  pub each : (place : ℕ) → place < column_count → IsValueAt fields place (slice_index_or values place (pos 0))

-- The text is the text of the sample.
abbrev pub IsSampleText : Sample → List ℕ → Type 0
IsSampleText s text = AreSampleValues (columns_of text) (values_of s)

-- The text that is written for a sample: its values as decimal numbers, with commas between them.
abbrev pub sample_text : Sample → List ℕ
sample_text s = join_with_byte 44 (map signed_decimal (values_of s))

-- The field at the place is the first that gives no value, for this reason.
pub record IsFirstBadColumn (fields : List (List ℕ)) (place : ℕ) (why : NumberFault) : Type 0 where
  pub inside : place < column_count
  pub bad : IsColumnFault fields place why
  pub before : (earlier : ℕ) → earlier < place → (z : ℤ) × IsValueAt fields earlier z

-- Why these fields are no sample: they are not as many as a sample has columns, or one of them is the first bad one.
-- Columns are counted from 1.
abbrev pub IsSampleFault : List (List ℕ) → SampleRefusal → Type 0
IsSampleFault fields (Count found) = (found ≡ length fields) × (found ≢ column_count)
IsSampleFault fields (Column index why) =
    (length fields ≡ column_count) × (1 ≤ index) × IsFirstBadColumn fields (index - 1) why
IsSampleFault fields NoMemory = ⊥
