-- A table of fields, and what it says of bits: which bits encode which values, which encoding is the canonical one, and where a message is cut
-- short. The order of the basic data's fields is that of RTCA DO-258A / EUROCAE ED-100A and ARINC 745; all else of fields, and the canonical
-- encoding, is this project's profile.
use Rattle.std.specs.Prelude.{◌≡◌, ℕ, ◌+◌, ◌^◌, ◌<◌, ◌≤◌, ℤ, pos, unsigned_abs, Bool, List, [], ◌∷◌, ◌++◌, length, Result, Ok}
use Rattle.bit_terms.specs.Bits.{unsigned_bits}
use Rattle.bit_terms.specs.Signed.{signed_bits, FitsSigned}
use Rattle.bit_terms.specs.Reading.{Unread, taken, taken_signed, ◌>>=◌}

-- A field of so many bits: a number from 0 up, a signed number in two's complement, or padding, which has no value.
pub data Field : Type 0 where
  number signed padding : ℕ → Field

abbrev pub width_of : Field → ℕ
width_of (number width) = width
width_of (signed width) = width
width_of (padding width) = width

-- How many bits the fields have together.
abbrev pub size_of : List Field → ℕ
size_of [] = 0
size_of (field ∷ fields) = width_of field + size_of fields

-- ---- encodings

-- These bits encode these values in one field. Padding has no value, and any bits.
abbrev pub EncodesField : Field → List ℤ → List Bool → Type 0
EncodesField (number width) values bits = (n : ℕ) × (n < 2 ^ width) × (values ≡ pos n ∷ []) × (bits ≡ unsigned_bits width n)
EncodesField (signed width) values bits = (z : ℤ) × FitsSigned width z × (values ≡ z ∷ []) × (bits ≡ signed_bits width z)
EncodesField (padding width) values bits = (values ≡ []) × (length bits ≡ width)

-- These bits encode these values in the fields, one field after the other, and nothing else.
abbrev pub Encodes : List Field → List ℤ → List Bool → Type 0
Encodes [] values bits = (values ≡ []) × (bits ≡ [])
Encodes (field ∷ fields) values bits =
    (value : List ℤ) × (others : List ℤ) × (front : List Bool) × (back : List Bool) × (values ≡ value ++ others) × (bits ≡ front ++ back) × EncodesField field value front × Encodes fields others back

-- Each value fits its field, and there is a value for each field but the padding.
abbrev pub FitFields : List Field → List ℤ → Type 0
FitFields [] values = values ≡ []
FitFields (number width ∷ fields) values = (n : ℕ) × (others : List ℤ) × (n < 2 ^ width) × (values ≡ pos n ∷ others) × FitFields fields others
FitFields (signed width ∷ fields) values = (z : ℤ) × (others : List ℤ) × FitsSigned width z × (values ≡ z ∷ others) × FitFields fields others
FitFields (padding width ∷ fields) values = FitFields fields values

-- The canonical encoding of the values: padding is zeros.
abbrev pub fields_bits : List Field → List ℤ → List Bool
fields_bits [] values = []
fields_bits (padding width ∷ fields) values = unsigned_bits width 0 ++ fields_bits fields values
fields_bits (number width ∷ fields) [] = []
fields_bits (number width ∷ fields) (value ∷ values) = unsigned_bits width (unsigned_abs value) ++ fields_bits fields values
fields_bits (signed width ∷ fields) [] = []
fields_bits (signed width ∷ fields) (value ∷ values) = signed_bits width value ++ fields_bits fields values

-- ---- reading

-- These values were read: the bits that are no longer left encode them, whatever the padding.
abbrev pub WereRead : List Field → List ℤ → Unread → Unread → Type 0
WereRead fields values old new = (bits : List Bool) × Encodes fields values bits × (old.left ≡ bits ++ new.left) × (new.at ≡ old.at + size_of fields)

-- What is left is cut short, and this is the place of the first bit of the first field that isn't wholly there.
abbrev pub IsFirstCut : List Field → Unread → ℕ → Type 0
IsFirstCut fields unread bit =
    (before : List Field) × (field : Field) × (behind : List Field) × (fields ≡ before ++ field ∷ behind) × (bit ≡ unread.at + size_of before)
    × (size_of before ≤ length unread.left) × (length unread.left < size_of before + width_of field)

-- Reading one field.
abbrev pub field_at : Field → Unread → Result (List ℤ × Unread) ℕ
field_at (number width) unread = do
  n ← taken width unread
  Ok (pos n.0 ∷ [], n.1)
field_at (signed width) unread = do
  z ← taken_signed width unread
  Ok (z.0 ∷ [], z.1)
field_at (padding width) unread = do
  n ← taken width unread
  Ok ([], n.1)

-- Reading the fields, one after the other.
unfoldable pub fields_at : List Field → Unread → Result (List ℤ × Unread) ℕ
fields_at [] unread = Ok ([], unread)
fields_at (field ∷ fields) unread = do
  value ← field_at field unread
  others ← fields_at fields value.1
  Ok (value.0 ++ others.0, others.1)
