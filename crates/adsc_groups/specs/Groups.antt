-- The report groups by their tags (RTCA DO-258A / EUROCAE ED-100A for the tags; the layout is this project's profile).
use Rattle.std.specs.Prelude.{◌≡◌, ℕ, ℤ, Bool, false, List, ◌||◌, ◌&&◌, ◌==◌, ◌⊎◌, nat_le, IsTrue, Result, Ok, Err, if◌then◌else◌}
use Rattle.bit_terms.specs.Reading.{Unread, refused_as, ◌>>=◌}
use Rattle.adsc_groups.specs.Fields.{Field, Encodes, FitFields, WereRead, IsFirstCut, fields_bits, fields_at}
use Rattle.adsc_groups.specs.Tables.{flight_id_fields, route_fields, motion_fields, weather_fields, airframe_fields, intermediate_fields, fixed_fields}
use Rattle.adsc_groups.specs.declared.refusal.GroupWhy.TheVariants as why
use Rattle.adsc_groups.specs.declared.refusal.GroupRefusal.{GroupRefusal}

-- A group as plain numbers: its tag, and the values of its fields in the order of its table.
pub record GroupData : Type 0 where
  pub tag : ℕ
  pub values : List ℤ

-- The tags of groups are 12 to 17, 22 and 23.
abbrev pub is_group_tag : ℕ → Bool
is_group_tag tag = nat_le 12 tag && nat_le tag 17 || tag == 22 || tag == 23

abbrev pub IsGroupTag : ℕ → Type 0
IsGroupTag tag = IsTrue (is_group_tag tag)

-- The fields of the group with this tag. For a number that is no group's tag it says nothing.
abbrev pub group_fields : ℕ → List Field
group_fields tag =
    if tag == 12 then flight_id_fields else if tag == 13 then route_fields else if tag == 14 then motion_fields else if tag == 15 then motion_fields
    else if tag == 16 then weather_fields else if tag == 17 then airframe_fields else if tag == 22 then intermediate_fields else fixed_fields

-- The group's values fit its fields.
abbrev pub FitsGroup : GroupData → Type 0
FitsGroup group = IsGroupTag group.tag × FitFields (group_fields group.tag) group.values

-- These bits encode the group's data, without its tag, whatever the padding.
abbrev pub EncodesGroup : GroupData → List Bool → Type 0
EncodesGroup group bits = IsGroupTag group.tag × Encodes (group_fields group.tag) group.values bits

-- The canonical encoding of the group's data, without its tag: padding is zeros.
unfoldable pub group_bits : GroupData → List Bool
group_bits group = fields_bits (group_fields group.tag) group.values

-- ---- reading

-- A group with this tag was read: the bits that are no longer left encode its data, whatever the padding.
abbrev pub GroupWasRead : ℕ → GroupData → Unread → Unread → Type 0
GroupWasRead tag group old new = IsGroupTag tag × (group.tag ≡ tag) × WereRead (group_fields tag) group.values old new

-- No group with this tag is wholly there: the tag is no group's, or the first field that isn't wholly there begins at the refusal's place.
abbrev pub IsGroupRefusal : ℕ → Unread → GroupRefusal → Type 0
IsGroupRefusal tag unread refusal =
    ((is_group_tag tag ≡ false) × (refusal ≡ record { bit = unread.at; why = why.Tag }))
    ⊎ (IsGroupTag tag × (refusal.why ≡ why.Short) × IsFirstCut (group_fields tag) unread refusal.bit)

-- Reading the data of the group with this tag, as a function.
unfoldable pub group_at : ℕ → Unread → Result (GroupData × Unread) GroupRefusal
group_at tag unread =
    if is_group_tag tag then
    refused_as (λ bit. record { bit = bit; why = why.Short }) (fields_at (group_fields tag) unread >>= λ values. Ok (record { tag = tag; values = values.0 }, values.1))
    else Err (record { bit = unread.at; why = why.Tag })
