-- Reading a downlink as a function of what is left to read: the value with what is then left, or the first refusal. It serves the contracts of the
-- decoder's private functions alone: what a downlink is stands in Encodings, and what its first fault is in Faults, apart from it.
use Rattle.std.specs.Prelude.{ℕ, suc, zero, ℤ, pos, unsigned_abs, Bool, List, [], ◌∷◌, ◌&&◌, ◌==◌, nat_le, nat_lt, length, take, get_or, Result, Ok, Err, if◌then◌else◌}
use Rattle.bit_terms.specs.Octets.{number_spelled}
use Rattle.bit_terms.specs.Reading.{Unread, taken, refused_as, ◌>>=◌}
use Rattle.adsc_groups.specs.Fields.{fields_at}
use Rattle.adsc_groups.specs.Basic.{BasicData, basic_fields}
use Rattle.adsc_groups.specs.Groups.{GroupData, is_group_tag, group_at}
use Rattle.contract_rules.specs.Reasons.{names_octet}
use Rattle.adsc_downlink.specs.Codes.{is_report_tag, is_item_tag, item_tests}
use Rattle.adsc_downlink.specs.Items.{ReportData, ItemData}
use Rattle.adsc_downlink.specs.Items.ItemData.{ack, nack, noncompliance, emergency_off, report}
use Rattle.adsc_downlink.specs.Refusals.{short_at, tag_at, value_at, many_at, as_refusal}
use Rattle.adsc_downlink.specs.declared.refusal.DownRefusal.{DownRefusal}

-- ---- octets

-- An octet of any value.
abbrev pub octet_at : Unread → Result (ℕ × Unread) DownRefusal
octet_at unread = refused_as short_at (taken 8 unread)

-- An octet that must pass a test.
abbrev pub octet_where : (ℕ → Bool) → Unread → Result (ℕ × Unread) DownRefusal
octet_where test unread = do
  octet ← octet_at unread
  if test octet.0 then Ok octet else Err (value_at unread.at)

-- Octets, each of which must pass its test.
unfoldable pub octets_where : List (ℕ → Bool) → Unread → Result (List ℕ × Unread) DownRefusal
octets_where [] unread = Ok ([], unread)
octets_where (test ∷ tests) unread = do
  octet ← octet_where test unread
  others ← octets_where tests octet.1
  Ok (octet.0 ∷ others.0, others.1)

-- Whether an octet that passes the test stands next.
abbrev pub begins : (ℕ → Bool) → Unread → Bool
begins test unread = nat_le 8 (length unread.left) && test (number_spelled (take 8 unread.left))

-- ---- reports

-- The values of the fields as basic data.
abbrev pub basic_from : List ℤ → BasicData
basic_from values = record {
  lat = get_or values 0 (pos 0);
  lon = get_or values 1 (pos 0);
  alt = get_or values 2 (pos 0);
  sec = unsigned_abs (get_or values 3 (pos 0));
  tcas = unsigned_abs (get_or values 4 (pos 0));
  accuracy = unsigned_abs (get_or values 5 (pos 0));
  redundancy = unsigned_abs (get_or values 6 (pos 0));
}

unfoldable pub basic_at : Unread → Result (BasicData × Unread) DownRefusal
basic_at unread = do
  values ← refused_as short_at (fields_at basic_fields unread)
  Ok (basic_from values.0, values.1)

-- A group behind its tag.
unfoldable pub tagged_group_at : Unread → Result (GroupData × Unread) DownRefusal
tagged_group_at unread = do
  tag ← octet_at unread
  refused_as as_refusal (group_at tag.0 tag.1)

-- Groups while the octet of a group's tag stands next, at most so many.
unfoldable pub groups_at : ℕ → Unread → Result (List GroupData × Unread) DownRefusal
groups_at zero unread = if begins is_group_tag unread then Err (many_at unread.at) else Ok ([], unread)
groups_at (suc room) unread =
    if begins is_group_tag unread then
    (tagged_group_at unread >>= λ group. groups_at room group.1 >>= λ others. Ok (group.0 ∷ others.0, others.1))
    else Ok ([], unread)

unfoldable pub report_at : ℕ → Unread → Result (ReportData × Unread) DownRefusal
report_at tag unread = do
  basic ← basic_at unread
  groups ← groups_at 8 basic.1
  Ok (record { tag = tag; basic = basic.0; groups = groups.0 }, groups.1)

-- ---- items

-- A negative acknowledgement behind its tag.
unfoldable pub nack_at : Unread → Result (ItemData × Unread) DownRefusal
nack_at unread =
    octets_where (item_tests 4) unread >>= λ octets.
    if names_octet (get_or octets.0 1 0) then
    (octet_at octets.1 >>= λ place. Ok (nack (get_or octets.0 0 0) (get_or octets.0 1 0) place.0, place.1))
    else Ok (nack (get_or octets.0 0 0) (get_or octets.0 1 0) 0, octets.1)

-- The number of an item whose octets must pass the tests of this tag.
unfoldable pub number_at : ℕ → Unread → Result (ℕ × Unread) DownRefusal
number_at tag unread = octets_where (item_tests tag) unread >>= λ octets. Ok (get_or octets.0 0 0, octets.1)

-- What stands behind an item's tag; the tag itself began at this place.
unfoldable pub body_at : ℕ → ℕ → Unread → Result (ItemData × Unread) DownRefusal
body_at place tag unread =
    if tag == 3 then (number_at 3 unread >>= λ n. Ok (ack n.0, n.1))
    else if tag == 4 then nack_at unread
    else if tag == 5 then (number_at 5 unread >>= λ n. Ok (noncompliance n.0, n.1))
    else if tag == 6 then (number_at 6 unread >>= λ n. Ok (emergency_off n.0, n.1))
    else if is_report_tag tag then (report_at tag unread >>= λ one. Ok (report one.0, one.1))
    else Err (tag_at place)

unfoldable pub item_at : Unread → Result (ItemData × Unread) DownRefusal
item_at unread = do
  tag ← octet_at unread
  body_at unread.at tag.0 tag.1

-- What is wrong where more items than eight begin.
abbrev pub ninth_at : Unread → DownRefusal
ninth_at unread =
    if nat_lt (length unread.left) 8 then short_at unread.at else if is_item_tag (number_spelled (take 8 unread.left)) then many_at unread.at else tag_at unread.at

-- Items up to the end, at most so many.
unfoldable pub items_at : ℕ → Unread → Result (List ItemData) DownRefusal
items_at zero unread = if length unread.left == 0 then Ok [] else Err (ninth_at unread)
items_at (suc room) unread =
    if length unread.left == 0 then Ok [] else (item_at unread >>= λ item. items_at room item.1 >>= λ others. Ok (item.0 ∷ others))

-- A downlink: one item, and seven more at most.
unfoldable pub downlink_at : Unread → Result (List ItemData) DownRefusal
downlink_at unread = do
  item ← item_at unread
  others ← items_at 7 item.1
  Ok (item.0 ∷ others)
