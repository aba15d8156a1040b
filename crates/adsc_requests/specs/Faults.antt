-- The first fault of a payload: a sound beginning, and the row of the table of faults that applies behind it.
-- This project's profile.
use Rattle.std.specs.Prelude.{◌≡◌, ℕ, ◌+◌, ◌%◌, ◌<◌, ◌≤◌, List, [], ◌∷◌, ◌++◌, length, take, true, false, ◌==◌, nat_lt, Option, Some, None, if◌then◌else◌}
use Rattle.adsc_requests.specs.Tables.{is_message_tag, allows, data_size, field_size, value_reason, repeat_reason}
use Rattle.adsc_requests.specs.Contents.{Content, has_tag}
use Rattle.adsc_requests.specs.Grammar.{message_octets, joined, IsBegun, AreWhole, asks_nothing}

-- What may stand next behind a sound beginning.
pub data Next : Type 0 where
  -- The first message must begin.
  FirstMessage : Next
  -- A message of this tag is being read, and its number must stand.
  Number : ℕ → Next
  -- So many messages have begun, and this one is being read: a group of it or the next message may begin.
  GroupOrMessage : ℕ → Content → Next
  -- In this message a group of this tag is being read, of whose data these fields were read: a field must stand.
  Field : Content → ℕ → List ℕ → Next

-- The octets are whole tags, numbers and data fields in an order of the grammar, at none of whose places a row
-- of the table applies. A message is being read from its tag until the next message's tag.
pub data IsOpenPrefix (octets : List ℕ) : Next → Type 0 where
  nothing_read : octets ≡ [] → IsOpenPrefix octets FirstMessage
  tag_read : (before : List Content) (tag : ℕ) → AreWhole before → length before < 4
      → is_message_tag tag ≡ true → (tag == 1) ≡ false
      → octets ≡ joined before ++ tag ∷ [] → IsOpenPrefix octets (Number tag)
  message_begun : (before : List Content) (m : Content) → AreWhole before → length before < 4
      → IsBegun m
      → octets ≡ joined before ++ message_octets m → IsOpenPrefix octets (GroupOrMessage (length before + 1) m)
  group_begun : (before : List Content) (m : Content) (tag : ℕ) (fields : List ℕ) → AreWhole before → length before < 4
      → IsBegun m → allows m.tag tag ≡ true → has_tag tag m.groups ≡ false
      → length fields % field_size tag ≡ 0 → length fields + field_size tag ≤ data_size tag
      → octets ≡ joined before ++ message_octets m ++ tag ∷ fields → IsOpenPrefix octets (Field m tag fields)

-- The table of faults: the reason of the row that applies at a place where something stands next, and rest follows.
unfoldable pub reason_at : Next → List ℕ → Option ℕ
-- A message must begin: not enough data, or not a message tag.
reason_at FirstMessage [] = Some 9
reason_at FirstMessage (t ∷ rest) = if is_message_tag t then None else Some 7
-- A number must stand: not enough data.
reason_at (Number tag) [] = Some 9
reason_at (Number tag) (n ∷ rest) = None
-- The payload ends behind an event request without a group.
reason_at (GroupOrMessage begun m) [] = if asks_nothing m then Some 3 else None
-- A group may begin that was already read; a message tag behind an event request without a group; a fifth
-- message; neither a group of this message nor a message tag.
reason_at (GroupOrMessage begun m) (t ∷ rest) =
    if allows m.tag t then (if has_tag t m.groups then Some (repeat_reason t) else None)
    else if is_message_tag t then (if asks_nothing m then Some 3 else if begun == 4 then Some 8 else None)
    else Some 7
-- The field isn't wholly there; or it is the last of its group, and a table refuses the group's data.
reason_at (Field m tag fields) rest =
    if nat_lt (length rest) (field_size tag) then Some 9
    else if length fields + field_size tag == data_size tag then value_reason tag (fields ++ take (field_size tag) rest)
    else None

-- The number of the message that is being read: 0 before the first message, and where the number was not read.
abbrev pub number_read : Next → ℕ
number_read FirstMessage = 0
number_read (Number tag) = 0
number_read (GroupOrMessage begun m) = m.number
number_read (Field m tag fields) = m.number

-- Behind the first `at` octets of the payload, which are a sound beginning, a row of the table applies.
pub record IsFirstFault (payload : List ℕ) (at reason number : ℕ) : Type 0 where
  pub front : List ℕ
  pub rest : List ℕ
  pub next : Next
  pub parts : payload ≡ front ++ rest
  pub sound : IsOpenPrefix front next
  pub applies : reason_at next rest ≡ Some reason
  pub place : at ≡ length front
  pub read : number ≡ number_read next
