-- The tables of the uplink format: tags, which groups a message may have, the size and the admitted values of a
-- group's data. Grammar, faults, reading and writing all cite them. The tags follow RTCA DO-258A / EUROCAE ED-100A;
-- the octets of a group's data and the reasons' numbers are this project's profile.
use Rattle.std.specs.Prelude.{ℕ, List, Bool, false, ◌&&◌, ◌||◌, ◌==◌, nat_le, Option, Some, None, if◌then◌else◌, slice_index, take, drop, ℤ, int_lt}
use Rattle.std.specs.Int.{w16, from_be_bytes, cast_signed}

-- The tags of messages: cancel all 1, cancel 2, cancel emergency mode 6; periodic request 7, event request 8, emergency periodic request 9.
unfoldable pub is_message_tag : ℕ → Bool
is_message_tag t = (t == 1) || (t == 2) || (t == 6) || (t == 7) || (t == 8) || (t == 9)

-- The tags of requests, which are the messages that have groups: periodic 7, event 8, emergency periodic 9.
unfoldable pub is_request_tag : ℕ → Bool
is_request_tag t = (t == 7) || (t == 8) || (t == 9)

-- The tags of the reporting modulus groups are 12 to 17.
unfoldable pub is_modulus_tag : ℕ → Bool
is_modulus_tag t = nat_le 12 t && nat_le t 17

-- The tags of the groups of all requests are 10 to 21.
unfoldable pub is_request_group_tag : ℕ → Bool
is_request_group_tag t = nat_le 10 t && nat_le t 21

-- Which groups a message may have, by the message's tag and the group's.
unfoldable pub allows : ℕ → ℕ → Bool
allows m t =
    if (m == 7) || (m == 9) then (t == 11) || is_modulus_tag t || (t == 21)
    else if m == 8 then (t == 10) || (t == 18) || (t == 19) || (t == 20)
    else false

-- How many octets the data of a group has.
unfoldable pub data_size : ℕ → ℕ
data_size t = if t == 19 then 4 else if t == 20 then 0 else if t == 21 then 2 else 1

-- How many octets each field of a group's data has: the ceiling and the floor are two fields of two octets, the
-- modulus and the minutes of an intent are two fields of one.
unfoldable pub field_size : ℕ → ℕ
field_size t = if t == 19 then 2 else 1

-- The value of a signed field of 16 bits, from its two octets.
abbrev pub signed_16 : List ℕ → ℤ
signed_16 octets = cast_signed w16 (from_be_bytes w16 octets)

-- The reason for which the data of a group is refused, where a table refuses it: a lateral threshold of 0, a
-- vertical rate threshold of 0, a floor that is not below the ceiling, a projection time of 0.
unfoldable pub value_reason : ℕ → List ℕ → Option ℕ
value_reason t octets =
    if t == 10 then (if slice_index octets 0 == 0 then Some 13 else None)
    else if t == 18 then (if slice_index octets 0 == 0 then Some 11 else None)
    else if t == 19 then (if int_lt (signed_16 (drop 2 octets)) (signed_16 (take 2 octets)) then None else Some 10)
    else if t == 21 then (if slice_index octets 1 == 0 then Some 12 else None)
    else None

-- The reason of a group that was already read: the reporting interval has a reason of its own.
unfoldable pub repeat_reason : ℕ → ℕ
repeat_reason t = if t == 11 then 2 else 1
