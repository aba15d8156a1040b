-- What a message asks, as plain numbers: its tag, its number and its groups by rising tag. Definitions and laws
-- speak of this, and not of the types of the code.
use Rattle.std.specs.Prelude.{ℕ, ◌-◌, List, [], ◌∷◌, ◌++◌, map, slice_index_or, Bool, false, ◌==◌, ◌||◌, Option, Some, None, option_map, if◌then◌else◌, ℤ}
use Rattle.std.specs.Int.{w8, w16, to_be_bytes, cast_unsigned}
use Rattle.adsc_requests.specs.Tables.{is_modulus_tag}
use Rattle.adsc_requests.specs.declared.message.Intent.{Intent}
use Rattle.adsc_requests.specs.declared.message.Range.{Range}
use Rattle.adsc_requests.specs.declared.message.Message.{Message}
use Rattle.adsc_requests.specs.declared.message.Message.TheVariants.{CancelAll, Cancel, CancelEmergency, Periodic, Event, Emergency}
use Rattle.adsc_requests.specs.declared.message.Uplink.{Uplink}

-- A group: its tag, and the octets of its data.
pub record Group : Type 0 where
  pub tag : ℕ
  pub octets : List ℕ

-- A message: its tag, its number, which is 0 where it has none, and its groups.
pub record Content : Type 0 where
  pub tag : ℕ
  pub number : ℕ
  pub groups : List Group

-- Whether one of the groups has this tag.
abbrev pub has_tag : ℕ → List Group → Bool
has_tag t [] = false
has_tag t (g ∷ gs) = (g.tag == t) || has_tag t gs

-- ---- what the fields of a message are as groups

abbrev pub group_if : ℕ → Option (List ℕ) → List Group
group_if t None = []
group_if t (Some octets) = record { tag = t; octets = octets } ∷ []

abbrev pub collected_from : (ℕ → Option (List ℕ)) → List ℕ → List Group
collected_from octets [] = []
collected_from octets (t ∷ ts) = group_if t (octets t) ++ collected_from octets ts

-- The tags of all groups, rising.
abbrev pub group_tags : List ℕ
group_tags = 10 ∷ 11 ∷ 12 ∷ 13 ∷ 14 ∷ 15 ∷ 16 ∷ 17 ∷ 18 ∷ 19 ∷ 20 ∷ 21 ∷ []

-- The groups, by rising tag, of which a function gives the octets.
unfoldable pub collected : (ℕ → Option (List ℕ)) → List Group
collected octets = collected_from octets group_tags

abbrev pub single : ℕ → List ℕ
single n = n ∷ []

-- A signed octet, and a signed field of 16 bits: two's complement, the most significant octet first.
abbrev pub octet_8 : ℤ → List ℕ
octet_8 z = cast_unsigned w8 z ∷ []

abbrev pub octets_16 : ℤ → List ℕ
octets_16 z = to_be_bytes w16 (cast_unsigned w16 z)

abbrev pub intent_octets : Intent → List ℕ
intent_octets i = i.modulus ∷ i.minutes ∷ []

abbrev pub range_octets : Range → List ℕ
range_octets r = octets_16 r.ceiling ++ octets_16 r.floor

-- The octets of each group of a periodic or an emergency request.
unfoldable pub report_octets : Option ℕ → List (Option ℕ) → Option Intent → ℕ → Option (List ℕ)
report_octets interval moduli intent t =
    if t == 11 then option_map single interval
    else if t == 21 then option_map intent_octets intent
    else if is_modulus_tag t then option_map single (slice_index_or moduli (t - 12) None)
    else None

-- The octets of each group of an event request.
unfoldable pub event_octets : Option ℕ → Option ℤ → Option Range → Bool → ℕ → Option (List ℕ)
event_octets lateral vrate range waypoint t =
    if t == 10 then option_map single lateral
    else if t == 18 then option_map octet_8 vrate
    else if t == 19 then option_map range_octets range
    else if t == 20 then (if waypoint then Some [] else None)
    else None

abbrev pub tag_of : Message → ℕ
tag_of CancelAll = 1
tag_of (Cancel n) = 2
tag_of (CancelEmergency n) = 6
tag_of (Periodic n interval groups intent) = 7
tag_of (Event n limits) = 8
tag_of (Emergency n interval groups intent) = 9

abbrev pub number_of : Message → ℕ
number_of CancelAll = 0
number_of (Cancel n) = n
number_of (CancelEmergency n) = n
number_of (Periodic n interval groups intent) = n
number_of (Event n limits) = n
number_of (Emergency n interval groups intent) = n

abbrev pub groups_of : Message → List Group
groups_of CancelAll = []
groups_of (Cancel n) = []
groups_of (CancelEmergency n) = []
groups_of (Periodic n interval groups intent) = collected (report_octets interval groups.m intent)
groups_of (Event n limits) = collected (event_octets limits.lateral limits.vrate limits.range limits.waypoint)
groups_of (Emergency n interval groups intent) = collected (report_octets interval groups.m intent)

abbrev pub content_of : Message → Content
content_of m = record { tag = tag_of m; number = number_of m; groups = groups_of m }

-- What an uplink asks: its messages in their order.
abbrev pub contents_of : Uplink → List Content
contents_of u = map content_of u.messages.items
