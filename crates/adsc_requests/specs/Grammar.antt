-- The grammar of an uplink's payload, after RTCA DO-258A / EUROCAE ED-100A in this project's profile.
use Rattle.std.specs.Prelude.{◌≡◌, ℕ, ◌≤◌, List, [], ◌∷◌, ◌++◌, length, map, flat_map, Bool, true, false, ◌==◌, ◌&&◌, None, if◌then◌else◌}
use Rattle.std.specs.List.Sorted.{IsPermutation, IsStrictlyIncreasing}
use Rattle.adsc_requests.specs.Tables.{is_message_tag, allows, data_size, value_reason}
use Rattle.adsc_requests.specs.Contents.{Group, Content, has_tag, contents_of}
use Rattle.adsc_requests.specs.declared.message.Uplink.{Uplink}

-- ---- octets

-- A group stands as its tag and its data.
abbrev pub group_octets : Group → List ℕ
group_octets g = g.tag ∷ g.octets

-- A message begins with its tag and its number; the cancel of all contracts has no number.
abbrev pub head_octets : Content → List ℕ
head_octets m = if m.tag == 1 then m.tag ∷ [] else m.tag ∷ m.number ∷ []

-- A message stands as its tag, its number and its groups in their order.
unfoldable pub message_octets : Content → List ℕ
message_octets m = head_octets m ++ flat_map group_octets m.groups

-- Messages stand one behind the other.
abbrev pub joined : List Content → List ℕ
joined ms = flat_map message_octets ms

-- ---- messages as they stand

-- In a message of this tag the group is allowed, its data is there, and no table refuses it.
pub record IsGroupOf (m : ℕ) (g : Group) : Type 0 where
  pub allowed : allows m g.tag ≡ true
  pub full : length g.octets ≡ data_size g.tag
  pub admitted : value_reason g.tag g.octets ≡ None

-- The groups stand in a message of this tag behind earlier ones: each is one of its groups, none comes twice.
abbrev pub AreGroups : ℕ → List Group → List Group → Type 0
AreGroups m earlier [] = Unit {0}
AreGroups m earlier (g ∷ gs) = IsGroupOf m g × (has_tag g.tag earlier ≡ false) × AreGroups m (g ∷ earlier) gs

-- A message has begun, and more of its groups may follow.
pub record IsBegun (m : Content) : Type 0 where
  pub known : is_message_tag m.tag ≡ true
  pub unnumbered : m.tag ≡ 1 → m.number ≡ 0
  pub grouped : AreGroups m.tag [] m.groups

-- An event request without a group asks nothing.
abbrev pub asks_nothing : Content → Bool
asks_nothing m = (m.tag == 8) && (length m.groups == 0)

-- A message is whole: it has begun, and an event request has a group.
pub record IsWhole (m : Content) : Type 0 where
  pub begun : IsBegun m
  pub asks : asks_nothing m ≡ false

abbrev pub AreWhole : List Content → Type 0
AreWhole [] = Unit {0}
AreWhole (m ∷ ms) = IsWhole m × AreWhole ms

-- ---- what messages ask

-- A message that stands in a payload asks this: its own tag and number, and the same groups by rising tag.
pub record Asks (standing asked : Content) : Type 0 where
  pub same_tag : asked.tag ≡ standing.tag
  pub same_number : asked.number ≡ standing.number
  pub same_groups : IsPermutation standing.groups asked.groups
  pub rising : IsStrictlyIncreasing (map (λ g. g.tag) asked.groups)

-- Each message asks this, in their order.
abbrev pub AskEach : List Content → List Content → Type 0
AskEach [] asked = asked ≡ []
AskEach (m ∷ ms) [] = ⊥
AskEach (m ∷ ms) (c ∷ cs) = Asks m c × AskEach ms cs

-- The payload is an encoding of the messages: 1 to 4 whole messages stand in it, one behind the other, and
-- nothing else; in each the groups stand in any order.
pub record EncodesContents (contents : List Content) (payload : List ℕ) : Type 0 where
  pub standing : List Content
  pub whole : AreWhole standing
  pub some : 1 ≤ length standing
  pub few : length standing ≤ 4
  pub octets : payload ≡ joined standing
  pub asked : AskEach standing contents

-- The payload is an encoding of the uplink.
abbrev pub EncodesUplink : Uplink → List ℕ → Type 0
EncodesUplink u payload = EncodesContents (contents_of u) payload

-- The octets of an uplink with the groups of each message by rising tag.
abbrev pub uplink_octets : Uplink → List ℕ
uplink_octets u = joined (contents_of u)
