-- How many octets a message and a sound beginning have at most: a message 19, four of them 76.
use Rattle.std.proofs.Common.{◌≡◌, ℕ, ◌+◌, ◌*◌, ◌≤◌, List, [], ◌∷◌, ◌++◌, length, Bool, true, false, cond, not, ◌||◌, ◌&&◌, ◌==◌, refl, sym, ap, subst, arith, length-append}
use Rattle.std.specs.List.{flat_map}
use Rattle.std.proofs.lemmas.Bool.Decides.{nat_tests}
use Rattle.adsc_requests.specs.Tables.{is_modulus_tag, is_request_group_tag, allows, data_size}
use Rattle.adsc_requests.specs.Contents.{Group, Content, has_tag, group_tags}
use Rattle.adsc_requests.specs.Grammar.{group_octets, head_octets, message_octets, joined, IsGroupOf, AreGroups, IsBegun, AreWhole}
use Rattle.adsc_requests.specs.Faults.{Next, IsOpenPrefix, nothing_read, tag_read, message_begun, group_begun, IsFirstFault}
use Rattle.adsc_requests.proofs.Collecting.{on_bool, is_among}
use Rattle.adsc_requests.proofs.ReadingLemmas.{allowed_is_group}

-- ---- sums over the tags

abbrev total : (ℕ → ℕ) → List ℕ → ℕ
total f [] = 0
total f (t ∷ ts) = f t + total f ts

total-mono : (f g : ℕ → ℕ) (ts : List ℕ) → ((t : ℕ) → f t ≤ g t) → total f ts ≤ total g ts
total-mono f g [] below = omega arith
total-mono f g (t ∷ ts) below = omega (arith, below t, total-mono f g ts below)

total-less : (f g : ℕ → ℕ) (s w : ℕ) (ts : List ℕ) → is_among s ts ≡ true → ((t : ℕ) → f t ≤ g t) → f s + w ≤ g s → total f ts + w ≤ total g ts
total-less f g s w [] among below less = cc
total-less f g s w (t ∷ ts) among below less = on_bool (t == s)
    (λ is.
    let same : t ≡ s = grind (arith, nat_tests, is) in
    let here : f t + w ≤ g t = subst (λ (x : ℕ). f x + w ≤ g x) (sym same) less in
    omega (arith, here, total-mono f g ts below))
    (λ other.
    let later : is_among s ts ≡ true = grind (arith, nat_tests, other, among) in
    omega (arith, below t, total-less f g s w ts later below less))

-- ---- what a message's groups can still take

-- The octets that the group of a tag can still take behind others.
abbrev room_of : ℕ → List Group → ℕ → ℕ
room_of m earlier t = cond (allows m t && not (has_tag t earlier)) (1 + data_size t) 0

abbrev room : ℕ → List Group → ℕ
room m earlier = total (room_of m earlier) group_tags

group_is_among : (t : ℕ) → is_request_group_tag t ≡ true → is_among t group_tags ≡ true
unfolding is_request_group_tag
group_is_among t is = grind (arith, nat_tests, is)

room_falls : (m : ℕ) (g : Group) (earlier : List Group) (t : ℕ) → room_of m (g ∷ earlier) t ≤ room_of m earlier t
room_falls m g earlier t = by (allows m t) (g.tag == t) (has_tag t earlier)
  where
    by : (a b c : Bool) → cond (a && not (b || c)) (1 + data_size t) 0 ≤ cond (a && not c) (1 + data_size t) 0
    by false b c = omega arith
    by true false c = omega arith
    by true true false = omega arith
    by true true true = omega arith

same_tag : (t : ℕ) → (t == t) ≡ true
same_tag t = grind (arith, nat_tests)

room_taken : (m : ℕ) (g : Group) (earlier : List Group) → allows m g.tag ≡ true → has_tag g.tag earlier ≡ false
    → room_of m (g ∷ earlier) g.tag + (1 + data_size g.tag) ≤ room_of m earlier g.tag
room_taken m g earlier allowed new = rw (allowed, new, same_tag g.tag) (omega arith)

room-step : (m : ℕ) (g : Group) (earlier : List Group) → IsGroupOf m g → has_tag g.tag earlier ≡ false
    → room m (g ∷ earlier) + length (group_octets g) ≤ room m earlier
room-step m g earlier one new =
    let less = total-less (room_of m (g ∷ earlier)) (room_of m earlier) g.tag (1 + data_size g.tag) group_tags
    (group_is_among g.tag (allowed_is_group m g.tag one.allowed)) (room_falls m g earlier) (room_taken m g earlier one.allowed new) in
    let full : length g.octets ≡ data_size g.tag = one.full in
    omega (arith, less, full)

-- The groups in front of those that were earlier.
abbrev behind : List Group → List Group → List Group
behind earlier [] = earlier
behind earlier (g ∷ gs) = behind (g ∷ earlier) gs

has_tag-behind : (t : ℕ) (earlier gs : List Group) → has_tag t earlier ≡ false → has_tag t gs ≡ false → has_tag t (behind earlier gs) ≡ false
has_tag-behind t earlier [] no_earlier no_later = no_earlier
has_tag-behind t earlier (g ∷ gs) no_earlier no_later =
    let apart : (g.tag == t) ≡ false = grind (arith, nat_tests, no_later) in
    let rest : has_tag t gs ≡ false = grind (arith, nat_tests, no_later) in
    has_tag-behind t (g ∷ earlier) gs (grind (arith, nat_tests, apart, no_earlier)) rest

groups_room : (m : ℕ) (earlier gs : List Group) → AreGroups m earlier gs → length (flat_map group_octets gs) + room m (behind earlier gs) ≤ room m earlier
groups_room m earlier [] are = omega arith
groups_room m earlier (g ∷ gs) are =
    omega (arith, groups_room m (g ∷ earlier) gs are.2, room-step m g earlier are.0 are.1, length-append (group_octets g) (flat_map group_octets gs))

room_of_all : (m : ℕ) → room m [] ≤ 17
unfolding allows is_modulus_tag data_size
room_of_all m = on_bool ((m == 7) || (m == 9))
    (λ is. rw is (omega arith))
    (λ other. on_bool (m == 8) (λ is. rw (other, is) (omega arith)) (λ none. rw (other, none) (omega arith)))

-- ---- messages

head_size : (m : Content) → length (head_octets m) ≤ 2
head_size m = on_bool (m.tag == 1) (λ is. rw is (omega arith)) (λ is. rw is (omega arith))

pub message_size : (m : Content) → IsBegun m → length (message_octets m) ≤ 19
unfolding message_octets
message_size m begun =
    omega (arith, length-append (head_octets m) (flat_map group_octets m.groups), head_size m, groups_room m.tag [] m.groups begun.grouped, room_of_all m.tag)

-- With a group more of which the data is full.
pub message_size_more : (m : Content) (t : ℕ) → IsBegun m → allows m.tag t ≡ true → has_tag t m.groups ≡ false → length (message_octets m) + 1 + data_size t ≤ 19
unfolding message_octets
message_size_more m t begun allowed new =
    let free : has_tag t (behind [] m.groups) ≡ false = has_tag-behind t [] m.groups refl new in
    let room_here : room_of m.tag (behind [] m.groups) t ≡ 1 + data_size t = rw (allowed, free) refl in
    let more = total-less (λ x. 0) (room_of m.tag (behind [] m.groups)) t (1 + data_size t) group_tags (group_is_among t (allowed_is_group m.tag t allowed)) (λ x. omega arith) (omega (arith, room_here)) in
    omega (arith, length-append (head_octets m) (flat_map group_octets m.groups), head_size m, groups_room m.tag [] m.groups begun.grouped, room_of_all m.tag, more)

pub joined_size : (ms : List Content) → AreWhole ms → length (joined ms) ≤ 19 * length ms
joined_size [] whole = omega arith
joined_size (m ∷ ms) whole =
    omega (arith, length-append (message_octets m) (joined ms), message_size m (whole.0).begun, joined_size ms whole.1)

-- ---- sound beginnings

pub open_size : (front : List ℕ) (next : Next) → IsOpenPrefix front next → length front ≤ 76
open_size front _ (nothing_read none) = omega (arith, ap length none)
open_size front _ (tag_read before tag whole few known numbered octets) =
    omega (arith, ap length octets, length-append (joined before) (tag ∷ []), joined_size before whole)
open_size front _ (message_begun before m whole few begun octets) =
    omega (arith, ap length octets, length-append (joined before) (message_octets m), joined_size before whole, message_size m begun)
open_size front _ (group_begun before m tag fields whole few begun allowed new fields_whole within octets) =
    omega (
      arith,
      ap length octets,
      length-append (joined before ++ message_octets m) (tag ∷ fields),
      length-append (joined before) (message_octets m),
      joined_size before whole,
      message_size_more m tag begun allowed new,
      within,
    )

-- A fault stands at octet 77 or before.
pub fault_place : (payload : List ℕ) (at reason number : ℕ) → IsFirstFault payload at reason number → at ≤ 76
fault_place payload at reason number fault = omega (arith, fault.place, open_size fault.front fault.next fault.sound)
