-- Each payload is an encoding or has a first fault: by induction on what is left behind a sound beginning.
use Rattle.std.proofs.Common.{◌≡◌, ℕ, zero, suc, ◌+◌, ◌-◌, ◌*◌, ◌/◌, ◌%◌, ◌<◌, ◌≤◌, List, [], ◌∷◌, ◌++◌, length, map, take, drop, Bool, true, false, if◌then◌else◌, ◌||◌, nat_lt, ◌==◌, Option, Some, None, refl, sym, ◌∙◌, ap, subst, arith, length-append, length-take, length-drop, append-nil, append_assoc, true≢false, ◌⊎◌, inl, inr}
use Rattle.std.specs.List.{flat_map}
use Rattle.std.proofs.lemmas.List.{take-append-drop}
use Rattle.std.proofs.lemmas.List.Concat.{flat_map-append}
use Rattle.std.proofs.Math.Seq.{take-add}
use Rattle.std.proofs.lemmas.Bool.Decides.{nat_tests}
use Rattle.adsc_requests.specs.Tables.{is_message_tag, allows, data_size, field_size, value_reason, repeat_reason}
use Rattle.adsc_requests.specs.Contents.{Group, Content, has_tag}
use Rattle.adsc_requests.specs.Grammar.{group_octets, head_octets, message_octets, joined, IsGroupOf, AreGroups, IsBegun, IsWhole, AreWhole, asks_nothing, EncodesContents}
use Rattle.adsc_requests.specs.Faults.{Next, FirstMessage, Number, GroupOrMessage, Field, IsOpenPrefix, nothing_read, tag_read, message_begun, group_begun, reason_at, number_read, IsFirstFault}
use Rattle.adsc_requests.proofs.Collecting.{on_bool}
use Rattle.adsc_requests.proofs.Rows.{row_repeat, row_nothing, row_fifth, row_stranger, row_end_nothing, row_cut, row_value, number_row}
use Rattle.adsc_requests.proofs.ByTag.{ordered, each_asks_ordered}

-- An encoding of some messages, or a first fault.
abbrev pub Outcome : List ℕ → Type 0
Outcome payload =
    ((contents : List Content) × EncodesContents contents payload)
    ⊎ ((at : ℕ) × (reason : ℕ) × (number : ℕ) × IsFirstFault payload at reason number)

fault_here : (payload front rest : List ℕ) (next : Next) (reason : ℕ) → payload ≡ front ++ rest → IsOpenPrefix front next
    → reason_at next rest ≡ Some reason → Outcome payload
fault_here payload front rest next reason parts sound applies = inr (
  length front,
  reason,
  number_read next,
  record { front = front; rest = rest; next = next; parts = parts; sound = sound; applies = applies; place = refl; read = refl },
)

-- ---- one message more

AreWhole-last : (ms : List Content) (m : Content) → AreWhole ms → IsWhole m → AreWhole (ms ++ m ∷ [])
AreWhole-last [] m whole one = (one, tt)
AreWhole-last (n ∷ ns) m whole one = (whole.0, AreWhole-last ns m whole.1 one)

joined-last : (ms : List Content) (m : Content) → joined (ms ++ m ∷ []) ≡ joined ms ++ message_octets m
joined-last ms m = flat_map-append message_octets ms (m ∷ []) ∙ ap (λ x. joined ms ++ x) (append-nil (message_octets m))

encoding_here : (payload : List ℕ) (before : List Content) (m : Content) → AreWhole before → length before < 4 → IsWhole m
    → payload ≡ joined before ++ message_octets m → Outcome payload
encoding_here payload before m whole few one parts = inl (
  map ordered (before ++ m ∷ []),
  record {
    standing = before ++ m ∷ [];
    whole = AreWhole-last before m whole one;
    some = omega (arith, length-append before (m ∷ []));
    few = omega (arith, length-append before (m ∷ []));
    octets = parts ∙ sym (joined-last before m);
    asked = each_asks_ordered (before ++ m ∷ []) (AreWhole-last before m whole one);
  },
)

-- ---- one group more

AreGroups-last : (m : ℕ) (earlier gs : List Group) (g : Group) → AreGroups m earlier gs → IsGroupOf m g
    → has_tag g.tag earlier ≡ false → has_tag g.tag gs ≡ false → AreGroups m earlier (gs ++ g ∷ [])
AreGroups-last m earlier [] g are one new_earlier new = (one, new_earlier, tt)
AreGroups-last m earlier (h ∷ hs) g are one new_earlier new =
    let apart : (h.tag == g.tag) ≡ false = on_bool (h.tag == g.tag) (λ is. absurd (true≢false (subst (λ (b : Bool). b || has_tag g.tag hs ≡ false) is new))) (λ is. is) in (
      are.0,
      are.1,
      AreGroups-last m (h ∷ earlier) hs g are.2 one
          (subst (λ (b : Bool). b || has_tag g.tag earlier ≡ false) (sym apart) new_earlier)
          (subst (λ (b : Bool). b || has_tag g.tag hs ≡ false) apart new),
    )

abbrev with_group : Content → Group → Content
with_group m g = record { tag = m.tag; number = m.number; groups = m.groups ++ g ∷ [] }

with_group_octets : (m : Content) (g : Group) → message_octets (with_group m g) ≡ message_octets m ++ (g.tag ∷ g.octets)
unfolding message_octets
with_group_octets m g =
    ap (λ x. head_octets m ++ x) (flat_map-append group_octets m.groups (g ∷ []) ∙ ap (λ x. flat_map group_octets m.groups ++ x) (append-nil (g.tag ∷ g.octets)))
    ∙ sym (append_assoc (head_octets m) (flat_map group_octets m.groups) (g.tag ∷ g.octets))

with_group_begun : (m : Content) (g : Group) → IsBegun m → IsGroupOf m.tag g → has_tag g.tag m.groups ≡ false → IsBegun (with_group m g)
with_group_begun m g begun one new = record {
  known = begun.known;
  unnumbered = begun.unnumbered;
  grouped = AreGroups-last m.tag [] m.groups g begun.grouped one refl new;
}

-- ---- the data of a group

-- The whole fields of data that is cut short.
cut_fields : (t n : ℕ) → n < data_size t → ((n / field_size t * field_size t) % field_size t ≡ 0)
    × (n / field_size t * field_size t + field_size t ≤ data_size t) × (n / field_size t * field_size t ≤ n) × (n < n / field_size t * field_size t + field_size t)
unfolding field_size data_size
cut_fields t n short = on_bool (t == 19)
    (λ is. rw is (two (rw is at short)))
    (λ is. rw is (one (rw is at short)))
  where
    two : n < 4 → ((n / 2 * 2) % 2 ≡ 0) × (n / 2 * 2 + 2 ≤ 4) × (n / 2 * 2 ≤ n) × (n < n / 2 * 2 + 2)
    two h = (omega arith, omega arith, omega arith, omega arith)

    one : n < (if t == 20 then 0 else if t == 21 then 2 else 1)
        → ((n / 1 * 1) % 1 ≡ 0) × (n / 1 * 1 + 1 ≤ (if t == 20 then 0 else if t == 21 then 2 else 1)) × (n / 1 * 1 ≤ n) × (n < n / 1 * 1 + 1)
    one h = (omega arith, omega arith, omega arith, omega arith)

-- Where a table refuses the data of a group, it has a last field behind whole fields.
refused_fields : (t : ℕ) (octets : List ℕ) (reason : ℕ) → value_reason t octets ≡ Some reason
    → ((data_size t - field_size t) % field_size t ≡ 0) × (field_size t ≤ data_size t)
unfolding field_size data_size value_reason
refused_fields t octets reason refused = on_bool (t == 19)
    (λ is. rw is (refl, omega arith))
    (λ is. on_bool (t == 20)
    (λ none. let same : t ≡ 20 = grind (arith, nat_tests, none) in absurd (none_is_not_some reason (subst (λ (x : ℕ). value_reason x octets ≡ Some reason) same refused)))
    (λ some. rw (is, some) (on_bool (t == 21) (λ two. rw two (refl, omega arith)) (λ one. rw one (refl, omega arith)))))
  where
    none_is_not_some : (r : ℕ) → None ≡ Some r → ⊥
    none_is_not_some r e = cc

fault_in_cut : (payload : List ℕ) (before : List Content) (m : Content) (t : ℕ) (octets : List ℕ) → AreWhole before → length before < 4 → IsBegun m
    → allows m.tag t ≡ true → has_tag t m.groups ≡ false → payload ≡ (joined before ++ message_octets m) ++ t ∷ octets
    → length octets < data_size t → Outcome payload
fault_in_cut payload before m t octets whole few begun allowed new parts short =
    let fields = cut_fields t (length octets) short in
    let n : ℕ = length octets / field_size t * field_size t in
    let size : length (take n octets) ≡ n = omega (arith, length-take n octets, fields) in
    let rest : length (drop n octets) < field_size t = omega (arith, length-drop n octets, fields) in
    fault_here payload (joined before ++ message_octets m ++ t ∷ take n octets) (drop n octets) (Field m t (take n octets)) 9
    (parts ∙ ap (λ x. (joined before ++ message_octets m) ++ (t ∷ x)) (sym (take-append-drop n octets)) ∙ sym (append_assoc (joined before ++ message_octets m) (t ∷ take n octets) (drop n octets)))
    (group_begun before m t (take n octets) whole few begun allowed new (ap (λ k. k % field_size t) size ∙ fields.0) (omega arith) refl)
    (row_cut m t (take n octets) (drop n octets) (grind (arith, nat_tests, rest)))

fault_in_value : (payload : List ℕ) (before : List Content) (m : Content) (t : ℕ) (octets : List ℕ) (reason : ℕ) → AreWhole before → length before < 4 → IsBegun m
    → allows m.tag t ≡ true → has_tag t m.groups ≡ false → payload ≡ (joined before ++ message_octets m) ++ t ∷ octets
    → data_size t ≤ length octets → value_reason t (take (data_size t) octets) ≡ Some reason → Outcome payload
fault_in_value payload before m t octets reason whole few begun allowed new parts full refused =
    let fields = refused_fields t (take (data_size t) octets) reason refused in
    let n : ℕ = data_size t - field_size t in
    let size : length (take n octets) ≡ n = omega (arith, length-take n octets, fields) in
    let rest : field_size t ≤ length (drop n octets) = omega (arith, length-drop n octets, fields) in
    let whole_size : n + field_size t ≡ data_size t = omega (arith, fields) in
    let there : nat_lt (length (drop n octets)) (field_size t) ≡ false = grind (arith, nat_tests, rest) in
    let last : (length (take n octets) + field_size t == data_size t) ≡ true = grind (arith, nat_tests, size, whole_size) in
    let all : take n octets ++ take (field_size t) (drop n octets) ≡ take (data_size t) octets
    = sym (take-add n (field_size t) octets) ∙ ap (λ k. take k octets) whole_size in
    fault_here payload (joined before ++ message_octets m ++ t ∷ take n octets) (drop n octets) (Field m t (take n octets)) reason
    (parts ∙ ap (λ x. (joined before ++ message_octets m) ++ (t ∷ x)) (sym (take-append-drop n octets)) ∙ sym (append_assoc (joined before ++ message_octets m) (t ∷ take n octets) (drop n octets)))
    (group_begun before m t (take n octets) whole few begun allowed new (ap (λ k. k % field_size t) size ∙ fields.0) (omega arith) refl)
    (row_value m t (take n octets) (drop n octets) there last ∙ ap (value_reason t) all ∙ refused)

-- ---- on from a message that has begun

-- What is to show behind a message that has begun.
abbrev Goes : ℕ → List ℕ → Type 0
Goes left payload = (before : List Content) (m : Content) (rest : List ℕ) → AreWhole before → length before < 4 → IsBegun m
    → payload ≡ (joined before ++ message_octets m) ++ rest → length rest ≤ left → Outcome payload

message_octets-all : (number : ℕ) → message_octets (record { tag = 1; number = number; groups = [] }) ≡ 1 ∷ []
unfolding message_octets
message_octets-all number = refl

message_octets-bare : (t number : ℕ) → (t == 1) ≡ false → message_octets (record { tag = t; number = number; groups = [] }) ≡ t ∷ number ∷ []
unfolding message_octets
message_octets-bare t number not_all = rw not_all refl

-- A message begins with a tag that has a number.
numbered_begins : (left : ℕ) (payload : List ℕ) (before : List Content) (t : ℕ) (octets : List ℕ) → Goes left payload → AreWhole before → length before < 4
    → is_message_tag t ≡ true → (t == 1) ≡ false → payload ≡ joined before ++ (t ∷ octets) → length octets ≤ left → Outcome payload
numbered_begins left payload before t [] goes whole few known not_all parts bound =
    fault_here payload (joined before ++ (t ∷ [])) [] (Number t) 9 (parts ∙ sym (append-nil (joined before ++ (t ∷ []))))
    (tag_read before t whole few known not_all refl) no_number_row
  where
    no_number_row : reason_at (Number t) [] ≡ Some 9
    no_number_row = number_row t
numbered_begins left payload before t (n ∷ octets) goes whole few known not_all parts bound =
    goes before (record { tag = t; number = n; groups = [] }) octets whole few
    (record { known = known; unnumbered = λ (is : t ≡ 1). absurd (true≢false (sym (tag_is t is) ∙ not_all)); grouped = tt })
    (parts ∙ sym (append_assoc (joined before) (t ∷ n ∷ []) octets) ∙ ap (λ x. (joined before ++ x) ++ octets) (sym (message_octets-bare t n not_all)))
    (omega arith)
  where
    tag_is : (t : ℕ) → t ≡ 1 → (t == 1) ≡ true
    tag_is t is = rw is refl

-- A message begins.
message_begins : (left : ℕ) (payload : List ℕ) (before : List Content) (t : ℕ) (octets : List ℕ) → Goes left payload → AreWhole before → length before < 4
    → is_message_tag t ≡ true → payload ≡ joined before ++ (t ∷ octets) → length octets ≤ left → Outcome payload
message_begins left payload before t octets goes whole few known parts bound = on_bool (t == 1)
    (λ all.
    let one : t ≡ 1 = grind (arith, nat_tests, all) in
    goes before (record { tag = 1; number = 0; groups = [] }) octets whole few
    (record { known = subst (λ (x : ℕ). is_message_tag x ≡ true) one known; unnumbered = λ is. refl; grouped = tt })
    (parts ∙ ap (λ (x : ℕ). joined before ++ (x ∷ octets)) one ∙ sym (append_assoc (joined before) (1 ∷ []) octets) ∙ ap (λ x. (joined before ++ x) ++ octets) (sym (message_octets-all 0)))
    bound)
    (λ not_all. numbered_begins left payload before t octets goes whole few known not_all parts bound)

-- A group of the message begins.
group_begins : (left : ℕ) (payload : List ℕ) (before : List Content) (m : Content) (t : ℕ) (octets : List ℕ) → Goes left payload → AreWhole before → length before < 4 → IsBegun m
    → allows m.tag t ≡ true → has_tag t m.groups ≡ false → payload ≡ (joined before ++ message_octets m) ++ t ∷ octets → length octets ≤ left → Outcome payload
group_begins left payload before m t octets goes whole few begun allowed new parts bound = on_bool (nat_lt (length octets) (data_size t))
    (λ cut. fault_in_cut payload before m t octets whole few begun allowed new parts (grind (arith, nat_tests, cut)))
    (λ full. by_value (value_reason t (take (data_size t) octets)) refl (grind (arith, nat_tests, full)))
  where
    by_value : (v : Option ℕ) → value_reason t (take (data_size t) octets) ≡ v → data_size t ≤ length octets → Outcome payload
    by_value (Some reason) is full = fault_in_value payload before m t octets reason whole few begun allowed new parts full is
    by_value None is full =
        let g : Group = record { tag = t; octets = take (data_size t) octets } in
        let one : IsGroupOf m.tag (record { tag = t; octets = take (data_size t) octets })
        = record { allowed = allowed; full = omega (arith, length-take (data_size t) octets); admitted = is } in
        goes before (with_group m (record { tag = t; octets = take (data_size t) octets })) (drop (data_size t) octets) whole few
        (with_group_begun m (record { tag = t; octets = take (data_size t) octets }) begun one new)
        (parts ∙ ap (λ x. (joined before ++ message_octets m) ++ (t ∷ x)) (sym (take-append-drop (data_size t) octets))
        ∙ sym (append_assoc (joined before ++ message_octets m) (t ∷ take (data_size t) octets) (drop (data_size t) octets))
        ∙ ap (λ x. x ++ drop (data_size t) octets) (append_assoc (joined before) (message_octets m) (t ∷ take (data_size t) octets)
        ∙ ap (λ x. joined before ++ x) (sym (with_group_octets m (record { tag = t; octets = take (data_size t) octets })))))
        (omega (arith, length-drop (data_size t) octets))

-- The next message begins.
next_begins : (left : ℕ) (payload : List ℕ) (before : List Content) (m : Content) (t : ℕ) (octets : List ℕ) → Goes left payload → AreWhole before → length before < 4 → IsWhole m
    → (length before + 1 == 4) ≡ false → is_message_tag t ≡ true → payload ≡ (joined before ++ message_octets m) ++ t ∷ octets → length octets ≤ left → Outcome payload
next_begins left payload before m t octets goes whole few one not_four known parts bound =
    let few_more : length (before ++ m ∷ []) < 4 = grind (arith, nat_tests, length-append before (m ∷ []), not_four, few) in
    message_begins left payload (before ++ m ∷ []) t octets goes (AreWhole-last before m whole one) few_more known
    (parts ∙ ap (λ x. x ++ (t ∷ octets)) (sym (joined-last before m))) bound

-- Behind a message that has begun an octet follows.
octet_follows : (left : ℕ) (payload : List ℕ) (before : List Content) (m : Content) (t : ℕ) (octets : List ℕ) → Goes left payload → AreWhole before → length before < 4 → IsBegun m
    → payload ≡ (joined before ++ message_octets m) ++ t ∷ octets → length octets ≤ left → Outcome payload
octet_follows left payload before m t octets goes whole few begun parts bound = on_bool (allows m.tag t)
    (λ allowed. on_bool (has_tag t m.groups)
    (λ has. fault (repeat_reason t) (row_repeat (length before + 1) m t octets allowed has))
    (λ new. group_begins left payload before m t octets goes whole few begun allowed new parts bound))
    (λ no_group. on_bool (is_message_tag t)
    (λ known. on_bool (asks_nothing m)
    (λ nothing. fault 3 (row_nothing (length before + 1) m t octets no_group known nothing))
    (λ asks. on_bool (length before + 1 == 4)
    (λ four. fault 8 (row_fifth (length before + 1) m t octets no_group known asks four))
    (λ not_four. next_begins left payload before m t octets goes whole few (record { begun = begun; asks = asks }) not_four known parts bound)))
    (λ other. fault 7 (row_stranger (length before + 1) m t octets no_group other)))
  where
    fault : (reason : ℕ) → reason_at (GroupOrMessage (length before + 1) m) (t ∷ octets) ≡ Some reason → Outcome payload
    fault reason applies = fault_here payload (joined before ++ message_octets m) (t ∷ octets) (GroupOrMessage (length before + 1) m) reason parts
        (message_begun before m whole few begun refl) applies

payload_ends : (payload : List ℕ) (before : List Content) (m : Content) → AreWhole before → length before < 4 → IsBegun m
    → payload ≡ (joined before ++ message_octets m) ++ [] → Outcome payload
payload_ends payload before m whole few begun parts = on_bool (asks_nothing m)
    (λ nothing. fault_here payload (joined before ++ message_octets m) [] (GroupOrMessage (length before + 1) m) 3 parts
    (message_begun before m whole few begun refl) (row_end_nothing (length before + 1) m nothing))
    (λ asks. encoding_here payload before m whole few (record { begun = begun; asks = asks }) (parts ∙ append-nil (joined before ++ message_octets m)))

goes_on : (left : ℕ) (payload : List ℕ) → Goes left payload
goes_on left payload before m [] whole few begun parts bound = payload_ends payload before m whole few begun parts
goes_on zero payload before m (t ∷ octets) whole few begun parts bound = absurd (omega arith)
goes_on (suc left) payload before m (t ∷ octets) whole few begun parts bound =
    octet_follows left payload before m t octets (goes_on left payload) whole few begun parts (omega arith)

pub one_or_other : (payload : List ℕ) → Outcome payload
unfolding reason_at
one_or_other [] = fault_here [] [] [] FirstMessage 9 refl (nothing_read refl) refl
one_or_other (t ∷ octets) = on_bool (is_message_tag t)
    (λ known. message_begins (length octets) (t ∷ octets) [] t octets (goes_on (length octets) (t ∷ octets)) tt (omega arith) known refl (omega arith))
    (λ other. fault_here (t ∷ octets) [] (t ∷ octets) FirstMessage 7 refl (nothing_read refl) (rw other refl))
