-- Reading goes along what stands by the grammar: groups, whole messages.
use Rattle.std.proofs.Common.{◌≡◌, ℕ, zero, suc, ◌+◌, ◌≤◌, List, [], ◌∷◌, ◌++◌, length, map, take, drop, true, false, ◌||◌, ◌&&◌, nat_lt, ◌==◌, None, Ok, Err, refl, sym, ◌∙◌, ap, subst, arith, length-append, append-nil, append_assoc, true≢false}
use Rattle.std.specs.List.{flat_map}
use Rattle.std.proofs.lemmas.List.{take_at, drop_at, nil_from_length}
use Rattle.std.proofs.lemmas.Bool.Decides.{nat_tests}
use Rattle.adsc_requests.specs.Tables.{is_message_tag, is_request_tag, is_modulus_tag, allows, data_size, value_reason}
use Rattle.adsc_requests.specs.Contents.{Group, Content, has_tag}
use Rattle.adsc_requests.specs.Grammar.{group_octets, message_octets, joined, IsGroupOf, AreGroups, IsBegun, IsWhole, AreWhole, asks_nothing}
use Rattle.adsc_requests.specs.Reading.{put, ◌>>=◌, stop, octet_at, data_at, with_data_at, group_at, groups_at, event_at, request_at, cancel_at, message_at, messages_at}
use Rattle.adsc_requests.specs.declared.decoding.stop.Stop.{Stop}
use Rattle.adsc_requests.proofs.Collecting.{on_bool}
use Rattle.adsc_requests.proofs.ReadingLemmas.{has_tag-put}
use Rattle.adsc_requests.proofs.ByTag.{put_all, by_tag, ordered}

-- ---- tags

pub allowed_is_no_message : (m t : ℕ) → allows m t ≡ true → is_message_tag t ≡ false
unfolding allows is_modulus_tag is_message_tag
allowed_is_no_message m t allowed = grind (arith, nat_tests, allowed)

pub allowed_in_request : (m t : ℕ) → allows m t ≡ true → is_request_tag m ≡ true
unfolding allows is_modulus_tag is_request_tag
allowed_in_request m t allowed = grind (arith, nat_tests, allowed)

-- A message ends here: nothing follows, or a message tag.
abbrev pub EndsMessage : List ℕ → Type 0
EndsMessage [] = Unit {0}
EndsMessage (t ∷ octets) = is_message_tag t ≡ true

-- ---- a group

pub data_at-full : (t number : ℕ) (octets rest : List ℕ) → length octets ≡ data_size t → value_reason t octets ≡ None
    → data_at t number (octets ++ rest) ≡ Ok (octets, rest)
unfolding data_at
data_at-full t number octets rest full admitted =
    let enough : nat_lt (length (octets ++ rest)) (data_size t) ≡ false = grind (arith, nat_tests, length-append octets rest, full) in
    let front : take (data_size t) (octets ++ rest) ≡ octets = take_at octets rest (data_size t) full in
    let behind : drop (data_size t) (octets ++ rest) ≡ rest = drop_at octets rest (data_size t) full in
    rw (enough, front, behind, admitted) refl

pub group_at-full : (m number : ℕ) (read : List Group) (g : Group) (rest : List ℕ) → IsGroupOf m g → has_tag g.tag read ≡ false
    → group_at m number read g.tag (g.octets ++ rest) ≡ Ok (put g read, rest)
unfolding group_at with_data_at
group_at-full m number read g rest is new =
    rw (is.allowed, new, data_at-full g.tag number g.octets rest is.full is.admitted) refl

-- ---- groups

-- Reading goes on behind groups that stand by the grammar.
pub groups_at-along : (k m number : ℕ) (earlier gs read : List Group) (rest : List ℕ) → AreGroups m earlier gs
    → ((t : ℕ) → has_tag t earlier ≡ has_tag t read) → length (flat_map group_octets gs ++ rest) ≤ k
    → (j : ℕ) × (length rest ≤ j) × (groups_at k m number read (flat_map group_octets gs ++ rest) ≡ groups_at j m number (put_all read gs) rest)
unfolding groups_at
groups_at-along k m number earlier [] read rest are same enough = (k, enough, refl)
groups_at-along zero m number earlier (g ∷ gs) read rest are same enough = absurd (omega arith)
groups_at-along (suc j) m number earlier (g ∷ gs) read rest are same enough =
    let apart : (g.octets ++ flat_map group_octets gs) ++ rest ≡ g.octets ++ (flat_map group_octets gs ++ rest) = append_assoc g.octets (flat_map group_octets gs) rest in
    let new : has_tag g.tag read ≡ false = sym (same g.tag) ∙ are.1 in
    let read_one : group_at m number read g.tag ((g.octets ++ flat_map group_octets gs) ++ rest) ≡ Ok (put g read, flat_map group_octets gs ++ rest)
    = ap (group_at m number read g.tag) apart ∙ group_at-full m number read g (flat_map group_octets gs ++ rest) are.0 new in
    let later : (i : ℕ) × (length rest ≤ i) × (groups_at j m number (put g read) (flat_map group_octets gs ++ rest) ≡ groups_at i m number (put_all (put g read) gs) rest)
    = groups_at-along j m number (g ∷ earlier) gs (put g read) rest are.2
    (λ t. ap (λ b. (g.tag == t) || b) (same t) ∙ sym (has_tag-put t g read))
    (omega (arith, ap length apart, length-append g.octets (flat_map group_octets gs ++ rest))) in
    (later.0, later.1, rw (allowed_is_no_message m g.tag (are.0).allowed, read_one) later.2)

pub groups_at-ends : (k m number : ℕ) (read : List Group) (rest : List ℕ) → length rest ≤ k → EndsMessage rest
    → groups_at k m number read rest ≡ Ok (read, rest)
unfolding groups_at
groups_at-ends zero m number read [] enough ends = refl
groups_at-ends (suc k) m number read [] enough ends = refl
groups_at-ends zero m number read (t ∷ rest) enough ends = absurd (omega arith)
groups_at-ends (suc k) m number read (t ∷ rest) enough ends = rw ends refl

-- ---- messages

no_groups : (m : ℕ) (gs : List Group) → is_request_tag m ≡ false → AreGroups m [] gs → gs ≡ []
no_groups m [] other are = refl
no_groups m (g ∷ gs) other are = absurd (true≢false (sym (allowed_in_request m g.tag (are.0).allowed) ∙ other))

-- A request behind its tag: reading goes to where its groups end, or stop.
pub request_at-stops : (m number : ℕ) (gs : List Group) (rest : List ℕ) (s : Stop) → AreGroups m [] gs
    → ((j : ℕ) → length rest ≤ j → groups_at j m number (by_tag gs) rest ≡ Err s)
    → request_at m (number ∷ (flat_map group_octets gs ++ rest)) ≡ Err s
unfolding request_at octet_at
request_at-stops m number gs rest s are stops =
    let along = groups_at-along (length (flat_map group_octets gs ++ rest)) m number [] gs [] rest are (λ t. refl) (omega arith) in
    rw (along.2, stops along.0 along.1) refl

pub request_at-whole : (m number : ℕ) (gs : List Group) (rest : List ℕ) → AreGroups m [] gs → EndsMessage rest
    → asks_nothing (record { tag = m; number = number; groups = by_tag gs }) ≡ false
    → request_at m (number ∷ (flat_map group_octets gs ++ rest)) ≡ Ok (record { tag = m; number = number; groups = by_tag gs }, rest)
unfolding request_at octet_at event_at
request_at-whole m number gs rest are ends asks =
    let along = groups_at-along (length (flat_map group_octets gs ++ rest)) m number [] gs [] rest are (λ t. refl) (omega arith) in
    rw (along.2, groups_at-ends along.0 m number (by_tag gs) rest along.1 ends)
    (on_bool (m == 8)
    (λ is. let same : m ≡ 8 = grind (arith, nat_tests, is) in
    let some : (length (by_tag gs) == 0) ≡ false = ap (λ b. b && (length (by_tag gs) == 0)) (sym is) ∙ asks in
    rw (is, some, same) refl)
    (λ is. rw is refl))

pub request_at-nothing : (number : ℕ) (rest : List ℕ) → EndsMessage rest
    → request_at 8 (number ∷ rest) ≡ Err (stop (length rest) 3 number)
unfolding request_at octet_at event_at
request_at-nothing number rest ends =
    rw (groups_at-ends (length rest) 8 number [] rest (omega arith) ends) refl

-- ---- messages as they stand

pub message_at-request : (p t : ℕ) (octets : List ℕ) → is_request_tag t ≡ true → message_at p (t ∷ octets) ≡ request_at t octets
unfolding message_at is_request_tag
message_at-request p t octets is =
    let not_all : (t == 1) ≡ false = grind (arith, nat_tests, is) in
    let not_cancel : (t == 2) || (t == 6) ≡ false = grind (arith, nat_tests, is) in
    rw (not_all, not_cancel, is) refl

pub message_at-stranger : (p t : ℕ) (octets : List ℕ) → is_message_tag t ≡ false → message_at p (t ∷ octets) ≡ Err (stop (length octets + 1) 7 p)
unfolding message_at is_request_tag is_message_tag
message_at-stranger p t octets other =
    let not_all : (t == 1) ≡ false = grind (arith, nat_tests, other) in
    let not_cancel : (t == 2) || (t == 6) ≡ false = grind (arith, nat_tests, other) in
    let no_request : (t == 7) || (t == 8) || (t == 9) ≡ false = grind (arith, nat_tests, other) in
    rw (not_all, not_cancel, no_request) refl

pub message_at-cancel : (p t : ℕ) (octets : List ℕ) → is_message_tag t ≡ true → is_request_tag t ≡ false → (t == 1) ≡ false
    → message_at p (t ∷ octets) ≡ cancel_at t octets
unfolding message_at is_request_tag is_message_tag
message_at-cancel p t octets known other not_all =
    let cancel : (t == 2) || (t == 6) ≡ true = grind (arith, nat_tests, known, other, not_all) in
    rw (not_all, cancel) refl

numbered_octets : (t number : ℕ) (gs : List Group) (rest : List ℕ) → (t == 1) ≡ false
    → message_octets (record { tag = t; number = number; groups = gs }) ++ rest ≡ t ∷ number ∷ (flat_map group_octets gs ++ rest)
unfolding message_octets
numbered_octets t number gs rest not_all = rw not_all refl

unnumbered_octets : (t number : ℕ) (gs : List Group) (rest : List ℕ) → (t == 1) ≡ true
    → message_octets (record { tag = t; number = number; groups = gs }) ++ rest ≡ t ∷ (flat_map group_octets gs ++ rest)
unfolding message_octets
unnumbered_octets t number gs rest all = rw all refl

request_has_number : (t : ℕ) → is_request_tag t ≡ true → (t == 1) ≡ false
unfolding is_request_tag
request_has_number t is = grind (arith, nat_tests, is)

pub message_at-stops : (p : ℕ) (m : Content) (rest : List ℕ) (s : Stop) → IsBegun m → is_request_tag m.tag ≡ true
    → ((j : ℕ) → length rest ≤ j → groups_at j m.tag m.number (by_tag m.groups) rest ≡ Err s)
    → message_at p (message_octets m ++ rest) ≡ Err s
message_at-stops p m rest s begun request stops =
    ap (message_at p) (numbered_octets m.tag m.number m.groups rest (request_has_number m.tag request))
    ∙ message_at-request p m.tag _ request
    ∙ request_at-stops m.tag m.number m.groups rest s begun.grouped stops

pub length-put : (g : Group) (gs : List Group) → length (put g gs) ≡ suc (length gs)
length-put g [] = refl
length-put g (h ∷ hs) = on_bool (nat_lt g.tag h.tag) (λ is. rw is refl) (λ is. rw is (ap suc (length-put g hs)))

pub length-put_all : (into gs : List Group) → length (put_all into gs) ≡ length into + length gs
length-put_all into [] = omega arith
length-put_all into (g ∷ gs) = omega (arith, length-put_all (put g into) gs, length-put g into)

same_asks : (m : Content) → asks_nothing (ordered m) ≡ asks_nothing m
same_asks m =
    let same : length (by_tag m.groups) ≡ length m.groups = omega (arith, length-put_all [] m.groups) in
    rw same refl

event_is_request : is_request_tag 8 ≡ true
unfolding is_request_tag
event_is_request = refl

pub message_at-nothing : (p : ℕ) (m : Content) (rest : List ℕ) → IsBegun m → asks_nothing m ≡ true → EndsMessage rest
    → message_at p (message_octets m ++ rest) ≡ Err (stop (length rest) 3 m.number)
message_at-nothing p m rest begun nothing ends =
    let event : m.tag ≡ 8 = grind (arith, nat_tests, nothing) in
    let is_event : (m.tag == 8) ≡ true = grind (arith, nat_tests, nothing) in
    let none : length m.groups ≡ 0 = grind (arith, nat_tests, is_event, nothing) in
    here m.tag m.number m.groups event (nil_from_length _ none)
  where
    here : (t number : ℕ) (gs : List Group) → t ≡ 8 → gs ≡ [] → message_at p (message_octets (record { tag = t; number = number; groups = gs }) ++ rest) ≡ Err (stop (length rest) 3 number)
    here t number gs event none = rw (event, none) (at_event number)
      where
        at_event : (number : ℕ) → message_at p (message_octets (record { tag = 8; number = number; groups = [] }) ++ rest) ≡ Err (stop (length rest) 3 number)
        at_event number = ap (message_at p) (numbered_octets 8 number [] rest refl) ∙ message_at-request p 8 _ event_is_request ∙ request_at-nothing number rest ends

whole_request : (p : ℕ) (m : Content) (rest : List ℕ) → IsWhole m → EndsMessage rest → is_request_tag m.tag ≡ true
    → message_at p (message_octets m ++ rest) ≡ Ok (ordered m, rest)
whole_request p m rest whole ends request =
    ap (message_at p) (numbered_octets m.tag m.number m.groups rest (request_has_number m.tag request))
    ∙ message_at-request p m.tag _ request
    ∙ request_at-whole m.tag m.number m.groups rest (whole.begun).grouped ends (same_asks m ∙ whole.asks)

whole_cancel : (p t number : ℕ) (gs : List Group) (rest : List ℕ) → is_message_tag t ≡ true → is_request_tag t ≡ false → (t == 1) ≡ false → gs ≡ []
    → message_at p (message_octets (record { tag = t; number = number; groups = gs }) ++ rest) ≡ Ok (record { tag = t; number = number; groups = by_tag gs }, rest)
unfolding cancel_at octet_at
whole_cancel p t number gs rest known other not_all none =
    ap (message_at p) (numbered_octets t number gs rest not_all) ∙ message_at-cancel p t _ known other not_all ∙ rw none refl

whole_cancel_all : (p t number : ℕ) (gs : List Group) (rest : List ℕ) → (t == 1) ≡ true → number ≡ 0 → gs ≡ []
    → message_at p (message_octets (record { tag = t; number = number; groups = gs }) ++ rest) ≡ Ok (record { tag = t; number = number; groups = by_tag gs }, rest)
unfolding message_at
whole_cancel_all p t number gs rest all zeroed none =
    let one : t ≡ 1 = grind (arith, nat_tests, all) in
    ap (message_at p) (unnumbered_octets t number gs rest all) ∙ rw (none, zeroed, one) refl

-- A cancel is read, whatever follows.
pub message_at-cancels : (p : ℕ) (m : Content) (rest : List ℕ) → IsBegun m → is_request_tag m.tag ≡ false
    → message_at p (message_octets m ++ rest) ≡ Ok (ordered m, rest)
message_at-cancels p m rest begun other = on_bool (m.tag == 1)
    (λ all. whole_cancel_all p m.tag m.number m.groups rest all (begun.unnumbered (let one : m.tag ≡ 1 = grind (arith, nat_tests, all) in one)) (no_groups m.tag m.groups other begun.grouped))
    (λ not_all. whole_cancel p m.tag m.number m.groups rest begun.known other not_all (no_groups m.tag m.groups other begun.grouped))

-- A whole message is read, whatever follows that ends it.
pub message_at-whole : (p : ℕ) (m : Content) (rest : List ℕ) → IsWhole m → EndsMessage rest
    → message_at p (message_octets m ++ rest) ≡ Ok (ordered m, rest)
message_at-whole p m rest whole ends = on_bool (is_request_tag m.tag)
    (λ request. whole_request p m rest whole ends request)
    (λ other. message_at-cancels p m rest whole.begun other)

pub message_starts : (m : Content) (rest : List ℕ) → is_message_tag m.tag ≡ true → EndsMessage (message_octets m ++ rest)
message_starts m rest known = on_bool (m.tag == 1)
    (λ all. subst EndsMessage (sym (unnumbered_octets m.tag m.number m.groups rest all)) known)
    (λ not_all. subst EndsMessage (sym (numbered_octets m.tag m.number m.groups rest not_all)) known)

pub message_has_octets : (m : Content) (rest : List ℕ) → 1 ≤ length (message_octets m ++ rest)
message_has_octets m rest = on_bool (m.tag == 1)
    (λ all. omega (arith, ap length (unnumbered_octets m.tag m.number m.groups rest all)))
    (λ not_all. omega (arith, ap length (numbered_octets m.tag m.number m.groups rest not_all)))

-- ---- messages one behind the other

pub messages_at-some : (k p : ℕ) (octets : List ℕ) → 1 ≤ length octets
    → messages_at (suc k) p octets ≡ message_at p octets >>= λ m. messages_at k (m.0).number m.1 >>= λ ms. Ok (m.0 ∷ ms)
unfolding messages_at
messages_at-some k p [] some = absurd (omega arith)
messages_at-some k p (t ∷ octets) some = refl

pub messages_start : (ms : List Content) (rest : List ℕ) → AreWhole ms → EndsMessage rest → EndsMessage (joined ms ++ rest)
messages_start [] rest whole ends = ends
messages_start (m ∷ ms) rest whole ends =
    subst EndsMessage (sym (append_assoc (message_octets m) (joined ms) rest)) (message_starts m (joined ms ++ rest) ((whole.0).begun).known)

-- Behind whole messages a stop is met as it is.
pub messages_at-stops : (ms : List Content) (n k p : ℕ) (rest : List ℕ) (s : Stop) → n ≡ length ms + k → AreWhole ms → EndsMessage rest
    → ((q : ℕ) → messages_at k q rest ≡ Err s) → messages_at n p (joined ms ++ rest) ≡ Err s
messages_at-stops [] n k p rest s count whole ends stops = let same : n ≡ k = omega arith in ap (λ i. messages_at i p rest) same ∙ stops p
messages_at-stops (m ∷ ms) zero k p rest s count whole ends stops = absurd (omega arith)
messages_at-stops (m ∷ ms) (suc n) k p rest s count whole ends stops =
    let later : messages_at n m.number (joined ms ++ rest) ≡ Err s = messages_at-stops ms n k m.number rest s (omega arith) whole.1 ends stops in
    ap (messages_at (suc n) p) (append_assoc (message_octets m) (joined ms) rest)
    ∙ messages_at-some n p (message_octets m ++ (joined ms ++ rest)) (message_has_octets m (joined ms ++ rest))
    ∙ rw (message_at-whole p m (joined ms ++ rest) whole.0 (messages_start ms rest whole.1 ends), later) refl

pub messages_at-whole : (ms : List Content) (k p : ℕ) → AreWhole ms → length ms ≤ k → messages_at k p (joined ms) ≡ Ok (map ordered ms)
unfolding messages_at
messages_at-whole [] zero p whole few = refl
messages_at-whole [] (suc k) p whole few = refl
messages_at-whole (m ∷ ms) zero p whole few = absurd (omega arith)
messages_at-whole (m ∷ ms) (suc k) p whole few =
    let ends : EndsMessage (joined ms) = subst EndsMessage (append-nil (joined ms)) (messages_start ms [] whole.1 tt) in
    messages_at-some k p (message_octets m ++ joined ms) (message_has_octets m (joined ms))
    ∙ rw (message_at-whole p m (joined ms) whole.0 ends, messages_at-whole ms k m.number whole.1 (omega arith)) refl
