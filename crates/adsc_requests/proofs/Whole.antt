-- The messages of the code are whole messages of the grammar, with their groups by rising tag.
use Rattle.std.proofs.Common.{◌≡◌, ℕ, zero, suc, ◌-◌, ◌<◌, ◌≤◌, ◌^◌, List, [], ◌∷◌, ◌++◌, length, map, take, drop, get_or, Bool, true, false, if◌then◌else◌, not, ◌||◌, IsTrue, nat_lt, ◌==◌, Option, Some, None, option_map, ℤ, pos, negsuc, refl, sym, ◌∙◌, ap, subst, arith, FitsSigned, ◌<ℤ◌, append-nil, append_assoc}
use Rattle.std.specs.Option.{ForSome}
use Rattle.std.specs.Int.{w8, w16, cast_signed, cast_unsigned}
use Rattle.std.specs.Prelude.{int_lt}
use Rattle.std.proofs.lemmas.Bool.Decides.{nat_tests}
use Rattle.std.proofs.lemmas.Int.{ints, to_z-of_z}
use Rattle.std.proofs.lemmas.Nat.{from_be_bytes-to_be_bytes_2}
use Rattle.adsc_requests.specs.Watching.{is_not_zero}
use Rattle.adsc_requests.specs.Tables.{is_message_tag, is_modulus_tag, allows, data_size, value_reason, signed_16}
use Rattle.adsc_requests.specs.Contents.{Group, Content, has_tag, group_if, collected, collected_from, group_tags, single, octet_8, octets_16, range_octets, intent_octets, report_octets, event_octets, tag_of, number_of, groups_of, content_of, contents_of}
use Rattle.adsc_requests.specs.Reading.{put}
use Rattle.adsc_requests.specs.Grammar.{IsGroupOf, AreGroups, IsWhole, AreWhole, asks_nothing, AskEach, EncodesContents, uplink_octets}
use Rattle.adsc_requests.specs.declared.message.Intent.{Intent}
use Rattle.adsc_requests.specs.declared.message.Range.{Range}
use Rattle.adsc_requests.specs.declared.message.Message.{Message}
use Rattle.adsc_requests.specs.declared.message.Message.TheVariants.{CancelAll, Cancel, CancelEmergency, Periodic, Event, Emergency}
use Rattle.adsc_requests.specs.declared.message.Uplink.{Uplink}
use Rattle.adsc_requests.proofs.Collecting.{on_bool, Rising, group_tags_rise}
use Rattle.adsc_requests.proofs.GatheredLemmas.{events_are_watched}
use Rattle.adsc_requests.proofs.ByTag.{put_all, by_tag, ordered, each_asks_ordered}

-- ---- collected groups stand by rising tag

-- All tags are below.
abbrev AllBelow : ℕ → List Group → Type 0
AllBelow low [] = Unit {0}
AllBelow low (g ∷ gs) = (g.tag < low) × AllBelow low gs

AllBelow-more : (low high : ℕ) (gs : List Group) → low ≤ high → AllBelow low gs → AllBelow high gs
AllBelow-more low high [] le below = tt
AllBelow-more low high (g ∷ gs) le below = (omega arith, AllBelow-more low high gs le below.1)

AllBelow-last : (low : ℕ) (gs : List Group) (g : Group) → AllBelow low gs → g.tag < low → AllBelow low (gs ++ g ∷ [])
AllBelow-last low [] g below less = (less, tt)
AllBelow-last low (h ∷ hs) g below less = (below.0, AllBelow-last low hs g below.1 less)

put-last : (g : Group) (gs : List Group) → AllBelow g.tag gs → put g gs ≡ gs ++ g ∷ []
put-last g [] below = refl
put-last g (h ∷ hs) below =
    let later : nat_lt g.tag h.tag ≡ false = grind (arith, nat_tests, below.0) in
    rw later (ap (λ gs. h ∷ gs) (put-last g hs below.1))

has_no_tag-below : (t low : ℕ) (gs : List Group) → AllBelow low gs → low ≤ t → has_tag t gs ≡ false
has_no_tag-below t low [] below le = refl
has_no_tag-below t low (g ∷ gs) below le =
    let apart : (g.tag == t) ≡ false = grind (arith, nat_tests, below.0, le) in
    rw (apart, has_no_tag-below t low gs below.1 le) refl

put_all-group_if : (into : List Group) (t low : ℕ) (o : Option (List ℕ)) (rest : List Group) → AllBelow low into → low ≤ t
    → ((front : List Group) → AllBelow (suc t) front → put_all front rest ≡ front ++ rest)
    → put_all into (group_if t o ++ rest) ≡ into ++ (group_if t o ++ rest)
put_all-group_if into t low None rest below le later = later into (AllBelow-more low (suc t) into (omega arith) below)
put_all-group_if into t low (Some x) rest below le later =
    let g : Group = record { tag = t; octets = x } in
    ap (λ f. put_all f rest) (put-last (record { tag = t; octets = x }) into (AllBelow-more low t into le below))
    ∙ later (into ++ record { tag = t; octets = x } ∷ []) (AllBelow-last (suc t) into (record { tag = t; octets = x }) (AllBelow-more low (suc t) into (omega arith) below) (omega arith))
    ∙ append_assoc into (record { tag = t; octets = x } ∷ []) rest

put_all-collected : (d : ℕ → Option (List ℕ)) (low : ℕ) (ts : List ℕ) (into : List Group) → Rising low ts → AllBelow low into
    → put_all into (collected_from d ts) ≡ into ++ collected_from d ts
put_all-collected d low [] into rises below = sym (append-nil into)
put_all-collected d low (t ∷ ts) into rises below =
    put_all-group_if into t low (d t) (collected_from d ts) below rises.0
    (λ front all. put_all-collected d (suc t) ts front rises.1 all)

pub by_tag-collected : (d : ℕ → Option (List ℕ)) → by_tag (collected d) ≡ collected d
unfolding collected
by_tag-collected d = put_all-collected d 10 group_tags [] group_tags_rise tt

-- ---- collected groups stand by the grammar

-- What a function gives is the data of groups of a message.
abbrev AreData : ℕ → (ℕ → Option (List ℕ)) → Type 0
AreData m d = (t : ℕ) (o : List ℕ) → d t ≡ Some o → IsGroupOf m (record { tag = t; octets = o })

AreGroups-group_if : (m t low : ℕ) (earlier : List Group) (o : Option (List ℕ)) (rest : List Group) → AllBelow low earlier → low ≤ t
    → ((x : List ℕ) → o ≡ Some x → IsGroupOf m (record { tag = t; octets = x }))
    → ((front : List Group) → AllBelow (suc t) front → AreGroups m front rest)
    → AreGroups m earlier (group_if t o ++ rest)
AreGroups-group_if m t low earlier None rest below le one later = later earlier (AllBelow-more low (suc t) earlier (omega arith) below)
AreGroups-group_if m t low earlier (Some x) rest below le one later = (
  one x refl,
  has_no_tag-below t low earlier below le,
  later (record { tag = t; octets = x } ∷ earlier) (omega arith, AllBelow-more low (suc t) earlier (omega arith) below),
)

AreGroups-collected : (m : ℕ) (d : ℕ → Option (List ℕ)) (low : ℕ) (ts : List ℕ) (earlier : List Group) → AreData m d → Rising low ts → AllBelow low earlier
    → AreGroups m earlier (collected_from d ts)
AreGroups-collected m d low [] earlier are rises below = tt
AreGroups-collected m d low (t ∷ ts) earlier are rises below =
    AreGroups-group_if m t low earlier (d t) (collected_from d ts) below rises.0 (are t)
    (λ front all. AreGroups-collected m d (suc t) ts front are rises.1 all)

collected_are_groups : (m : ℕ) (d : ℕ → Option (List ℕ)) → AreData m d → AreGroups m [] (collected d)
unfolding collected
collected_are_groups m d are = AreGroups-collected m d 10 group_tags [] are group_tags_rise tt

-- ---- the data of a periodic or an emergency request

same_some : {A : Type 0} (a b : A) → Some a ≡ Some b → a ≡ b
same_some a b e = cc

none_is_not_some : {A : Type 0} (a : A) → None ≡ Some a → ⊥
none_is_not_some a e = cc

-- What is mapped is there.
mapped : {A : Type 0} (f : A → List ℕ) (o : Option A) (x : List ℕ) → option_map f o ≡ Some x → (a : A) × (o ≡ Some a) × (f a ≡ x)
mapped f None x e = absurd (none_is_not_some x e)
mapped f (Some a) x e = (a, refl, same_some (f a) x e)

one_octet : (m t x : ℕ) (o : List ℕ) → allows m t ≡ true → data_size t ≡ 1 → value_reason t (x ∷ []) ≡ None → single x ≡ o → IsGroupOf m (record { tag = t; octets = o })
one_octet m t x o allowed size admitted is =
    subst (λ (y : List ℕ). IsGroupOf m (record { tag = t; octets = y })) is (record { allowed = allowed; full = sym size; admitted = admitted })

is_report_tag : ℕ → Bool
is_report_tag m = (m == 7) || (m == 9)

interval_group : (m x : ℕ) (o : List ℕ) → is_report_tag m ≡ true → single x ≡ o → IsGroupOf m (record { tag = 11; octets = o })
unfolding is_report_tag allows data_size value_reason
interval_group m x o report is = one_octet m 11 x o (rw report refl) refl refl is

modulus_group : (m t x : ℕ) (o : List ℕ) → is_report_tag m ≡ true → is_modulus_tag t ≡ true → single x ≡ o → IsGroupOf m (record { tag = t; octets = o })
unfolding is_report_tag allows data_size value_reason is_modulus_tag
modulus_group m t x o report modulus is =
    let n10 : (t == 10) ≡ false = grind (arith, nat_tests, modulus) in
    let n11 : (t == 11) ≡ false = grind (arith, nat_tests, modulus) in
    let n18 : (t == 18) ≡ false = grind (arith, nat_tests, modulus) in
    let n19 : (t == 19) ≡ false = grind (arith, nat_tests, modulus) in
    let n20 : (t == 20) ≡ false = grind (arith, nat_tests, modulus) in
    let n21 : (t == 21) ≡ false = grind (arith, nat_tests, modulus) in
    one_octet m t x o (rw (report, n11, modulus) refl) (rw (n19, n20, n21) refl) (rw (n10, n18, n19, n21) refl) is

intent_group : (m : ℕ) (i : Intent) (o : List ℕ) → is_report_tag m ≡ true → intent_octets i ≡ o → IsGroupOf m (record { tag = 21; octets = o })
unfolding is_report_tag allows data_size value_reason is_modulus_tag
intent_group m i o report is =
    let some : (i.minutes == 0) ≡ false = grind (arith, nat_tests, i.projects) in
    subst (λ (y : List ℕ). IsGroupOf m (record { tag = 21; octets = y })) is (record { allowed = rw report refl; full = refl; admitted = rw some refl })

report_data : (m : ℕ) (interval : Option ℕ) (moduli : List (Option ℕ)) (intent : Option Intent) → is_report_tag m ≡ true → AreData m (report_octets interval moduli intent)
unfolding report_octets
report_data m interval moduli intent report t o e = on_bool (t == 11)
    (λ is.
    let same : t ≡ 11 = grind (arith, nat_tests, is) in
    let found = mapped single interval o (rw is at e) in
    subst (λ (u : ℕ). IsGroupOf m (record { tag = u; octets = o })) (sym same) (interval_group m found.0 o report found.2))
    (λ not_11. on_bool (t == 21)
    (λ is.
    let same : t ≡ 21 = grind (arith, nat_tests, is) in
    let found = mapped intent_octets intent o (rw (not_11, is) at e) in
    subst (λ (u : ℕ). IsGroupOf m (record { tag = u; octets = o })) (sym same) (intent_group m found.0 o report found.2))
    (λ not_21. on_bool (is_modulus_tag t)
    (λ modulus.
    let found = mapped single (get_or moduli (t - 12) None) o (rw (not_11, not_21, modulus) at e) in
    modulus_group m t found.0 o report modulus found.2)
    (λ other. absurd (none_is_not_some o (rw (not_11, not_21, other) at e)))))

-- ---- the data of an event request

lateral_group : (x : ℕ) (o : List ℕ) → 0 < x → single x ≡ o → IsGroupOf 8 (record { tag = 10; octets = o })
unfolding allows data_size value_reason
lateral_group x o above is =
    let some : (x == 0) ≡ false = grind (arith, nat_tests, above) in
    one_octet 8 10 x o refl refl (rw some refl) is

octet_not_0 : (z : ℤ) → FitsSigned w8 z → IsTrue (is_not_zero z) → (cast_unsigned w8 z == 0) ≡ false
octet_not_0 (pos zero) fits not_0 = cc
octet_not_0 (pos (suc n)) fits not_0 = grind (arith, nat_tests)
octet_not_0 (negsuc n) fits not_0 = let small : n < 128 = fits.sfits in grind (arith, nat_tests, small)

vrate_group : (z : ℤ) (o : List ℕ) → FitsSigned w8 z → IsTrue (is_not_zero z) → octet_8 z ≡ o → IsGroupOf 8 (record { tag = 18; octets = o })
unfolding allows data_size value_reason
vrate_group z o fits not_0 is =
    one_octet 8 18 (cast_unsigned w8 z) o refl refl (rw (octet_not_0 z fits not_0) refl) is

unsigned_fits : (z : ℤ) → FitsSigned w16 z → cast_unsigned w16 z < 2 ^ 16
unsigned_fits (pos n) fits = let small : n < 2 ^ 15 = fits.sfits in omega arith
unsigned_fits (negsuc n) fits = omega arith

ordered_test : (a b : ℤ) → a <ℤ b → int_lt a b ≡ true
ordered_test a b less = grind (arith, ints)

pub signed_16-octets : (z : ℤ) → FitsSigned w16 z → signed_16 (octets_16 z) ≡ z
signed_16-octets z fits = ap (cast_signed w16) (from_be_bytes-to_be_bytes_2 (cast_unsigned w16 z) (unsigned_fits z fits)) ∙ to_z-of_z w16 z fits

range_group : (r : Range) (o : List ℕ) → range_octets r ≡ o → IsGroupOf 8 (record { tag = 19; octets = o })
unfolding allows data_size value_reason
range_group r o is =
    let ceiling : signed_16 (take 2 (range_octets r)) ≡ r.ceiling = signed_16-octets r.ceiling r.ceiling_fits in
    let floor : signed_16 (drop 2 (range_octets r)) ≡ r.floor = signed_16-octets r.floor r.floor_fits in
    let below : int_lt (signed_16 (drop 2 (range_octets r))) (signed_16 (take 2 (range_octets r))) ≡ true
    = subst (λ (x : ℤ × ℤ). int_lt x.0 x.1 ≡ true) (λ i. (sym floor i, sym ceiling i)) (ordered_test r.floor r.ceiling r.ordered) in
    subst (λ (y : List ℕ). IsGroupOf 8 (record { tag = 19; octets = y })) is (record { allowed = refl; full = refl; admitted = rw below refl })

waypoint_group : (o : List ℕ) → [] ≡ o → IsGroupOf 8 (record { tag = 20; octets = o })
unfolding allows data_size value_reason
waypoint_group o is = subst (λ (y : List ℕ). IsGroupOf 8 (record { tag = 20; octets = y })) is (record { allowed = refl; full = refl; admitted = refl })

flag_some : (w : Bool) (o : List ℕ) → (if w then Some [] else None) ≡ Some o → [] ≡ o
flag_some true o e = same_some [] o e
flag_some false o e = absurd (none_is_not_some o e)

event_data : (l : Option ℕ) (v : Option ℤ) (r : Option Range) (w : Bool) → ForSome l (λ x. 0 < x) → ForSome v (λ z. FitsSigned w8 z) → ForSome v (λ z. IsTrue (is_not_zero z))
    → AreData 8 (event_octets l v r w)
unfolding event_octets
event_data l v r w above fits not_0 t o e = on_bool (t == 10)
    (λ is.
    let same : t ≡ 10 = grind (arith, nat_tests, is) in
    let found = mapped single l o (rw is at e) in
    subst (λ (u : ℕ). IsGroupOf 8 (record { tag = u; octets = o })) (sym same) (lateral_group found.0 o (above found.0 found.1) found.2))
    (λ n10. on_bool (t == 18)
    (λ is.
    let same : t ≡ 18 = grind (arith, nat_tests, is) in
    let found = mapped octet_8 v o (rw (n10, is) at e) in
    subst (λ (u : ℕ). IsGroupOf 8 (record { tag = u; octets = o })) (sym same) (vrate_group found.0 o (fits found.0 found.1) (not_0 found.0 found.1) found.2))
    (λ n18. on_bool (t == 19)
    (λ is.
    let same : t ≡ 19 = grind (arith, nat_tests, is) in
    let found = mapped range_octets r o (rw (n10, n18, is) at e) in
    subst (λ (u : ℕ). IsGroupOf 8 (record { tag = u; octets = o })) (sym same) (range_group found.0 o found.2))
    (λ n19. on_bool (t == 20)
    (λ is.
    let same : t ≡ 20 = grind (arith, nat_tests, is) in
    subst (λ (u : ℕ). IsGroupOf 8 (record { tag = u; octets = o })) (sym same) (waypoint_group o (flag_some w o (rw (n10, n18, n19, is) at e))))
    (λ n20. absurd (none_is_not_some o (rw (n10, n18, n19, n20) at e))))))

-- ---- messages

known_tag : (m : Message) → is_message_tag (tag_of m) ≡ true
unfolding is_message_tag
known_tag CancelAll = refl
known_tag (Cancel n) = refl
known_tag (CancelEmergency n) = refl
known_tag (Periodic n interval groups intent) = refl
known_tag (Event n limits) = refl
known_tag (Emergency n interval groups intent) = refl

number_where : (m : Message) → tag_of m ≡ 1 → number_of m ≡ 0
number_where CancelAll is = refl
number_where (Cancel n) is = absurd (omega arith)
number_where (CancelEmergency n) is = absurd (omega arith)
number_where (Periodic n interval groups intent) is = absurd (omega arith)
number_where (Event n limits) is = absurd (omega arith)
number_where (Emergency n interval groups intent) is = absurd (omega arith)

are_groups : (m : Message) → AreGroups (tag_of m) [] (groups_of m)
unfolding is_report_tag
are_groups CancelAll = tt
are_groups (Cancel n) = tt
are_groups (CancelEmergency n) = tt
are_groups (Periodic n interval groups intent) = collected_are_groups 7 (report_octets interval groups.m intent) (report_data 7 interval groups.m intent refl)
are_groups (Event n limits) =
    collected_are_groups 8 (event_octets limits.lateral limits.vrate limits.range limits.waypoint)
    (event_data limits.lateral limits.vrate limits.range limits.waypoint limits.lateral_above_0 limits.vrate_fits limits.vrate_not_0)
are_groups (Emergency n interval groups intent) = collected_are_groups 9 (report_octets interval groups.m intent) (report_data 9 interval groups.m intent refl)

asks_something : (m : Message) → asks_nothing (content_of m) ≡ false
asks_something CancelAll = refl
asks_something (Cancel n) = refl
asks_something (CancelEmergency n) = refl
asks_something (Periodic n interval groups intent) = refl
asks_something (Event n limits) = events_are_watched limits.lateral limits.vrate limits.range limits.waypoint ∙ ap not limits.watches
asks_something (Emergency n interval groups intent) = refl

pub message_is_whole : (m : Message) → IsWhole (content_of m)
message_is_whole m = record {
  begun = record { known = known_tag m; unnumbered = number_where m; grouped = are_groups m };
  asks = asks_something m;
}

groups_in_order : (m : Message) → by_tag (groups_of m) ≡ groups_of m
groups_in_order CancelAll = refl
groups_in_order (Cancel n) = refl
groups_in_order (CancelEmergency n) = refl
groups_in_order (Periodic n interval groups intent) = by_tag-collected (report_octets interval groups.m intent)
groups_in_order (Event n limits) = by_tag-collected (event_octets limits.lateral limits.vrate limits.range limits.waypoint)
groups_in_order (Emergency n interval groups intent) = by_tag-collected (report_octets interval groups.m intent)

pub message_in_order : (m : Message) → ordered (content_of m) ≡ content_of m
message_in_order m = ap (λ gs. record { tag = tag_of m; number = number_of m; groups = gs }) (groups_in_order m)

-- ---- uplinks

messages_are_whole : (ms : List Message) → AreWhole (map content_of ms)
messages_are_whole [] = tt
messages_are_whole (m ∷ ms) = (message_is_whole m, messages_are_whole ms)

messages_in_order : (ms : List Message) → map content_of ms ≡ map ordered (map content_of ms)
messages_in_order [] = refl
messages_in_order (m ∷ ms) =
    subst (λ (x : Content × List Content). content_of m ∷ map content_of ms ≡ x.0 ∷ x.1) (λ i. (sym (message_in_order m) i, messages_in_order ms i)) refl

length-contents : (ms : List Message) → length (map content_of ms) ≡ length ms
length-contents [] = refl
length-contents (m ∷ ms) = ap suc (length-contents ms)

-- What is written for an uplink encodes it.
pub written_encodes : (u : Uplink) → EncodesContents (contents_of u) (uplink_octets u)
written_encodes u = record {
  standing = contents_of u;
  whole = messages_are_whole u.messages.items;
  some = omega (arith, length-contents u.messages.items, u.some);
  few = omega (arith, length-contents u.messages.items, u.few);
  octets = refl;
  asked = subst (AskEach (contents_of u)) (sym (messages_in_order u.messages.items)) (each_asks_ordered (contents_of u) (messages_are_whole u.messages.items));
}
