-- Messages that ask the same are equal, so a payload is an encoding of one uplink at most.
use Rattle.std.proofs.Common.{◌≡◌, ℕ, zero, suc, ◌<◌, ◌≤◌, List, [], ◌∷◌, ◌++◌, length, map, take, drop, get_or, Bool, true, false, IsTrue, ◌==◌, Option, Some, None, option_map, ℤ, refl, sym, ◌∙◌, ap, subst, arith, FitsSigned, ◌<ℤ◌, if◌then◌else◌}
use Rattle.std.specs.Option.{ForSome}
use Rattle.std.specs.Int.{w8, w16, cast_signed, cast_unsigned}
use Rattle.std.proofs.Props.{props}
use Rattle.std.proofs.lemmas.Bool.Decides.{nat_tests}
use Rattle.std.proofs.lemmas.Int.{to_z-of_z}
use Rattle.std.proofs.lemmas.List.{ext_get_or}
use Rattle.arrayvec.specs.ArrayVec.{ArrayVec}
use Rattle.adsc_requests.specs.Watching.{is_watching, is_not_zero}
use Rattle.adsc_requests.specs.Tables.{is_modulus_tag, signed_16}
use Rattle.adsc_requests.specs.Contents.{Group, Content, group_if, collected, collected_from, group_tags, single, octet_8, range_octets, intent_octets, report_octets, event_octets, content_of, contents_of}
use Rattle.adsc_requests.specs.declared.message.Intent.{Intent}
use Rattle.adsc_requests.specs.declared.message.Range.{Range}
use Rattle.adsc_requests.specs.declared.message.Limits.{Limits}
use Rattle.adsc_requests.specs.declared.message.Moduli.{Moduli}
use Rattle.adsc_requests.specs.declared.message.Message.{Message}
use Rattle.adsc_requests.specs.declared.message.Message.TheVariants.{CancelAll, Cancel, CancelEmergency, Periodic, Event, Emergency}
use Rattle.adsc_requests.specs.declared.message.Uplink.{Uplink}
use Rattle.adsc_requests.proofs.Collecting.{on_bool, is_among}
use Rattle.adsc_requests.proofs.Whole.{signed_16-octets}

-- ---- structs with the same fields are equal

make_intent : (modulus minutes : ℕ) → 0 < minutes → Intent
make_intent modulus minutes projects = record { modulus = modulus; minutes = minutes; projects = projects }

pub same_intent : (a b : Intent) → a.modulus ≡ b.modulus → a.minutes ≡ b.minutes → a ≡ b
unfolding make_intent
same_intent a b modulus minutes =
    subst (λ (x : ℕ × ℕ). (h : 0 < x.1) → a ≡ make_intent x.0 x.1 h) (λ i. (modulus i, minutes i))
    (λ h. ap (make_intent a.modulus a.minutes) (one a.projects h)) b.projects
  where
    one : IsProp (0 < a.minutes)
    one = hlevel props

make_range : (ceiling floor : ℤ) → FitsSigned w16 ceiling → FitsSigned w16 floor → floor <ℤ ceiling → Range
make_range ceiling floor ceiling_fits floor_fits ordered =
    record { ceiling = ceiling; floor = floor; ceiling_fits = ceiling_fits; floor_fits = floor_fits; ordered = ordered }

pub same_range : (a b : Range) → a.ceiling ≡ b.ceiling → a.floor ≡ b.floor → a ≡ b
unfolding make_range
same_range a b ceiling floor =
    subst (λ (x : ℤ × ℤ). (p : FitsSigned w16 x.0) (q : FitsSigned w16 x.1) (r : x.1 <ℤ x.0) → a ≡ make_range x.0 x.1 p q r) (λ i. (ceiling i, floor i))
    (λ p q r i. make_range a.ceiling a.floor (fits_prop a.ceiling a.ceiling_fits p i) (fits_prop a.floor a.floor_fits q i) (less_prop a.ordered r i))
    b.ceiling_fits b.floor_fits b.ordered
  where
    fits_prop : (z : ℤ) → IsProp (FitsSigned w16 z)
    fits_prop z = hlevel props

    less_prop : IsProp (a.floor <ℤ a.ceiling)
    less_prop = hlevel props

make_moduli : (m : List (Option ℕ)) → length m ≡ 6 → Moduli
make_moduli m six = record { m = m; six = six }

pub same_moduli : (a b : Moduli) → a.m ≡ b.m → a ≡ b
unfolding make_moduli
same_moduli a b same =
    subst (λ (x : List (Option ℕ)). (h : length x ≡ 6) → a ≡ make_moduli x h) same
    (λ h. ap (make_moduli a.m) (one a.six h)) b.six
  where
    one : IsProp (length a.m ≡ 6)
    one = hlevel props

make_limits : (lateral : Option ℕ) (vrate : Option ℤ) (range : Option Range) (waypoint : Bool)
    → ForSome lateral (λ t. 0 < t) → ForSome vrate (λ t. FitsSigned w8 t) → ForSome vrate (λ t. IsTrue (is_not_zero t))
    → IsTrue (is_watching lateral vrate range waypoint) → Limits
make_limits lateral vrate range waypoint above fits not_0 watches = record {
  lateral = lateral;
  vrate = vrate;
  range = range;
  waypoint = waypoint;
  lateral_above_0 = above;
  vrate_fits = fits;
  vrate_not_0 = not_0;
  watches = watches;
}

pub same_limits : (a b : Limits) → a.lateral ≡ b.lateral → a.vrate ≡ b.vrate → a.range ≡ b.range → a.waypoint ≡ b.waypoint → a ≡ b
unfolding make_limits
same_limits a b lateral vrate range waypoint =
    subst (λ (x : Option ℕ × Option ℤ × Option Range × Bool).
    (p : ForSome x.0 (λ t. 0 < t)) (q : ForSome x.1 (λ t. FitsSigned w8 t)) (r : ForSome x.1 (λ t. IsTrue (is_not_zero t))) (s : IsTrue (is_watching x.0 x.1 x.2 x.3))
    → a ≡ make_limits x.0 x.1 x.2 x.3 p q r s)
    (λ i. (lateral i, vrate i, range i, waypoint i))
    (λ p q r s i. make_limits a.lateral a.vrate a.range a.waypoint (above_prop a.lateral_above_0 p i) (fits_prop a.vrate_fits q i) (not_0_prop a.vrate_not_0 r i) (watches_prop a.watches s i))
    b.lateral_above_0 b.vrate_fits b.vrate_not_0 b.watches
  where
    above_prop : IsProp (ForSome a.lateral (λ t. 0 < t))
    above_prop = hlevel props

    fits_prop : IsProp (ForSome a.vrate (λ t. FitsSigned w8 t))
    fits_prop = hlevel props

    not_0_prop : IsProp (ForSome a.vrate (λ t. IsTrue (is_not_zero t)))
    not_0_prop = hlevel props

    watches_prop : IsProp (IsTrue (is_watching a.lateral a.vrate a.range a.waypoint))
    watches_prop = hlevel props

make_uplink : (messages : ArrayVec Message) → 1 ≤ length messages.items → length messages.items ≤ 4 → Uplink
make_uplink messages some few = record { messages = messages; some = some; few = few }

pub same_uplink : (a b : Uplink) → a.messages.items ≡ b.messages.items → a ≡ b
unfolding make_uplink
same_uplink a b same =
    subst (λ (x : List Message). (p : 1 ≤ length x) (q : length x ≤ 4) → a ≡ make_uplink (record { items = x }) p q) same
    (λ p q i. make_uplink a.messages (some_prop a.some p i) (few_prop a.few q i))
    b.some b.few
  where
    some_prop : IsProp (1 ≤ length a.messages.items)
    some_prop = hlevel props

    few_prop : IsProp (length a.messages.items ≤ 4)
    few_prop = hlevel props

-- ---- a group is found by its tag

find_octets : ℕ → List Group → Option (List ℕ)
find_octets t [] = None
find_octets t (g ∷ gs) = if g.tag == t then Some g.octets else find_octets t gs

find-group_if : (t s : ℕ) (o : Option (List ℕ)) (rest : List Group) → (s == t) ≡ false → find_octets t (group_if s o ++ rest) ≡ find_octets t rest
unfolding find_octets
find-group_if t s None rest other = refl
find-group_if t s (Some x) rest other = rw other refl

find-here : (t s : ℕ) (o : Option (List ℕ)) (rest : List Group) → (s == t) ≡ true → (o ≡ None → find_octets t rest ≡ None)
    → find_octets t (group_if s o ++ rest) ≡ o
unfolding find_octets
find-here t s None rest is later = later refl
find-here t s (Some x) rest is later = rw is refl

-- The octets of a tag that isn't there are not found.
find-nothing : (d : ℕ → Option (List ℕ)) (t : ℕ) (ts : List ℕ) → d t ≡ None → find_octets t (collected_from d ts) ≡ None
unfolding find_octets
find-nothing d t [] none = refl
find-nothing d t (s ∷ ss) none = on_bool (s == t)
    (λ is.
    let same : s ≡ t = grind (arith, nat_tests, is) in
    find-here t s (d s) (collected_from d ss) is (λ h. find-nothing d t ss none) ∙ ap d same ∙ none)
    (λ other. find-group_if t s (d s) (collected_from d ss) other ∙ find-nothing d t ss none)

find-collected_from : (d : ℕ → Option (List ℕ)) (t : ℕ) (ts : List ℕ) → is_among t ts ≡ true → find_octets t (collected_from d ts) ≡ d t
find-collected_from d t [] among = cc
find-collected_from d t (s ∷ ss) among = on_bool (s == t)
    (λ is.
    let same : s ≡ t = grind (arith, nat_tests, is) in
    find-here t s (d s) (collected_from d ss) is (λ h. find-nothing d t ss (sym (ap d same) ∙ h)) ∙ ap d same)
    (λ other. find-group_if t s (d s) (collected_from d ss) other ∙ find-collected_from d t ss (grind (arith, nat_tests, other, among)))

-- Functions of which the same groups are collected give the same octets.
same_octets : (d e : ℕ → Option (List ℕ)) (t : ℕ) → is_among t group_tags ≡ true → collected d ≡ collected e → d t ≡ e t
unfolding collected
same_octets d e t among same =
    sym (find-collected_from d t group_tags among) ∙ ap (find_octets t) same ∙ find-collected_from e t group_tags among

-- ---- fields with the same octets are equal

same_mapped : {A : Type 0} (f : A → List ℕ) → ((a b : A) → f a ≡ f b → a ≡ b) → (o p : Option A) → option_map f o ≡ option_map f p → o ≡ p
same_mapped f injective None None e = refl
same_mapped f injective None (Some b) e = cc
same_mapped f injective (Some a) None e = cc
same_mapped f injective (Some a) (Some b) e = ap (λ x. Some x) (injective a b (same_some (f a) (f b) e))
  where
    same_some : (x y : List ℕ) → Some x ≡ Some y → x ≡ y
    same_some x y e = cc

same_single : (a b : ℕ) → single a ≡ single b → a ≡ b
same_single a b e = cc

same_intent_octets : (a b : Intent) → intent_octets a ≡ intent_octets b → a ≡ b
same_intent_octets a b e = same_intent a b (first a.modulus a.minutes b.modulus b.minutes e) (second a.modulus a.minutes b.modulus b.minutes e)
  where
    first : (w x y z : ℕ) → w ∷ x ∷ [] ≡ y ∷ z ∷ [] → w ≡ y
    first w x y z e = cc

    second : (w x y z : ℕ) → w ∷ x ∷ [] ≡ y ∷ z ∷ [] → x ≡ z
    second w x y z e = cc

same_range_octets : (a b : Range) → range_octets a ≡ range_octets b → a ≡ b
same_range_octets a b e =
    same_range a b
    (sym (signed_16-octets a.ceiling a.ceiling_fits) ∙ ap (λ o. signed_16 (take 2 o)) e ∙ signed_16-octets b.ceiling b.ceiling_fits)
    (sym (signed_16-octets a.floor a.floor_fits) ∙ ap (λ o. signed_16 (drop 2 o)) e ∙ signed_16-octets b.floor b.floor_fits)

same_vrate : (a b : Option ℤ) → ForSome a (λ z. FitsSigned w8 z) → ForSome b (λ z. FitsSigned w8 z) → option_map octet_8 a ≡ option_map octet_8 b → a ≡ b
same_vrate None None fa fb e = refl
same_vrate None (Some b) fa fb e = cc
same_vrate (Some a) None fa fb e = cc
same_vrate (Some a) (Some b) fa fb e =
    ap (λ x. Some x) (sym (to_z-of_z w8 a (fa a refl)) ∙ ap (cast_signed w8) (same_octet (cast_unsigned w8 a) (cast_unsigned w8 b) e) ∙ to_z-of_z w8 b (fb b refl))
  where
    same_octet : (x y : ℕ) → Some (x ∷ []) ≡ Some (y ∷ []) → x ≡ y
    same_octet x y e = cc

flag_octets : Bool → Option (List ℕ)
flag_octets w = if w then Some [] else None

same_flag : (a b : Bool) → flag_octets a ≡ flag_octets b → a ≡ b
unfolding flag_octets
same_flag true true e = refl
same_flag false false e = refl
same_flag true false e = cc
same_flag false true e = cc

-- ---- messages

same_modulus : (i i' : Option ℕ) (m m' : List (Option ℕ)) (n n' : Option Intent) → collected (report_octets i m n) ≡ collected (report_octets i' m' n')
    → (k : ℕ) → k < 6 → get_or m k None ≡ get_or m' k None
unfolding report_octets is_modulus_tag
same_modulus i i' m m' n n' same zero below = same_mapped single same_single (get_or m 0 None) (get_or m' 0 None) (same_octets (report_octets i m n) (report_octets i' m' n') 12 refl same)
same_modulus i i' m m' n n' same (suc zero) below = same_mapped single same_single (get_or m 1 None) (get_or m' 1 None) (same_octets (report_octets i m n) (report_octets i' m' n') 13 refl same)
same_modulus i i' m m' n n' same (suc (suc zero)) below = same_mapped single same_single (get_or m 2 None) (get_or m' 2 None) (same_octets (report_octets i m n) (report_octets i' m' n') 14 refl same)
same_modulus i i' m m' n n' same (suc (suc (suc zero))) below = same_mapped single same_single (get_or m 3 None) (get_or m' 3 None) (same_octets (report_octets i m n) (report_octets i' m' n') 15 refl same)
same_modulus i i' m m' n n' same (suc (suc (suc (suc zero)))) below = same_mapped single same_single (get_or m 4 None) (get_or m' 4 None) (same_octets (report_octets i m n) (report_octets i' m' n') 16 refl same)
same_modulus i i' m m' n n' same (suc (suc (suc (suc (suc zero))))) below = same_mapped single same_single (get_or m 5 None) (get_or m' 5 None) (same_octets (report_octets i m n) (report_octets i' m' n') 17 refl same)
same_modulus i i' m m' n n' same (suc (suc (suc (suc (suc (suc k)))))) below = absurd (omega arith)

same_reports : (i i' : Option ℕ) (m m' : Moduli) (n n' : Option Intent)
    → collected (report_octets i m.m n) ≡ collected (report_octets i' m'.m n') → (i ≡ i') × (m ≡ m') × (n ≡ n')
unfolding report_octets
same_reports i i' m m' n n' same = (
  same_mapped single same_single i i' (same_octets (report_octets i m.m n) (report_octets i' m'.m n') 11 refl same),
  same_moduli m m' (ext_get_or None m.m m'.m (omega (arith, m.six, m'.six)) (λ k less. same_modulus i i' m.m m'.m n n' same k (omega (arith, m.six)))),
  same_mapped intent_octets same_intent_octets n n' (same_octets (report_octets i m.m n) (report_octets i' m'.m n') 21 refl same),
)

same_events : (a b : Limits) → collected (event_octets a.lateral a.vrate a.range a.waypoint) ≡ collected (event_octets b.lateral b.vrate b.range b.waypoint) → a ≡ b
unfolding event_octets flag_octets
same_events a b same =
    let d : ℕ → Option (List ℕ) = event_octets a.lateral a.vrate a.range a.waypoint in
    let e : ℕ → Option (List ℕ) = event_octets b.lateral b.vrate b.range b.waypoint in
    same_limits a b
    (same_mapped single same_single a.lateral b.lateral (same_octets d e 10 refl same))
    (same_vrate a.vrate b.vrate a.vrate_fits b.vrate_fits (same_octets d e 18 refl same))
    (same_mapped range_octets same_range_octets a.range b.range (same_octets d e 19 refl same))
    (same_flag a.waypoint b.waypoint (same_octets d e 20 refl same))

-- Messages that ask the same are equal.
pub same_message : (a b : Message) → content_of a ≡ content_of b → a ≡ b
same_message CancelAll CancelAll e = refl
same_message (Cancel n) (Cancel n') e = ap Cancel (ap (λ (c : Content). c.number) e)
same_message (CancelEmergency n) (CancelEmergency n') e = ap CancelEmergency (ap (λ (c : Content). c.number) e)
same_message (Periodic n i m t) (Periodic n' i' m' t') e =
    let same = same_reports i i' m m' t t' (ap (λ (c : Content). c.groups) e) in
    λ j. Periodic (ap (λ (c : Content). c.number) e j) (same.0 j) (same.1 j) (same.2 j)
same_message (Event n l) (Event n' l') e = λ j. Event (ap (λ (c : Content). c.number) e j) (same_events l l' (ap (λ (c : Content). c.groups) e) j)
same_message (Emergency n i m t) (Emergency n' i' m' t') e =
    let same = same_reports i i' m m' t t' (ap (λ (c : Content). c.groups) e) in
    λ j. Emergency (ap (λ (c : Content). c.number) e j) (same.0 j) (same.1 j) (same.2 j)
same_message CancelAll (Cancel n') e = absurd (omega (arith, ap (λ (c : Content). c.tag) e))
same_message CancelAll (CancelEmergency n') e = absurd (omega (arith, ap (λ (c : Content). c.tag) e))
same_message CancelAll (Periodic n' i' m' t') e = absurd (omega (arith, ap (λ (c : Content). c.tag) e))
same_message CancelAll (Event n' l') e = absurd (omega (arith, ap (λ (c : Content). c.tag) e))
same_message CancelAll (Emergency n' i' m' t') e = absurd (omega (arith, ap (λ (c : Content). c.tag) e))
same_message (Cancel n) CancelAll e = absurd (omega (arith, ap (λ (c : Content). c.tag) e))
same_message (Cancel n) (CancelEmergency n') e = absurd (omega (arith, ap (λ (c : Content). c.tag) e))
same_message (Cancel n) (Periodic n' i' m' t') e = absurd (omega (arith, ap (λ (c : Content). c.tag) e))
same_message (Cancel n) (Event n' l') e = absurd (omega (arith, ap (λ (c : Content). c.tag) e))
same_message (Cancel n) (Emergency n' i' m' t') e = absurd (omega (arith, ap (λ (c : Content). c.tag) e))
same_message (CancelEmergency n) CancelAll e = absurd (omega (arith, ap (λ (c : Content). c.tag) e))
same_message (CancelEmergency n) (Cancel n') e = absurd (omega (arith, ap (λ (c : Content). c.tag) e))
same_message (CancelEmergency n) (Periodic n' i' m' t') e = absurd (omega (arith, ap (λ (c : Content). c.tag) e))
same_message (CancelEmergency n) (Event n' l') e = absurd (omega (arith, ap (λ (c : Content). c.tag) e))
same_message (CancelEmergency n) (Emergency n' i' m' t') e = absurd (omega (arith, ap (λ (c : Content). c.tag) e))
same_message (Periodic n i m t) CancelAll e = absurd (omega (arith, ap (λ (c : Content). c.tag) e))
same_message (Periodic n i m t) (Cancel n') e = absurd (omega (arith, ap (λ (c : Content). c.tag) e))
same_message (Periodic n i m t) (CancelEmergency n') e = absurd (omega (arith, ap (λ (c : Content). c.tag) e))
same_message (Periodic n i m t) (Event n' l') e = absurd (omega (arith, ap (λ (c : Content). c.tag) e))
same_message (Periodic n i m t) (Emergency n' i' m' t') e = absurd (omega (arith, ap (λ (c : Content). c.tag) e))
same_message (Event n l) CancelAll e = absurd (omega (arith, ap (λ (c : Content). c.tag) e))
same_message (Event n l) (Cancel n') e = absurd (omega (arith, ap (λ (c : Content). c.tag) e))
same_message (Event n l) (CancelEmergency n') e = absurd (omega (arith, ap (λ (c : Content). c.tag) e))
same_message (Event n l) (Periodic n' i' m' t') e = absurd (omega (arith, ap (λ (c : Content). c.tag) e))
same_message (Event n l) (Emergency n' i' m' t') e = absurd (omega (arith, ap (λ (c : Content). c.tag) e))
same_message (Emergency n i m t) CancelAll e = absurd (omega (arith, ap (λ (c : Content). c.tag) e))
same_message (Emergency n i m t) (Cancel n') e = absurd (omega (arith, ap (λ (c : Content). c.tag) e))
same_message (Emergency n i m t) (CancelEmergency n') e = absurd (omega (arith, ap (λ (c : Content). c.tag) e))
same_message (Emergency n i m t) (Periodic n' i' m' t') e = absurd (omega (arith, ap (λ (c : Content). c.tag) e))
same_message (Emergency n i m t) (Event n' l') e = absurd (omega (arith, ap (λ (c : Content). c.tag) e))

same_messages : (ms ns : List Message) → map content_of ms ≡ map content_of ns → ms ≡ ns
same_messages [] [] e = refl
same_messages [] (n ∷ ns) e = cc
same_messages (m ∷ ms) [] e = cc
same_messages (m ∷ ms) (n ∷ ns) e =
    λ i. same_message m n (first (content_of m) (content_of n) (map content_of ms) (map content_of ns) e) i
    ∷ same_messages ms ns (rest (content_of m) (content_of n) (map content_of ms) (map content_of ns) e) i
  where
    first : (x y : Content) (xs ys : List Content) → x ∷ xs ≡ y ∷ ys → x ≡ y
    first x y xs ys e = cc

    rest : (x y : Content) (xs ys : List Content) → x ∷ xs ≡ y ∷ ys → xs ≡ ys
    rest x y xs ys e = cc

-- Uplinks that ask the same are equal.
pub same_contents : (a b : Uplink) → contents_of a ≡ contents_of b → a ≡ b
same_contents a b e = same_uplink a b (same_messages a.messages.items b.messages.items e)
