-- A payload of octets is an encoding of an uplink or has a first fault.
use Rattle.std.proofs.Common.{◌≡◌, ℕ, zero, suc, ◌-◌, ◌<◌, ◌^◌, List, [], ◌∷◌, ◌++◌, length, map, set, Bool, true, false, true≢false, cond, not, IsTrue, ◌==◌, ◌||◌, Option, Some, None, Result, Ok, Err, ℤ, pos, inl, inr, refl, sym, ap, ap₂, ◌∙◌, subst, arith, FitsSigned, ◌<ℤ◌}
use Rattle.std.specs.Prelude.{flat_map, int_lt}
use Rattle.std.specs.Option.{ForSome}
use Rattle.std.specs.Ordering.{int_eq}
use Rattle.std.specs.Int.{cast_signed, cast_unsigned, from_be_bytes, to_be_bytes, w8, w16}
use Rattle.std.proofs.Math.Facts.{sfits_to_z}
use Rattle.std.proofs.lemmas.Bool.Decides.{Decides-int_eq, nat_tests}
use Rattle.std.proofs.lemmas.Int.{ints, of_z-to_z}
use Rattle.std.proofs.lemmas.List.{length-map, length-set}
use Rattle.std.proofs.lemmas.List.Sorted.{length_permutation}
use Rattle.std.proofs.lemmas.Nat.{be_bytes_2}
use Rattle.std.proofs.lemmas.Option.{same_Some}
use Rattle.hex.specs.Hex.{IsBytes}
use Rattle.adsc_requests.specs.Contents.{Content, Group, collected, content_of, event_octets, has_tag, octets_16, range_octets, report_octets}
use Rattle.adsc_requests.specs.Gathered.{AreAllowed, field_octets}
use Rattle.adsc_requests.specs.Grammar.{AreGroups, AreWhole, EncodesContents, EncodesUplink, IsGroupOf, IsWhole, asks_nothing, group_octets, head_octets, joined, message_octets}
use Rattle.adsc_requests.specs.Reading.{put}
use Rattle.adsc_requests.specs.Tables.{allows, data_size, is_message_tag, is_modulus_tag, is_request_group_tag, signed_16, value_reason}
use Rattle.adsc_requests.specs.Watching.{is_not_zero, is_watching}
use Rattle.adsc_requests.specs.declared.message.Intent.{Intent}
use Rattle.adsc_requests.specs.declared.message.Moduli.{Moduli}
use Rattle.adsc_requests.specs.declared.message.Range.{Range}
use Rattle.adsc_requests.specs.declared.message.Message.{Message}
use Rattle.adsc_requests.specs.declared.message.Message.TheVariants.{CancelAll, Cancel, CancelEmergency, Periodic, Event, Emergency}
use Rattle.adsc_requests.specs.declared.message.Uplink.{Uplink}
use Rattle.adsc_requests.specs.declared.refusal.Refusal.{Refusal}
use Rattle.adsc_requests.proofs.ByTag.{by_tag, each_asked_is_ordered, each_asks_ordered, ordered, put_all}
use Rattle.adsc_requests.proofs.Collecting.{on_bool}
use Rattle.adsc_requests.proofs.GatheredLemmas.{events_are_watched, only_events, only_reports, put_intent, put_interval, put_lateral, put_modulus, put_range, put_vrate, put_waypoint}
use Rattle.adsc_requests.proofs.ReadingLaws.{contents_or_fault}
use Rattle.adsc_requests.proofs.ReadingLemmas.{allowed_is_group, has_tag-put}
use Rattle.ground_texts.specs.Readings.{ReadsPayload}

-- ---- octets of parts

IsBytes-left : (a b : List ℕ) → IsBytes (a ++ b) → IsBytes a
IsBytes-left [] b bytes i = omega arith
IsBytes-left (x ∷ a) b bytes zero = bytes 0
IsBytes-left (x ∷ a) b bytes (suc i) = IsBytes-left a b (λ k. bytes (suc k)) i

IsBytes-right : (a b : List ℕ) → IsBytes (a ++ b) → IsBytes b
IsBytes-right [] b bytes = bytes
IsBytes-right (x ∷ a) b bytes = IsBytes-right a b (λ k. bytes (suc k))

-- The data of groups are octets.
abbrev HaveBytes : List Group → Type 0
HaveBytes [] = Unit {0}
HaveBytes (g ∷ gs) = IsBytes g.octets × HaveBytes gs

bytes_of_groups : (gs : List Group) → IsBytes (flat_map group_octets gs) → HaveBytes gs
bytes_of_groups [] bytes = tt
bytes_of_groups (g ∷ gs) bytes = (
  IsBytes-left g.octets (flat_map group_octets gs) (λ k. bytes (suc k)),
  bytes_of_groups gs (IsBytes-right (group_octets g) (flat_map group_octets gs) bytes),
)

-- ---- the values that data stand for

for_some : {A : Type 0} (P : A → Type 0) (x : A) → P x → ForSome (Some x) P
for_some P x holds y is = subst P (same_Some x y is) holds

above_0 : (x reason : ℕ) → cond (x == 0) (Some reason) None ≡ None → 0 < x
above_0 zero reason admitted = cc
above_0 (suc x) reason admitted = omega arith

is_true : (b : Bool) (reason : ℕ) → cond b None (Some reason) ≡ None → b ≡ true
is_true true reason admitted = refl
is_true false reason admitted = cc

signed_not_0 : (x : ℕ) → x < 2 ^ 8 → 0 < x → IsTrue (is_not_zero (cast_signed w8 x))
signed_not_0 x fits above =
    on_bool (int_eq (cast_signed w8 x) (pos 0))
    (λ is.
    let nothing : x ≡ 0 = sym (of_z-to_z w8 x fits) ∙ ap (cast_unsigned w8) ((Decides-int_eq (cast_signed w8 x) (pos 0)).0 is) in
    absurd (omega (arith, nothing, above)))
    (λ other. ap not other)

number_16 : (a b : ℕ) → a < 256 → b < 256 → from_be_bytes w16 (a ∷ b ∷ []) < 2 ^ 16
number_16 a b low high = omega arith

octets_of_signed : (a b : ℕ) → a < 256 → b < 256 → octets_16 (signed_16 (a ∷ b ∷ [])) ≡ a ∷ b ∷ []
octets_of_signed a b low high =
    let n = from_be_bytes w16 (a ∷ b ∷ []) in
    ap (to_be_bytes w16) (of_z-to_z w16 n (number_16 a b low high)) ∙ be_bytes_2 (a ∷ b ∷ []) n refl small refl
  where
    small : IsBytes (a ∷ b ∷ [])
    small zero = low
    small (suc zero) = high
    small (suc (suc i)) = omega arith

below_from_test : (a b : ℤ) → int_lt a b ≡ true → a <ℤ b
below_from_test a b test = grind (arith, ints)

-- ---- one group more

-- The groups of a request as far as they were gathered, of a periodic request and of an event request alike.
record Gathered : Type 0 where
  lateral : Option ℕ
  interval : Option ℕ
  moduli : Moduli
  vrate : Option ℤ
  range : Option Range
  waypoint : Bool
  intent : Option Intent
  lateral_above_0 : ForSome lateral (λ t. 0 < t)
  vrate_fits : ForSome vrate (λ t. FitsSigned w8 t)
  vrate_not_0 : ForSome vrate (λ t. IsTrue (is_not_zero t))

abbrev gathered_groups : Gathered → List Group
gathered_groups a = collected (field_octets a.lateral a.interval a.moduli.m a.vrate a.range a.waypoint a.intent)

-- A group with this tag and this data may be put among those that were gathered.
record Fits (t : ℕ) (octets : List ℕ) (a : Gathered) : Type 0 where
  full : length octets ≡ data_size t
  admitted : value_reason t octets ≡ None
  bytes : IsBytes octets
  new : has_tag t (gathered_groups a) ≡ false

-- What is gathered with the group.
abbrev With : ℕ → List ℕ → Gathered → Type 0
With t octets a = (b : Gathered) × (gathered_groups b ≡ put (record { tag = t; octets = octets }) (gathered_groups a))

with_lateral : (octets : List ℕ) (a : Gathered) → Fits 10 octets a → With 10 octets a
unfolding data_size value_reason
with_lateral [] a fits = absurd (omega (arith, fits.full))
with_lateral (x ∷ y ∷ octets) a fits = absurd (omega (arith, fits.full))
with_lateral (x ∷ []) a fits = (
  record a { lateral = Some x; lateral_above_0 = for_some (λ t. 0 < t) x (above_0 x 13 fits.admitted) },
  put_lateral a.lateral a.interval a.moduli.m a.vrate a.range a.waypoint a.intent x fits.new,
)

with_interval : (octets : List ℕ) (a : Gathered) → Fits 11 octets a → With 11 octets a
unfolding data_size value_reason
with_interval [] a fits = absurd (omega (arith, fits.full))
with_interval (x ∷ y ∷ octets) a fits = absurd (omega (arith, fits.full))
with_interval (x ∷ []) a fits =
    (record a { interval = Some x }, put_interval a.lateral a.interval a.moduli.m a.vrate a.range a.waypoint a.intent x fits.new)

modulus_size : (t : ℕ) → is_modulus_tag t ≡ true → data_size t ≡ 1
unfolding data_size is_modulus_tag
modulus_size t modulus = grind (arith, nat_tests, modulus)

with_modulus : (t : ℕ) → is_modulus_tag t ≡ true → (octets : List ℕ) (a : Gathered) → Fits t octets a → With t octets a
with_modulus t modulus [] a fits = absurd (omega (arith, fits.full, modulus_size t modulus))
with_modulus t modulus (x ∷ y ∷ octets) a fits = absurd (omega (arith, fits.full, modulus_size t modulus))
with_modulus t modulus (x ∷ []) a fits = (
  record a { moduli = record { m = set a.moduli.m (t - 12) (Some x); six = length-set a.moduli.m (t - 12) (Some x) ∙ a.moduli.six } },
  put_modulus a.lateral a.interval a.moduli.m a.vrate a.range a.waypoint a.intent t x modulus a.moduli.six fits.new,
)

with_vrate : (octets : List ℕ) (a : Gathered) → Fits 18 octets a → With 18 octets a
unfolding data_size value_reason
with_vrate [] a fits = absurd (omega (arith, fits.full))
with_vrate (x ∷ y ∷ octets) a fits = absurd (omega (arith, fits.full))
with_vrate (x ∷ []) a fits =
    let small : x < 2 ^ 8 = fits.bytes 0 in
    let z = cast_signed w8 x in (
      record a {
        vrate = Some z;
        vrate_fits = for_some (λ t. FitsSigned w8 t) z (sfits_to_z {w = w8} (record { fits = small }));
        vrate_not_0 = for_some (λ t. IsTrue (is_not_zero t)) z (signed_not_0 x small (above_0 x 11 fits.admitted));
      },
      put_vrate a.lateral a.interval a.moduli.m a.vrate a.range a.waypoint a.intent z fits.new
          ∙ ap (λ (n : ℕ). put (record { tag = 18; octets = n ∷ [] }) (gathered_groups a)) (of_z-to_z w8 x small),
    )

range_of : (c d e f : ℕ) → IsBytes (c ∷ d ∷ e ∷ f ∷ []) → value_reason 19 (c ∷ d ∷ e ∷ f ∷ []) ≡ None
    → (r : Range) × (range_octets r ≡ c ∷ d ∷ e ∷ f ∷ [])
unfolding value_reason
range_of c d e f bytes admitted =
    let ceiling = signed_16 (c ∷ d ∷ []) in
    let floor = signed_16 (e ∷ f ∷ []) in (
      record {
        ceiling = ceiling;
        floor = floor;
        ceiling_fits = sfits_to_z {w = w16} (record { fits = number_16 c d (bytes 0) (bytes 1) });
        floor_fits = sfits_to_z {w = w16} (record { fits = number_16 e f (bytes 2) (bytes 3) });
        ordered = below_from_test floor ceiling (is_true (int_lt floor ceiling) 10 admitted);
      },
      ap₂ (λ (x y : List ℕ). x ++ y) (octets_of_signed c d (bytes 0) (bytes 1)) (octets_of_signed e f (bytes 2) (bytes 3)),
    )

with_range : (octets : List ℕ) (a : Gathered) → Fits 19 octets a → With 19 octets a
unfolding data_size
with_range [] a fits = absurd (omega (arith, fits.full))
with_range (c ∷ []) a fits = absurd (omega (arith, fits.full))
with_range (c ∷ d ∷ []) a fits = absurd (omega (arith, fits.full))
with_range (c ∷ d ∷ e ∷ []) a fits = absurd (omega (arith, fits.full))
with_range (c ∷ d ∷ e ∷ f ∷ g ∷ octets) a fits = absurd (omega (arith, fits.full))
with_range (c ∷ d ∷ e ∷ f ∷ []) a fits =
    let r = range_of c d e f fits.bytes fits.admitted in (
      record a { range = Some r.0 },
      put_range a.lateral a.interval a.moduli.m a.vrate a.range a.waypoint a.intent r.0 fits.new
          ∙ ap (λ (xs : List ℕ). put (record { tag = 19; octets = xs }) (gathered_groups a)) r.1,
    )

with_waypoint : (octets : List ℕ) (a : Gathered) → Fits 20 octets a → With 20 octets a
unfolding data_size
with_waypoint (x ∷ octets) a fits = absurd (omega (arith, fits.full))
with_waypoint [] a fits =
    (record a { waypoint = true }, put_waypoint a.lateral a.interval a.moduli.m a.vrate a.range a.waypoint a.intent fits.new)

with_intent : (octets : List ℕ) (a : Gathered) → Fits 21 octets a → With 21 octets a
unfolding data_size value_reason
with_intent [] a fits = absurd (omega (arith, fits.full))
with_intent (x ∷ []) a fits = absurd (omega (arith, fits.full))
with_intent (x ∷ y ∷ z ∷ octets) a fits = absurd (omega (arith, fits.full))
with_intent (x ∷ y ∷ []) a fits =
    let i : Intent = record { modulus = x; minutes = y; projects = above_0 y 12 fits.admitted } in
    (record a { intent = Some i }, put_intent a.lateral a.interval a.moduli.m a.vrate a.range a.waypoint a.intent i fits.new)

-- The group has this tag, or it is told by the cases that are left.
at_tag : (n t : ℕ) (octets : List ℕ) (a : Gathered) → (Fits n octets a → With n octets a) → Fits t octets a
    → ((t == n) ≡ false → With t octets a) → With t octets a
at_tag n t octets a here fits others =
    on_bool (t == n)
    (λ is.
    let same : n ≡ t = grind (arith, nat_tests, is) in
    subst (λ (u : ℕ). Fits u octets a → With u octets a) same here fits)
    others

with_group : (m t : ℕ) (octets : List ℕ) (a : Gathered) → allows m t ≡ true → Fits t octets a → With t octets a
unfolding is_request_group_tag is_modulus_tag
with_group m t octets a allowed fits =
    let range : is_request_group_tag t ≡ true = allowed_is_group m t allowed in
    at_tag 10 t octets a (with_lateral octets a) fits (λ not_10.
    at_tag 11 t octets a (with_interval octets a) fits (λ not_11.
    on_bool (is_modulus_tag t) (λ modulus. with_modulus t modulus octets a fits) (λ no_modulus.
    at_tag 18 t octets a (with_vrate octets a) fits (λ not_18.
    at_tag 19 t octets a (with_range octets a) fits (λ not_19.
    at_tag 20 t octets a (with_waypoint octets a) fits (λ not_20.
    at_tag 21 t octets a (with_intent octets a) fits (λ not_21.
    absurd (grind (arith, nat_tests, range, not_10, not_11, no_modulus, not_18, not_19, not_20, not_21)))))))))

-- ---- the groups of a message

-- What is gathered are these groups, which a message of this tag may have.
record Gathers (m : ℕ) (gs : List Group) : Type 0 where
  gathered : Gathered
  groups : gathered_groups gathered ≡ gs
  allowed : AreAllowed m gs

none_gathered : (m : ℕ) → Gathers m []
unfolding collected field_octets event_octets report_octets allows is_modulus_tag
none_gathered m = record {
  gathered = record {
    lateral = None;
    interval = None;
    moduli = record { m = None ∷ None ∷ None ∷ None ∷ None ∷ None ∷ []; six = refl };
    vrate = None;
    range = None;
    waypoint = false;
    intent = None;
    lateral_above_0 = λ t is. absurd (cc);
    vrate_fits = λ t is. absurd (cc);
    vrate_not_0 = λ t is. absurd (cc);
  };
  groups = refl;
  allowed = record { others = λ t other. refl };
}

put_is_allowed : (m : ℕ) (g : Group) (gs : List Group) → allows m g.tag ≡ true → AreAllowed m gs → AreAllowed m (put g gs)
put_is_allowed m g gs allowed all = record {
  others = λ t other.
      let apart : (g.tag == t) ≡ false = on_bool (g.tag == t) (λ is. absurd (clash t other is)) (λ is. is) in
      has_tag-put t g gs ∙ rw (apart, all.others t other) refl;
}
  where
    clash : (t : ℕ) → allows m t ≡ false → (g.tag == t) ≡ true → ⊥
    clash t other is =
        let same : g.tag ≡ t = grind (arith, nat_tests, is) in
        true≢false (sym allowed ∙ ap (allows m) same ∙ other)

gather_more : (m : ℕ) (g : Group) (into : List Group) → Gathers m into → IsGroupOf m g → IsBytes g.octets → has_tag g.tag into ≡ false
    → Gathers m (put g into)
gather_more m g into a is bytes new =
    let more = with_group m g.tag g.octets a.gathered is.allowed
    (record { full = is.full; admitted = is.admitted; bytes = bytes; new = ap (has_tag g.tag) a.groups ∙ new }) in
    record { gathered = more.0; groups = more.1 ∙ ap (put g) a.groups; allowed = put_is_allowed m g into is.allowed a.allowed }

gather : (m : ℕ) (earlier into gs : List Group) → ((t : ℕ) → has_tag t into ≡ has_tag t earlier) → Gathers m into
    → AreGroups m earlier gs → HaveBytes gs → Gathers m (put_all into gs)
gather m earlier into [] same a are bytes = a
gather m earlier into (g ∷ gs) same a are bytes =
    gather m (g ∷ earlier) (put g into) gs (λ t. has_tag-put t g into ∙ ap (λ b. (g.tag == t) || b) (same t))
    (gather_more m g into a are.0 bytes.0 (same g.tag ∙ are.1)) are.2 bytes.1

gathered_by_tag : (m : ℕ) (gs : List Group) → AreGroups m [] gs → HaveBytes gs → Gathers m (by_tag gs)
gathered_by_tag m gs are bytes = gather m [] [] gs (λ t. refl) (none_gathered m) are bytes

-- ---- messages

abbrev content : ℕ → ℕ → List Group → Content
content tag number groups = record { tag = tag; number = number; groups = groups }

-- Some message asks this.
abbrev IsAsked : Content → Type 0
IsAsked c = (m : Message) × (content_of m ≡ c)

-- A message that may have no groups has none.
no_groups : (m : ℕ) (gs : List Group) → ((t : ℕ) → allows m t ≡ false) → AreGroups m [] gs → [] ≡ by_tag gs
no_groups m [] never are = refl
no_groups m (g ∷ gs) never are = absurd (true≢false (sym are.0.allowed ∙ never g.tag))

cancel_all : (number : ℕ) (gs : List Group) → number ≡ 0 → AreGroups 1 [] gs → IsAsked (content 1 number (by_tag gs))
unfolding allows
cancel_all number gs none are = (CancelAll, ap₂ (content 1) (sym none) (no_groups 1 gs (λ t. refl) are))

cancel : (number : ℕ) (gs : List Group) → AreGroups 2 [] gs → IsAsked (content 2 number (by_tag gs))
unfolding allows
cancel number gs are = (Cancel number, ap (content 2 number) (no_groups 2 gs (λ t. refl) are))

cancel_emergency : (number : ℕ) (gs : List Group) → AreGroups 6 [] gs → IsAsked (content 6 number (by_tag gs))
unfolding allows
cancel_emergency number gs are = (CancelEmergency number, ap (content 6 number) (no_groups 6 gs (λ t. refl) are))

-- The groups of a periodic or an emergency request.
reports : (m : ℕ) (gs : List Group) (a : Gathers m gs) → allows m 10 ≡ false → allows m 18 ≡ false → allows m 19 ≡ false → allows m 20 ≡ false
    → collected (report_octets a.gathered.interval a.gathered.moduli.m a.gathered.intent) ≡ gs
reports m gs a no_10 no_18 no_19 no_20 =
    let g = a.gathered in
    only_reports g.lateral g.interval g.moduli.m g.vrate g.range g.waypoint g.intent m no_10 no_18 no_19 no_20
    (subst (AreAllowed m) (sym a.groups) a.allowed) ∙ a.groups

periodic : (number : ℕ) (gs : List Group) → Gathers 7 gs → IsAsked (content 7 number gs)
unfolding allows is_modulus_tag
periodic number gs a =
    (Periodic number a.gathered.interval a.gathered.moduli a.gathered.intent, ap (content 7 number) (reports 7 gs a refl refl refl refl))

emergency : (number : ℕ) (gs : List Group) → Gathers 9 gs → IsAsked (content 9 number gs)
unfolding allows is_modulus_tag
emergency number gs a =
    (Emergency number a.gathered.interval a.gathered.moduli a.gathered.intent, ap (content 9 number) (reports 9 gs a refl refl refl refl))

watching : (b : Bool) → not b ≡ false → b ≡ true
watching true is = refl
watching false is = cc

event : (number : ℕ) (gs : List Group) → Gathers 8 gs → (length gs == 0) ≡ false → IsAsked (content 8 number gs)
event number gs a some =
    let g = a.gathered in
    let all : collected (event_octets g.lateral g.vrate g.range g.waypoint) ≡ gs =
    only_events g.lateral g.interval g.moduli.m g.vrate g.range g.waypoint g.intent (subst (AreAllowed 8) (sym a.groups) a.allowed) ∙ a.groups in
    let watches : is_watching g.lateral g.vrate g.range g.waypoint ≡ true =
    watching (is_watching g.lateral g.vrate g.range g.waypoint)
    (sym (events_are_watched g.lateral g.vrate g.range g.waypoint) ∙ ap (λ (xs : List Group). length xs == 0) all ∙ some) in (
      Event number (record {
        lateral = g.lateral;
        vrate = g.vrate;
        range = g.range;
        waypoint = g.waypoint;
        lateral_above_0 = g.lateral_above_0;
        vrate_fits = g.vrate_fits;
        vrate_not_0 = g.vrate_not_0;
        watches = watches;
      }),
      ap (content 8 number) all,
    )

-- What a whole message with this tag asks, some message of the code asks.
abbrev IsTold : Content → ℕ → Type 0
IsTold m t = (t ≡ 1 → m.number ≡ 0) → AreGroups t [] m.groups → asks_nothing (content t m.number m.groups) ≡ false
    → IsAsked (content t m.number (by_tag m.groups))

at_message : (n t : ℕ) (m : Content) → IsTold m n → ((t == n) ≡ false → IsTold m t) → IsTold m t
at_message n t m here others = on_bool (t == n) (λ is. let same : n ≡ t = grind (arith, nat_tests, is) in subst (IsTold m) same here) others

told : (m : Content) → IsWhole m → HaveBytes m.groups → (t : ℕ) → is_message_tag t ≡ true → IsTold m t
unfolding is_message_tag
told m whole bytes t known =
    at_message 1 t m (λ none are asks. cancel_all m.number m.groups (none refl) are) (λ not_1.
    at_message 2 t m (λ none are asks. cancel m.number m.groups are) (λ not_2.
    at_message 6 t m (λ none are asks. cancel_emergency m.number m.groups are) (λ not_6.
    at_message 7 t m (λ none are asks. periodic m.number (by_tag m.groups) (gathered_by_tag 7 m.groups are bytes)) (λ not_7.
    at_message 8 t m (λ none are asks. event m.number (by_tag m.groups) (gathered_by_tag 8 m.groups are bytes)
    (ap (λ (n : ℕ). n == 0) same_size ∙ asks)) (λ not_8.
    at_message 9 t m (λ none are asks. emergency m.number (by_tag m.groups) (gathered_by_tag 9 m.groups are bytes)) (λ not_9.
    absurd (grind (arith, nat_tests, known, not_1, not_2, not_6, not_7, not_8, not_9))))))))
  where
    same_size : length (by_tag m.groups) ≡ length m.groups
    same_size = length_permutation m.groups (by_tag m.groups) ((each_asks_ordered (m ∷ []) (whole, tt)).0.same_groups)

message_of : (m : Content) → IsWhole m → HaveBytes m.groups → IsAsked (ordered m)
message_of m whole bytes = told m whole bytes m.tag whole.begun.known whole.begun.unnumbered whole.begun.grouped whole.asks

-- ---- uplinks

messages_of : (ms : List Content) → AreWhole ms → IsBytes (joined ms) → (found : List Message) × (map content_of found ≡ map ordered ms)
unfolding message_octets
messages_of [] whole bytes = ([], refl)
messages_of (m ∷ ms) whole bytes =
    let own = IsBytes-left (message_octets m) (joined ms) bytes in
    let first = message_of m whole.0 (bytes_of_groups m.groups (IsBytes-right (head_octets m) (flat_map group_octets m.groups) own)) in
    let others = messages_of ms whole.1 (IsBytes-right (message_octets m) (joined ms) bytes) in
    (first.0 ∷ others.0, ap₂ (λ (c : Content) (cs : List Content). c ∷ cs) first.1 others.1)

-- What octets encode, some uplink asks.
uplink_of : (payload : List ℕ) (contents : List Content) → IsBytes payload → EncodesContents contents payload → (u : Uplink) × EncodesUplink u payload
uplink_of payload contents bytes is =
    let found = messages_of is.standing is.whole (subst IsBytes is.octets bytes) in
    let size : length found.0 ≡ length is.standing =
    sym (length-map found.0 content_of) ∙ ap length found.1 ∙ length-map is.standing ordered in
    let same : contents ≡ map content_of found.0 = each_asked_is_ordered is.standing contents is.whole is.asked ∙ sym found.1 in (
      record { messages = record { items = found.0 }; some = omega (arith, size, is.some); few = omega (arith, size, is.few) },
      subst (λ (cs : List Content). EncodesContents cs payload) same is,
    )

-- A payload of octets is read as the uplink that it encodes, or as its first fault.
pub each_payload : (payload : List ℕ) → IsBytes payload → (asked : Result Uplink Refusal) × ReadsPayload payload asked
each_payload payload bytes =
    elim (contents_or_fault payload) [
      | inl found ↦ let u = uplink_of payload found.0 bytes found.1 in (Ok u.0, u.1)
      | inr fault ↦ (Err fault.0, fault.1)
    ]
