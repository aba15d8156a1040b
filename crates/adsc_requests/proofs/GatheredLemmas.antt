-- One field of what was asked changes: its group is put among the others.
use Rattle.std.proofs.Common.{◌≡◌, ℕ, ◌-◌, ◌<◌, ◌≤◌, ◌≢◌, List, [], length, set, get_or, Bool, true, false, cond, if◌then◌else◌, not, Ok, Err, ◌==◌, Option, Some, None, is_some, option_map, ℤ, refl, sym, ◌∙◌, ap, subst, arith, get_or-set_other, get_or-set_same}
use Rattle.std.proofs.lemmas.Bool.Decides.{nat_tests}
use Rattle.adsc_requests.specs.Tables.{allows, is_modulus_tag}
use Rattle.adsc_requests.specs.Contents.{has_tag, collected, group_tags, single, octet_8, range_octets, intent_octets, event_octets, report_octets}
use Rattle.adsc_requests.specs.declared.message.Range.{Range}
use Rattle.adsc_requests.specs.declared.message.Intent.{Intent}
use Rattle.adsc_requests.specs.Gathered.{field_octets, AreAllowed}
use Rattle.adsc_requests.specs.Watching.{is_watching}
use Rattle.adsc_requests.specs.Reading.{put, event_at, stop}
use Rattle.adsc_requests.proofs.Collecting.{is_among, on_bool, collected-put, has_tag-collected, has_tag-collected_other}

-- ---- the other groups stay

pub other_than_lateral : (l l' : Option ℕ) (v : Option ℤ) (r : Option Range) (w : Bool) (s : ℕ) → (s == 10) ≡ false → event_octets l' v r w s ≡ event_octets l v r w s
unfolding event_octets
other_than_lateral l l' v r w s ne = rw ne refl

pub other_than_vrate : (l : Option ℕ) (v v' : Option ℤ) (r : Option Range) (w : Bool) (s : ℕ) → (s == 18) ≡ false → event_octets l v' r w s ≡ event_octets l v r w s
unfolding event_octets
other_than_vrate l v v' r w s ne = rw ne refl

pub other_than_range : (l : Option ℕ) (v : Option ℤ) (r r' : Option Range) (w : Bool) (s : ℕ) → (s == 19) ≡ false → event_octets l v r' w s ≡ event_octets l v r w s
unfolding event_octets
other_than_range l v r r' w s ne = rw ne refl

pub other_than_waypoint : (l : Option ℕ) (v : Option ℤ) (r : Option Range) (w w' : Bool) (s : ℕ) → (s == 20) ≡ false → event_octets l v r w' s ≡ event_octets l v r w s
unfolding event_octets
other_than_waypoint l v r w w' s ne = rw ne refl

pub other_than_interval : (i i' : Option ℕ) (m : List (Option ℕ)) (n : Option Intent) (s : ℕ) → (s == 11) ≡ false → report_octets i' m n s ≡ report_octets i m n s
unfolding report_octets
other_than_interval i i' m n s ne = rw ne refl

pub other_than_intent : (i : Option ℕ) (m : List (Option ℕ)) (n n' : Option Intent) (s : ℕ) → (s == 21) ≡ false → report_octets i m n' s ≡ report_octets i m n s
unfolding report_octets
other_than_intent i m n n' s ne = rw ne refl

pub other_than_modulus : (i : Option ℕ) (m : List (Option ℕ)) (x : ℕ) (n : Option Intent) (t s : ℕ) → is_modulus_tag t ≡ true → (s == t) ≡ false
    → report_octets i (set m (t - 12) (Some x)) n s ≡ report_octets i m n s
unfolding report_octets is_modulus_tag
other_than_modulus i m x n t s modulus ne = on_bool (is_modulus_tag s)
    (λ is.
    let apart : s - 12 ≢ t - 12 = grind (arith, nat_tests, is, modulus, ne) in
    ap (λ o. cond (s == 11) (option_map single i) (cond (s == 21) (option_map intent_octets n) (cond (is_modulus_tag s) (option_map single o) None)))
    (get_or-set_other m (t - 12) (s - 12) (Some x) None apart))
    (λ is. rw is refl)

same_fields : (l l' i i' : Option ℕ) (m m' : List (Option ℕ)) (v v' : Option ℤ) (r r' : Option Range) (w w' : Bool) (n n' : Option Intent) (s : ℕ)
    → event_octets l' v' r' w' s ≡ event_octets l v r w s → report_octets i' m' n' s ≡ report_octets i m n s
    → field_octets l' i' m' v' r' w' n' s ≡ field_octets l i m v r w n s
unfolding field_octets
same_fields l l' i i' m m' v v' r r' w w' n n' s events reports =
    subst (λ (x : Option (List ℕ) × Option (List ℕ)). cond (allows 8 s) (event_octets l' v' r' w' s) (report_octets i' m' n' s) ≡ cond (allows 8 s) x.0 x.1)
    (λ j. (events j, reports j)) refl

fields-put : (l i : Option ℕ) (m : List (Option ℕ)) (v : Option ℤ) (r : Option Range) (w : Bool) (n : Option Intent)
    (l' i' : Option ℕ) (m' : List (Option ℕ)) (v' : Option ℤ) (r' : Option Range) (w' : Bool) (n' : Option Intent)
    (t : ℕ) (octets : List ℕ) → is_among t group_tags ≡ true
    → has_tag t (collected (field_octets l i m v r w n)) ≡ false → field_octets l' i' m' v' r' w' n' t ≡ Some octets
    → ((s : ℕ) → (s == t) ≡ false → event_octets l' v' r' w' s ≡ event_octets l v r w s)
    → ((s : ℕ) → (s == t) ≡ false → report_octets i' m' n' s ≡ report_octets i m n s)
    → collected (field_octets l' i' m' v' r' w' n') ≡ put (record { tag = t; octets = octets }) (collected (field_octets l i m v r w n))
fields-put l i m v r w n l' i' m' v' r' w' n' t octets among new some events reports =
    collected-put (field_octets l i m v r w n) (field_octets l' i' m' v' r' w' n') t octets among new some
    (λ s ne. same_fields l l' i i' m m' v v' r r' w w' n n' s (events s ne) (reports s ne))

pub put_lateral : (l i : Option ℕ) (m : List (Option ℕ)) (v : Option ℤ) (r : Option Range) (w : Bool) (n : Option Intent) (x : ℕ) → has_tag 10 (collected (field_octets l i m v r w n)) ≡ false
    → collected (field_octets (Some x) i m v r w n) ≡ put (record { tag = 10; octets = single x }) (collected (field_octets l i m v r w n))
unfolding field_octets event_octets report_octets allows is_modulus_tag
put_lateral l i m v r w n x new =
    fields-put (l) i m v r w n (Some x) (i) (m) (v) (r) (w) (n) 10 (single x) refl new refl (λ s ne. other_than_lateral l (Some x) v r w s ne) (λ s ne. refl)

pub put_vrate : (l i : Option ℕ) (m : List (Option ℕ)) (v : Option ℤ) (r : Option Range) (w : Bool) (n : Option Intent) (x : ℤ) → has_tag 18 (collected (field_octets l i m v r w n)) ≡ false
    → collected (field_octets l i m (Some x) r w n) ≡ put (record { tag = 18; octets = octet_8 x }) (collected (field_octets l i m v r w n))
unfolding field_octets event_octets report_octets allows is_modulus_tag
put_vrate l i m v r w n x new =
    fields-put (l) i m v r w n (l) (i) (m) (Some x) (r) (w) (n) 18 (octet_8 x) refl new refl (λ s ne. other_than_vrate l v (Some x) r w s ne) (λ s ne. refl)

pub put_range : (l i : Option ℕ) (m : List (Option ℕ)) (v : Option ℤ) (r : Option Range) (w : Bool) (n : Option Intent) (x : Range) → has_tag 19 (collected (field_octets l i m v r w n)) ≡ false
    → collected (field_octets l i m v (Some x) w n) ≡ put (record { tag = 19; octets = range_octets x }) (collected (field_octets l i m v r w n))
unfolding field_octets event_octets report_octets allows is_modulus_tag
put_range l i m v r w n x new =
    fields-put (l) i m v r w n (l) (i) (m) (v) (Some x) (w) (n) 19 (range_octets x) refl new refl (λ s ne. other_than_range l v r (Some x) w s ne) (λ s ne. refl)

pub put_waypoint : (l i : Option ℕ) (m : List (Option ℕ)) (v : Option ℤ) (r : Option Range) (w : Bool) (n : Option Intent) → has_tag 20 (collected (field_octets l i m v r w n)) ≡ false
    → collected (field_octets l i m v r true n) ≡ put (record { tag = 20; octets = [] }) (collected (field_octets l i m v r w n))
unfolding field_octets event_octets report_octets allows is_modulus_tag
put_waypoint l i m v r w n new =
    fields-put (l) i m v r w n (l) (i) (m) (v) (r) (true) (n) 20 ([]) refl new refl (λ s ne. other_than_waypoint l v r w true s ne) (λ s ne. refl)

pub put_interval : (l i : Option ℕ) (m : List (Option ℕ)) (v : Option ℤ) (r : Option Range) (w : Bool) (n : Option Intent) (x : ℕ) → has_tag 11 (collected (field_octets l i m v r w n)) ≡ false
    → collected (field_octets l (Some x) m v r w n) ≡ put (record { tag = 11; octets = single x }) (collected (field_octets l i m v r w n))
unfolding field_octets event_octets report_octets allows is_modulus_tag
put_interval l i m v r w n x new =
    fields-put (l) i m v r w n (l) (Some x) (m) (v) (r) (w) (n) 11 (single x) refl new refl (λ s ne. refl) (λ s ne. other_than_interval i (Some x) m n s ne)

pub put_intent : (l i : Option ℕ) (m : List (Option ℕ)) (v : Option ℤ) (r : Option Range) (w : Bool) (n : Option Intent) (x : Intent) → has_tag 21 (collected (field_octets l i m v r w n)) ≡ false
    → collected (field_octets l i m v r w (Some x)) ≡ put (record { tag = 21; octets = intent_octets x }) (collected (field_octets l i m v r w n))
unfolding field_octets event_octets report_octets allows is_modulus_tag
put_intent l i m v r w n x new =
    fields-put (l) i m v r w n (l) (i) (m) (v) (r) (w) (Some x) 21 (intent_octets x) refl new refl (λ s ne. refl) (λ s ne. other_than_intent i m n (Some x) s ne)

pub at_modulus : (l i : Option ℕ) (m : List (Option ℕ)) (v : Option ℤ) (r : Option Range) (w : Bool) (n : Option Intent) (t : ℕ) → is_modulus_tag t ≡ true
    → field_octets l i m v r w n t ≡ option_map single (get_or m (t - 12) None)
unfolding field_octets report_octets allows is_modulus_tag
at_modulus l i m v r w n t modulus =
    let others : allows 8 t ≡ false = grind (arith, nat_tests, modulus) in
    let first : (t == 11) ≡ false = grind (arith, nat_tests, modulus) in
    let last : (t == 21) ≡ false = grind (arith, nat_tests, modulus) in
    rw (others, first, last, modulus) refl

pub is_some-option_map : {A B : Type 0} (f : A → B) (o : Option A) → is_some (option_map f o) ≡ is_some o
is_some-option_map f None = refl
is_some-option_map f (Some x) = refl

pub modulus_range : (t : ℕ) → is_modulus_tag t ≡ true → (12 ≤ t) × (t ≤ 17)
unfolding is_modulus_tag
modulus_range t modulus = grind (arith, nat_tests, modulus)

pub modulus_among : (t : ℕ) → is_modulus_tag t ≡ true → is_among t group_tags ≡ true
unfolding is_modulus_tag
modulus_among t modulus = grind (arith, nat_tests, modulus)

pub put_modulus : (l i : Option ℕ) (m : List (Option ℕ)) (v : Option ℤ) (r : Option Range) (w : Bool) (n : Option Intent) (t x : ℕ)
    → is_modulus_tag t ≡ true → length m ≡ 6 → has_tag t (collected (field_octets l i m v r w n)) ≡ false
    → collected (field_octets l i (set m (t - 12) (Some x)) v r w n) ≡ put (record { tag = t; octets = single x }) (collected (field_octets l i m v r w n))
put_modulus l i m v r w n t x modulus six new =
    let high : (12 ≤ t) × (t ≤ 17) = modulus_range t modulus in
    let within : t - 12 < length m = omega arith in
    fields-put l i m v r w n l i (set m (t - 12) (Some x)) v r w n t (single x) (modulus_among t modulus) new
    (at_modulus l i (set m (t - 12) (Some x)) v r w n t modulus ∙ ap (λ o. option_map single o) (get_or-set_same m (t - 12) (Some x) None within))
    (λ s ne. refl) (λ s ne. other_than_modulus i m x n t s modulus ne)

-- ---- whether a group was read

pub has_field : (l i : Option ℕ) (m : List (Option ℕ)) (v : Option ℤ) (r : Option Range) (w : Bool) (n : Option Intent) (t : ℕ) → is_among t group_tags ≡ true
    → has_tag t (collected (field_octets l i m v r w n)) ≡ is_some (field_octets l i m v r w n t)
has_field l i m v r w n t among = has_tag-collected (field_octets l i m v r w n) t among

abbrev none_octets : List ℕ
none_octets = []

is_some-flag : (w : Bool) → is_some (if w then Some none_octets else None) ≡ w
is_some-flag true = refl
is_some-flag false = refl

pub has_lateral : (l i : Option ℕ) (m : List (Option ℕ)) (v : Option ℤ) (r : Option Range) (w : Bool) (n : Option Intent) → has_tag 10 (collected (field_octets l i m v r w n)) ≡ is_some l
unfolding field_octets event_octets report_octets allows is_modulus_tag
has_lateral l i m v r w n = has_field l i m v r w n 10 refl ∙ is_some-option_map single l

pub has_interval : (l i : Option ℕ) (m : List (Option ℕ)) (v : Option ℤ) (r : Option Range) (w : Bool) (n : Option Intent) → has_tag 11 (collected (field_octets l i m v r w n)) ≡ is_some i
unfolding field_octets event_octets report_octets allows is_modulus_tag
has_interval l i m v r w n = has_field l i m v r w n 11 refl ∙ is_some-option_map single i

pub has_vrate : (l i : Option ℕ) (m : List (Option ℕ)) (v : Option ℤ) (r : Option Range) (w : Bool) (n : Option Intent) → has_tag 18 (collected (field_octets l i m v r w n)) ≡ is_some v
unfolding field_octets event_octets report_octets allows is_modulus_tag
has_vrate l i m v r w n = has_field l i m v r w n 18 refl ∙ is_some-option_map octet_8 v

pub has_range : (l i : Option ℕ) (m : List (Option ℕ)) (v : Option ℤ) (r : Option Range) (w : Bool) (n : Option Intent) → has_tag 19 (collected (field_octets l i m v r w n)) ≡ is_some r
unfolding field_octets event_octets report_octets allows is_modulus_tag
has_range l i m v r w n = has_field l i m v r w n 19 refl ∙ is_some-option_map range_octets r

pub has_intent : (l i : Option ℕ) (m : List (Option ℕ)) (v : Option ℤ) (r : Option Range) (w : Bool) (n : Option Intent) → has_tag 21 (collected (field_octets l i m v r w n)) ≡ is_some n
unfolding field_octets event_octets report_octets allows is_modulus_tag
has_intent l i m v r w n = has_field l i m v r w n 21 refl ∙ is_some-option_map intent_octets n

pub has_waypoint : (l i : Option ℕ) (m : List (Option ℕ)) (v : Option ℤ) (r : Option Range) (w : Bool) (n : Option Intent) → has_tag 20 (collected (field_octets l i m v r w n)) ≡ w
unfolding field_octets event_octets allows
has_waypoint l i m v r w n = has_field l i m v r w n 20 refl ∙ is_some-flag w

pub has_modulus : (l i : Option ℕ) (m : List (Option ℕ)) (v : Option ℤ) (r : Option Range) (w : Bool) (n : Option Intent) (t : ℕ) → is_modulus_tag t ≡ true → has_tag t (collected (field_octets l i m v r w n)) ≡ is_some (get_or m (t - 12) None)
has_modulus l i m v r w n t modulus =
    has_field l i m v r w n t (modulus_among t modulus) ∙ ap is_some (at_modulus l i m v r w n t modulus) ∙ is_some-option_map single (get_or m (t - 12) None)

pub has_other : (l i : Option ℕ) (m : List (Option ℕ)) (v : Option ℤ) (r : Option Range) (w : Bool) (n : Option Intent) (t : ℕ) → is_among t group_tags ≡ false → has_tag t (collected (field_octets l i m v r w n)) ≡ false
has_other l i m v r w n t other = has_tag-collected_other (field_octets l i m v r w n) t other

-- ---- where only the groups of one kind of request were read

none_from : {A : Type 0} (o : Option A) → is_some o ≡ false → o ≡ None
none_from None h = refl
none_from (Some x) h = cc

no_events : (l i : Option ℕ) (m : List (Option ℕ)) (v : Option ℤ) (r : Option Range) (w : Bool) (n : Option Intent)
    → l ≡ None → v ≡ None → r ≡ None → w ≡ false
    → collected (report_octets i m n) ≡ collected (field_octets l i m v r w n)
unfolding collected field_octets event_octets report_octets allows is_modulus_tag
no_events l i m v r w n no_l no_v no_r no_w = rw (no_l, no_v, no_r, no_w) refl

pub only_reports : (l i : Option ℕ) (m : List (Option ℕ)) (v : Option ℤ) (r : Option Range) (w : Bool) (n : Option Intent) (tag : ℕ)
    → allows tag 10 ≡ false → allows tag 18 ≡ false → allows tag 19 ≡ false → allows tag 20 ≡ false
    → AreAllowed tag (collected (field_octets l i m v r w n))
    → collected (report_octets i m n) ≡ collected (field_octets l i m v r w n)
only_reports l i m v r w n tag a10 a18 a19 a20 all =
    no_events l i m v r w n
    (none_from l (sym (has_lateral l i m v r w n) ∙ all.others 10 a10))
    (none_from v (sym (has_vrate l i m v r w n) ∙ all.others 18 a18))
    (none_from r (sym (has_range l i m v r w n) ∙ all.others 19 a19))
    (sym (has_waypoint l i m v r w n) ∙ all.others 20 a20)

no_reports : (l i : Option ℕ) (m : List (Option ℕ)) (v : Option ℤ) (r : Option Range) (w : Bool) (n : Option Intent)
    → i ≡ None → n ≡ None
    → get_or m 0 None ≡ None → get_or m 1 None ≡ None → get_or m 2 None ≡ None → get_or m 3 None ≡ None → get_or m 4 None ≡ None → get_or m 5 None ≡ None
    → collected (event_octets l v r w) ≡ collected (field_octets l i m v r w n)
unfolding collected field_octets event_octets report_octets allows is_modulus_tag
no_reports l i m v r w n no_i no_n m0 m1 m2 m3 m4 m5 = rw (no_i, no_n, m0, m1, m2, m3, m4, m5) refl

pub only_events : (l i : Option ℕ) (m : List (Option ℕ)) (v : Option ℤ) (r : Option Range) (w : Bool) (n : Option Intent)
    → AreAllowed 8 (collected (field_octets l i m v r w n))
    → collected (event_octets l v r w) ≡ collected (field_octets l i m v r w n)
unfolding allows is_modulus_tag
only_events l i m v r w n all =
    no_reports l i m v r w n
    (none_from i (sym (has_interval l i m v r w n) ∙ all.others 11 refl))
    (none_from n (sym (has_intent l i m v r w n) ∙ all.others 21 refl))
    (modulus 12 refl refl) (modulus 13 refl refl) (modulus 14 refl refl) (modulus 15 refl refl) (modulus 16 refl refl) (modulus 17 refl refl)
  where
    modulus : (t : ℕ) → is_modulus_tag t ≡ true → allows 8 t ≡ false → get_or m (t - 12) None ≡ None
    modulus t is other = none_from (get_or m (t - 12) None) (sym (has_modulus l i m v r w n t is) ∙ all.others t other)

-- An event request has a group exactly where it watches something.
pub events_are_watched : (l : Option ℕ) (v : Option ℤ) (r : Option Range) (w : Bool) → (length (collected (event_octets l v r w)) == 0) ≡ not (is_watching l v r w)
unfolding collected event_octets
events_are_watched None None None false = refl
events_are_watched None None None true = refl
events_are_watched None None (Some x) false = refl
events_are_watched None None (Some x) true = refl
events_are_watched None (Some x) None false = refl
events_are_watched None (Some x) None true = refl
events_are_watched None (Some x) (Some y) false = refl
events_are_watched None (Some x) (Some y) true = refl
events_are_watched (Some z) None None false = refl
events_are_watched (Some z) None None true = refl
events_are_watched (Some z) None (Some x) false = refl
events_are_watched (Some z) None (Some x) true = refl
events_are_watched (Some z) (Some x) None false = refl
events_are_watched (Some z) (Some x) None true = refl
events_are_watched (Some z) (Some x) (Some y) false = refl
events_are_watched (Some z) (Some x) (Some y) true = refl

pub event-watches : (l i : Option ℕ) (m : List (Option ℕ)) (v : Option ℤ) (r : Option Range) (w : Bool) (n : Option Intent) (number left : ℕ)
    → AreAllowed 8 (collected (field_octets l i m v r w n)) → is_watching l v r w ≡ true
    → event_at number (collected (field_octets l i m v r w n)) left ≡ Ok (record { tag = 8; number = number; groups = collected (event_octets l v r w) })
unfolding event_at
event-watches l i m v r w n number left all watches =
    let some : (length (collected (event_octets l v r w)) == 0) ≡ false = events_are_watched l v r w ∙ ap not watches in
    rw (← only_events l i m v r w n all, some) refl

pub event-empty : (l i : Option ℕ) (m : List (Option ℕ)) (v : Option ℤ) (r : Option Range) (w : Bool) (n : Option Intent) (number left : ℕ)
    → AreAllowed 8 (collected (field_octets l i m v r w n)) → is_watching l v r w ≡ false
    → event_at number (collected (field_octets l i m v r w n)) left ≡ Err (stop left 3 number)
unfolding event_at
event-empty l i m v r w n number left all watches =
    let none : (length (collected (event_octets l v r w)) == 0) ≡ true = events_are_watched l v r w ∙ ap not watches in
    rw (← only_events l i m v r w n all, none) refl
