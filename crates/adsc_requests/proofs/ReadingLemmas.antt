-- What the reading of a group gives.
use Rattle.std.proofs.Common.{◌≡◌, ℕ, zero, suc, ◌+◌, ◌-◌, ◌%◌, ◌<◌, ◌≤◌, List, [], ◌∷◌, length, take, drop, Bool, true, false, cond, ◌||◌, nat_lt, ◌==◌, Option, Some, None, Result, Ok, Err, refl, sym, ◌∙◌, ap, subst, arith, length-drop, ◌⊎◌, inl, inr, ⊎_elim, get_or, take_all, true≢false}
use Rattle.std.proofs.lemmas.Bool.Decides.{nat_tests}
use Rattle.adsc_requests.specs.Tables.{is_message_tag, is_modulus_tag, is_request_group_tag, allows, data_size, field_size, value_reason, repeat_reason}
use Rattle.adsc_requests.specs.Contents.{Group, has_tag}
use Rattle.adsc_requests.specs.Gathered.{AreAllowed}
use Rattle.adsc_requests.specs.Reading.{put, ◌>>=◌, stop, admitted_or, data_at, with_data_at, group_at, groups_at}
use Rattle.adsc_requests.specs.declared.decoding.stop.Stop.{Stop}
use Rattle.adsc_requests.proofs.Collecting.{on_bool}

pub allowed_is_group : (m t : ℕ) → allows m t ≡ true → is_request_group_tag t ≡ true
unfolding allows is_request_group_tag is_modulus_tag
allowed_is_group m t allowed = grind (arith, nat_tests, allowed)

pub no_waypoint_data : (number : ℕ) (octets : List ℕ) → data_at 20 number octets ≡ Ok ([], octets)
unfolding data_at data_size value_reason
no_waypoint_data number [] = refl
no_waypoint_data number (x ∷ octets) =
    let enough : nat_lt (length (x ∷ octets)) 0 ≡ false = grind (arith, nat_tests) in rw enough refl

-- ---- steps that may fail

pub bind_ok : {A B : Type 0} (r : Result A Stop) (f : A → Result B Stop) (y : B) → (r >>= f) ≡ Ok y → (x : A) × (r ≡ Ok x) × (f x ≡ Ok y)
bind_ok (Ok x) f y e = (x, refl, e)
bind_ok (Err s) f y e = cc

pub chosen : {A : Type 0} (b : Bool) (x y z : A) → cond b x y ≡ z → ((b ≡ true) × (x ≡ z)) ⊎ ((b ≡ false) × (y ≡ z))
chosen true x y z e = inl (refl, e)
chosen false x y z e = inr (refl, e)

-- ---- what is left gets shorter, and only allowed groups are read

abbrev pub ok : {A : Type 0} → A → Result A Stop
ok x = Ok x

pub same_ok : {A : Type 0} (a b : A) → ok a ≡ ok b → a ≡ b
same_ok a b e = cc

admitted_gives : (o : Option ℕ) (left number : ℕ) (octets rest : List ℕ) (x : List ℕ × List ℕ) → admitted_or o left number octets rest ≡ Ok x → rest ≡ x.1
admitted_gives None left number octets rest x e = ap (λ (y : List ℕ × List ℕ). y.1) (same_ok (octets, rest) x e)
admitted_gives (Some r) left number octets rest x e = cc

pub data_at-rest : (t number : ℕ) (octets : List ℕ) (x : List ℕ × List ℕ) → data_at t number octets ≡ Ok x → length x.1 ≤ length octets
unfolding data_at
data_at-rest t number octets x e =
    ⊎_elim (λ (h : (nat_lt (length octets) (data_size t) ≡ true) × (Err (stop (length octets % field_size t) 9 number) ≡ Ok x)). cc)
    (λ (h : (nat_lt (length octets) (data_size t) ≡ false) × (admitted_or (value_reason t (take (data_size t) octets)) (length octets + field_size t - data_size t) number (take (data_size t) octets) (drop (data_size t) octets) ≡ Ok x)).
    let r : drop (data_size t) octets ≡ x.1 = admitted_gives _ _ _ _ _ x h.1 in
    omega (arith, length-drop (data_size t) octets, ap length r))
    (chosen _ _ _ _ e)

pub has_tag-put : (t : ℕ) (g : Group) (gs : List Group) → has_tag t (put g gs) ≡ (g.tag == t) || has_tag t gs
has_tag-put t g [] = refl
has_tag-put t g (h ∷ hs) =
    let later : has_tag t (put g hs) ≡ (g.tag == t) || has_tag t hs = has_tag-put t g hs in
    on_bool (nat_lt g.tag h.tag)
    (λ is. rw is refl)
    (λ is. rw is (rw later (swapped (h.tag == t) (g.tag == t) (has_tag t hs))))
  where
    swapped : (a b c : Bool) → a || (b || c) ≡ b || (a || c)
    swapped true true c = refl
    swapped true false c = refl
    swapped false b c = refl

AreAllowed-put : (m : ℕ) (g : Group) (gs : List Group) → allows m g.tag ≡ true → AreAllowed m gs → AreAllowed m (put g gs)
AreAllowed-put m g gs allowed all = record {
  others = λ t other.
      let ne : (g.tag == t) ≡ false = apart t other in
      has_tag-put t g gs ∙ rw (ne, all.others t other) refl;
}
  where
    apart : (t : ℕ) → allows m t ≡ false → (g.tag == t) ≡ false
    apart t other = on_bool (g.tag == t)
        (λ is. let same : g.tag ≡ t = grind (arith, nat_tests, is) in
        absurd (true≢false (sym allowed ∙ ap (allows m) same ∙ other)))
        (λ is. is)

-- A group that is read leaves no more than there was, and keeps that only allowed groups are read.
pub group_at-gives : (m number : ℕ) (gs : List Group) (t : ℕ) (octets : List ℕ) (x : List Group × List ℕ) → group_at m number gs t octets ≡ Ok x
    → (length x.1 ≤ length octets) × (AreAllowed m gs → AreAllowed m x.0)
unfolding group_at with_data_at
group_at-gives m number gs t octets x e =
    ⊎_elim (λ (h : (allows m t ≡ true) × (cond (has_tag t gs) (Err (stop (length octets + 1) (repeat_reason t) number)) (with_data_at t number gs octets) ≡ Ok x)).
    ⊎_elim (λ (n : (has_tag t gs ≡ true) × (Err (stop (length octets + 1) (repeat_reason t) number) ≡ Ok x)). absurd (err_is_not_ok _ _ n.1))
    (λ (n : (has_tag t gs ≡ false) × (with_data_at t number gs octets ≡ Ok x)). read h.0 (bind_ok (data_at t number octets) (λ d. Ok (put (record { tag = t; octets = d.0 }) gs, d.1)) x n.1))
    (chosen _ _ _ _ h.1))
    (λ (h : (allows m t ≡ false) × (Err (stop (length octets + 1) 7 number) ≡ Ok x)). absurd (err_is_not_ok _ _ h.1))
    (chosen _ _ _ _ e)
  where
    err_is_not_ok : (s : Stop) (y : List Group × List ℕ) → Err s ≡ Ok y → ⊥
    err_is_not_ok s y e = cc

    read : allows m t ≡ true → (d : List ℕ × List ℕ) × (data_at t number octets ≡ Ok d) × (ok (put (record { tag = t; octets = d.0 }) gs, d.1) ≡ Ok x)
        → (length x.1 ≤ length octets) × (AreAllowed m gs → AreAllowed m x.0)
    read allowed d =
        let is : (put (record { tag = t; octets = (d.0).0 }) gs, (d.0).1) ≡ x = same_ok _ x d.2 in
        let shorter : length (d.0).1 ≤ length octets = data_at-rest t number octets d.0 d.1 in
        subst (λ (y : List Group × List ℕ). (length y.1 ≤ length octets) × (AreAllowed m gs → AreAllowed m y.0)) is
        (shorter, λ all. AreAllowed-put m (record { tag = t; octets = (d.0).0 }) gs allowed all)

-- ---- the loop over the groups of a request

behind_first : (t : ℕ) (after : List ℕ) → take (length (t ∷ after) - 1) after ≡ after
behind_first t after = take_all (length (t ∷ after) - 1) after (omega arith)

pub groups_at-step : (k m number : ℕ) (gs : List Group) (rest : List ℕ) (x : List Group × List ℕ) (whole : Result (List Group × List ℕ) Stop)
    → 1 ≤ length rest → length rest ≤ k → is_message_tag (get_or rest 0 0) ≡ false
    → group_at m number gs (get_or rest 0 0) (take (length rest - 1) (drop 1 rest)) ≡ Ok x
    → groups_at k m number gs rest ≡ whole
    → (j : ℕ) × (length x.1 ≤ j) × (groups_at j m number x.0 x.1 ≡ whole)
unfolding groups_at
groups_at-step k m number gs [] x whole some enough other reads all = absurd (omega arith)
groups_at-step zero m number gs (t ∷ after) x whole some enough other reads all = absurd (omega arith)
groups_at-step (suc j) m number gs (t ∷ after) x whole some enough other reads all =
    let read : group_at m number gs t after ≡ Ok x = rw (behind_first t after) at reads in
    let shorter : length x.1 ≤ length after = (group_at-gives m number gs t after x read).0 in
    (j, omega arith, sym (rw (other, read) refl) ∙ all)

pub groups_at-stops : (k m number : ℕ) (gs : List Group) (rest : List ℕ) (s : Stop) (whole : Result (List Group × List ℕ) Stop)
    → 1 ≤ length rest → length rest ≤ k → is_message_tag (get_or rest 0 0) ≡ false
    → group_at m number gs (get_or rest 0 0) (take (length rest - 1) (drop 1 rest)) ≡ Err s
    → groups_at k m number gs rest ≡ whole → whole ≡ Err s
unfolding groups_at
groups_at-stops k m number gs [] s whole some enough other reads all = absurd (omega arith)
groups_at-stops zero m number gs (t ∷ after) s whole some enough other reads all = absurd (omega arith)
groups_at-stops (suc j) m number gs (t ∷ after) s whole some enough other reads all =
    let read : group_at m number gs t after ≡ Err s = rw (behind_first t after) at reads in
    sym all ∙ rw (other, read) refl

pub groups_at-end : (k m number : ℕ) (gs : List Group) (rest : List ℕ) (whole : Result (List Group × List ℕ) Stop)
    → length rest < 1 → groups_at k m number gs rest ≡ whole → whole ≡ Ok (gs, rest)
unfolding groups_at
groups_at-end zero m number gs [] whole none all = sym all
groups_at-end (suc k) m number gs [] whole none all = sym all
groups_at-end k m number gs (t ∷ rest) whole none all = absurd (omega arith)

pub groups_at-message : (k m number : ℕ) (gs : List Group) (rest : List ℕ) (whole : Result (List Group × List ℕ) Stop)
    → 1 ≤ length rest → length rest ≤ k → is_message_tag (get_or rest 0 0) ≡ true → groups_at k m number gs rest ≡ whole → whole ≡ Ok (gs, rest)
unfolding groups_at
groups_at-message k m number gs [] whole some enough message all = absurd (omega arith)
groups_at-message zero m number gs (t ∷ rest) whole some enough message all = absurd (omega arith)
groups_at-message (suc k) m number gs (t ∷ rest) whole some enough message all = sym all ∙ rw message refl

pub group_at-shorter : (m number : ℕ) (gs : List Group) (rest : List ℕ) (x : List Group × List ℕ) → 1 ≤ length rest
    → group_at m number gs (get_or rest 0 0) (take (length rest - 1) (drop 1 rest)) ≡ Ok x → length x.1 < length rest
group_at-shorter m number gs [] x some reads = absurd (omega arith)
group_at-shorter m number gs (t ∷ after) x some reads =
    let read : group_at m number gs t after ≡ Ok x = rw (behind_first t after) at reads in
    let shorter : length x.1 ≤ length after = (group_at-gives m number gs t after x read).0 in omega arith

pub group_at-allowed : (m number : ℕ) (gs : List Group) (t : ℕ) (octets : List ℕ) (x : List Group × List ℕ) → group_at m number gs t octets ≡ Ok x
    → AreAllowed m gs → AreAllowed m x.0
group_at-allowed m number gs t octets x e all = (group_at-gives m number gs t octets x e).1 all
