-- Groups by rising tag: putting each among those before it sorts them, and the same groups can be sorted in one way.
use Rattle.std.proofs.Common.{◌≡◌, ℕ, zero, suc, ◌+◌, ◌<◌, ◌≤◌, List, [], ◌∷◌, ◌++◌, map, get_or, false, ◌||◌, ◌==◌, nat_lt, refl, sym, ◌∙◌, ap, ap₂, subst, arith, ◌⊎◌, inl, inr, ⊎_elim, append-nil, append_assoc}
use Rattle.std.specs.List.{Contains}
use Rattle.std.specs.List.Sorted.{IsPermutation, IsStrictlyIncreasing}
use Rattle.std.proofs.lemmas.Bool.Decides.{nat_tests}
use Rattle.std.proofs.lemmas.List.Sorted.{IsPermutation-refl, IsPermutation-trans, IsPermutation-sym, IsPermutation-cons, IsPermutation-append_left, IsPermutation-to_front, Contains-permutation}
use Rattle.adsc_requests.specs.Contents.{Group, Content, has_tag}
use Rattle.adsc_requests.specs.Grammar.{AreGroups, Asks, AskEach, AreWhole}
use Rattle.adsc_requests.specs.Reading.{put}
use Rattle.adsc_requests.proofs.Collecting.{on_bool}
use Rattle.adsc_requests.proofs.ReadingLemmas.{has_tag-put}

-- Each of the groups put among those before it.
abbrev pub put_all : List Group → List Group → List Group
put_all into [] = into
put_all into (g ∷ gs) = put_all (put g into) gs

abbrev pub by_tag : List Group → List Group
by_tag gs = put_all [] gs

-- A message with its groups sorted.
abbrev pub ordered : Content → Content
ordered m = record { tag = m.tag; number = m.number; groups = by_tag m.groups }

-- ---- the same groups

put_permutes : (g : Group) (gs : List Group) → IsPermutation (g ∷ gs) (put g gs)
put_permutes g [] = IsPermutation-refl (g ∷ [])
put_permutes g (h ∷ hs) = on_bool (nat_lt g.tag h.tag)
    (λ is. rw is (IsPermutation-refl (g ∷ h ∷ hs)))
    (λ is. rw is (IsPermutation-trans (g ∷ h ∷ hs) (h ∷ g ∷ hs) (h ∷ put g hs)
    (IsPermutation-append_left hs (g ∷ h ∷ []) (h ∷ g ∷ []) (IsPermutation-to_front (g ∷ []) h))
    (IsPermutation-cons h (g ∷ hs) (put g hs) (put_permutes g hs))))

put_all_permutes : (into gs : List Group) → IsPermutation (into ++ gs) (put_all into gs)
put_all_permutes into [] = subst (λ (xs : List Group). IsPermutation xs into) (sym (append-nil into)) (IsPermutation-refl into)
put_all_permutes into (g ∷ gs) =
    subst (λ (xs : List Group). IsPermutation xs (put_all (put g into) gs)) (append_assoc into (g ∷ []) gs)
    (IsPermutation-trans ((into ++ g ∷ []) ++ gs) (put g into ++ gs) (put_all (put g into) gs)
    (IsPermutation-append_left gs (into ++ g ∷ []) (put g into)
    (IsPermutation-trans (into ++ g ∷ []) (g ∷ into) (put g into) (IsPermutation-to_front into g) (put_permutes g into)))
    (put_all_permutes (put g into) gs))

-- ---- rising tags

-- The tags rise, from low on.
abbrev RiseFrom : ℕ → List Group → Type 0
RiseFrom low [] = Unit {0}
RiseFrom low (g ∷ gs) = (low ≤ g.tag) × RiseFrom (suc g.tag) gs

rises : (low : ℕ) (gs : List Group) → RiseFrom low gs → IsStrictlyIncreasing (map (λ g. g.tag) gs)
rises low [] from k below = absurd (omega (arith, below))
rises low (g ∷ []) from k below = absurd (omega (arith, below))
rises low (g ∷ h ∷ gs) from zero below = omega (arith, from.1.0)
rises low (g ∷ h ∷ gs) from (suc k) below =
    let next : suc k + 1 ≡ suc (k + 1) = omega arith in
    rw next (rises (suc g.tag) (h ∷ gs) from.1 k (omega (arith, below)))

rises_from : (low : ℕ) (gs : List Group) → IsStrictlyIncreasing (map (λ g. g.tag) gs) → ((g : Group) (others : List Group) → gs ≡ g ∷ others → low ≤ g.tag) → RiseFrom low gs
rises_from low [] rising first = tt
rises_from low (g ∷ []) rising first = (first g [] refl, tt)
rises_from low (g ∷ h ∷ gs) rising first =
    (first g (h ∷ gs) refl, rises_from (suc g.tag) (h ∷ gs) (λ k below. behind k (rising (suc k) (omega (arith, below)))) (λ x others same. next x others same))
  where
    tags : List ℕ
    tags = map (λ x. x.tag) (g ∷ h ∷ gs)

    behind : (k : ℕ) → get_or tags (suc k) 0 < get_or tags (suc k + 1) 0 → get_or tags (suc k) 0 < get_or tags (suc (k + 1)) 0
    behind k less =
        let next : suc k + 1 ≡ suc (k + 1) = omega arith in
        subst (λ place. get_or tags (suc k) 0 < get_or tags place 0) next less

    head : List Group → ℕ
    head [] = 0
    head (x ∷ xs) = x.tag

    next : (x : Group) (others : List Group) → h ∷ gs ≡ x ∷ others → suc g.tag ≤ x.tag
    next x others same = let e : h.tag ≡ x.tag = ap head same in omega (arith, rising 0 (omega arith), e)

put_rises : (g : Group) (low : ℕ) (gs : List Group) → low ≤ g.tag → has_tag g.tag gs ≡ false → RiseFrom low gs → RiseFrom low (put g gs)
put_rises g low [] above new from = (above, tt)
put_rises g low (h ∷ hs) above new from = on_bool (nat_lt g.tag h.tag)
    (λ is. rw is (let below : g.tag < h.tag = grind (arith, nat_tests, is) in (above, (below, from.1))))
    (λ is.
    let apart : (h.tag == g.tag) ≡ false = on_bool (h.tag == g.tag) (λ e. cc) (λ e. e) in
    let behind : h.tag < g.tag = grind (arith, nat_tests, is, apart) in
    let others : has_tag g.tag hs ≡ false = ap (λ b. b || has_tag g.tag hs) (sym apart) ∙ new in
    rw is (from.0, put_rises g (suc h.tag) hs behind others from.1))

put_all_rises : (m : ℕ) (earlier into gs : List Group) → ((t : ℕ) → has_tag t into ≡ has_tag t earlier) → AreGroups m earlier gs → RiseFrom 0 into → RiseFrom 0 (put_all into gs)
put_all_rises m earlier into [] same are from = from
put_all_rises m earlier into (g ∷ gs) same are from =
    put_all_rises m (g ∷ earlier) (put g into) gs (λ t. has_tag-put t g into ∙ ap (λ b. (g.tag == t) || b) (same t)) are.2
    (put_rises g 0 into (omega arith) (same g.tag ∙ are.1) from)

-- ---- sorted in one way

contains_behind : (x h : Group) (hs : List Group) → Contains (h ∷ hs) x → (h ≡ x) ⊎ Contains hs x
contains_behind x h hs (zero, below, is) = inl is
contains_behind x h hs (suc k, below, is) = inr (k, omega (arith, below), is)

contains_more : (x h : Group) (hs : List Group) → Contains hs x → Contains (h ∷ hs) x
contains_more x h hs among = (suc among.0, omega (arith, among.1), among.2)

contains_none : (x : Group) → Contains [] x → ⊥
contains_none x among = omega (arith, among.1)

all_above : (low : ℕ) (gs : List Group) (x : Group) → RiseFrom low gs → Contains gs x → low ≤ x.tag
all_above low [] x from among = absurd (contains_none x among)
all_above low (g ∷ gs) x from among =
    ⊎_elim (λ is. omega (arith, ap (λ (y : Group). y.tag) is, from.0)) (λ behind. omega (arith, from.0, all_above (suc g.tag) gs x from.1 behind)) (contains_behind x g gs among)

one_order : (low high : ℕ) (gs hs : List Group) → RiseFrom low gs → RiseFrom high hs → ((x : Group) → Contains gs x → Contains hs x) → ((x : Group) → Contains hs x → Contains gs x) → gs ≡ hs
one_order low high [] [] rise rise' to back = refl
one_order low high [] (h ∷ hs) rise rise' to back = absurd (contains_none h (back h (0, omega arith, refl)))
one_order low high (g ∷ gs) [] rise rise' to back = absurd (contains_none g (to g (0, omega arith, refl)))
one_order low high (g ∷ gs) (h ∷ hs) rise rise' to back =
    ap₂ (λ (x : Group) (xs : List Group). x ∷ xs) first
    (one_order (suc g.tag) (suc h.tag) gs hs rise.1 rise'.1
    (λ x among. ⊎_elim (λ is. absurd (omega (arith, ap (λ (y : Group). y.tag) is, ap (λ (y : Group). y.tag) first, all_above (suc g.tag) gs x rise.1 among))) (λ behind. behind)
    (contains_behind x h hs (to x (contains_more x g gs among))))
    (λ x among. ⊎_elim (λ is. absurd (omega (arith, ap (λ (y : Group). y.tag) is, ap (λ (y : Group). y.tag) first, all_above (suc h.tag) hs x rise'.1 among))) (λ behind. behind)
    (contains_behind x g gs (back x (contains_more x h hs among)))))
  where
    first : g ≡ h
    first = ⊎_elim (λ is. sym is)
        (λ behind. ⊎_elim (λ is. is)
        (λ behind'. absurd (omega (arith, all_above (suc h.tag) hs g rise'.1 behind, all_above (suc g.tag) gs h rise.1 behind')))
        (contains_behind h g gs (back h (0, omega arith, refl))))
        (contains_behind g h hs (to g (0, omega arith, refl)))

-- ---- what messages ask

asks_ordered : (m : Content) → AreGroups m.tag [] m.groups → Asks m (ordered m)
asks_ordered m are = record {
  same_tag = refl;
  same_number = refl;
  same_groups = put_all_permutes [] m.groups;
  rising = rises 0 (by_tag m.groups) (put_all_rises m.tag [] [] m.groups (λ t. refl) are tt);
}

asked_is_ordered : (m c : Content) → AreGroups m.tag [] m.groups → Asks m c → c ≡ ordered m
asked_is_ordered m c are asks = λ i. record { tag = asks.same_tag i; number = asks.same_number i; groups = groups i }
  where
    sorted : Asks m (ordered m)
    sorted = asks_ordered m are

    groups : c.groups ≡ by_tag m.groups
    groups = one_order 0 0 c.groups (by_tag m.groups)
        (rises_from 0 c.groups asks.rising (λ g others same. omega arith))
        (rises_from 0 (by_tag m.groups) sorted.rising (λ g others same. omega arith))
        (λ x among. Contains-permutation m.groups (by_tag m.groups) x sorted.same_groups
        (Contains-permutation c.groups m.groups x (IsPermutation-sym m.groups c.groups asks.same_groups) among))
        (λ x among. Contains-permutation m.groups c.groups x asks.same_groups
        (Contains-permutation (by_tag m.groups) m.groups x (IsPermutation-sym m.groups (by_tag m.groups) sorted.same_groups) among))

-- Whole messages ask what they are with their groups sorted, and nothing else.
pub each_asks_ordered : (ms : List Content) → AreWhole ms → AskEach ms (map ordered ms)
each_asks_ordered [] whole = refl
each_asks_ordered (m ∷ ms) whole = (asks_ordered m whole.0.begun.grouped, each_asks_ordered ms whole.1)

pub each_asked_is_ordered : (ms asked : List Content) → AreWhole ms → AskEach ms asked → asked ≡ map ordered ms
each_asked_is_ordered [] asked whole asks = asks
each_asked_is_ordered (m ∷ ms) [] whole asks = absurd asks
each_asked_is_ordered (m ∷ ms) (c ∷ cs) whole asks =
    ap₂ (λ (x : Content) (xs : List Content). x ∷ xs) (asked_is_ordered m c whole.0.begun.grouped asks.0) (each_asked_is_ordered ms cs whole.1 asks.1)
