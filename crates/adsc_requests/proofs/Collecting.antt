-- Groups that are collected by rising tag from a function: which tags they have, and one group more.
use Rattle.std.proofs.Common.{◌≡◌, ℕ, suc, ◌<◌, ◌≤◌, List, [], ◌∷◌, ◌++◌, Bool, true, false, ◌||◌, ◌&&◌, ◌==◌, Option, Some, None, is_some, refl, sym, ◌∙◌, ap, subst, arith}
use Rattle.std.proofs.lemmas.Bool.Decides.{nat_tests}
use Rattle.adsc_requests.specs.Contents.{Group, has_tag, group_if, collected_from, collected, group_tags}
use Rattle.adsc_requests.specs.Reading.{put}

-- By cases on a test.
pub on_bool : {P : Type 0} (b : Bool) → (b ≡ true → P) → (b ≡ false → P) → P
on_bool true yes_case no_case = yes_case refl
on_bool false yes_case no_case = no_case refl

-- The tags rise, from low on.
abbrev pub Rising : ℕ → List ℕ → Type 0
Rising low [] = Unit {0}
Rising low (t ∷ ts) = (low ≤ t) × Rising (suc t) ts

abbrev pub is_among : ℕ → List ℕ → Bool
is_among t [] = false
is_among t (s ∷ ss) = (s == t) || is_among t ss

pub group_tags_rise : Rising 10 group_tags
group_tags_rise = (omega arith, (omega arith, (omega arith, (omega arith, (omega arith, (omega arith, (omega arith, (omega arith, (omega arith, (omega arith, (omega arith, (omega arith, tt))))))))))))

-- ---- which tags

has_tag-group_if : (t s : ℕ) (o : Option (List ℕ)) (rest : List Group) → has_tag t (group_if s o ++ rest) ≡ ((s == t) && is_some o) || has_tag t rest
has_tag-group_if t s None rest = grind (arith, nat_tests)
has_tag-group_if t s (Some x) rest = grind (arith, nat_tests)

low_is_not_among : (low t : ℕ) (ts : List ℕ) → Rising low ts → t < low → is_among t ts ≡ false
low_is_not_among low t [] rises below = refl
low_is_not_among low t (s ∷ ss) rises below =
    let later : is_among t ss ≡ false = low_is_not_among (suc s) t ss rises.1 (omega arith) in
    grind (arith, nat_tests, later)

-- At one tag: it is the one that is looked for, or another.
has_tag-step : (t s : ℕ) (o p : Option (List ℕ)) (rest : List Group) (among : Bool) → ((s == t) ≡ true → p ≡ o)
    → has_tag t rest ≡ among && is_some o → has_tag t (group_if s p ++ rest) ≡ ((s == t) || among) && is_some o
has_tag-step t s o p rest among same later = by (s == t) refl
  where
    by : (b : Bool) → (s == t) ≡ b → has_tag t (group_if s p ++ rest) ≡ ((s == t) || among) && is_some o
    by true is = has_tag-group_if t s p rest ∙ grind (arith, nat_tests, is, same is, later)
    by false is = has_tag-group_if t s p rest ∙ grind (arith, nat_tests, is, later)

same_at : (d : ℕ → Option (List ℕ)) (s t : ℕ) → (s == t) ≡ true → d s ≡ d t
same_at d s t is = let e : s ≡ t = grind (arith, nat_tests, is) in ap d e

pub has_tag-collected_from : (d : ℕ → Option (List ℕ)) (t : ℕ) (ts : List ℕ)
    → has_tag t (collected_from d ts) ≡ (is_among t ts && is_some (d t))
has_tag-collected_from d t [] = refl
has_tag-collected_from d t (s ∷ ss) =
    has_tag-step t s (d t) (d s) (collected_from d ss) (is_among t ss) (same_at d s t) (has_tag-collected_from d t ss)

pub has_tag-collected : (d : ℕ → Option (List ℕ)) (t : ℕ) → is_among t group_tags ≡ true → has_tag t (collected d) ≡ is_some (d t)
unfolding collected
has_tag-collected d t among = has_tag-collected_from d t group_tags ∙ ap (λ b. b && is_some (d t)) among

pub has_tag-collected_other : (d : ℕ → Option (List ℕ)) (t : ℕ) → is_among t group_tags ≡ false → has_tag t (collected d) ≡ false
unfolding collected
has_tag-collected_other d t other = has_tag-collected_from d t group_tags ∙ ap (λ b. b && is_some (d t)) other

-- ---- one group more

put-front : (g : Group) (t : ℕ) (o : Option (List ℕ)) (rest : List Group) → g.tag < t
    → put g rest ≡ g ∷ rest → put g (group_if t o ++ rest) ≡ g ∷ (group_if t o ++ rest)
put-front g t None rest lt later = later
put-front g t (Some x) rest lt later = grind (arith, nat_tests)

put-behind : (g : Group) (t : ℕ) (o : Option (List ℕ)) (rest : List Group) → t ≤ g.tag
    → put g (group_if t o ++ rest) ≡ group_if t o ++ put g rest
put-behind g t None rest le = refl
put-behind g t (Some x) rest le = grind (arith, nat_tests)

put-below : (d : ℕ → Option (List ℕ)) (g : Group) (low : ℕ) (ts : List ℕ) → Rising low ts → g.tag < low
    → put g (collected_from d ts) ≡ g ∷ collected_from d ts
put-below d g low [] rises below = refl
put-below d g low (t ∷ ts) rises below =
    put-front g t (d t) (collected_from d ts) (omega arith) (put-below d g (suc t) ts rises.1 (omega arith))

same_collected : (d e : ℕ → Option (List ℕ)) (t low : ℕ) (ts : List ℕ) → Rising low ts → t < low
    → ((s : ℕ) → (s == t) ≡ false → e s ≡ d s) → collected_from e ts ≡ collected_from d ts
same_collected d e t low [] rises below others = refl
same_collected d e t low (s ∷ ss) rises below others =
    let ne : (s == t) ≡ false = grind (arith, nat_tests) in
    subst (λ (x : Option (List ℕ) × List Group). collected_from e (s ∷ ss) ≡ group_if s x.0 ++ x.1)
    (λ i. (others s ne i, same_collected d e t (suc s) ss rises.1 (omega arith) others i)) refl

put_at : (s : ℕ) (octets : List ℕ) (o p : Option (List ℕ)) (rest : List Group) → o ≡ None → p ≡ Some octets
    → put (record { tag = s; octets = octets }) rest ≡ record { tag = s; octets = octets } ∷ rest
    → group_if s p ++ rest ≡ put (record { tag = s; octets = octets }) (group_if s o ++ rest)
put_at s octets None p rest none some below = ap (λ q. group_if s q ++ rest) some ∙ sym below
put_at s octets (Some x) p rest none some below = cc

-- The group at the first tag.
put_first : (d e : ℕ → Option (List ℕ)) (s : ℕ) (octets : List ℕ) (ss : List ℕ) → Rising (suc s) ss
    → d s ≡ None → e s ≡ Some octets → ((q : ℕ) → (q == s) ≡ false → e q ≡ d q)
    → collected_from e (s ∷ ss) ≡ put (record { tag = s; octets = octets }) (collected_from d (s ∷ ss))
put_first d e s octets ss rises none some others =
    let below : put (record { tag = s; octets = octets }) (collected_from d ss) ≡ record { tag = s; octets = octets } ∷ collected_from d ss
    = put-below d (record { tag = s; octets = octets }) (suc s) ss rises (omega arith) in
    ap (λ rest. group_if s (e s) ++ rest) (same_collected d e s (suc s) ss rises (omega arith) others)
    ∙ put_at s octets (d s) (e s) (collected_from d ss) none some below

among_is_high : (t low : ℕ) (ts : List ℕ) → Rising low ts → is_among t ts ≡ true → low ≤ t
among_is_high t low [] rises among = cc
among_is_high t low (s ∷ ss) rises among = on_bool (s == t)
    (λ is. let same : s ≡ t = grind (arith, nat_tests, is) in omega arith)
    (λ is.
    let later : is_among t ss ≡ true = grind (arith, nat_tests, is, among) in
    let high : suc s ≤ t = among_is_high t (suc s) ss rises.1 later in omega arith)

put_collected_from : (d e : ℕ → Option (List ℕ)) (t low : ℕ) (octets : List ℕ) (ts : List ℕ) → Rising low ts
    → is_among t ts ≡ true → d t ≡ None → e t ≡ Some octets → ((s : ℕ) → (s == t) ≡ false → e s ≡ d s)
    → collected_from e ts ≡ put (record { tag = t; octets = octets }) (collected_from d ts)
put_collected_from d e t low octets [] rises among none some others = cc
put_collected_from d e t low octets (s ∷ ss) rises among none some others = on_bool (s == t)
    (λ is.
    let same : s ≡ t = grind (arith, nat_tests, is) in
    subst (λ (u : ℕ). d u ≡ None → e u ≡ Some octets → ((q : ℕ) → (q == u) ≡ false → e q ≡ d q)
    → collected_from e (s ∷ ss) ≡ put (record { tag = u; octets = octets }) (collected_from d (s ∷ ss)))
    same (λ n o q. put_first d e s octets ss rises.1 n o q) none some others)
    (λ is.
    let later : is_among t ss ≡ true = grind (arith, nat_tests, is, among) in
    let high : suc s ≤ t = among_is_high t (suc s) ss rises.1 later in
    let g : Group = record { tag = t; octets = octets } in
    ap (λ o. group_if s o ++ collected_from e ss) (others s is)
    ∙ ap (λ rest. group_if s (d s) ++ rest) (put_collected_from d e t (suc s) octets ss rises.1 later none some others)
    ∙ sym (put-behind g s (d s) (collected_from d ss) (omega arith)))

-- A group of a new tag is put among the collected ones.
pub collected-put : (d e : ℕ → Option (List ℕ)) (t : ℕ) (octets : List ℕ) → is_among t group_tags ≡ true
    → has_tag t (collected d) ≡ false → e t ≡ Some octets → ((s : ℕ) → (s == t) ≡ false → e s ≡ d s)
    → collected e ≡ put (record { tag = t; octets = octets }) (collected d)
unfolding collected
collected-put d e t octets among new some others =
    put_collected_from d e t 10 octets group_tags group_tags_rise among none some others
  where
    is_none_from : (o : Option (List ℕ)) → is_some o ≡ false → o ≡ None
    is_none_from None h = refl
    is_none_from (Some x) h = cc

    none : d t ≡ None
    none = is_none_from (d t) (sym (has_tag-collected d t among) ∙ new)
