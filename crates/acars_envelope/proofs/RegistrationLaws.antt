-- A registration by its places: what may follow what, and the dots before the mark.
use Rattle.std.proofs.Common.{◌≡◌, ◌≢◌, ℕ, zero, suc, ◌+◌, ◌-◌, ◌<◌, ◌≤◌, ◌==◌, Bool, true, false, List, [], ◌∷◌, ◌++◌, length, drop, take, get_or, slice_index, replicate, inl, inr, refl, ap, arith}
use Rattle.std.specs.Prelude.{codes, ◌&&◌, if◌then◌else◌}
use Rattle.std.specs.List.{AllPass, slice_range}
use Rattle.std.proofs.lemmas.Bool.{cases_Bool, cases_eq, ne_eqb}
use Rattle.std.proofs.lemmas.Bool.Decides.{nat_tests}
use Rattle.std.proofs.lemmas.List.{append-nil, drop_more, get_or-drop, get_or-take, length-append, length-drop, length-replicate, length-take}
use Rattle.std.proofs.lemmas.List.Elements.{All-cons, All-nil}
use Rattle.acars_envelope.specs.declared.refusal.EnvelopeRefusal.{EnvelopeRefusal}
use Rattle.acars_envelope.specs.declared.refusal.EnvelopeWhy.{EnvelopeWhy}
use Rattle.acars_envelope.specs.Faults.{AreRight, IsFirstBad, IsFirstWrong, IsRegistrationFault, is_right_in_registration, may_follow, why_in_registration}
use Rattle.acars_envelope.specs.Names.{IsRegistration, is_mark_character}

-- one more place is right
pub AreRight-more : (is_right : ℕ → Bool) (from place : ℕ) → AreRight is_right from place → is_right place ≡ true
    → AreRight is_right from (place + 1)
AreRight-more is_right from place before here k from_on below =
    elim (cases_eq k place) [
      | inl same ↦ rw same here
      | inr other ↦ before k from_on (omega arith)
    ]

-- the character before the next place is the one at this place
pub before_next : (text : List ℕ) (place c : ℕ) → 12 ≤ place → c ≡ slice_index text place
    → c ≡ (if (place + 1) == 12 then 46 else slice_index text (place + 1 - 1))
before_next text place c from_on is =
    let back : place + 1 - 1 ≡ place = omega arith in
    rw (ne_eqb (place + 1) 12 (omega arith), back) is

-- a dot is no character of a mark
pub no_dot : (c : ℕ) → is_mark_character c ≡ true → c ≢ 46
no_dot c mark dot = grind (arith, nat_tests)

-- what may stand behind a character without being one of a mark is a dot behind a dot
dot_behind_dot : (before c : ℕ) → is_mark_character c ≡ false → may_follow before c ≡ true → (c ≡ 46) × (before ≡ 46)
dot_behind_dot before c no_mark follows =
    let both : ((c == 46) && (before == 46)) ≡ true = rw no_mark at follows in
    grind (arith, nat_tests)

-- no dots before a mark
no_dots_before : (xs mark : List ℕ) (dots : ℕ) → dots ≡ 0 → xs ≡ replicate dots 46 ++ mark → xs ≡ mark
no_dots_before xs mark dots none joined = rw none at joined

-- a mark behind dots is not empty where not all are dots
not_empty : (seven mark : List ℕ) (dots : ℕ) → dots + length mark ≡ 7 → seven ≡ replicate dots 46 ++ mark
    → seven ≢ codes "......." → 1 ≤ length mark
not_empty seven [] dots sum joined some =
    let all : dots ≡ 7 = omega arith in
    let dotted : seven ≡ codes "......." = rw (all, append-nil) at joined in
    absurd (some dotted)
not_empty seven (x ∷ mark) dots sum joined some = omega arith

-- the character at a place of the registration may follow the one before
follows_at : (text : List ℕ) (k : ℕ) → k < 7 → is_right_in_registration text (12 + k) ≡ true
    → may_follow (get_or (46 ∷ slice_range text 12 19) k 0) (get_or (slice_range text 12 19) k 0) ≡ true
follows_at text zero below right =
    rw (get_or-take 7 (drop 12 text) 0 0 below, get_or-drop 12 text 0 0) right
follows_at text (suc k) below right =
    let near : k < 7 = omega arith in
    let other : (12 + suc k == 12) ≡ false = ne_eqb (12 + suc k) 12 (omega arith) in
    let back : 12 + suc k - 1 ≡ 12 + k = omega arith in
    rw (get_or-take 7 (drop 12 text) k 0 near, get_or-drop 12 text k 0, get_or-take 7 (drop 12 text) (suc k) 0 below, get_or-drop 12 text (suc k) 0)
    (rw (other, back) at right)

-- where each place is right, none is the first bad one
pub no_first_bad : (text : List ℕ) (is_right : ℕ → Bool) (why : ℕ → EnvelopeWhy) (from to : ℕ) → to ≤ length text
    → AreRight is_right from to → (r : EnvelopeRefusal) → IsFirstBad text is_right why from to r → ⊥
no_first_bad text is_right why from to there right r fault =
    elim fault.bad [
      | inl short ↦ omega (arith, fault.within, short.0)
      | inr wrong ↦ cc (right fault.place fault.from_on fault.within, wrong.1)
    ]

pub no_first_wrong : (is_right : ℕ → Bool) (why : EnvelopeWhy) (from to : ℕ)
    → AreRight is_right from to → (r : EnvelopeRefusal) → IsFirstWrong is_right why from to r → ⊥
no_first_wrong is_right why from to right r fault = cc (right fault.place fault.from_on fault.within, fault.wrong)

-- characters of which each may follow the one before are dots and then a mark's characters
record Split (before : ℕ) (xs : List ℕ) : Type 0 where
  dots : ℕ
  mark : List ℕ
  characters : AllPass is_mark_character mark
  joined : xs ≡ replicate dots 46 ++ mark
  none_behind_mark : before ≢ 46 → dots ≡ 0

split : (before : ℕ) (xs : List ℕ)
    → ((k : ℕ) → k < length xs → may_follow (get_or (before ∷ xs) k 0) (get_or xs k 0) ≡ true) → Split before xs
split before [] follow = record {
  dots = 0;
  mark = [];
  characters = let passes : ℕ → Type 0 = λ c. is_mark_character c ≡ true in All-nil passes;
  joined = refl;
  none_behind_mark = λ other. refl;
}
split before (x ∷ xs) follow =
    let rest = split x xs (λ k below. follow (suc k) (omega arith)) in
    let passes : ℕ → Type 0 = λ c. is_mark_character c ≡ true in
    elim (cases_Bool (is_mark_character x)) [
      | inl is ↦ record {
        dots = 0;
        mark = x ∷ rest.mark;
        characters = All-cons passes x rest.mark is rest.characters;
        joined = ap (λ (ys : List ℕ). x ∷ ys) (no_dots_before xs rest.mark rest.dots (rest.none_behind_mark (no_dot x is)) rest.joined);
        none_behind_mark = λ other. refl;
      }
      | inr isnt ↦
          let both = dot_behind_dot before x isnt (follow 0 (omega arith)) in
          record {
            dots = suc rest.dots;
            mark = rest.mark;
            characters = rest.characters;
            joined = cc (both.0, rest.joined);
            none_behind_mark = λ other. absurd (other both.1);
          }
    ]

-- seven such characters that aren't all dots are a registration
registration_of_seven : (seven : List ℕ) → length seven ≡ 7
    → ((k : ℕ) → k < length seven → may_follow (get_or (46 ∷ seven) k 0) (get_or seven k 0) ≡ true)
    → seven ≢ codes "......." → IsRegistration seven
registration_of_seven seven size follow some =
    let parts = split 46 seven follow in
    let sum : parts.dots + length parts.mark ≡ 7 =
    omega (arith, size, ap length parts.joined, length-append (replicate parts.dots 46) parts.mark, length-replicate {A = ℕ} parts.dots 46) in
    let filled : 7 - length parts.mark ≡ parts.dots = omega (arith, sum) in
    record {
      mark = parts.mark;
      is_mark = record {
        some = not_empty seven parts.mark parts.dots sum parts.joined some;
        few = omega (arith, sum);
        characters = parts.characters;
      };
      dotted = rw filled parts.joined;
    }

-- the piece at 12 to 18, where each place is right
pub registration_right : (text : List ℕ) → 19 ≤ length text → AreRight (is_right_in_registration text) 12 19
    → slice_range text 12 19 ≢ codes "......." → IsRegistration (slice_range text 12 19)
registration_right text long right some =
    let size : length (slice_range text 12 19) ≡ 7 = omega (arith, length-take 7 (drop 12 text), length-drop 12 text) in
    registration_of_seven (slice_range text 12 19) size
    (λ k below. follows_at text k (omega (arith, size)) (right (12 + k) (omega arith) (omega (arith, size)))) some

-- a piece of a text by its first character
next_character : (text : List ℕ) (from n : ℕ) → from < length text
    → take (suc n) (drop from text) ≡ slice_index text from ∷ take n (drop (from + 1) text)
next_character text from n there = ap (take (suc n)) (drop_more text from 0 there)

-- the piece at 12 to 18, character by character
pub seven_characters : (text : List ℕ) → 19 ≤ length text
    → slice_range text 12 19 ≡ slice_index text 12 ∷ slice_index text 13 ∷ slice_index text 14 ∷ slice_index text 15
    ∷ slice_index text 16 ∷ slice_index text 17 ∷ slice_index text 18 ∷ []
seven_characters text long =
    rw (
      next_character text 12 6 (omega arith),
      next_character text 13 5 (omega arith),
      next_character text 14 4 (omega arith),
      next_character text 15 3 (omega arith),
      next_character text 16 2 (omega arith),
      next_character text 17 1 (omega arith),
      next_character text 18 0 (omega arith),
    ) refl

-- Where all places are right and the seven aren't all dots, no registration's rule applies.
pub no_registration_fault : (text : List ℕ) → 19 ≤ length text → AreRight (is_right_in_registration text) 12 19
    → slice_range text 12 19 ≢ codes "......." → (r : EnvelopeRefusal) → IsRegistrationFault text r → ⊥
no_registration_fault text long right some r (inl bad) = no_first_bad text (is_right_in_registration text) why_in_registration 12 19 long right r bad
no_registration_fault text long right some r (inr dots) = some dots.0
