-- What the shown text of lines says of the lines: it counts those that are refused.
use Rattle.std.proofs.Common.{◌≡◌, ℕ, ◌+◌, ◌<◌, true, List, [], ◌∷◌, ◌++◌, cond, sym, ap, ◌∙◌, refl, subst, arith, inl, inr}
use Rattle.std.proofs.lemmas.Bool.{cases_Bool}
use Rattle.shown_lines.specs.Meanings.{Meaning, Means, AreMeanings, HasRefused, is_refusal}
use Rattle.shown_lines.specs.Shown.{AreShown, refusal_count}

-- a list of meanings with one more in front of others
record Holds (meaning : Meaning) (meanings : List Meaning) : Type 0 where
  before : List Meaning
  behind : List Meaning
  joined : meanings ≡ before ++ meaning ∷ behind

-- the meaning of one of the lines is one of the meanings
one_of : (before behind : List (List ℕ)) (line : List ℕ) (meaning : Meaning) (meanings : List Meaning) → AreMeanings (before ++ line ∷ behind) meanings → Means line meaning
    → Holds meaning meanings
one_of [] behind line meaning [] each means = absurd each
one_of [] behind line meaning (m ∷ meanings) each means =
    record { before = []; behind = meanings; joined = ap (λ x. x ∷ meanings) (sym (each.0.only meaning means)) }
one_of (l ∷ before) behind line meaning [] each means = absurd each
one_of (l ∷ before) behind line meaning (m ∷ meanings) each means =
    let one = one_of before behind line meaning meanings each.1 means in
    record { before = m ∷ one.before; behind = one.behind; joined = ap (λ x. m ∷ x) one.joined }

count_one : (before behind : List Meaning) (meaning : Meaning) → is_refusal meaning ≡ true → 0 < refusal_count (before ++ meaning ∷ behind)
count_one [] behind meaning is = subst (λ b. 0 < cond b 1 0 + refusal_count behind) (sym is) (omega arith)
count_one (m ∷ before) behind meaning is = omega (arith, count_one before behind meaning is)

-- where a line is refused, the count isn't 0
pub refused_is_counted : (lines : List (List ℕ)) (text : List ℕ) (refused : ℕ) → AreShown lines text refused → HasRefused lines → 0 < refused
refused_is_counted lines text refused shown some =
    let each = subst (λ ls. AreMeanings ls shown.meanings) some.joined shown.each in
    let one = one_of some.before some.behind some.line some.meaning shown.meanings each some.means in
    subst (λ n. 0 < n) (sym (shown.counted ∙ ap refusal_count one.joined)) (count_one one.before one.behind some.meaning some.passes)

counted : (lines : List (List ℕ)) (meanings : List Meaning) → AreMeanings lines meanings → 0 < refusal_count meanings → HasRefused lines
counted [] meanings each some = absurd (nothing meanings each some)
  where
    nothing : (meanings : List Meaning) → meanings ≡ [] → 0 < refusal_count meanings → ⊥
    nothing meanings none some = omega (arith, some, ap refusal_count none)
counted (line ∷ lines) [] each some = absurd each
counted (line ∷ lines) (meaning ∷ meanings) each some = elim (cases_Bool (is_refusal meaning)) [
  | inl is ↦ record { before = []; line = line; behind = lines; meaning = meaning; joined = refl; means = each.0.means; passes = is }
  | inr other ↦ behind (counted lines meanings each.1 (omega (arith, subst (λ b. 0 < cond b 1 0 + refusal_count meanings) other some)))
]
  where
    behind : HasRefused lines → HasRefused (line ∷ lines)
    behind one = record { before = line ∷ one.before; line = one.line; behind = one.behind; meaning = one.meaning; joined = ap (λ ls. line ∷ ls) one.joined; means = one.means; passes = one.passes }

-- where the count isn't 0, a line is refused
pub counted_is_refused : (lines : List (List ℕ)) (text : List ℕ) (refused : ℕ) → AreShown lines text refused → 0 < refused → HasRefused lines
counted_is_refused lines text refused shown some = counted lines shown.meanings shown.each (subst (λ n. 0 < n) shown.counted some)
