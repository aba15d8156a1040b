-- Lines have at most one shown text.
use Rattle.std.proofs.Common.{◌≡◌, ℕ, List, [], ◌∷◌, sym, ap, ap₂, ◌∙◌}
use Rattle.shown_lines.specs.Meanings.{Meaning, AreMeanings}
use Rattle.shown_lines.specs.Shown.{AreShown, refusal_count}
use Rattle.shown_lines.specs.Texts.{lines_text}

-- the meanings of the lines are these alone
same_meanings : (lines : List (List ℕ)) (first second : List Meaning) → AreMeanings lines first → AreMeanings lines second → first ≡ second
same_meanings [] first second one other = one ∙ sym other
same_meanings (line ∷ lines) [] second one other = absurd one
same_meanings (line ∷ lines) (m ∷ first) [] one other = absurd other
same_meanings (line ∷ lines) (m ∷ first) (n ∷ second) one other =
    ap₂ (λ (x : Meaning) (xs : List Meaning). x ∷ xs) (other.0.only m one.0.means) (same_meanings lines first second one.1 other.1)

pub one_text : (lines : List (List ℕ)) (first second : List ℕ) (refused refused' : ℕ) → AreShown lines first refused → AreShown lines second refused'
    → (first ≡ second) × (refused ≡ refused')
one_text lines first second refused refused' one other =
    let same = same_meanings lines one.meanings other.meanings one.each other.each in
    (one.spelled ∙ ap (lines_text 1) same ∙ sym other.spelled, one.counted ∙ ap refusal_count same ∙ sym other.counted)
