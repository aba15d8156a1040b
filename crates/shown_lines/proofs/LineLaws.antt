-- The laws of what one line means: too long, of no known form, or what its text means.
use Rattle.std.proofs.Common.{◌≡◌, ℕ, ◌<◌, ◌≤◌, List, length, drop, slice_index, inl, inr, refl, sym, ap, ◌∙◌, subst, arith}
use Rattle.adsc_io.specs.declared.limits.TheConstants.{MAX_LINE_BYTES}
use Rattle.shown_lines.specs.declared.direction.Direction.{Direction}
use Rattle.shown_lines.specs.declared.direction.Direction.TheVariants.{Up, Down}
use Rattle.shown_lines.specs.declared.refusal.TextRefusal.TheVariants as refusal
use Rattle.shown_lines.specs.Meanings.{Meaning, letter_of, IsLineOf, BeginsWith, CarriesText, TextMeans, Means}
use Rattle.shown_lines.specs.Meanings.Meaning.{refused}
use Rattle.shown_lines.specs.Shown.{IsShown, IsShownAs}
use Rattle.shown_lines.specs.Texts.{line_text}
use Rattle.shown_lines.specs.declared.show.LineShown.{LineShown}
use Rattle.shown_lines.specs.declared.show.LineShown.TheVariants.{Refused}

-- a line of more than 4,096 bytes is too long, and means nothing else
pub long_is_shown : (number : ℕ) (line text : List ℕ) (way : LineShown) → MAX_LINE_BYTES < length line → text ≡ line_text number (refused refusal.Long) → way ≡ Refused
    → IsShown number line text way
long_is_shown number line text way long spelled shown = record { meaning = refused refusal.Long; means = inl (long, refl); only = alone; shown = shown; spelled = spelled }
  where
    alone : (other : Meaning) → Means line other → other ≡ refused refusal.Long
    alone other (inl same) = same.1
    alone other (inr (inl form)) = absurd (omega (arith, long, form.0))
    alone other (inr (inr carried)) = absurd (omega (arith, long, carried.0))

-- a line that isn't too long and begins with no letter of a direction is of no known form, and means nothing else
pub form_is_shown : (number : ℕ) (line text : List ℕ) (way : LineShown) → length line ≤ MAX_LINE_BYTES → ((direction : Direction) → BeginsWith (letter_of direction) line → ⊥)
    → text ≡ line_text number (refused refusal.Form) → way ≡ Refused → IsShown number line text way
form_is_shown number line text way short none spelled shown = record { meaning = refused refusal.Form; means = inr (inl (short, none, refl)); only = alone; shown = shown; spelled = spelled }
  where
    alone : (other : Meaning) → Means line other → other ≡ refused refusal.Form
    alone other (inl long) = absurd (omega (arith, short, long.0))
    alone other (inr (inl same)) = same.2
    alone other (inr (inr carried)) = absurd (none carried.1.0 (carried.1.1.0, carried.1.1.1))

-- a line begins with the letter of one direction, and has one text behind it
same_text : (line text : List ℕ) (direction direction' : Direction) (other : Meaning) → IsLineOf (letter_of direction) line text → CarriesText direction' line other
    → TextMeans direction text other
same_text line text Up Up other spelled carried = subst (λ t. TextMeans Up t other) (ap (drop 2) (sym carried.1 ∙ spelled)) carried.2
same_text line text Down Down other spelled carried = subst (λ t. TextMeans Down t other) (ap (drop 2) (sym carried.1 ∙ spelled)) carried.2
same_text line text Up Down other spelled carried = absurd (omega (arith, ap (λ l. slice_index l 0) (sym carried.1 ∙ spelled)))
same_text line text Down Up other spelled carried = absurd (omega (arith, ap (λ l. slice_index l 0) (sym carried.1 ∙ spelled)))

-- a line that isn't too long is shown as the text behind its letter
pub text_is_shown : (number : ℕ) (direction : Direction) (line text shown : List ℕ) (way : LineShown) → length line ≤ MAX_LINE_BYTES → IsLineOf (letter_of direction) line text
    → IsShownAs number (TextMeans direction text) shown way → IsShown number line shown way
text_is_shown number direction line text shown way short spelled said = record {
  meaning = said.meaning;
  means = inr (inr (short, (direction, (text, spelled, said.means))));
  only = alone;
  shown = said.shown;
  spelled = said.spelled;
}
  where
    alone : (other : Meaning) → Means line other → other ≡ said.meaning
    alone other (inl long) = absurd (omega (arith, short, long.0))
    alone other (inr (inl form)) = absurd (form.1 direction (text, spelled))
    alone other (inr (inr carried)) = said.only other (same_text line text direction carried.1.0 other spelled carried.1.1)
