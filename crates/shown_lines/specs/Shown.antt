-- The shown text of lines and of an input (this project's profile).
use Rattle.std.specs.Prelude.{◌≡◌, ℕ, ◌+◌, List, [], ◌∷◌, ◌++◌, length, take, if◌then◌else◌}
use Rattle.adsc_io.specs.Lines.{script_lines}
use Rattle.adsc_io.specs.Inputs.{IsOverLimit, lines_before_limit}
use Rattle.shown_lines.specs.declared.show.LineShown.{LineShown}
use Rattle.shown_lines.specs.declared.show.LineShown.TheVariants.{Right, Refused}
use Rattle.shown_lines.specs.Meanings.{Meaning, Means, AreMeanings, is_refusal}
use Rattle.shown_lines.specs.Meanings.Meaning.{uplink, answer, downlink, contact, refused}
use Rattle.shown_lines.specs.Texts.{line_text, lines_text, end_text}

-- ---- one line

-- How a line of this meaning is shown.
abbrev pub way_shown : Meaning → LineShown
way_shown (uplink address registration asked) = Right
way_shown (answer address said) = Right
way_shown (downlink address registration items) = Right
way_shown (contact address said) = Right
way_shown (refused fault) = Refused

-- How many lines are refused that are shown so.
abbrev pub refusals : LineShown → ℕ
refusals Right = 0
refusals Refused = 1

-- What has one meaning, by this rule, is shown as the line of this number.
pub record IsShownAs (number : ℕ) (IsMeant : Meaning → Type 0) (text : List ℕ) (way : LineShown) : Type 0 where
  pub meaning : Meaning
  pub means : IsMeant meaning
  pub only : (other : Meaning) → IsMeant other → other ≡ meaning
  pub shown : way ≡ way_shown meaning
  pub spelled : text ≡ line_text number meaning

-- The line of this number is shown as what it means.
abbrev pub IsShown : ℕ → List ℕ → List ℕ → LineShown → Type 0
IsShown number line text way = IsShownAs number (Means line) text way

-- ---- lines

-- How many of these meanings are refusals.
abbrev pub refusal_count : List Meaning → ℕ
refusal_count [] = 0
refusal_count (meaning ∷ meanings) = (if is_refusal meaning then 1 else 0) + refusal_count meanings

-- The text shows these lines, numbered from 1, of which so many are refused.
pub record AreShown (lines : List (List ℕ)) (text : List ℕ) (refused : ℕ) : Type 0 where
  pub meanings : List Meaning
  pub each : AreMeanings lines meanings
  pub counted : refused ≡ refusal_count meanings
  pub spelled : text ≡ lines_text 1 meanings

-- ---- an input

-- The text is the shown text of an input within the limit: its lines are shown, and then comes the line that ends the text.
pub record IsShownWhole (bytes text : List ℕ) (refused : ℕ) : Type 0 where
  pub within : IsOverLimit bytes → ⊥
  pub lines_shown : List ℕ
  pub shown : AreShown (script_lines bytes) lines_shown refused
  pub spelled : text ≡ lines_shown ++ end_text (length (script_lines bytes)) refused

-- The text is the shown text of an input over the limit: the lines before the limit are shown, and no line ends the text.
pub record IsShownCut (bytes text : List ℕ) : Type 0 where
  pub over : IsOverLimit bytes
  pub refused : ℕ
  pub shown : AreShown (lines_before_limit bytes) text refused

-- The text shows the first lines of an input, as many as may be, but none behind its limit.
pub record IsShownFront (bytes text : List ℕ) : Type 0 where
  pub count : ℕ
  pub refused : ℕ
  pub shown : AreShown (take count (lines_before_limit bytes)) text refused
