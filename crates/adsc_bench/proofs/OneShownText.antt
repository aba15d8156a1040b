-- An input has at most one shown text.
use Rattle.std.proofs.Common.{◌≡◌, ℕ, List, ◌++◌, length, inl, inr, sym, ap₂, ◌∙◌}
use Rattle.adsc_io.specs.Lines.{script_lines}
use Rattle.adsc_io.specs.Inputs.{lines_before_limit}
use Rattle.shown_lines.specs.Texts.{end_text}
use Rattle.shown_lines.proofs.OneText.{one_text}
use Rattle.adsc_bench.specs.Showing.{IsShownText}

pub one_shown_text : (bytes first second : List ℕ) → IsShownText bytes first → IsShownText bytes second → first ≡ second
one_shown_text bytes first second (inl (refused, whole)) (inl (refused', whole')) =
    let same = one_text (script_lines bytes) whole.lines_shown whole'.lines_shown refused refused' whole.shown whole'.shown in
    whole.spelled ∙ ap₂ (λ text count. text ++ end_text (length (script_lines bytes)) count) same.0 same.1 ∙ sym whole'.spelled
one_shown_text bytes first second (inl (refused, whole)) (inr cut') = absurd (whole.within cut'.over)
one_shown_text bytes first second (inr cut) (inl (refused', whole')) = absurd (whole'.within cut.over)
one_shown_text bytes first second (inr cut) (inr cut') = (one_text (lines_before_limit bytes) first second cut.refused cut'.refused cut.shown cut'.shown).0
