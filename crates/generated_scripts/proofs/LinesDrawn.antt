-- A line more of those that are drawn.
use Rattle.std.proofs.Common.{◌≡◌, ℕ, suc, ◌+◌, ◌-◌, ◌<◌, List, [], ◌∷◌, ◌++◌, map, sym, ◌∙◌, ap, subst, arith}
use Rattle.std.proofs.lemmas.List.{append_assoc}
use Rattle.adsc_io.specs.Lines.{ended, ended_lines, newline}
use Rattle.generated_scripts.specs.Generator.{Making, behind_line, line_drawn, lines_drawn}
use Rattle.generated_scripts.specs.Texts.{line_text}
use Rattle.generated_scripts.specs.declared.line.MadeLine.{MadeLine}

-- The bytes of so many lines.
abbrev bytes_of : ℕ → Making → List ℕ
bytes_of count at = ended_lines (map line_text (lines_drawn count at))

-- Of some lines that are left the first is the next one, and the others are drawn behind it.
one_line : (left : ℕ) (at behind : Making) (line : MadeLine) → line ≡ line_drawn at → behind ≡ behind_line at line
    → bytes_of (suc left) at ≡ line_text line ++ newline ∷ bytes_of left behind
one_line left at behind line is goes =
    subst (λ l. bytes_of (suc left) at ≡ line_text l ++ newline ∷ bytes_of left behind) (sym is)
    (ap (λ b. line_text (line_drawn at) ++ newline ∷ bytes_of left b) (ap (behind_line at) (sym is) ∙ sym goes))

-- What was appended so far, and the lines that are left, stay the same where the next one of them is appended.
pub one_more : (before now whole : List ℕ) (count counter : ℕ) (at behind : Making) (line : MadeLine) → counter < count
    → line ≡ line_drawn at → behind ≡ behind_line at line → before ++ bytes_of (count - counter) at ≡ whole → now ≡ before ++ ended (line_text line)
    → now ++ bytes_of (count - (counter + 1)) behind ≡ whole
one_more before now whole count counter at behind line more is goes so_far appended =
    let left = count - (counter + 1) in
    let next : suc left ≡ count - counter = omega (arith, more) in
    ap (λ bytes. bytes ++ bytes_of left behind) appended
    ∙ append_assoc before (ended (line_text line)) (bytes_of left behind)
    ∙ ap (λ bytes. before ++ bytes) (append_assoc (line_text line) (newline ∷ []) (bytes_of left behind) ∙ sym (one_line left at behind line is goes))
    ∙ ap (λ n. before ++ bytes_of n at) next ∙ so_far
