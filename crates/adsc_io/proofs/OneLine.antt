-- At each number of an input stands one thing.
use Rattle.std.proofs.Common.{◌≡◌, ℕ, ◌+◌, Bool, true, false, List, ◌∷◌, ◌++◌, length, get_or, refl, sym, ap, ◌∙◌, arith}
use Rattle.std.proofs.lemmas.List.{get_or-append-add}
use Rattle.adsc_io.specs.Inputs.{HasLine, IsLineAt}
use Rattle.adsc_io.specs.Lines.{script_lines}
use Rattle.adsc_io.proofs.LineEndLaws.{line_is_there}
use Rattle.adsc_io.specs.declared.line.Line.{Line}
use Rattle.adsc_io.specs.declared.line.Line.TheVariants.{Text, End, TooLong, Limit}

both : (b : Bool) → b ≡ true → b ≡ false → ⊥
both b is isnt = cc

-- what stands behind so many lines
at_place : (lines before behind : List (List ℕ)) (line other : List ℕ) (place : ℕ) → lines ≡ before ++ line ∷ behind → place ≡ length before → get_or lines place other ≡ line
at_place lines before behind line other place joined counted =
    let here : place ≡ length before + 0 = omega (arith, counted) in
    ap (λ ls. get_or ls place other) joined ∙ ap (λ k. get_or (before ++ line ∷ behind) k other) here ∙ get_or-append-add before (line ∷ behind) 0 other

same_line : (bytes first second : List ℕ) (number : ℕ) → HasLine bytes number first → HasLine bytes number second → first ≡ second
same_line bytes first second number one other =
    sym (at_place (script_lines bytes) one.before one.behind first second (length one.before) one.joined refl)
    ∙ at_place (script_lines bytes) other.before other.behind second second (length one.before) other.joined (omega (arith, one.counted, other.counted))

pub one_line : (bytes first second : List ℕ) (number : ℕ) (one other : Line) → IsLineAt bytes number one first → IsLineAt bytes number other second
    → (one ≡ other) × (one ≡ Text → first ≡ second)
one_line bytes first second number Text Text one other = (refl, λ is. same_line bytes first second number one.0 other.0)
one_line bytes first second number Text TooLong one other = absurd (omega (arith, one.2, other.3, ap length (same_line bytes first other.0 number one.0 other.1)))
one_line bytes first second number Text (Limit line) one other = absurd (both _ one.1 other.2)
one_line bytes first second number Text End one other = absurd (omega (arith, other, line_is_there bytes first number one.0))
one_line bytes first second number TooLong Text one other = absurd (omega (arith, other.2, one.3, ap length (same_line bytes second one.0 number other.0 one.1)))
one_line bytes first second number TooLong TooLong one other = (refl, λ is. absurd (cc))
one_line bytes first second number TooLong (Limit line) one other = absurd (both _ one.2 other.2)
one_line bytes first second number TooLong End one other = absurd (omega (arith, other, line_is_there bytes one.0 number one.1))
one_line bytes first second number (Limit line) Text one other = absurd (both _ other.1 one.2)
one_line bytes first second number (Limit line) TooLong one other = absurd (both _ other.2 one.2)
one_line bytes first second number (Limit line) (Limit line') one other = (ap Limit (one.0 ∙ sym other.0), λ is. absurd (cc))
one_line bytes first second number (Limit line) End one other = absurd (omega (arith, other, one.1))
one_line bytes first second number End Text one other = absurd (omega (arith, one, line_is_there bytes second number other.0))
one_line bytes first second number End TooLong one other = absurd (omega (arith, one, line_is_there bytes other.0 number other.1))
one_line bytes first second number End (Limit line) one other = absurd (omega (arith, one, other.1))
one_line bytes first second number End End one other = (refl, λ is. absurd (cc))
