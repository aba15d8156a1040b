-- The laws of the shown text of lines: nothing is shown at first, and each line adds to it.
use Rattle.std.proofs.Common.{◌≡◌, ℕ, suc, ◌+◌, List, [], ◌∷◌, ◌++◌, length, take, cond, sym, ap, ◌∙◌, refl, subst, arith, append_assoc}
use Rattle.std.proofs.lemmas.List.{append-nil, length-append, take_at}
use Rattle.adsc_io.specs.Inputs.{HasLine}
use Rattle.adsc_io.specs.Lines.{script_lines}
use Rattle.shown_lines.specs.Meanings.{Meaning, IsMeaning, AreMeanings, is_refusal}
use Rattle.shown_lines.specs.Meanings.Meaning.{uplink as an_uplink, answer as an_answer, downlink as a_downlink, contact as a_contact, refused as a_refusal}
use Rattle.shown_lines.specs.Shown.{AreShown, IsShown, refusal_count, refusals, way_shown}
use Rattle.shown_lines.specs.declared.show.LineShown.{LineShown}
use Rattle.shown_lines.specs.Texts.{line_text, lines_text}

-- before any line nothing is shown
pub AreShown-none : (lines : List (List ℕ)) (text : List ℕ) (refused : ℕ) → lines ≡ [] → text ≡ [] → refused ≡ 0 → AreShown lines text refused
AreShown-none lines text refused none empty zero_refused =
    subst (λ (x : List (List ℕ)). AreShown x text refused) (sym none) (record {
      meanings = [];
      each = refl;
      counted = zero_refused;
      spelled = empty;
    })

AreMeanings-more : (lines : List (List ℕ)) (meanings : List Meaning) (line : List ℕ) (meaning : Meaning) → AreMeanings lines meanings → IsMeaning line meaning
    → AreMeanings (lines ++ line ∷ []) (meanings ++ meaning ∷ [])
AreMeanings-more [] [] line meaning each is = (is, refl)
AreMeanings-more [] (m ∷ ms) line meaning each is = absurd (no_cons m ms each)
  where
    no_cons : (m : Meaning) (ms : List Meaning) → m ∷ ms ≡ [] → ⊥
    no_cons m ms e = cc
AreMeanings-more (l ∷ lines) [] line meaning each is = absurd each
AreMeanings-more (l ∷ lines) (m ∷ meanings) line meaning each is = (each.0, AreMeanings-more lines meanings line meaning each.1 is)

length-meanings : (lines : List (List ℕ)) (meanings : List Meaning) → AreMeanings lines meanings → length meanings ≡ length lines
length-meanings [] meanings each = ap length each
length-meanings (l ∷ lines) [] each = absurd each
length-meanings (l ∷ lines) (m ∷ meanings) each = omega (arith, length-meanings lines meanings each.1)

refusal_count-more : (meanings : List Meaning) (meaning : Meaning) → refusal_count (meanings ++ meaning ∷ []) ≡ cond (is_refusal meaning) 1 0 + refusal_count meanings
refusal_count-more [] meaning = refl
refusal_count-more (m ∷ meanings) meaning = omega (arith, refusal_count-more meanings meaning)

lines_text-more : (number : ℕ) (meanings : List Meaning) (meaning : Meaning)
    → lines_text number (meanings ++ meaning ∷ []) ≡ lines_text number meanings ++ line_text (number + length meanings) meaning
lines_text-more number [] meaning = append-nil (line_text number meaning) ∙ ap (λ n. line_text n meaning) (omega arith)
lines_text-more number (m ∷ meanings) meaning =
    ap (λ text. line_text number m ++ text) (lines_text-more (number + 1) meanings meaning ∙ ap (λ n. lines_text (number + 1) meanings ++ line_text n meaning) (omega arith))
    ∙ sym (append_assoc (line_text number m) (lines_text (number + 1) meanings) (line_text (number + suc (length meanings)) meaning))

-- ---- one line more

-- a line is refused exactly where it is shown so
refusals_of : (meaning : Meaning) → refusals (way_shown meaning) ≡ cond (is_refusal meaning) 1 0
refusals_of (an_uplink address registration asked) = refl
refusals_of (an_answer address said) = refl
refusals_of (a_downlink address registration items) = refl
refusals_of (a_contact address said) = refl
refusals_of (a_refusal fault) = refl

-- a line is shown behind those that are
AreShown-more : (lines : List (List ℕ)) (line before text : List ℕ) (number refused_before : ℕ) (way : LineShown) → number ≡ length lines + 1 → AreShown lines before refused_before
    → IsShown number line text way → AreShown (lines ++ line ∷ []) (before ++ text) (refused_before + refusals way)
AreShown-more lines line before text number refused_before way numbered shown added = record {
  meanings = shown.meanings ++ added.meaning ∷ [];
  each = AreMeanings-more lines shown.meanings line added.meaning shown.each (record { means = added.means; only = added.only });
  counted = omega (arith, ap refusals added.shown, refusals_of added.meaning, shown.counted, refusal_count-more shown.meanings added.meaning);
  spelled = ap (λ t. before ++ t) added.spelled ∙ ap (λ t. t ++ line_text number added.meaning) shown.spelled
      ∙ ap (λ n. lines_text 1 shown.meanings ++ line_text n added.meaning) (omega (arith, numbered, length-meanings lines shown.meanings shown.each))
      ∙ sym (lines_text-more 1 shown.meanings added.meaning);
}

-- the lines before a line, and those up to it
pub before_line : (bytes line : List ℕ) (count : ℕ) (front behind : List (List ℕ)) → script_lines bytes ≡ front ++ line ∷ behind → count ≡ length front → take count (script_lines bytes) ≡ front
before_line bytes line count front behind joined place = ap (take count) joined ∙ take_at front (line ∷ behind) count (sym place)

pub up_to_line : (bytes line : List ℕ) (number : ℕ) (has : HasLine bytes number line) → take number (script_lines bytes) ≡ has.before ++ line ∷ []
up_to_line bytes line number has =
    ap (take number) (has.joined ∙ sym (append_assoc has.before (line ∷ []) has.behind))
    ∙ take_at (has.before ++ line ∷ []) has.behind number (omega (arith, has.counted, length-append has.before (line ∷ [])))

-- the line of the next number is shown behind all before it
pub shown_next : (bytes line before text : List ℕ) (count number refused_before refused_now : ℕ) (way : LineShown) → number ≡ count + 1 → HasLine bytes number line
    → refused_now ≡ refused_before + refusals way → AreShown (take count (script_lines bytes)) before refused_before → IsShown number line text way
    → AreShown (take number (script_lines bytes)) (before ++ text) refused_now
shown_next bytes line before text count number refused_before refused_now way next has counted shown added =
    let place : count ≡ length has.before = omega (arith, next, has.counted) in
    subst (λ n. AreShown (take number (script_lines bytes)) (before ++ text) n) (sym counted)
    (subst (λ (lines : List (List ℕ)). AreShown lines (before ++ text) (refused_before + refusals way)) (sym (up_to_line bytes line number has))
    (AreShown-more has.before line before text number refused_before way has.counted
    (subst (λ (lines : List (List ℕ)). AreShown lines before refused_before) (before_line bytes line count has.before has.behind has.joined place) shown) added))
