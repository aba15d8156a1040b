-- The laws of the limit of an input, and of the lines before it.
use Rattle.std.proofs.Common.{◌≡◌, ◌≢◌, ℕ, zero, suc, ◌+◌, ◌<◌, ◌≤◌, ◌⊎◌, inl, inr, true, false, cond, eqb, List, [], ◌∷◌, ◌++◌, All, length, take, sym, ap, ◌∙◌, refl, subst, append_assoc, arith}
use Rattle.std.proofs.lemmas.Bool.{cases_Bool, cases_lt, eqb-true, eqb-false, le-leb, lt-leb, leb-true, leb-false, and_parts, and_from, and_cases, and_left, and_right, cond-true, cond-false}
use Rattle.std.proofs.lemmas.List.{length-append, take_at, take_all}
use Rattle.std.proofs.lemmas.List.Elements.{All-nil, All-cons, All-head, All-tail}
use Rattle.adsc_io.specs.Inputs.{IsOverLimit, is_within_limits, line_end, lines_before_limit, lines_within, onto_whole, whole_lines}
use Rattle.adsc_io.specs.Lines.{newline, script_lines, ended_lines, IsUnbroken}
use Rattle.adsc_io.specs.declared.limits.TheConstants.{MAX_SCRIPT_BYTES, MAX_SCRIPT_LINES}
use Rattle.adsc_io.proofs.LineEndLaws.{line_end-later}
use Rattle.adsc_io.proofs.LinesLaws.{script_lines-next}

-- ---- which lines are within the limits

pub within_from : (bytes : List ℕ) (number : ℕ) → number ≤ MAX_SCRIPT_LINES → line_end bytes number ≤ MAX_SCRIPT_BYTES → is_within_limits bytes number ≡ true
within_from bytes number few short = and_from _ _ (le-leb number MAX_SCRIPT_LINES few) (le-leb (line_end bytes number) MAX_SCRIPT_BYTES short)

pub over_from_number : (bytes : List ℕ) (number : ℕ) → MAX_SCRIPT_LINES < number → is_within_limits bytes number ≡ false
over_from_number bytes number many = and_left _ _ (lt-leb number MAX_SCRIPT_LINES many)

pub over_from_place : (bytes : List ℕ) (number : ℕ) → MAX_SCRIPT_BYTES < line_end bytes number → is_within_limits bytes number ≡ false
over_from_place bytes number long = and_right _ _ (lt-leb (line_end bytes number) MAX_SCRIPT_BYTES long)

pub within_parts : (bytes : List ℕ) (number : ℕ) → is_within_limits bytes number ≡ true → (number ≤ MAX_SCRIPT_LINES) × (line_end bytes number ≤ MAX_SCRIPT_BYTES)
within_parts bytes number within =
    let parts = and_parts _ _ within in
    (leb-true number MAX_SCRIPT_LINES parts.0, leb-true (line_end bytes number) MAX_SCRIPT_BYTES parts.1)

-- Lines before one that is within the limits are too.
pub within_before : (bytes : List ℕ) (low high : ℕ) → low ≤ high → is_within_limits bytes high ≡ true → is_within_limits bytes low ≡ true
within_before bytes low high before within =
    let parts = within_parts bytes high within in
    within_from bytes low (omega (arith, before, parts.0)) (omega (arith, parts.1, line_end-later bytes low high before))

-- ---- the lines before the limit

-- Of lines that go on from this number, so many stand before the limit as are within it and no more.
lines_within-at : (bytes : List ℕ) (number : ℕ) (lines : List (List ℕ)) (count : ℕ)
    → ((n : ℕ) → n < number + count → is_within_limits bytes n ≡ true)
    → (length lines ≤ count) ⊎ (is_within_limits bytes (number + count) ≡ false) → lines_within bytes number lines ≡ take count lines
lines_within-at bytes number [] zero within last = refl
lines_within-at bytes number [] (suc count) within last = refl
lines_within-at bytes number (line ∷ lines) zero within (inl few) = absurd (omega (arith, few))
lines_within-at bytes number (line ∷ lines) zero within (inr over) =
    let same : number + 0 ≡ number = omega arith in
    cond-false (is_within_limits bytes number) (line ∷ lines_within bytes (number + 1) lines) [] (subst (λ n. is_within_limits bytes n ≡ false) same over)
lines_within-at bytes number (line ∷ lines) (suc count) within last =
    let next : number + suc count ≡ number + 1 + count = omega arith in
    cond-true (is_within_limits bytes number) (line ∷ lines_within bytes (number + 1) lines) [] (within number (omega arith))
    ∙ ap (λ ls. line ∷ ls) (lines_within-at bytes (number + 1) lines count (λ n low. within n (omega (arith, low))) (elim last [
      | inl few ↦ inl (omega (arith, few))
      | inr over ↦ inr (subst (λ n. is_within_limits bytes n ≡ false) next over)
    ]))

-- The lines before the limit are so many, where the last of them is within it and the next one isn't or isn't there.
pub before_limit-at : (bytes : List ℕ) (count : ℕ) → is_within_limits bytes count ≡ true
    → (length (script_lines bytes) ≤ count) ⊎ (is_within_limits bytes (count + 1) ≡ false) → lines_before_limit bytes ≡ take count (script_lines bytes)
before_limit-at bytes count within last =
    let same : count + 1 ≡ 1 + count = omega arith in
    lines_within-at bytes 1 (script_lines bytes) count (λ n low. within_before bytes n count (omega (arith, low)) within) (elim last [
      | inl few ↦ inl few
      | inr over ↦ inr (subst (λ n. is_within_limits bytes n ≡ false) same over)
    ])

lines_within-front : (bytes : List ℕ) (number : ℕ) (lines : List (List ℕ)) (count : ℕ) → ((n : ℕ) → n < number + count → is_within_limits bytes n ≡ true)
    → (behind : List (List ℕ)) × (lines_within bytes number lines ≡ take count lines ++ behind)
lines_within-front bytes number [] zero within = ([], refl)
lines_within-front bytes number [] (suc count) within = ([], refl)
lines_within-front bytes number (line ∷ lines) zero within = (lines_within bytes number (line ∷ lines), refl)
lines_within-front bytes number (line ∷ lines) (suc count) within =
    let more = lines_within-front bytes (number + 1) lines count (λ n low. within n (omega (arith, low))) in (
      more.0,
      cond-true (is_within_limits bytes number) (line ∷ lines_within bytes (number + 1) lines) [] (within number (omega arith)) ∙ ap (λ ls. line ∷ ls) more.1,
    )

-- The lines up to one that is within the limits stand before the limit.
pub before_limit-front : (bytes : List ℕ) (count : ℕ) → is_within_limits bytes count ≡ true
    → (behind : List (List ℕ)) × (lines_before_limit bytes ≡ take count (script_lines bytes) ++ behind)
before_limit-front bytes count within =
    lines_within-front bytes 1 (script_lines bytes) count (λ n low. within_before bytes n count (omega (arith, low)) within)

-- ---- whether the limit is met

-- Within the limit of bytes an input over the limit has too many lines.
pub over_is_many : (bytes : List ℕ) → length bytes ≤ MAX_SCRIPT_BYTES → IsOverLimit bytes → MAX_SCRIPT_LINES < length (script_lines bytes)
over_is_many bytes short (number, (same, there, over)) = elim (and_cases _ _ over) [
  | inl many ↦ let above : MAX_SCRIPT_LINES < number = leb-false number MAX_SCRIPT_LINES many in omega (arith, there, above)
  | inr long ↦ absurd (omega (arith, short, leb-false (line_end bytes number) MAX_SCRIPT_BYTES long))
]

-- Where no line is over the limit, all lines are before it.
pub before_limit-all : (bytes : List ℕ) → (IsOverLimit bytes → ⊥) → lines_before_limit bytes ≡ script_lines bytes
before_limit-all bytes within = elim (cases_Bool (is_within_limits bytes (length (script_lines bytes)))) [
  | inl last ↦ before_limit-at bytes (length (script_lines bytes)) last (inl (omega arith)) ∙ take_all (length (script_lines bytes)) (script_lines bytes) (omega arith)
  | inr over ↦ absurd (within (length (script_lines bytes), (refl, omega arith, over)))
]

-- ---- the limit of bytes

-- Within the limit of bytes the lines before the limit are the first ones.
pub before_short : (bytes : List ℕ) → length bytes ≤ MAX_SCRIPT_BYTES → lines_before_limit bytes ≡ take MAX_SCRIPT_LINES (script_lines bytes)
before_short bytes short = elim (cases_lt MAX_SCRIPT_LINES (length (script_lines bytes))) [
  | inl many ↦ before_limit-at bytes MAX_SCRIPT_LINES (within_from bytes MAX_SCRIPT_LINES (omega arith) (omega (arith, short))) (inr (over_from_number bytes (MAX_SCRIPT_LINES + 1) (omega arith)))
  | inr few ↦ before_limit-at bytes (length (script_lines bytes)) (within_from bytes (length (script_lines bytes)) few (omega (arith, short))) (inl (omega arith))
      ∙ take_all (length (script_lines bytes)) (script_lines bytes) (omega arith)
      ∙ sym (take_all MAX_SCRIPT_LINES (script_lines bytes) few)
]

-- Bytes are the lines that a newline ends, and then the beginning of one.
pub record IsSplit (bytes : List ℕ) : Type 0 where
  pub beginning : List ℕ
  pub joined : bytes ≡ ended_lines (whole_lines bytes) ++ beginning
  pub unbroken : IsUnbroken beginning
  pub lines : All IsUnbroken (whole_lines bytes)

pub whole_lines-split : (bytes : List ℕ) → IsSplit bytes
whole_lines-split [] = record { beginning = []; joined = refl; unbroken = All-nil (λ b. b ≢ newline); lines = All-nil IsUnbroken }
whole_lines-split (byte ∷ bytes) = elim (cases_Bool (eqb byte newline)) [
  | inl ends ↦ at_newline ends (whole_lines-split bytes)
  | inr other ↦ at_byte other (whole_lines bytes) refl (whole_lines-split bytes)
]
  where
    at_newline : eqb byte newline ≡ true → IsSplit bytes → IsSplit (byte ∷ bytes)
    at_newline ends rest =
        let lines : whole_lines (byte ∷ bytes) ≡ [] ∷ whole_lines bytes = ap (λ b. cond b ([] ∷ whole_lines bytes) (onto_whole byte (whole_lines bytes))) ends in
        record {
          beginning = rest.beginning;
          joined = ap (λ b. b ∷ bytes) (eqb-true byte newline ends) ∙ ap (λ bs. newline ∷ bs) rest.joined ∙ ap (λ ls. ended_lines ls ++ rest.beginning) (sym lines);
          unbroken = rest.unbroken;
          lines = subst (All IsUnbroken) (sym lines) (All-cons IsUnbroken [] (whole_lines bytes) (All-nil (λ b. b ≢ newline)) rest.lines);
        }

    at_byte : eqb byte newline ≡ false → (lines : List (List ℕ)) → whole_lines bytes ≡ lines → IsSplit bytes → IsSplit (byte ∷ bytes)
    at_byte other [] none rest =
        let lines : whole_lines (byte ∷ bytes) ≡ [] =
        ap (λ b. cond b ([] ∷ whole_lines bytes) (onto_whole byte (whole_lines bytes))) other ∙ ap (onto_whole byte) none in
        record {
          beginning = byte ∷ rest.beginning;
          joined = ap (λ bs. byte ∷ bs) (rest.joined ∙ ap (λ ls. ended_lines ls ++ rest.beginning) none) ∙ ap (λ ls. ended_lines ls ++ byte ∷ rest.beginning) (sym lines);
          unbroken = All-cons (λ b. b ≢ newline) byte rest.beginning (eqb-false byte newline other) rest.unbroken;
          lines = subst (All IsUnbroken) (sym lines) (All-nil IsUnbroken);
        }
    at_byte other (line ∷ more) some rest =
        let lines : whole_lines (byte ∷ bytes) ≡ (byte ∷ line) ∷ more =
        ap (λ b. cond b ([] ∷ whole_lines bytes) (onto_whole byte (whole_lines bytes))) other ∙ ap (onto_whole byte) some in
        let all : All IsUnbroken (line ∷ more) = subst (All IsUnbroken) some rest.lines in
        record {
          beginning = rest.beginning;
          joined = ap (λ bs. byte ∷ bs) (rest.joined ∙ ap (λ ls. ended_lines ls ++ rest.beginning) some) ∙ ap (λ ls. ended_lines ls ++ rest.beginning) (sym lines);
          unbroken = rest.unbroken;
          lines = subst (All IsUnbroken) (sym lines) (All-cons IsUnbroken (byte ∷ line) more
              (All-cons (λ b. b ≢ newline) byte line (eqb-false byte newline other) (All-head IsUnbroken line more all)) (All-tail IsUnbroken line more all));
        }

-- Behind lines that a newline ends stand the lines of the rest.
pub script_lines-whole : (lines : List (List ℕ)) (rest : List ℕ) → All IsUnbroken lines → script_lines (ended_lines lines ++ rest) ≡ lines ++ script_lines rest
script_lines-whole [] rest unbroken = refl
script_lines-whole (line ∷ lines) rest unbroken =
    ap script_lines (append_assoc line (newline ∷ ended_lines lines) rest)
    ∙ script_lines-next line (ended_lines lines ++ rest) (All-head IsUnbroken line lines unbroken)
    ∙ ap (λ ls. line ∷ ls) (script_lines-whole lines rest (All-tail IsUnbroken line lines unbroken))

-- The lines that a newline ends end with it.
pub line_end-whole : (bytes rest : List ℕ) (lines : List (List ℕ)) → All IsUnbroken lines → bytes ≡ ended_lines lines ++ rest → line_end bytes (length lines) ≡ length (ended_lines lines)
line_end-whole bytes rest lines unbroken joined = omega (
  arith,
  ap length joined,
  length-append (ended_lines lines) rest,
  ap (λ ls. length (ended_lines ls)) (ap (take (length lines)) (ap script_lines joined ∙ script_lines-whole lines rest unbroken) ∙ take_at lines (script_lines rest) (length lines) refl),
)
