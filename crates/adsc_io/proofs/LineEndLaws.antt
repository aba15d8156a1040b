-- The laws of where a line of an input ends, and of what stands behind it.
use Rattle.std.proofs.Common.{◌≡◌, ◌≢◌, ℕ, zero, suc, ◌+◌, ◌<◌, ◌≤◌, eqb, List, [], ◌∷◌, ◌++◌, length, take, drop, get_or, ◌⊎◌, inl, inr, sym, ap, ◌∙◌, refl, subst, arith}
use Rattle.std.proofs.lemmas.Bool.{cases_Bool, cases_lt, eqb-true, eqb-false}
use Rattle.std.proofs.lemmas.List.{append_assoc, length-append, length-drop, length-take-le, take-append-drop, drop-drop, drop_at, drop_all, get_or-append-add}
use Rattle.std.proofs.lemmas.List.Elements.{All-nil, All-cons, All-get_or}
use Rattle.std.proofs.Math.ListN.{get_or-append}
use Rattle.adsc_io.specs.Inputs.{HasLine, line_end}
use Rattle.adsc_io.specs.Lines.{newline, script_lines, ended_lines, BeginsWithLine, IsUnbroken}
use Rattle.adsc_io.proofs.LinesLaws.{script_lines-begins, length-begins}

-- Bytes begin with a line, unless there are none.
pub begins_or_none : (bytes : List ℕ) → (bytes ≡ []) ⊎ ((line : List ℕ) × (rest : List ℕ) × BeginsWithLine bytes line rest)
begins_or_none [] = inl refl
begins_or_none (byte ∷ bytes) = inr (elim (cases_Bool (eqb byte newline)) [
  | inl ends ↦ at_newline (eqb-true byte newline ends)
  | inr other ↦ onto (eqb-false byte newline other) (begins_or_none bytes)
])
  where
    at_newline : byte ≡ newline → (line : List ℕ) × (rest : List ℕ) × BeginsWithLine (byte ∷ bytes) line rest
    at_newline is = ([], bytes, record { unbroken = All-nil (λ b. b ≢ newline); cut = inl (ap (λ b. b ∷ bytes) is) })

    onto : (byte ≡ newline → ⊥) → (bytes ≡ []) ⊎ ((line : List ℕ) × (rest : List ℕ) × BeginsWithLine bytes line rest)
        → (line : List ℕ) × (rest : List ℕ) × BeginsWithLine (byte ∷ bytes) line rest
    onto other (inl none) = (
      byte ∷ [],
      [],
      record {
        unbroken = All-cons (λ b. b ≢ newline) byte [] other (All-nil (λ b. b ≢ newline));
        cut = inr (ap (λ bs. byte ∷ bs) none, refl, λ same. absurd (cc));
      },
    )
    onto other (inr (line, rest, begins)) = (
      byte ∷ line,
      rest,
      record {
        unbroken = All-cons (λ b. b ≢ newline) byte line other begins.unbroken;
        cut = elim begins.cut [
          | inl ended ↦ inl (ap (λ bs. byte ∷ bs) ended)
          | inr last ↦ inr (ap (λ bs. byte ∷ bs) last.0, last.1, λ same. absurd (cc))
        ];
      },
    )

-- No line ends at the beginning.
pub start : (bytes : List ℕ) → line_end bytes 0 ≡ 0
start bytes = omega arith

-- The end of a line, from behind the first one.
pub line_end-next : (bytes line rest : List ℕ) (number : ℕ) → BeginsWithLine bytes line rest → line_end bytes (suc number) + length rest ≡ length bytes + line_end rest number
line_end-next bytes line rest number begins =
    let first = ap (λ ls. length (ended_lines (take (suc number) ls))) (script_lines-begins bytes line rest begins) in
    let size = length-append line (newline ∷ ended_lines (take number (script_lines rest))) in
    elim begins.cut [
      | inl ended ↦ omega (arith, first, size, ap length ended, length-append line (newline ∷ rest))
      | inr last ↦ omega (arith, first, size, ap length last.0, ap length last.1)
    ]

-- What stands behind a line, from behind the first one.
pub drop-line_end-next : (bytes line rest : List ℕ) (number : ℕ) → BeginsWithLine bytes line rest → drop (line_end bytes (suc number)) bytes ≡ drop (line_end rest number) rest
drop-line_end-next bytes line rest number begins = elim begins.cut [
  | inl ended ↦ behind (ended ∙ sym (append_assoc line (newline ∷ []) rest))
  | inr last ↦ drop_all (line_end bytes (suc number)) bytes (omega (arith, line_end-next bytes line rest number begins, ap length last.1))
      ∙ sym (drop_all (line_end rest number) rest (omega (arith, ap length last.1)))
]
  where
    behind : bytes ≡ (line ++ newline ∷ []) ++ rest → drop (line_end bytes (suc number)) bytes ≡ drop (line_end rest number) rest
    behind joined =
        let place : line_end bytes (suc number) ≡ length (line ++ newline ∷ []) + line_end rest number =
        omega (arith, line_end-next bytes line rest number begins, ap length joined, length-append (line ++ newline ∷ []) rest) in
        ap (λ k. drop k bytes) place
        ∙ sym (drop-drop (line_end rest number) (length (line ++ newline ∷ [])) bytes)
        ∙ ap (drop (line_end rest number)) (ap (drop (length (line ++ newline ∷ []))) joined ∙ drop_at (line ++ newline ∷ []) rest (length (line ++ newline ∷ [])) refl)

-- Behind so many lines stand the others.
pub script_lines-behind : (number : ℕ) (bytes : List ℕ) → script_lines (drop (line_end bytes number) bytes) ≡ drop number (script_lines bytes)
script_lines-behind zero bytes = ap (λ k. script_lines (drop k bytes)) (start bytes)
script_lines-behind (suc number) bytes = elim (begins_or_none bytes) [
  | inl none ↦ ap (λ bs. script_lines (drop (line_end bs (suc number)) bs)) none ∙ sym (ap (λ bs. drop (suc number) (script_lines bs)) none)
  | inr (line, rest, begins) ↦ ap script_lines (drop-line_end-next bytes line rest number begins)
      ∙ script_lines-behind number rest
      ∙ sym (ap (drop (suc number)) (script_lines-begins bytes line rest begins))
]

-- The next line ends where what stands behind it begins.
pub next_line_end : (number : ℕ) (bytes line more : List ℕ) → BeginsWithLine (drop (line_end bytes number) bytes) line more
    → (line_end bytes (number + 1) + length more ≡ length bytes) × (drop (line_end bytes (number + 1)) bytes ≡ more)
next_line_end zero bytes line more begins =
    let first : BeginsWithLine bytes line more = subst (λ k. BeginsWithLine (drop k bytes) line more) (start bytes) begins in (
      omega (arith, line_end-next bytes line more 0 first, start more),
      drop-line_end-next bytes line more 0 first ∙ ap (λ k. drop k more) (start more),
    )
next_line_end (suc number) bytes line more begins = elim (begins_or_none bytes) [
  | inl none ↦ absurd (omega (arith, length-begins _ _ _ begins, length-drop (line_end bytes (suc number)) bytes, ap length none))
  | inr (first, rest, next) ↦
      let deeper = next_line_end number rest line more (subst (λ bs. BeginsWithLine bs line more) (drop-line_end-next bytes first rest number next) begins) in (
        subst (λ k. line_end bytes k + length more ≡ length bytes) (place number) (omega (arith, deeper.0, line_end-next bytes first rest (number + 1) next)),
        subst (λ k. drop (line_end bytes k) bytes ≡ more) (place number) (drop-line_end-next bytes first rest (number + 1) next ∙ deeper.1),
      )
]
  where
    place : (k : ℕ) → suc (k + 1) ≡ suc k + 1
    place k = omega arith

-- The next line of an input is what the bytes behind the lines before it begin with.
pub has_next_line : (number : ℕ) (bytes line more : List ℕ) → BeginsWithLine (drop (line_end bytes number) bytes) line more → HasLine bytes (number + 1) line
has_next_line number bytes line more begins =
    let next : drop number (script_lines bytes) ≡ line ∷ script_lines more = sym (script_lines-behind number bytes) ∙ script_lines-begins _ line more begins in
    record {
      before = take number (script_lines bytes);
      behind = script_lines more;
      joined = sym (take-append-drop number (script_lines bytes)) ∙ ap (λ ls. take number (script_lines bytes) ++ ls) next;
      counted = omega (arith, ap length next, length-drop number (script_lines bytes), length-take-le number (script_lines bytes));
    }

-- Where an input has a line of a number, it has so many lines.
pub line_is_there : (bytes line : List ℕ) (number : ℕ) → HasLine bytes number line → number ≤ length (script_lines bytes)
line_is_there bytes line number has = at (script_lines bytes) has.before has.behind has.joined has.counted
  where
    at : (lines before behind : List (List ℕ)) → lines ≡ before ++ line ∷ behind → number ≡ length before + 1 → number ≤ length lines
    at lines before behind joined counted = omega (arith, counted, ap length joined, length-append before (line ∷ behind))

-- A later line ends later.
pub line_end-later : (bytes : List ℕ) (low high : ℕ) → low ≤ high → line_end bytes low ≤ line_end bytes high
line_end-later bytes low high before = omega (arith, sizes (script_lines bytes) low high before)
  where
    sizes : (lines : List (List ℕ)) (low high : ℕ) → low ≤ high → length (ended_lines (take low lines)) ≤ length (ended_lines (take high lines))
    sizes lines zero high before = omega arith
    sizes [] (suc low) high before = omega arith
    sizes (line ∷ lines) (suc low) zero before = absurd (omega (arith, before))
    sizes (line ∷ lines) (suc low) (suc high) before = omega (
      arith,
      sizes lines low high (omega (arith, before)),
      length-append line (newline ∷ ended_lines (take low lines)),
      length-append line (newline ∷ ended_lines (take high lines)),
    )

-- Bytes without a newline stand in the line that they begin.
pub unbroken_within : (front rest line more : List ℕ) → IsUnbroken front → BeginsWithLine (front ++ rest) line more → (length more < length rest) ⊎ (more ≡ [])
unbroken_within front rest line more unbroken begins = elim begins.cut [
  | inl ended ↦ elim (cases_lt (length line) (length front)) [
    | inl inside ↦ absurd (All-get_or (λ b. b ≢ newline) front (length line) 0 inside unbroken (sym (get_or-append front rest 0 (length line) inside) ∙ at_newline ended))
    | inr past ↦ inl (omega (arith, past, ap length ended, length-append front rest, length-append line (newline ∷ more)))
  ]
  | inr last ↦ inr last.1
]
  where
    at_newline : front ++ rest ≡ line ++ newline ∷ more → get_or (front ++ rest) (length line) 0 ≡ newline
    at_newline ended = ap (λ bs. get_or bs (length line) 0) ended ∙ ap (λ k. get_or (line ++ newline ∷ more) k 0) (omega arith) ∙ get_or-append-add line (newline ∷ more) 0 0

-- Only an input of no more lines than these is passed by them.
pub none_behind : (number : ℕ) (bytes : List ℕ) → drop (line_end bytes number) bytes ≡ [] → length (script_lines bytes) ≤ number
none_behind number bytes none = omega (arith, ap length (sym (script_lines-behind number bytes) ∙ ap script_lines none), length-drop number (script_lines bytes))
