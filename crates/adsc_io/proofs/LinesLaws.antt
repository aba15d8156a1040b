-- The laws of the lines of an input.
use Rattle.std.proofs.Common.{◌≡◌, ◌≢◌, ℕ, ◌+◌, ◌<◌, ◌≤◌, Bool, true, false, cond, eqb, List, [], ◌∷◌, ◌++◌, All, length, take, drop, get_or, ◌⊎◌, inl, inr, sym, ◌∙◌, ap, refl, subst, arith, ne_eqb}
use Rattle.std.proofs.lemmas.Bool.{cases_Bool, cases_lt, eqb-true}
use Rattle.std.specs.List.{onto_first}
use Rattle.std.proofs.lemmas.List.{append-nil, length-append, take-append-drop, drop_more, take_all, drop_all, get_or-take, length-take-le, nil_from_length}
use Rattle.std.proofs.lemmas.List.Elements.{All-nil, All-cons, All-head, All-tail, All-from_get_or}
use Rattle.adsc_io.specs.Lines.{newline, script_lines, ended_lines, IsUnbroken, BeginsWithLine}

-- a newline ends an empty line
pub script_lines-newline : (bytes : List ℕ) → script_lines (newline ∷ bytes) ≡ [] ∷ script_lines bytes
script_lines-newline bytes = refl

-- another byte stands at the front of the first line
pub script_lines-byte : (byte : ℕ) (bytes : List ℕ) → byte ≢ newline → script_lines (byte ∷ bytes) ≡ onto_first byte (script_lines bytes)
script_lines-byte byte bytes other = ap (λ b. cond b ([] ∷ script_lines bytes) (onto_first byte (script_lines bytes))) (ne_eqb byte newline other)

-- a line that a newline ends, and then the lines of the rest
pub script_lines-next : (line rest : List ℕ) → IsUnbroken line → script_lines (line ++ newline ∷ rest) ≡ line ∷ script_lines rest
script_lines-next [] rest unbroken = refl
script_lines-next (byte ∷ line) rest unbroken =
    script_lines-byte byte (line ++ newline ∷ rest) (All-head (λ b. b ≢ newline) byte line unbroken)
    ∙ ap (onto_first byte) (script_lines-next line rest (All-tail (λ b. b ≢ newline) byte line unbroken))

-- a last line without a newline
pub script_lines-last : (byte : ℕ) (line : List ℕ) → IsUnbroken (byte ∷ line) → script_lines (byte ∷ line) ≡ (byte ∷ line) ∷ []
script_lines-last byte [] unbroken = script_lines-byte byte [] (All-head (λ b. b ≢ newline) byte [] unbroken)
script_lines-last byte (next ∷ line) unbroken =
    script_lines-byte byte (next ∷ line) (All-head (λ b. b ≢ newline) byte (next ∷ line) unbroken)
    ∙ ap (onto_first byte) (script_lines-last next line (All-tail (λ b. b ≢ newline) byte (next ∷ line) unbroken))

last_line : (line : List ℕ) → IsUnbroken line → line ≢ [] → script_lines line ≡ line ∷ []
last_line [] unbroken some = absurd (some refl)
last_line (byte ∷ line) unbroken some = script_lines-last byte line unbroken

-- the first line, and then the lines of what stands behind it
pub script_lines-begins : (bytes line rest : List ℕ) → BeginsWithLine bytes line rest → script_lines bytes ≡ line ∷ script_lines rest
script_lines-begins bytes line rest begins = elim begins.cut [
  | inl ended ↦ ap script_lines ended ∙ script_lines-next line rest begins.unbroken
  | inr last ↦ ap script_lines last.0 ∙ last_line line begins.unbroken last.2 ∙ ap (λ r. line ∷ script_lines r) (sym last.1)
]

-- each line takes a byte of the input
pub length-begins : (bytes line rest : List ℕ) → BeginsWithLine bytes line rest → length rest < length bytes
length-begins bytes line rest begins = elim begins.cut [
  | inl ended ↦ omega (arith, ap length ended, length-append line (newline ∷ rest))
  | inr last ↦ some_left line last.2 bytes rest last.0 last.1
]
  where
    some_left : (line : List ℕ) → line ≢ [] → (bytes rest : List ℕ) → bytes ≡ line → rest ≡ [] → length rest < length bytes
    some_left [] some bytes rest same none = absurd (some refl)
    some_left (byte ∷ line) some bytes rest same none = omega (arith, ap length same, ap length none)

-- only an empty input has no line
pub script_lines-none : (bytes : List ℕ) → script_lines bytes ≡ [] → bytes ≡ []
script_lines-none [] none = refl
script_lines-none (byte ∷ bytes) none = absurd (some (eqb byte newline) (script_lines bytes) none)
  where
    some : (ends : Bool) (lines : List (List ℕ)) → cond ends ([] ∷ lines) (onto_first byte lines) ≡ [] → ⊥
    some true lines e = cc
    some false [] e = cc
    some false (line ∷ lines) e = cc

-- there are no more lines than bytes
pub length-script_lines : (bytes : List ℕ) → length (script_lines bytes) ≤ length bytes
length-script_lines [] = omega arith
length-script_lines (byte ∷ bytes) = at_most (eqb byte newline) (script_lines bytes) (length-script_lines bytes)
  where
    at_most : (ends : Bool) (lines : List (List ℕ)) → length lines ≤ length bytes → length (cond ends ([] ∷ lines) (onto_first byte lines)) ≤ length (byte ∷ bytes)
    at_most true lines le = omega arith
    at_most false [] le = omega arith
    at_most false (line ∷ lines) le = omega arith

-- no line has a newline in it
pub script_lines-unbroken : (bytes : List ℕ) → All IsUnbroken (script_lines bytes)
script_lines-unbroken [] = All-nil IsUnbroken
script_lines-unbroken (byte ∷ bytes) = elim (cases_Bool (eqb byte newline)) [
  | inl ends ↦ subst (λ b. All IsUnbroken (cond b ([] ∷ script_lines bytes) (onto_first byte (script_lines bytes)))) (sym ends)
      (All-cons IsUnbroken [] (script_lines bytes) (All-nil (λ b. b ≢ newline)) (script_lines-unbroken bytes))
  | inr goes_on ↦ subst (λ b. All IsUnbroken (cond b ([] ∷ script_lines bytes) (onto_first byte (script_lines bytes)))) (sym goes_on)
      (onto (script_lines bytes) (λ same. cc) (script_lines-unbroken bytes))
]
  where
    onto : (lines : List (List ℕ)) → byte ≢ newline → All IsUnbroken lines → All IsUnbroken (onto_first byte lines)
    onto [] other all = All-cons IsUnbroken (byte ∷ []) [] (All-cons (λ b. b ≢ newline) byte [] other (All-nil (λ b. b ≢ newline))) (All-nil IsUnbroken)
    onto (line ∷ lines) other all = All-cons IsUnbroken (byte ∷ line) lines
        (All-cons (λ b. b ≢ newline) byte line other (All-head IsUnbroken line lines all)) (All-tail IsUnbroken line lines all)

-- the lines of ended lines are those lines
pub script_lines-ended : (lines : List (List ℕ)) → All IsUnbroken lines → script_lines (ended_lines lines) ≡ lines
script_lines-ended [] unbroken = refl
script_lines-ended (line ∷ lines) unbroken =
    script_lines-next line (ended_lines lines) (All-head IsUnbroken line lines unbroken)
    ∙ ap (λ rest. line ∷ rest) (script_lines-ended lines (All-tail IsUnbroken line lines unbroken))

after_newline : (lines : List (List ℕ)) (bytes : List ℕ) (byte : ℕ) → byte ≡ newline
    → (bytes ≡ ended_lines lines) ⊎ (bytes ++ newline ∷ [] ≡ ended_lines lines)
    → (byte ∷ bytes ≡ ended_lines ([] ∷ lines)) ⊎ (byte ∷ bytes ++ newline ∷ [] ≡ ended_lines ([] ∷ lines))
after_newline lines bytes byte is (inl whole) = inl (ap (λ b. b ∷ bytes) is ∙ ap (λ l. newline ∷ l) whole)
after_newline lines bytes byte is (inr open') = inr (ap (λ b. b ∷ (bytes ++ newline ∷ [])) is ∙ ap (λ l. newline ∷ l) open')

after_byte : (lines : List (List ℕ)) (bytes : List ℕ) (byte : ℕ) → (lines ≡ [] → bytes ≡ [])
    → (bytes ≡ ended_lines lines) ⊎ (bytes ++ newline ∷ [] ≡ ended_lines lines)
    → (byte ∷ bytes ≡ ended_lines (onto_first byte lines)) ⊎ (byte ∷ bytes ++ newline ∷ [] ≡ ended_lines (onto_first byte lines))
after_byte [] bytes byte none rest = inr (ap (λ l. byte ∷ (l ++ newline ∷ [])) (none refl))
after_byte (line ∷ lines) bytes byte none (inl whole) = inl (ap (λ l. byte ∷ l) whole)
after_byte (line ∷ lines) bytes byte none (inr open') = inr (ap (λ l. byte ∷ l) open')

-- the input is its lines, each ended by a newline, but that the last newline may be missing
pub ended-script_lines : (bytes : List ℕ) → (bytes ≡ ended_lines (script_lines bytes)) ⊎ (bytes ++ newline ∷ [] ≡ ended_lines (script_lines bytes))
ended-script_lines [] = inl refl
ended-script_lines (byte ∷ bytes) = elim (cases_Bool (eqb byte newline)) [
  | inl ends ↦ subst Whole (sym ends) (after_newline (script_lines bytes) bytes byte (eqb-true byte newline ends) (ended-script_lines bytes))
  | inr goes_on ↦ subst Whole (sym goes_on) (after_byte (script_lines bytes) bytes byte (script_lines-none bytes) (ended-script_lines bytes))
]
  where
    Whole : Bool → Type 0
    Whole b = (byte ∷ bytes ≡ ended_lines (cond b ([] ∷ script_lines bytes) (onto_first byte (script_lines bytes))))
        ⊎ (byte ∷ bytes ++ newline ∷ [] ≡ ended_lines (cond b ([] ∷ script_lines bytes) (onto_first byte (script_lines bytes))))

-- no newline stands before the end of the line
unbroken_front : (bytes : List ℕ) (end : ℕ) → end ≤ length bytes → ((k : ℕ) → k < end → get_or bytes k 0 ≢ newline) → IsUnbroken (take end bytes)
unbroken_front bytes end within before =
    All-from_get_or (λ byte. byte ≢ newline) (take end bytes) 0 (λ k lt.
    let low : k < end = omega (arith, length-take-le end bytes within) in
    subst (λ b. b ≢ newline) (sym (get_or-take end bytes k 0 low)) (before k low))

-- the bytes up to the first newline are the first line, and those behind it the rest
pub begins_at : (bytes : List ℕ) (end : ℕ) → bytes ≢ [] → end ≤ length bytes → ((k : ℕ) → k < end → get_or bytes k 0 ≢ newline) → (end < length bytes → get_or bytes end 0 ≡ newline) → BeginsWithLine bytes (take end bytes) (drop 1 (drop end bytes))
begins_at bytes end some within before ended = record {
  unbroken = unbroken_front bytes end within before;
  cut = elim (cases_lt end (length bytes)) [
    | inl inside ↦ inl (split_here (ended inside) (drop_more bytes end 0 inside))
    | inr past ↦ inr (sym (take_all end bytes past), ap (drop 1) (drop_all end bytes past), λ none. some (sym (take_all end bytes past) ∙ none))
  ];
}
  where
    split_here : get_or bytes end 0 ≡ newline → drop end bytes ≡ get_or bytes end 0 ∷ drop (end + 1) bytes → bytes ≡ take end bytes ++ newline ∷ drop 1 (drop end bytes)
    split_here here more = sym (take-append-drop end bytes) ∙ ap (λ back. take end bytes ++ back)
        (more ∙ ap (λ b. b ∷ drop (end + 1) bytes) here ∙ ap (λ back. newline ∷ back) (sym (ap (drop 1) more)))

pub ruleset lines_found = (begins_at, script_lines-begins, length-begins, nil_from_length)
