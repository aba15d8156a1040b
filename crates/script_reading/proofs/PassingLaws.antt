-- The laws of passing the lines of a source one by one.
use Rattle.std.proofs.Common.{◌≡◌, ℕ, zero, suc, ◌+◌, ◌<◌, Bool, true, false, IsTrue, List, [], ◌∷◌, ◌++◌, length, take, drop, Option, Some, None, IfSome, Result, Ok, inl, inr, refl, sym, ap, ◌∙◌, subst, append_assoc, arith, add-one}
use Rattle.std.proofs.lemmas.List.Elements.{All-head, All-tail}
use Rattle.std.specs.List.{All}
use Rattle.std.specs.Io.KnownBytes.{Consumes, IsAtEnd}
use Rattle.adsc_io.specs.Inputs.{HasLine, IsLineAt, IsOverLimit, is_within_limits, lines_before_limit}
use Rattle.adsc_io.specs.Lines.{IsUnbroken, script_lines}
use Rattle.adsc_io.specs.Readers.{LinesRead, ReadsNext, StandsIn, lines_passed}
use Rattle.adsc_io.specs.declared.failures.ReadFault.{ReadFault as Failure}
use Rattle.adsc_io.specs.declared.line.Line.{Line}
use Rattle.adsc_io.specs.declared.line.Line.TheVariants as answers
use Rattle.adsc_io.proofs.Joined.{Consumes-none, Consumes-then}
use Rattle.adsc_io.proofs.LinesLaws.{script_lines-unbroken}
use Rattle.adsc_io.proofs.LimitLaws.{before_limit-at, before_limit-front, within_before}
use Rattle.script_reading.specs.Passing.{HasPassed, IsNextLine, IsNoLine, lines_behind}

-- ---- what a source told

told_front : (left rest : Option (List ℕ)) (bytes : List ℕ) (P : List ℕ → Type 0) → Consumes left rest bytes → ((more : List ℕ) → rest ≡ Some more → P (bytes ++ more)) → IfSome left P
told_front None rest bytes P read holds = tt
told_front (Some all) None bytes P read holds = absurd read
told_front (Some all) (Some more) bytes P read holds = subst P (sym read) (holds more refl)

-- where the end was seen, nothing more comes
nothing_more : (ended : Type 0) (left : Option (List ℕ)) (more : List ℕ) → (ended → IsAtEnd left) → left ≡ Some more → ended → more ≡ []
nothing_more ended None more at_end is end = absurd (cc)
nothing_more ended (Some rest) more at_end is end = some_same rest more is ∙ at_end end
  where
    some_same : (rest more : List ℕ) → Some rest ≡ Some more → more ≡ rest
    some_same rest more is = cc

-- what holds in each input that goes on holds of the bytes that the source told
pub told_of : (before now : Option (List ℕ)) (reader : LinesRead) (count : ℕ) (P : List ℕ → Type 0) → HasPassed before now reader count P → IfSome before P
told_of before now reader count P has =
    told_front before now has.read P has.consumed (λ more is. has.told more (nothing_more (IsTrue reader.ended) now more has.at_end is))

-- what follows holds too
pub passed_with : (before now : Option (List ℕ)) (reader : LinesRead) (count : ℕ) (P Q : List ℕ → Type 0) → ((bytes : List ℕ) → P bytes → Q bytes)
    → HasPassed before now reader count P → HasPassed before now reader count Q
passed_with before now reader count P Q follows has = record {
  read = has.read;
  consumed = has.consumed;
  at_end = has.at_end;
  counted = has.counted;
  stands = has.stands;
  told = λ rest last. follows (has.read ++ rest) (has.told rest last);
}

-- no line was passed yet
pub none_passed : (now : Option (List ℕ)) (reader : LinesRead) (P : List ℕ → Type 0) → ((bytes : List ℕ) → StandsIn bytes bytes reader) → reader.number ≡ 0
    → reader.ended ≡ false → ((bytes : List ℕ) → P bytes) → HasPassed now now reader 0 P
none_passed now reader P stands number not_ended holds = record {
  read = [];
  consumed = Consumes-none now;
  at_end = λ end. absurd (both (sym not_ended ∙ end));
  counted = number;
  stands = λ rest last. stands rest;
  told = λ rest last. holds rest;
}
  where
    both : false ≡ true → ⊥
    both e = cc

-- ---- one call of the reader

-- in each input that begins with what was read, the reader stood before the call
stood : (before now left : Option (List ℕ)) (reader next : LinesRead) (count : ℕ) (P : List ℕ → Type 0) (result : Result Line Failure) (has : HasPassed before now reader count P)
    (reads : ReadsNext reader next now left result) (rest : List ℕ) → (IsTrue next.ended → rest ≡ [])
    → (IsTrue reader.ended → reads.took ++ rest ≡ []) × StandsIn (has.read ++ reads.took ++ rest) (reads.took ++ rest) reader
stood before now left reader next count P result has reads rest last = (
  nothing,
  subst (λ bytes. StandsIn bytes (reads.took ++ rest) reader) (sym (append_assoc has.read reads.took rest)) (has.stands (reads.took ++ rest) nothing),
)
  where
    nothing : IsTrue reader.ended → reads.took ++ rest ≡ []
    nothing end = ap (λ t. t ++ rest) (reads.still end).1 ∙ last (reads.still end).0

-- what holds still holds
still : (before now left : Option (List ℕ)) (reader next : LinesRead) (count : ℕ) (P : List ℕ → Type 0) (result : Result Line Failure) (has : HasPassed before now reader count P)
    (reads : ReadsNext reader next now left result) (rest : List ℕ) → (IsTrue next.ended → rest ≡ []) → P (has.read ++ reads.took ++ rest)
still before now left reader next count P result has reads rest last =
    subst P (sym (append_assoc has.read reads.took rest)) (has.told (reads.took ++ rest) (stood before now left reader next count P result has reads rest last).0)

drop_next : (front : List (List ℕ)) (line : List ℕ) (back : List (List ℕ)) → (drop (length front) (front ++ line ∷ back) ≡ line ∷ back) × (drop (suc (length front)) (front ++ line ∷ back) ≡ back)
drop_next [] line back = (refl, refl)
drop_next (first ∷ front) line back = drop_next front line back

drop_seam : (front : List (List ℕ)) (line : List ℕ) (back : List (List ℕ)) → (drop (length front) (front ++ line ∷ back) ≡ line ∷ back) × (drop (length front + 1) (front ++ line ∷ back) ≡ back)
drop_seam front line back = ((drop_next front line back).0, ap (λ n. drop n (front ++ line ∷ back)) (add-one (length front)) ∙ (drop_next front line back).1)

take_next : (front : List (List ℕ)) (line : List ℕ) (back : List (List ℕ)) → take (suc (length front)) (front ++ line ∷ back) ≡ front ++ line ∷ []
take_next [] line back = refl
take_next (first ∷ front) line back = ap (λ ls. first ∷ ls) (take_next front line back)

take_seam : (front : List (List ℕ)) (line : List ℕ) (back : List (List ℕ)) → take (length front + 1) (front ++ line ∷ back) ≡ front ++ line ∷ []
take_seam front line back = ap (λ n. take n (front ++ line ∷ back)) (add-one (length front)) ∙ take_next front line back

-- a line within the limits is the next behind those before it
among_lines : (bytes : List ℕ) (count : ℕ) (line : List ℕ) → HasLine bytes (count + 1) line → IsTrue (is_within_limits bytes (count + 1))
    → lines_behind count bytes ≡ line ∷ lines_behind (count + 1) bytes
among_lines bytes count line has within =
    ap (λ n. drop n (lines_before_limit bytes)) numbered ∙ ap (drop (length has.before)) whole ∙ (drop_seam has.before line front.0).0
    ∙ ap (λ ls. line ∷ ls) (sym (ap (λ n. drop (n + 1) (lines_before_limit bytes)) numbered ∙ ap (drop (length has.before + 1)) whole ∙ (drop_seam has.before line front.0).1))
  where
    numbered : count ≡ length has.before
    numbered = omega (arith, has.counted)

    front : (behind : List (List ℕ)) × (lines_before_limit bytes ≡ take (count + 1) (script_lines bytes) ++ behind)
    front = before_limit-front bytes (count + 1) within

    whole : lines_before_limit bytes ≡ has.before ++ line ∷ front.0
    whole = front.1 ∙ ap (λ ls. ls ++ front.0) (ap (λ n. take (n + 1) (script_lines bytes)) numbered ∙ ap (take (length has.before + 1)) has.joined ∙ take_seam has.before line has.behind)
        ∙ append_assoc has.before (line ∷ []) front.0

-- the line that was answered is the next
next_line : (answer : Line) (text : List ℕ) (count : ℕ) (bytes : List ℕ) → lines_passed answer ≡ 1 → IsLineAt bytes (count + 1) answer text
    → (line : List ℕ) × IsNextLine answer text count bytes line
next_line answers.Text text count bytes one at = (text, (among_lines bytes count text at.0 at.1, refl))
next_line answers.TooLong text count bytes one at = (at.0, (among_lines bytes count at.0 at.1 at.2, at.3))
next_line answers.End text count bytes one at = absurd (omega (arith, one))
next_line (answers.Limit line) text count bytes one at = absurd (omega (arith, one))

-- what the reader answered, in each input that begins with what was read
answered : (before now left : Option (List ℕ)) (reader next : LinesRead) (count : ℕ) (P : List ℕ → Type 0) (answer : Line) (has : HasPassed before now reader count P)
    (call : ReadsNext reader next now left (Ok answer)) (rest : List ℕ) → (IsTrue next.ended → rest ≡ [])
    → IsLineAt (has.read ++ call.took ++ rest) (count + 1) answer next.text × (is_within_limits (has.read ++ call.took ++ rest) count ≡ true)
answered before now left reader next count P answer has call rest last =
    let before_call = stood before now left reader next count P (Ok answer) has call rest last in (
      subst (λ n. IsLineAt (has.read ++ call.took ++ rest) (n + 1) answer next.text) has.counted (call.line (has.read ++ call.took ++ rest) rest last before_call.1),
      subst (λ n. is_within_limits (has.read ++ call.took ++ rest) n ≡ true) has.counted before_call.1.within,
    )

-- A line was passed.
pub line_passed : (before now left : Option (List ℕ)) (reader next : LinesRead) (count : ℕ) (P : List ℕ → Type 0) (answer : Line)
    → HasPassed before now reader count P → ReadsNext reader next now left (Ok answer) → lines_passed answer ≡ 1
    → HasPassed before left next (count + 1) (λ bytes. P bytes × (line : List ℕ) × IsNextLine answer next.text count bytes line)
line_passed before now left reader next count P answer has call one = record {
  read = has.read ++ call.took;
  consumed = Consumes-then before now left has.read call.took has.consumed call.consumed;
  at_end = call.at_end has.at_end;
  counted = omega (arith, call.passed, one, has.counted);
  stands = λ rest last. call.stands (has.read ++ call.took ++ rest) rest last (stood before now left reader next count P (Ok answer) has call rest last).1;
  told = λ rest last.
      let found = next_line answer next.text count (has.read ++ call.took ++ rest) one (answered before now left reader next count P answer has call rest last).0 in
      (still before now left reader next count P (Ok answer) has call rest last, found.0, found.1);
}

-- ---- no more lines

drop_taken : (n : ℕ) (lines : List (List ℕ)) → drop n (take n lines) ≡ []
drop_taken zero [] = refl
drop_taken zero (line ∷ lines) = refl
drop_taken (suc n) [] = refl
drop_taken (suc n) (line ∷ lines) = drop_taken n lines

-- an input ends where no line is left
no_more : (count : ℕ) (bytes : List ℕ) → length (script_lines bytes) < count + 1 → is_within_limits bytes count ≡ true → IsOverLimit bytes → ⊥
no_more count bytes few within (number, (same, there, over)) =
    let inside : is_within_limits bytes number ≡ true = within_before bytes number count (omega (arith, there, few)) within in
    let both : true ≡ false = sym inside ∙ over in cc

no_line : (answer : Line) (text : List ℕ) (count : ℕ) (bytes : List ℕ) → lines_passed answer ≡ 0 → IsLineAt bytes (count + 1) answer text × (is_within_limits bytes count ≡ true)
    → IsNoLine answer count bytes
no_line answers.Text text count bytes none at = absurd (omega (arith, none))
no_line answers.TooLong text count bytes none at = absurd (omega (arith, none))
no_line answers.End text count bytes none at = (
  ap (drop count) (before_limit-at bytes count at.1 (inl (omega (arith, at.0)))) ∙ drop_taken count (script_lines bytes),
  no_more count bytes at.0 at.1,
)
no_line (answers.Limit line) text count bytes none at = (
  ap (drop count) (before_limit-at bytes count at.1 (inr at.0.2)) ∙ drop_taken count (script_lines bytes),
  (count + 1, (refl, at.0.1, at.0.2)),
)

-- No line is left before the limit.
pub none_left : (before now left : Option (List ℕ)) (reader next : LinesRead) (count : ℕ) (P : List ℕ → Type 0) (answer : Line)
    → HasPassed before now reader count P → ReadsNext reader next now left (Ok answer) → lines_passed answer ≡ 0
    → HasPassed before left next count (λ bytes. P bytes × IsNoLine answer count bytes)
none_left before now left reader next count P answer has call none = record {
  read = has.read ++ call.took;
  consumed = Consumes-then before now left has.read call.took has.consumed call.consumed;
  at_end = call.at_end has.at_end;
  counted = omega (arith, call.passed, none, has.counted);
  stands = λ rest last. call.stands (has.read ++ call.took ++ rest) rest last (stood before now left reader next count P (Ok answer) has call rest last).1;
  told = λ rest last. (
    still before now left reader next count P (Ok answer) has call rest last,
    no_line answer next.text count (has.read ++ call.took ++ rest) none (answered before now left reader next count P answer has call rest last),
  );
}

-- ---- a line has no newline

unbroken_at : (front : List (List ℕ)) (line : List ℕ) (back : List (List ℕ)) → All IsUnbroken (front ++ line ∷ back) → IsUnbroken line
unbroken_at [] line back all = All-head IsUnbroken line back all
unbroken_at (first ∷ front) line back all = unbroken_at front line back (All-tail IsUnbroken first (front ++ line ∷ back) all)

-- the text that the reader answered
pub text_unbroken : (before now left : Option (List ℕ)) (reader next : LinesRead) (count : ℕ) (P : List ℕ → Type 0)
    → HasPassed before now reader count P → ReadsNext reader next now left (Ok answers.Text) → IsUnbroken next.text
text_unbroken before now left reader next count P has call =
    let line = (answered before now left reader next count P answers.Text has call [] (λ end. refl)).0.0 in
    unbroken_at line.before next.text line.behind (subst (λ all. All IsUnbroken all) line.joined (script_lines-unbroken (has.read ++ call.took ++ [])))
