-- The laws of reading a script line by line.
use Rattle.std.proofs.Common.{◌≡◌, ℕ, zero, suc, ◌+◌, ◌<◌, Bool, true, false, IsTrue, List, [], ◌∷◌, ◌++◌, length, take, drop, Option, Some, None, IfSome, Result, Ok, inl, inr, refl, sym, ap, ◌∙◌, subst, append_assoc, append-nil, arith, add-one}
use Rattle.std.proofs.lemmas.List.{length-append}
use Rattle.std.proofs.lemmas.List.Elements.{All-head, All-tail}
use Rattle.std.specs.List.{All}
use Rattle.std.specs.Io.KnownBytes.{Consumes, IsAtEnd}
use Rattle.adsc_io.specs.Inputs.{HasLine, IsLineAt, IsOverLimit, is_within_limits, lines_before_limit}
use Rattle.adsc_io.specs.Lines.{IsUnbroken, script_lines}
use Rattle.adsc_io.specs.Readers.{LinesRead, ReadsNext, StandsIn, lines_passed}
use Rattle.adsc_io.specs.declared.failures.ReadFault.{ReadFault as Failure}
use Rattle.adsc_io.specs.declared.limits.TheConstants.{MAX_LINE_BYTES}
use Rattle.adsc_io.specs.declared.line.Line.{Line}
use Rattle.adsc_io.specs.declared.line.Line.TheVariants as answers
use Rattle.adsc_io.proofs.Joined.{Consumes-none, Consumes-then}
use Rattle.adsc_io.proofs.LinesLaws.{script_lines-unbroken}
use Rattle.adsc_io.proofs.LimitLaws.{before_limit-at, before_limit-front, within_before}
use Rattle.net_script.specs.declared.refusal.Code.TheVariants as code
use Rattle.run_rules.specs.Readings.{ReadsLine}
use Rattle.run_rules.specs.Runs.{IsScript, ReadsLines}
use Rattle.run_rules.specs.declared.reading.Reading.{Reading}
use Rattle.run_rules.specs.declared.reading.Reading.TheVariants.{Bad}
use Rattle.run_rules.proofs.EachReading.{each_reading}
use Rattle.run_rules.proofs.Scripts.{each_script}
use Rattle.adsc_run.specs.Feeds.{HasRead, IsWhole}

-- ---- what a source told

told-front : (left rest : Option (List ℕ)) (bytes : List ℕ) (P : List ℕ → Type 0) → Consumes left rest bytes → ((more : List ℕ) → rest ≡ Some more → P (bytes ++ more)) → IfSome left P
told-front None rest bytes P read holds = tt
told-front (Some all) None bytes P read holds = absurd read
told-front (Some all) (Some more) bytes P read holds = subst P (sym read) (holds more refl)

-- where the end was seen, nothing more comes
nothing_more : (ended : Type 0) (left : Option (List ℕ)) (more : List ℕ) → (ended → IsAtEnd left) → left ≡ Some more → ended → more ≡ []
nothing_more ended None more at_end is end = absurd (cc)
nothing_more ended (Some rest) more at_end is end = some_same rest more is ∙ at_end end
  where
    some_same : (rest more : List ℕ) → Some rest ≡ Some more → more ≡ rest
    some_same rest more is = cc

-- what holds in each input that goes on with the rest holds of the bytes that the source told
pub told : (before now : Option (List ℕ)) (reader : LinesRead) (readings : List Reading) (P : List ℕ → Type 0) (has : HasRead before now reader readings)
    → ((rest : List ℕ) → (IsTrue reader.ended → rest ≡ []) → P (has.read ++ rest)) → IfSome before P
told before now reader readings P has holds =
    told-front before now has.read P has.consumed (λ more is. holds more (nothing_more (IsTrue reader.ended) now more has.at_end is))

-- ---- no line yet

pub nothing_read : (now : Option (List ℕ)) (reader : LinesRead) → ((bytes : List ℕ) → StandsIn bytes bytes reader) → reader.number ≡ 0 → reader.ended ≡ false
    → HasRead now now reader []
nothing_read now reader stands number not_ended = record {
  read = [];
  consumed = Consumes-none now;
  at_end = λ end. absurd (both (sym not_ended ∙ end));
  counted = number;
  stands = λ rest last. stands rest;
  lines = λ rest last behind reads. reads;
}
  where
    both : false ≡ true → ⊥
    both e = cc

-- ---- one call of the reader

-- in each input that begins with what was read, the reader stood before the call
stood : (before now left : Option (List ℕ)) (reader next : LinesRead) (readings : List Reading) (result : Result Line Failure) (has : HasRead before now reader readings)
    (reads : ReadsNext reader next now left result) (rest : List ℕ) → (IsTrue next.ended → rest ≡ [])
    → (IsTrue reader.ended → reads.took ++ rest ≡ []) × StandsIn (has.read ++ reads.took ++ rest) (reads.took ++ rest) reader
stood before now left reader next readings result has reads rest last = (
  nothing,
  subst (λ bytes. StandsIn bytes (reads.took ++ rest) reader) (sym (append_assoc has.read reads.took rest)) (has.stands (reads.took ++ rest) nothing),
)
  where
    nothing : IsTrue reader.ended → reads.took ++ rest ≡ []
    nothing end = ap (λ t. t ++ rest) (reads.still end).1 ∙ last (reads.still end).0

-- the lines are read so in the longer input
still_lines : (before now left : Option (List ℕ)) (reader next : LinesRead) (readings : List Reading) (result : Result Line Failure) (has : HasRead before now reader readings)
    (reads : ReadsNext reader next now left result) (rest : List ℕ) → (IsTrue next.ended → rest ≡ []) → (behind : List Reading)
    → ReadsLines (length readings + 1) (drop (length readings) (lines_before_limit (has.read ++ reads.took ++ rest))) behind
    → ReadsLines 1 (lines_before_limit (has.read ++ reads.took ++ rest)) (readings ++ behind)
still_lines before now left reader next readings result has reads rest last behind =
    subst (λ bytes. ReadsLines (length readings + 1) (drop (length readings) (lines_before_limit bytes)) behind → ReadsLines 1 (lines_before_limit bytes) (readings ++ behind))
    (sym (append_assoc has.read reads.took rest))
    (has.lines (reads.took ++ rest) (stood before now left reader next readings result has reads rest last).0 behind)

-- a line within the limits among those before the limit
pub record IsAmongLines (bytes : List ℕ) (number : ℕ) (line : List ℕ) : Type 0 where
  pub here : drop number (lines_before_limit bytes) ≡ line ∷ drop (number + 1) (lines_before_limit bytes)

drop_next : (front : List (List ℕ)) (line : List ℕ) (back : List (List ℕ)) → (drop (length front) (front ++ line ∷ back) ≡ line ∷ back) × (drop (suc (length front)) (front ++ line ∷ back) ≡ back)
drop_next [] line back = (refl, refl)
drop_next (first ∷ front) line back = drop_next front line back

drop_seam : (front : List (List ℕ)) (line : List ℕ) (back : List (List ℕ)) → (drop (length front) (front ++ line ∷ back) ≡ line ∷ back) × (drop (length front + 1) (front ++ line ∷ back) ≡ back)
drop_seam front line back = ((drop_next front line back).0, ap (λ n. drop n (front ++ line ∷ back)) (add-one (length front)) ∙ (drop_next front line back).1)

take_next : (front : List (List ℕ)) (line : List ℕ) (back : List (List ℕ)) → take (suc (length front)) (front ++ line ∷ back) ≡ front ++ line ∷ []
take_next [] line back = refl
take_next (first ∷ front) line back = ap (λ ls. first ∷ ls) (take_next front line back)

take_seam : (front : List (List ℕ)) (line : List ℕ) (back : List (List ℕ)) → take (length front + 1) (front ++ line ∷ back) ≡ front ++ line ∷ []
take_seam front line back = ap (λ n. take n (front ++ line ∷ back)) (add-one (length front)) ∙ take_next front line back

pub among_lines : (bytes : List ℕ) (number : ℕ) (line : List ℕ) → HasLine bytes (number + 1) line → IsTrue (is_within_limits bytes (number + 1)) → IsAmongLines bytes number line
among_lines bytes number line has within =
    record {
      here = ap (λ n. drop n (lines_before_limit bytes)) numbered ∙ ap (drop (length has.before)) whole ∙ (drop_seam has.before line front.0).0
          ∙ ap (λ ls. line ∷ ls) (sym (ap (λ n. drop (n + 1) (lines_before_limit bytes)) numbered ∙ ap (drop (length has.before + 1)) whole ∙ (drop_seam has.before line front.0).1));
    }
  where
    numbered : number ≡ length has.before
    numbered = omega (arith, has.counted)

    front : (behind : List (List ℕ)) × (lines_before_limit bytes ≡ take (number + 1) (script_lines bytes) ++ behind)
    front = before_limit-front bytes (number + 1) within

    whole : lines_before_limit bytes ≡ has.before ++ line ∷ front.0
    whole = front.1 ∙ ap (λ ls. ls ++ front.0) (ap (λ n. take (n + 1) (script_lines bytes)) numbered ∙ ap (take (length has.before + 1)) has.joined ∙ take_seam has.before line has.behind)
        ∙ append_assoc has.before (line ∷ []) front.0

-- a line was read
line_was_read : (before now left : Option (List ℕ)) (reader next : LinesRead) (readings : List Reading) (answer : Line) (reading : Reading)
    → HasRead before now reader readings → ReadsNext reader next now left (Ok answer) → lines_passed answer ≡ 1
    → ((bytes : List ℕ) → IsLineAt bytes (length readings + 1) answer next.text
    → (line : List ℕ) × HasLine bytes (length readings + 1) line × IsTrue (is_within_limits bytes (length readings + 1)) × ReadsLine (length readings + 1) line reading)
    → HasRead before left next (readings ++ reading ∷ [])
line_was_read before now left reader next readings answer reading has call one line_of = record {
  read = has.read ++ call.took;
  consumed = Consumes-then before now left has.read call.took has.consumed call.consumed;
  at_end = call.at_end has.at_end;
  counted = number ∙ sym longer;
  stands = λ rest last. call.stands (has.read ++ call.took ++ rest) rest last (stood before now left reader next readings (Ok answer) has call rest last).1;
  lines = λ rest last behind reads.
      let bytes = has.read ++ call.took ++ rest in
      let at : IsLineAt bytes (length readings + 1) answer next.text =
      subst (λ n. IsLineAt bytes (n + 1) answer next.text) has.counted
      (call.line bytes rest last (stood before now left reader next readings (Ok answer) has call rest last).1) in
      let found = line_of bytes at in
      let here = (among_lines bytes (length readings) found.0 found.1 found.2).here in
      subst (λ all. ReadsLines 1 (lines_before_limit bytes) all) (sym (append_assoc readings (reading ∷ []) behind))
      (still_lines before now left reader next readings (Ok answer) has call rest last (reading ∷ behind)
      (subst (λ ls. ReadsLines (length readings + 1) ls (reading ∷ behind)) (sym here)
      (found.3, subst (λ n. ReadsLines (n + 1) (drop n (lines_before_limit bytes)) behind) longer reads)));
}
  where
    longer : length (readings ++ reading ∷ []) ≡ length readings + 1
    longer = length-append readings (reading ∷ [])

    number : next.number ≡ length readings + 1
    number = omega (arith, call.passed, one, has.counted)

-- a line that isn't too long was read
pub text_was_read : (before now left : Option (List ℕ)) (reader next : LinesRead) (readings : List Reading) (number : ℕ) (line : List ℕ) (reading : Reading)
    → HasRead before now reader readings → ReadsNext reader next now left (Ok answers.Text) → number ≡ next.number → line ≡ next.text → ReadsLine number line reading
    → HasRead before left next (readings ++ reading ∷ [])
text_was_read before now left reader next readings number line reading has call numbered same reads =
    line_was_read before now left reader next readings answers.Text reading has call refl
    (λ bytes at. (next.text, at.0, at.1, subst (λ l. ReadsLine (length readings + 1) l reading) same (subst (λ n. ReadsLine n line reading) count reads)))
  where
    count : number ≡ length readings + 1
    count = omega (arith, numbered, call.passed, has.counted)

-- a line that is too long was read
pub long_was_read : (before now left : Option (List ℕ)) (reader next : LinesRead) (readings : List Reading)
    → HasRead before now reader readings → ReadsNext reader next now left (Ok answers.TooLong)
    → HasRead before left next (readings ++ Bad code.Long MAX_LINE_BYTES ∷ [])
long_was_read before now left reader next readings has call =
    line_was_read before now left reader next readings answers.TooLong (Bad code.Long MAX_LINE_BYTES) has call refl (λ bytes at. (at.0, at.1, at.2, (at.3, refl)))

-- no line follows that is before the limit
drop_all : (lines : List (List ℕ)) → drop (length lines) lines ≡ []
drop_all [] = refl
drop_all (line ∷ lines) = drop_all lines

-- The lines behind those of the script are read in some way.
each_list : (number : ℕ) (lines : List (List ℕ)) → (readings : List Reading) × ReadsLines number lines readings
each_list number [] = ([], refl)
each_list number (line ∷ lines) =
    let first = each_reading number line in
    let others = each_list (number + 1) lines in
    (first.0 ∷ others.0, (first.1, others.1))

-- Whatever follows what was read is read in some way.
pub goes_on_somehow : (before now : Option (List ℕ)) (reader : LinesRead) (readings : List Reading) → HasRead before now reader readings
    → IfSome before (λ bytes. (rest : List Reading) × (over : Bool) × IsScript bytes (record { readings = readings ++ rest; over = over }))
goes_on_somehow before now reader readings has =
    told before now reader readings (λ bytes. (rest : List Reading) × (over : Bool) × IsScript bytes (record { readings = readings ++ rest; over = over })) has
    (λ rest last.
    let bytes = has.read ++ rest in
    let others = each_list (length readings + 1) (drop (length readings) (lines_before_limit bytes)) in
    let script = each_script bytes in
    (others.0, script.0.over, record { limit = script.1.limit; lines = has.lines rest last others.0 others.1 }))

-- ---- no more lines

drop_taken : (n : ℕ) (lines : List (List ℕ)) → drop n (take n lines) ≡ []
drop_taken zero [] = refl
drop_taken zero (line ∷ lines) = refl
drop_taken (suc n) [] = refl
drop_taken (suc n) (line ∷ lines) = drop_taken n lines

-- the reader stands behind the same lines
still_read : (before now left : Option (List ℕ)) (reader next : LinesRead) (readings : List Reading) (answer : Line)
    → HasRead before now reader readings → ReadsNext reader next now left (Ok answer) → lines_passed answer ≡ 0 → HasRead before left next readings
still_read before now left reader next readings answer has call none = record {
  read = has.read ++ call.took;
  consumed = Consumes-then before now left has.read call.took has.consumed call.consumed;
  at_end = call.at_end has.at_end;
  counted = omega (arith, call.passed, none, has.counted);
  stands = λ rest last. call.stands (has.read ++ call.took ++ rest) rest last (stood before now left reader next readings (Ok answer) has call rest last).1;
  lines = λ rest last behind reads. still_lines before now left reader next readings (Ok answer) has call rest last behind reads;
}

-- what the reader answered, in each input that begins with what was read
answered : (before now left : Option (List ℕ)) (reader next : LinesRead) (readings : List Reading) (answer : Line) (has : HasRead before now reader readings)
    (call : ReadsNext reader next now left (Ok answer)) (rest : List ℕ) → (IsTrue next.ended → rest ≡ [])
    → IsLineAt (has.read ++ call.took ++ rest) (length readings + 1) answer next.text × (is_within_limits (has.read ++ call.took ++ rest) (length readings) ≡ true)
answered before now left reader next readings answer has call rest last =
    let before_call = stood before now left reader next readings (Ok answer) has call rest last in (
      subst (λ n. IsLineAt (has.read ++ call.took ++ rest) (n + 1) answer next.text) has.counted (call.line (has.read ++ call.took ++ rest) rest last before_call.1),
      subst (λ n. is_within_limits (has.read ++ call.took ++ rest) n ≡ true) has.counted before_call.1.within,
    )

-- the readings are those of all lines before the limit
all_are_read : (before now : Option (List ℕ)) (reader : LinesRead) (readings : List Reading) (over : Bool) (has : HasRead before now reader readings)
    → ((rest : List ℕ) → (IsTrue reader.ended → rest ≡ [])
    → (lines_before_limit (has.read ++ rest) ≡ take (length readings) (script_lines (has.read ++ rest)))
    × (IsTrue over → IsOverLimit (has.read ++ rest)) × (IsOverLimit (has.read ++ rest) → IsTrue over)) → IsWhole before readings over
all_are_read before now reader readings over has ends =
    told before now reader readings (λ bytes. IsScript bytes (record { readings = readings; over = over })) has
    (λ rest last.
    let bytes = has.read ++ rest in
    let end = ends rest last in
    record {
      limit = (end.1, end.2);
      lines = subst (λ all. ReadsLines 1 (lines_before_limit bytes) all) (append-nil readings)
          (has.lines rest last []
          (subst (λ ls. ReadsLines (length readings + 1) ls []) (sym (ap (drop (length readings)) end.0 ∙ drop_taken (length readings) (script_lines bytes))) refl));
    })

-- the script ended
pub end_was_read : (before now left : Option (List ℕ)) (reader next : LinesRead) (readings : List Reading)
    → HasRead before now reader readings → ReadsNext reader next now left (Ok answers.End) → IsWhole before readings false × IsAtEnd left
unfolding still_read
end_was_read before now left reader next readings has call = (
  all_are_read before left next readings false (still_read before now left reader next readings answers.End has call refl) (λ rest last.
      let bytes = has.read ++ call.took ++ rest in
      let same : has.read ++ call.took ++ rest ≡ (has.read ++ call.took) ++ rest = refl in
      let found = answered before now left reader next readings answers.End has call rest last in (
        before_limit-at bytes (length readings) found.1 (inl (omega (arith, found.0))),
        (λ over. absurd (off over)),
        (λ over. absurd (none bytes found over)),
      )),
  call.at_end has.at_end (call.last refl),
)
  where
    off : false ≡ true → ⊥
    off e = cc

    none : (bytes : List ℕ) → (length (script_lines bytes) < length readings + 1) × (is_within_limits bytes (length readings) ≡ true) → IsOverLimit bytes → ⊥
    none bytes found (number, (same, there, over)) =
        let within : is_within_limits bytes number ≡ true = within_before bytes number (length readings) (omega (arith, there, found.0)) found.1 in
        let both : true ≡ false = sym within ∙ over in cc

-- the limit was met
pub limit_was_read : (before now left : Option (List ℕ)) (reader next : LinesRead) (readings : List Reading) (number : ℕ)
    → HasRead before now reader readings → ReadsNext reader next now left (Ok (answers.Limit number)) → IsWhole before readings true
unfolding still_read
limit_was_read before now left reader next readings number has call =
    all_are_read before left next readings true (still_read before now left reader next readings (answers.Limit number) has call refl) (λ rest last.
    let bytes = has.read ++ call.took ++ rest in
    let found = answered before now left reader next readings (answers.Limit number) has call rest last in (
      before_limit-at bytes (length readings) found.1 (inr found.0.2),
      (λ over. (length readings + 1, (refl, found.0.1, found.0.2))),
      (λ over. refl),
    ))

-- ---- a line has no newline

unbroken_at : (front : List (List ℕ)) (line : List ℕ) (back : List (List ℕ)) → All IsUnbroken (front ++ line ∷ back) → IsUnbroken line
unbroken_at [] line back all = All-head IsUnbroken line back all
unbroken_at (first ∷ front) line back all = unbroken_at front line back (All-tail IsUnbroken first (front ++ line ∷ back) all)

-- the text that the reader answered
pub text_unbroken : (before now left : Option (List ℕ)) (reader next : LinesRead) (readings : List Reading)
    → HasRead before now reader readings → ReadsNext reader next now left (Ok answers.Text) → IsUnbroken next.text
text_unbroken before now left reader next readings has call =
    let found = answered before now left reader next readings answers.Text has call [] (λ end. refl) in
    let line = found.0.0 in
    unbroken_at line.before next.text line.behind (subst (λ all. All IsUnbroken all) line.joined (script_lines-unbroken (has.read ++ call.took ++ [])))
