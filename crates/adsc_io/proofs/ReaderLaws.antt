-- The laws of a reader of lines: what each step of it means for the input that it stands in.
use Rattle.std.proofs.Common.{◌≡◌, ◌≢◌, ℕ, ◌+◌, ◌-◌, ◌<◌, ◌≤◌, min, Bool, true, false, not, IsTrue, nat_le, cond, List, [], ◌∷◌, ◌++◌, length, take, drop, get_or, Option, Result, Ok, Err, IsErr, ◌⊎◌, inl, inr, sym, ap, ◌∙◌, refl, subst, append_assoc, append-nil, arith}
use Rattle.std.specs.Io.KnownBytes.{Consumes, IsAtEnd}
use Rattle.std.proofs.lemmas.Bool.{cases_lt, le-leb, lt-leb, cond-true, cond-false}
use Rattle.std.proofs.lemmas.List.{drop-drop, drop-take, drop_all, drop_more, length-append, length-drop, length-take-le, nil_from_length, take-append-drop, take_all, take_at}
use Rattle.std.proofs.lemmas.List.Elements.{All-append, All-nil}
use Rattle.adsc_io.specs.Inputs.{HasLine, IsLineAt, is_within_limits, line_end, whole_lines}
use Rattle.adsc_io.specs.Lines.{newline, script_lines, ended_lines, BeginsWithLine, IsUnbroken}
use Rattle.adsc_io.specs.Readers.{Answers, GoesOn, IsReady, LinesRead, ReadsNext, ReadsPiece, StandsIn, lines_passed}
use Rattle.adsc_io.specs.declared.failures.ReadFault.{ReadFault}
use Rattle.adsc_io.specs.declared.limits.TheConstants.{MAX_LINE_BYTES, MAX_SCRIPT_BYTES, MAX_SCRIPT_LINES}
use Rattle.adsc_io.specs.declared.line.Line.{Line}
use Rattle.adsc_io.specs.declared.line.Line.TheVariants.{Text, End, TooLong, Limit}
use Rattle.adsc_io.proofs.Joined.{Consumes-none, Consumes-then}
use Rattle.adsc_io.proofs.LimitLaws.{IsSplit, over_from_number, over_from_place, script_lines-whole, whole_lines-split, within_from}
use Rattle.adsc_io.proofs.LineEndLaws.{begins_or_none, has_next_line, line_is_there, next_line_end, none_behind, script_lines-behind, unbroken_within}
use Rattle.adsc_io.proofs.LinesLaws.{script_lines-next}

-- a reader, by what is seen of it
abbrev pub seen : (number begun taken : ℕ) (text held : List ℕ) (ended over : Bool) → LinesRead
seen number begun taken text held ended over =
    record { number = number; text = text; begun = begun; taken = taken; held = held; ended = ended; over = over }

-- ---- what stands behind the lines answered

size_of_three : (one two three : List ℕ) → length (one ++ two ++ three) ≡ length one + length two + length three
size_of_three one two three = omega (arith, length-append (one ++ two) three, length-append one two)

nothing_behind : (one two three : List ℕ) → two ≡ [] → three ≡ [] → one ++ two ++ three ≡ one
nothing_behind one two three none nothing =
    ap (λ bs. one ++ two ++ bs) nothing ∙ append-nil (one ++ two) ∙ ap (λ bs. one ++ bs) none ∙ append-nil one

-- how long the input is
size_of : (bytes rest : List ℕ) (reader : LinesRead) → StandsIn bytes rest reader → length bytes ≡ reader.taken + length reader.held + length rest
size_of bytes rest reader stands =
    at bytes stands.beginning reader.held rest (line_end bytes reader.number) reader.begun reader.taken (omega arith) stands.behind stands.begun stands.taken
  where
    at : (bytes one two three : List ℕ) (end begun taken : ℕ) → end ≤ length bytes → drop end bytes ≡ one ++ two ++ three → begun ≡ length one → taken ≡ end + begun
        → length bytes ≡ taken + length two + length three
    at bytes one two three end begun taken within behind is_begun is_taken =
        omega (arith, within, ap length behind, length-drop end bytes, size_of_three one two three, is_begun, is_taken)

-- the next line, where what is left begins with it
next_ends : (bytes rest line more : List ℕ) (reader : LinesRead) (stands : StandsIn bytes rest reader)
    → BeginsWithLine (stands.beginning ++ reader.held ++ rest) line more
    → HasLine bytes (reader.number + 1) line × (line_end bytes (reader.number + 1) + length more ≡ length bytes) × (drop (line_end bytes (reader.number + 1)) bytes ≡ more)
next_ends bytes rest line more reader stands begins =
    let here : BeginsWithLine (drop (line_end bytes reader.number) bytes) line more = subst (λ bs. BeginsWithLine bs line more) (sym stands.behind) begins in
    let next = next_line_end reader.number bytes line more here in
    (has_next_line reader.number bytes line more here, next.0, next.1)

-- where bytes without a newline are held in front of others, there is a next line, and it ends behind them
next_end_behind : (bytes rest front more : List ℕ) (reader : LinesRead) → StandsIn bytes rest reader → reader.held ≡ front ++ more → IsUnbroken front
    → 0 < length reader.held → (reader.number + 1 ≤ length (script_lines bytes)) × (reader.taken + length front + min 1 (length more) ≤ line_end bytes (reader.number + 1))
next_end_behind bytes rest front more reader stands joined unbroken some = at (begins_or_none (stands.beginning ++ reader.held ++ rest))
  where
    whole : stands.beginning ++ reader.held ++ rest ≡ (stands.beginning ++ front) ++ (more ++ rest)
    whole =
        ap (λ held. stands.beginning ++ held ++ rest) joined
        ∙ ap (λ all. all ++ rest) (sym (append_assoc stands.beginning front more))
        ∙ append_assoc (stands.beginning ++ front) more rest

    parts : length reader.held ≡ length front + length more
    parts = ap length joined ∙ length-append front more

    at : (stands.beginning ++ reader.held ++ rest ≡ []) ⊎ ((line : List ℕ) × (behind : List ℕ) × BeginsWithLine (stands.beginning ++ reader.held ++ rest) line behind)
        → (reader.number + 1 ≤ length (script_lines bytes)) × (reader.taken + length front + min 1 (length more) ≤ line_end bytes (reader.number + 1))
    at (inl none) = absurd (omega (arith, some, ap length none, size_of_three stands.beginning reader.held rest))
    at (inr (line, behind, begins)) =
        let next = next_ends bytes rest line behind reader stands begins in
        let size : length bytes ≡ reader.taken + length reader.held + length rest = size_of bytes rest reader stands in
        let ends : line_end bytes (reader.number + 1) + length behind ≡ length bytes = next.1 in (
          line_is_there bytes line (reader.number + 1) next.0,
          elim (unbroken_within (stands.beginning ++ front) (more ++ rest) line behind (All-append (λ b. b ≢ newline) stands.beginning front stands.unbroken unbroken) (subst (λ bs. BeginsWithLine bs line behind) whole begins)) [
            | inl inside ↦ omega (arith, ends, size, parts, inside, length-append more rest)
            | inr none ↦ omega (arith, ends, size, parts, ap length none)
          ],
        )

-- ---- the steps of a call

-- the text is what was read of the next line, as long as it isn't too long
text_read : (bytes rest : List ℕ) (reader : LinesRead) (stands : StandsIn bytes rest reader) → IsReady reader → reader.begun ≤ MAX_LINE_BYTES → reader.text ≡ stands.beginning
text_read bytes rest reader stands ready short = elim (cases_lt 0 reader.begun) [
  | inl some ↦ stands.kept some short
  | inr none ↦
      let nothing : reader.begun ≡ 0 = omega (arith, none) in
      ready nothing ∙ sym (nil_from_length stands.beginning (sym stands.begun ∙ nothing))
]

-- bytes held that have no newline are taken into the next line
pub stands_kept : (bytes rest text : List ℕ) (reader : LinesRead) (count : ℕ) → count ≤ length reader.held → IsUnbroken (take count reader.held) → IsReady reader
    → (reader.begun + count ≤ MAX_LINE_BYTES → text ≡ reader.text ++ take count reader.held) → StandsIn bytes rest reader
    → StandsIn bytes rest (record reader { text = text; begun = reader.begun + count; taken = reader.taken + count; held = drop count reader.held })
stands_kept bytes rest text reader count within unbroken ready kept stands = record {
  beginning = stands.beginning ++ take count reader.held;
  behind = stands.behind
      ∙ ap (λ held. stands.beginning ++ held ++ rest) (sym (take-append-drop count reader.held))
      ∙ ap (λ all. all ++ rest) (sym (append_assoc stands.beginning (take count reader.held) (drop count reader.held)));
  unbroken = All-append (λ b. b ≢ newline) stands.beginning (take count reader.held) stands.unbroken unbroken;
  begun = omega (arith, stands.begun, length-append stands.beginning (take count reader.held), length-take-le count reader.held within);
  kept = λ some short. kept short ∙ ap (λ front. front ++ take count reader.held) (text_read bytes rest reader stands ready (omega (arith, short)));
  taken = omega (arith, stands.taken);
  few = stands.few;
  within = stands.within;
  ended = stands.ended;
  over = stands.over;
}

-- the limit is met at the next line
limit_here : (bytes rest : List ℕ) (reader : LinesRead) → StandsIn bytes rest reader → reader.number + 1 ≤ length (script_lines bytes)
    → (MAX_SCRIPT_LINES ≤ reader.number) ⊎ (MAX_SCRIPT_BYTES < line_end bytes (reader.number + 1)) → IsLineAt bytes (reader.number + 1) (Limit (reader.number + 1)) []
limit_here bytes rest reader stands there (inl many) = (refl, there, over_from_number bytes (reader.number + 1) (omega (arith, many)))
limit_here bytes rest reader stands there (inr long) = (refl, there, over_from_place bytes (reader.number + 1) long)

limit_no_end : (number : ℕ) → Limit number ≡ End → ⊥
limit_no_end number is = cc

-- the limit is answered from now on, for the same line
pub answers_limit : (reader : LinesRead) (front more : List ℕ) (count newline : ℕ) → reader.held ≡ front ++ more → IsUnbroken front → 0 < length reader.held
    → count ≤ length front → newline ≤ min 1 (length more) → (MAX_SCRIPT_LINES ≤ reader.number) ⊎ (MAX_SCRIPT_BYTES < reader.taken + count + newline)
    → Answers reader (record reader { over = true }) (Limit (reader.number + 1))
answers_limit reader front more count newline joined unbroken some within ends over = record {
  stands = λ bytes rest stands. record {
    beginning = stands.beginning;
    behind = stands.behind;
    unbroken = stands.unbroken;
    begun = stands.begun;
    kept = stands.kept;
    taken = stands.taken;
    few = stands.few;
    within = stands.within;
    ended = stands.ended;
    over = λ is. met bytes rest stands;
  };
  line = λ bytes rest stands. met bytes rest stands;
  passed = omega arith;
  ended = refl;
  last = λ is. absurd (limit_no_end (reader.number + 1) is);
  met = λ number is. refl;
}
  where
    met : (bytes rest : List ℕ) → StandsIn bytes rest reader → IsLineAt bytes (reader.number + 1) (Limit (reader.number + 1)) []
    met bytes rest stands =
        let next = next_end_behind bytes rest front more reader stands joined unbroken some in
        let behind : reader.taken + length front + min 1 (length more) ≤ line_end bytes (reader.number + 1) = next.1 in
        limit_here bytes rest reader stands next.0 (elim over [
          | inl many ↦ inl many
          | inr long ↦ inr (omega (arith, long, within, ends, behind))
        ])

-- the answer for a line that ends here, by its length
line_answered : (bytes line text : List ℕ) (number begun : ℕ) → HasLine bytes number line → IsTrue (is_within_limits bytes number) → begun ≡ length line
    → (begun ≤ MAX_LINE_BYTES → text ≡ line) → IsLineAt bytes number (cond (nat_le begun MAX_LINE_BYTES) Text TooLong) text
line_answered bytes line text number begun has within size kept = elim (cases_lt MAX_LINE_BYTES begun) [
  | inl long ↦ subst (λ answer. IsLineAt bytes number answer text) (sym (cond-false (nat_le begun MAX_LINE_BYTES) Text TooLong (lt-leb begun MAX_LINE_BYTES long)))
      (line, has, within, omega (arith, long, size))
  | inr short ↦ subst (λ answer. IsLineAt bytes number answer text) (sym (cond-true (nat_le begun MAX_LINE_BYTES) Text TooLong (le-leb begun MAX_LINE_BYTES short)))
      (subst (HasLine bytes number) (sym (kept short)) has, within, omega (arith, short, size, ap length (kept short)))
]

one_passed : (begun : ℕ) → lines_passed (cond (nat_le begun MAX_LINE_BYTES) Text TooLong) ≡ 1
one_passed begun = at (nat_le begun MAX_LINE_BYTES)
  where
    at : (short : Bool) → lines_passed (cond short Text TooLong) ≡ 1
    at true = refl
    at false = refl

no_limit : (begun number : ℕ) → cond (nat_le begun MAX_LINE_BYTES) Text TooLong ≡ Limit number → ⊥
no_limit begun number = at (nat_le begun MAX_LINE_BYTES)
  where
    at : (short : Bool) → cond short Text TooLong ≡ Limit number → ⊥
    at true is = cc
    at false is = cc

no_end : (begun : ℕ) → cond (nat_le begun MAX_LINE_BYTES) Text TooLong ≡ End → ⊥
no_end begun = at (nat_le begun MAX_LINE_BYTES)
  where
    at : (short : Bool) → cond short Text TooLong ≡ End → ⊥
    at true is = cc
    at false is = cc

-- The reader stands behind a line that ended here, of which nothing is held any more.
stands_behind : (bytes rest line more held : List ℕ) (reader : LinesRead) (taken : ℕ) → StandsIn bytes rest reader → reader.over ≡ false
    → HasLine bytes (reader.number + 1) line → line_end bytes (reader.number + 1) + length more ≡ length bytes → drop (line_end bytes (reader.number + 1)) bytes ≡ more
    → more ≡ held ++ rest → taken ≡ line_end bytes (reader.number + 1) → reader.number < MAX_SCRIPT_LINES → taken ≤ MAX_SCRIPT_BYTES
    → StandsIn bytes rest (record reader { number = reader.number + 1; begun = 0; taken = taken; held = held }) × IsTrue (is_within_limits bytes (reader.number + 1))
stands_behind bytes rest line more held reader taken stands within has ends behind left place lines size =
    let inside : is_within_limits bytes (reader.number + 1) ≡ true = within_from bytes (reader.number + 1) (omega (arith, lines)) (omega (arith, place, size)) in (
      record {
        beginning = [];
        behind = behind ∙ left;
        unbroken = All-nothing;
        begun = refl;
        kept = λ some. absurd (omega (arith, some));
        taken = omega (arith, place);
        few = line_is_there bytes line (reader.number + 1) has;
        within = inside;
        ended = stands.ended;
        over = λ is. absurd (both (sym within ∙ is));
      },
      inside,
    )
  where
    both : false ≡ true → ⊥
    both e = cc

    All-nothing : IsUnbroken []
    All-nothing = All-nil (λ b. b ≢ newline)

-- a newline stands next, and ends the line that was begun
pub answers_line : (reader : LinesRead) (held : List ℕ) → reader.held ≡ newline ∷ held → IsReady reader → reader.over ≡ false → reader.number < MAX_SCRIPT_LINES
    → reader.taken < MAX_SCRIPT_BYTES
    → Answers reader (record reader { number = reader.number + 1; begun = 0; taken = reader.taken + 1; held = held }) (cond (nat_le reader.begun MAX_LINE_BYTES) Text TooLong)
answers_line reader held next ready within lines size = record {
  stands = λ bytes rest stands. (ended bytes rest stands).0;
  line = λ bytes rest stands. line_answered bytes stands.beginning reader.text (reader.number + 1) reader.begun (parts bytes rest stands).0 (ended bytes rest stands).1 stands.begun (text_read bytes rest reader stands ready);
  passed = omega (arith, one_passed reader.begun);
  ended = refl;
  last = λ is. absurd (no_end reader.begun is);
  met = λ number is. absurd (no_limit reader.begun number is);
}
  where
    parts : (bytes rest : List ℕ) (stands : StandsIn bytes rest reader)
        → HasLine bytes (reader.number + 1) stands.beginning × (line_end bytes (reader.number + 1) + length (held ++ rest) ≡ length bytes) × (drop (line_end bytes (reader.number + 1)) bytes ≡ held ++ rest)
    parts bytes rest stands = next_ends bytes rest stands.beginning (held ++ rest) reader stands (record {
      unbroken = stands.unbroken;
      cut = inl (ap (λ h. stands.beginning ++ h ++ rest) next ∙ append_assoc stands.beginning (newline ∷ held) rest);
    })

    ended : (bytes rest : List ℕ) (stands : StandsIn bytes rest reader)
        → StandsIn bytes rest (record reader { number = reader.number + 1; begun = 0; taken = reader.taken + 1; held = held }) × IsTrue (is_within_limits bytes (reader.number + 1))
    ended bytes rest stands =
        let all = parts bytes rest stands in
        let ends : line_end bytes (reader.number + 1) + length (held ++ rest) ≡ length bytes = all.1 in
        let place : reader.taken + 1 ≡ line_end bytes (reader.number + 1) =
        omega (arith, ends, size_of bytes rest reader stands, ap length next, length-append held rest) in
        stands_behind bytes rest stands.beginning (held ++ rest) held reader (reader.taken + 1) stands within all.0 ends all.2 refl place lines (omega (arith, size))

-- a newline stands behind so many of the bytes held, and ends the line with them
pub answers_ended : (reader : LinesRead) (text : List ℕ) (count : ℕ) → count < length reader.held → IsUnbroken (take count reader.held) → get_or reader.held count 0 ≡ newline
    → IsReady reader → reader.over ≡ false → reader.number < MAX_SCRIPT_LINES → reader.taken + count < MAX_SCRIPT_BYTES
    → (reader.begun + count ≤ MAX_LINE_BYTES → text ≡ reader.text ++ take count reader.held)
    → Answers reader (record reader { number = reader.number + 1; text = text; begun = 0; taken = reader.taken + count + 1; held = drop 1 (drop count reader.held) })
    (cond (nat_le (reader.begun + count) MAX_LINE_BYTES) Text TooLong)
answers_ended reader text count within unbroken ends ready inside lines size kept = at (answers_line kept_reader (drop 1 (drop count reader.held)) next kept_ready inside lines size)
  where
    kept_reader : LinesRead
    kept_reader = record reader { text = text; begun = reader.begun + count; taken = reader.taken + count; held = drop count reader.held }

    next : drop count reader.held ≡ newline ∷ drop 1 (drop count reader.held)
    next = drop_more reader.held count 0 within
        ∙ ap (λ b. b ∷ drop (count + 1) reader.held) ends
        ∙ ap (λ bs. newline ∷ bs) (sym (drop-drop 1 count reader.held))

    kept_ready : IsReady kept_reader
    kept_ready none =
        let nothing : reader.begun ≡ 0 = omega (arith, none) in
        let no_count : count ≡ 0 = omega (arith, none) in
        kept (omega (arith, none)) ∙ ap (λ t. t ++ take count reader.held) (ready nothing) ∙ ap (λ k. take k reader.held) no_count

    stands : (bytes rest : List ℕ) → StandsIn bytes rest reader → StandsIn bytes rest kept_reader
    stands bytes rest here = stands_kept bytes rest text reader count (omega (arith, within)) unbroken ready kept here

    at : Answers kept_reader (record kept_reader { number = reader.number + 1; begun = 0; taken = reader.taken + count + 1; held = drop 1 (drop count reader.held) })
        (cond (nat_le (reader.begun + count) MAX_LINE_BYTES) Text TooLong)
        → Answers reader (record reader { number = reader.number + 1; text = text; begun = 0; taken = reader.taken + count + 1; held = drop 1 (drop count reader.held) })
        (cond (nat_le (reader.begun + count) MAX_LINE_BYTES) Text TooLong)
    at answers = record {
      stands = λ bytes rest here. answers.stands bytes rest (stands bytes rest here);
      line = λ bytes rest here. answers.line bytes rest (stands bytes rest here);
      passed = answers.passed;
      ended = answers.ended;
      last = answers.last;
      met = answers.met;
    }

-- no newline stands in the bytes held, and all of them belong to the next line
pub goes_on : (reader : LinesRead) (text : List ℕ) (count : ℕ) → count ≡ length reader.held → IsUnbroken reader.held → IsReady reader → 0 < count → reader.taken + count ≤ MAX_SCRIPT_BYTES
    → (reader.begun + count ≤ MAX_LINE_BYTES → text ≡ reader.text ++ take count reader.held)
    → GoesOn reader (record reader { text = text; begun = reader.begun + count; taken = reader.taken + count; held = drop count reader.held })
goes_on reader text count all unbroken ready some size kept = record {
  stands = λ bytes rest stands. stands_kept bytes rest text reader count (omega (arith, all)) (subst IsUnbroken (sym (take_all count reader.held (omega (arith, all)))) unbroken) ready kept stands;
  ready = λ none. absurd (omega (arith, none, some));
  same = ap (λ h. seen reader.number (reader.begun + count) (reader.taken + count) text h reader.ended reader.over) (drop_all count reader.held (omega (arith, all)));
  taken = omega (arith, all);
  size = size;
}

-- the input ends behind the line that was begun
pub answers_last : (reader : LinesRead) → reader.held ≡ [] → reader.ended ≡ true → IsReady reader → reader.over ≡ false → 0 < reader.begun → reader.number < MAX_SCRIPT_LINES
    → reader.taken ≤ MAX_SCRIPT_BYTES → Answers reader (record reader { number = reader.number + 1; begun = 0 }) (cond (nat_le reader.begun MAX_LINE_BYTES) Text TooLong)
answers_last reader none at_end ready within some lines size = record {
  stands = λ bytes rest stands. (ended bytes rest stands).0;
  line = λ bytes rest stands. line_answered bytes stands.beginning reader.text (reader.number + 1) reader.begun (parts bytes rest stands).0 (ended bytes rest stands).1 stands.begun (text_read bytes rest reader stands ready);
  passed = omega (arith, one_passed reader.begun);
  ended = refl;
  last = λ is. absurd (no_end reader.begun is);
  met = λ number is. absurd (no_limit reader.begun number is);
}
  where
    left : (bytes rest : List ℕ) (stands : StandsIn bytes rest reader) → stands.beginning ++ reader.held ++ rest ≡ stands.beginning
    left bytes rest stands = nothing_behind stands.beginning reader.held rest none (stands.ended at_end)

    not_none : (line : List ℕ) (begun : ℕ) → begun ≡ length line → 0 < begun → line ≢ []
    not_none line begun is some none = omega (arith, is, some, ap length none)

    parts : (bytes rest : List ℕ) (stands : StandsIn bytes rest reader)
        → HasLine bytes (reader.number + 1) stands.beginning × (line_end bytes (reader.number + 1) + 0 ≡ length bytes) × (drop (line_end bytes (reader.number + 1)) bytes ≡ [])
    parts bytes rest stands = next_ends bytes rest stands.beginning [] reader stands (record {
      unbroken = stands.unbroken;
      cut = inr (left bytes rest stands, refl, not_none stands.beginning reader.begun stands.begun some);
    })

    ended : (bytes rest : List ℕ) (stands : StandsIn bytes rest reader)
        → StandsIn bytes rest (record reader { number = reader.number + 1; begun = 0 }) × IsTrue (is_within_limits bytes (reader.number + 1))
    ended bytes rest stands =
        let all = parts bytes rest stands in
        let ends : line_end bytes (reader.number + 1) + 0 ≡ length bytes = all.1 in
        let place : reader.taken ≡ line_end bytes (reader.number + 1) =
        omega (arith, ends, size_of bytes rest reader stands, ap length none, ap length (stands.ended at_end)) in
        stands_behind bytes rest stands.beginning [] reader.held reader reader.taken stands within all.0 ends all.2 (sym (ap (λ h. h ++ rest) none ∙ stands.ended at_end)) place lines size

-- the input has ended, and no line was begun
pub answers_end : (reader : LinesRead) → reader.held ≡ [] → reader.ended ≡ true → reader.begun ≡ 0 → Answers reader reader End
answers_end reader none at_end begun = record {
  stands = λ bytes rest stands. stands;
  line = λ bytes rest stands. omega (arith, none_behind reader.number bytes (nothing bytes rest stands));
  passed = omega arith;
  ended = refl;
  last = λ is. at_end;
  met = λ number is. absurd (other number is);
}
  where
    nothing : (bytes rest : List ℕ) (stands : StandsIn bytes rest reader) → drop (line_end bytes reader.number) bytes ≡ []
    nothing bytes rest stands = stands.behind
        ∙ nothing_behind stands.beginning reader.held rest none (stands.ended at_end)
        ∙ nil_from_length stands.beginning (sym stands.begun ∙ begun)

    other : (number : ℕ) → End ≡ Limit number → ⊥
    other number e = cc

-- ---- a call so far

-- So far these bytes were taken, and no line was answered.
pub record HasTaken (before now : LinesRead) (left left' : Option (List ℕ)) : Type 0 where
  pub took : List ℕ
  pub consumed : Consumes left left' took
  pub at_end : (IsTrue before.ended → IsAtEnd left) → IsTrue now.ended → IsAtEnd left'
  pub still : IsTrue before.ended → IsTrue now.ended × (took ≡ [])
  pub stands : (bytes rest : List ℕ) → (IsTrue now.ended → rest ≡ []) → StandsIn bytes (took ++ rest) before → StandsIn bytes rest now
  pub number : now.number ≡ before.number
  pub ready : IsReady now
  pub within : now.over ≡ false

-- a call begins
pub taken_nothing : (before : LinesRead) (text : List ℕ) (left : Option (List ℕ)) → before.over ≡ false → (0 < before.begun → text ≡ before.text)
    → IsReady (record before { text = text }) → HasTaken before (record before { text = text }) left left
taken_nothing before text left within kept ready = record {
  took = [];
  consumed = Consumes-none left;
  at_end = λ end is. end is;
  still = λ is. (is, refl);
  stands = λ bytes rest ended stands. record {
    beginning = stands.beginning;
    behind = stands.behind;
    unbroken = stands.unbroken;
    begun = stands.begun;
    kept = λ some short. kept some ∙ stands.kept some short;
    taken = stands.taken;
    few = stands.few;
    within = stands.within;
    ended = stands.ended;
    over = stands.over;
  };
  number = refl;
  ready = ready;
  within = within;
}

-- what is held goes into the next line
pub taken_on : (before middle now : LinesRead) (left left' : Option (List ℕ)) → HasTaken before middle left left' → GoesOn middle now → HasTaken before now left left'
taken_on before middle now left left' taken goes = record {
  took = taken.took;
  consumed = taken.consumed;
  at_end = λ end is. taken.at_end end (sym ended ∙ is);
  still = λ is. (ended ∙ (taken.still is).0, (taken.still is).1);
  stands = λ bytes rest last stands. goes.stands bytes rest (taken.stands bytes rest (λ is. last (ended ∙ is)) stands);
  number = ap (λ (r : LinesRead). r.number) goes.same ∙ taken.number;
  ready = goes.ready;
  within = ap (λ (r : LinesRead). r.over) goes.same ∙ taken.within;
}
  where
    ended : now.ended ≡ middle.ended
    ended = ap (λ (r : LinesRead). r.ended) goes.same

-- a read gives more bytes, or shows the end
pub taken_more : (before middle : LinesRead) (held : List ℕ) (more : Bool) (left middle' left' : Option (List ℕ)) → middle.held ≡ [] → HasTaken before middle left middle'
    → Consumes middle' left' held → (more ≡ true → middle.ended ≡ false) → (more ≡ false → held ≡ []) → (more ≡ false → (IsTrue middle.ended → IsAtEnd middle') → IsAtEnd left')
    → HasTaken before (record middle { held = held; ended = not more }) left left'
taken_more before middle held more left middle' left' none taken consumed not_ended nothing at_end = record {
  took = taken.took ++ held;
  consumed = Consumes-then left middle' left' taken.took held taken.consumed consumed;
  at_end = λ end is. at_end (not_more more is) (taken.at_end end);
  still = λ is. still (taken.still is) more refl;
  stands = λ bytes rest last stands. on bytes rest last (taken.stands bytes (held ++ rest) (λ is. ended rest last is) (subst (λ r. StandsIn bytes r before) (append_assoc taken.took held rest) stands));
  number = taken.number;
  ready = taken.ready;
  within = taken.within;
}
  where
    still : IsTrue middle.ended × (taken.took ≡ []) → (m : Bool) → more ≡ m → IsTrue (not more) × (taken.took ++ held ≡ [])
    still so_far true some = absurd (both (sym so_far.0 ∙ not_ended some))
      where
        both : true ≡ false → ⊥
        both e = cc
    still so_far false none = (ap not none, ap (λ t. t ++ held) so_far.1 ∙ nothing none)

    not_more : (more : Bool) → not more ≡ true → more ≡ false
    not_more true is = cc
    not_more false is = refl

    ended : (rest : List ℕ) → (IsTrue (not more) → rest ≡ []) → IsTrue middle.ended → held ++ rest ≡ []
    ended rest last is = at more refl
      where
        at : (m : Bool) → more ≡ m → held ++ rest ≡ []
        at true some = absurd (both (sym is ∙ not_ended some))
          where
            both : true ≡ false → ⊥
            both e = cc
        at false some = ap (λ h. h ++ rest) (nothing some) ∙ last (ap not some)

    on : (bytes rest : List ℕ) → (IsTrue (not more) → rest ≡ []) → StandsIn bytes (held ++ rest) middle → StandsIn bytes rest (record middle { held = held; ended = not more })
    on bytes rest last stands = record {
      beginning = stands.beginning;
      behind = stands.behind ∙ ap (λ h. stands.beginning ++ h ++ (held ++ rest)) none ∙ ap (λ b. b ++ (held ++ rest)) (append-nil stands.beginning) ∙ sym (append_assoc stands.beginning held rest);
      unbroken = stands.unbroken;
      begun = stands.begun;
      kept = stands.kept;
      taken = stands.taken;
      few = stands.few;
      within = stands.within;
      ended = last;
      over = stands.over;
    }

nothing_held : (middle kept : LinesRead) → GoesOn middle kept → kept.held ≡ []
nothing_held middle kept goes = ap (λ (r : LinesRead). r.held) goes.same

-- what was held belongs to the next line, and a piece was read behind it
pub taken_piece : (before middle kept now : LinesRead) (left middle' left' : Option (List ℕ)) (more : Bool) → HasTaken before middle left middle' → GoesOn middle kept
    → Consumes middle' left' now.held → ReadsPiece kept now middle' left' more → HasTaken before now left left'
taken_piece before middle kept now left middle' left' more taken goes consumed reads =
    subst (λ (r : LinesRead). HasTaken before r left left') (sym reads.same)
    (taken_more before kept now.held more left middle' left' (nothing_held middle kept goes) (taken_on before middle kept left middle' taken goes) consumed reads.fresh reads.none reads.at_end)

-- each piece that was read makes the limit nearer
pub nearer : (middle kept now : LinesRead) (left left' : Option (List ℕ)) (more : Bool) → GoesOn middle kept → ReadsPiece kept now left left' more → more ≡ true
    → MAX_SCRIPT_BYTES + 1 - (now.taken + length now.held) < MAX_SCRIPT_BYTES + 1 - (middle.taken + length middle.held)
nearer middle kept now left left' more goes reads some =
    let taken : now.taken ≡ kept.taken = ap (λ (r : LinesRead). r.taken) reads.same in
    omega (arith, taken, goes.taken, goes.size, reads.some some)

-- a line is answered
pub reads_line : (before middle now : LinesRead) (left left' : Option (List ℕ)) (answer : Line) → HasTaken before middle left left' → Answers middle now answer
    → ReadsNext before now left left' (Ok answer)
reads_line before middle now left left' answer taken answers = record {
  took = taken.took;
  consumed = taken.consumed;
  at_end = λ end is. taken.at_end end (sym answers.ended ∙ is);
  still = λ is. (answers.ended ∙ (taken.still is).0, (taken.still is).1);
  stands = λ bytes rest last stands. answers.stands bytes rest (here bytes rest last stands);
  line = λ bytes rest last stands. subst (λ n. IsLineAt bytes (n + 1) answer now.text) taken.number (answers.line bytes rest (here bytes rest last stands));
  passed = omega (arith, answers.passed, taken.number);
  last = λ is. answers.last (ok_same answer End is);
  faulted = tt;
}
  where
    ok_same : (one other : Line) → ◌≡◌ {A = Result Line ReadFault} (Ok one) (Ok other) → one ≡ other
    ok_same one other is = cc

    here : (bytes rest : List ℕ) → (IsTrue now.ended → rest ≡ []) → StandsIn bytes (taken.took ++ rest) before → StandsIn bytes rest middle
    here bytes rest last stands = taken.stands bytes rest (λ is. last (answers.ended ∙ is)) stands

-- a read failed
pub reads_fault : (before now : LinesRead) (left middle left' : Option (List ℕ)) (result : Result Line ReadFault) → IsErr result → HasTaken before now left middle → Consumes middle left' [] → now.held ≡ []
    → now.ended ≡ false → ReadsNext before now left left' result
reads_fault before now left middle left' (Ok answer) is_err taken kept none not_ended = absurd (no_error is_err)
  where
    no_error : false ≡ true → ⊥
    no_error e = cc
reads_fault before now left middle left' (Err fault) is_err taken kept none not_ended = record {
  took = taken.took;
  consumed = subst (Consumes left left') (append-nil taken.took) (Consumes-then left middle left' taken.took [] taken.consumed kept);
  at_end = λ end is. absurd (both (sym not_ended ∙ is));
  still = taken.still;
  stands = taken.stands;
  line = tt;
  passed = tt;
  last = λ is. absurd (no_error is);
  faulted = (taken.number, none, not_ended);
}
  where
    no_error : ◌≡◌ {A = Result Line ReadFault} (Err fault) (Ok End) → ⊥
    no_error e = cc

    both : false ≡ true → ⊥
    both e = cc

-- what was held belongs to the next line, and then a read failed
pub reads_fault_behind : (before middle kept now : LinesRead) (left middle' left' : Option (List ℕ)) (result : Result Line ReadFault) → IsErr result → HasTaken before middle left middle'
    → GoesOn middle kept → Consumes middle' left' now.held → (now ≡ kept) × (kept.ended ≡ false) → ReadsNext before now left left' result
reads_fault_behind before middle kept now left middle' left' result is_err taken goes consumed failed =
    subst (λ (r : LinesRead). ReadsNext before r left left' result) (sym failed.0)
    (reads_fault before kept left middle' left' result is_err (taken_on before middle kept left middle' taken goes)
    (subst (Consumes middle' left') (ap (λ (r : LinesRead). r.held) failed.0 ∙ none) consumed) none failed.1)
  where
    none : kept.held ≡ []
    none = nothing_held middle kept goes

-- ---- the bytes held

-- the bytes held behind some of them
pub held_behind : (at end count : ℕ) (piece : List ℕ) → at + count ≤ end → take (end - (at + count)) (drop (at + count) piece) ≡ drop count (take (end - at) (drop at piece))
held_behind at end count piece within =
    let size : end - at ≡ count + (end - (at + count)) = omega (arith, within) in
    ap (take (end - (at + count))) (sym (drop-drop count at piece))
    ∙ sym (drop-take count (end - (at + count)) (drop at piece))
    ∙ ap (λ k. drop count (take k (drop at piece))) (sym size)

-- what is seen of a reader whose bytes held are written in another way
pub same_held : (number begun taken : ℕ) (text held held' : List ℕ) (ended over : Bool) → held ≡ held' → seen number begun taken text held ended over ≡ seen number begun taken text held' ended over
same_held number begun taken text held held' ended over same = ap (λ h. seen number begun taken text h ended over) same

-- a test for the limit that fails
pub within_both : (over : Bool) (reader : LinesRead) (count newline : ℕ) → over ≡ false
    → ((MAX_SCRIPT_LINES ≤ reader.number) ⊎ (MAX_SCRIPT_BYTES < reader.taken + count + newline) → IsTrue over)
    → (reader.number < MAX_SCRIPT_LINES) × (reader.taken + count + newline ≤ MAX_SCRIPT_BYTES)
within_both over reader count newline not_over told = (
  elim (cases_lt reader.number MAX_SCRIPT_LINES) [ inl low ↦ low | inr high ↦ absurd (both (sym not_over ∙ told (inl high))) ],
  elim (cases_lt MAX_SCRIPT_BYTES (reader.taken + count + newline)) [ inl long ↦ absurd (both (sym not_over ∙ told (inr long))) | inr short ↦ short ],
)
  where
    both : false ≡ true → ⊥
    both e = cc

-- ---- the lines wholly read

-- Where a reader holds nothing, it has answered the lines that a newline ends.
pub whole_lines-read : (read : List ℕ) (reader : LinesRead) → StandsIn (read ++ newline ∷ []) (newline ∷ []) reader → reader.held ≡ []
    → whole_lines read ≡ take reader.number (script_lines (read ++ newline ∷ []))
whole_lines-read read reader stands none = at (whole_lines-split read)
  where
    lines : List (List ℕ)
    lines = script_lines (read ++ newline ∷ [])

    behind : drop reader.number lines ≡ stands.beginning ∷ []
    behind = sym (script_lines-behind reader.number (read ++ newline ∷ []))
        ∙ ap script_lines (stands.behind ∙ ap (λ h. stands.beginning ++ h ++ newline ∷ []) none ∙ ap (λ b. b ++ newline ∷ []) (append-nil stands.beginning))
        ∙ script_lines-next stands.beginning [] stands.unbroken

    at : IsSplit read → whole_lines read ≡ take reader.number lines
    at split =
        let all : lines ≡ whole_lines read ++ split.beginning ∷ [] =
        ap script_lines (ap (λ r. r ++ newline ∷ []) split.joined ∙ append_assoc (ended_lines (whole_lines read)) split.beginning (newline ∷ []))
        ∙ script_lines-whole (whole_lines read) (split.beginning ++ newline ∷ []) split.lines
        ∙ ap (λ ls. whole_lines read ++ ls) (script_lines-next split.beginning [] split.unbroken) in
        let size : length (whole_lines read) ≡ reader.number =
        omega (arith, ap length all, length-append (whole_lines read) (split.beginning ∷ []), ap length behind, length-drop reader.number lines, stands.few) in
        sym (ap (take reader.number) all ∙ take_at (whole_lines read) (split.beginning ∷ []) reader.number size)
