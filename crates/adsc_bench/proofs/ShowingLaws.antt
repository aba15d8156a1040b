-- The laws of what `show` promises: from how far it has come to the promise of each status.
use Rattle.std.proofs.Common.{◌≡◌, ℕ, zero, suc, ◌+◌, ◌-◌, ◌<◌, true, false, IsTrue, cond, List, [], ◌∷◌, ◌++◌, length, take, Option, Some, None, IfSome, Result, Ok, Err, inl, inr, sym, ap, ◌∙◌, refl, subst, append_assoc, arith, ne_eqb}
use Rattle.std.proofs.lemmas.List.{append-nil, length-take-le, take_all, take_at}
use Rattle.std.specs.Io.KnownBytes.{Appends, Consumes, IsAtEnd}
use Rattle.adsc_io.specs.Causes.{Rose}
use Rattle.adsc_io.specs.Inputs.{IsLineAt, IsOverLimit, is_within_limits, lines_before_limit, whole_lines}
use Rattle.adsc_io.specs.Lines.{newline, script_lines}
use Rattle.adsc_io.specs.declared.limits.TheConstants.{MAX_LINE_BYTES, MAX_SCRIPT_LINES}
use Rattle.adsc_io.specs.Readers.{LinesRead, ReadsNext, StandsIn, lines_passed}
use Rattle.adsc_io.specs.Writes.{AppendsPrefix}
use Rattle.adsc_io.specs.declared.failures.ReadFault.{ReadFault as Failure}
use Rattle.adsc_io.specs.declared.line.Line.{Line}
use Rattle.adsc_io.specs.declared.line.Line.TheVariants as answers
use Rattle.adsc_io.proofs.Joined.{Appends-none, Appends-then, AppendsPrefix-then, Consumes-none, Consumes-then}
use Rattle.adsc_io.proofs.LimitLaws.{before_limit-all, before_limit-at, before_limit-front, within_before, within_parts}
use Rattle.adsc_io.proofs.LineEndLaws.{line_is_there}
use Rattle.adsc_io.proofs.ReaderLaws.{whole_lines-read}
use Rattle.shown_lines.specs.Shown.{AreShown, IsShown, IsShownWhole, IsShownCut, IsShownFront, refusals}
use Rattle.shown_lines.specs.Texts.{end_text}
use Rattle.shown_lines.specs.declared.show.LineShown.{LineShown}
use Rattle.shown_lines.proofs.CountLaws.{refused_is_counted, counted_is_refused}
use Rattle.shown_lines.proofs.ShownLaws.{AreShown-none, shown_next}
use Rattle.adsc_bench.specs.Progress.{HasReadAll, HasReadLine, HasShown, IsLineShown, status_of_whole}
use Rattle.adsc_bench.specs.Seen.{Seen, seen}
use Rattle.adsc_bench.specs.Showing.{IsShownSoFar, IsDueStatus, Promises, Shows}
use Rattle.adsc_bench.specs.declared.status.Status.{Status}
use Rattle.adsc_bench.specs.declared.status.Status.TheVariants.{Done, Refused, Words, ReadFault, WriteFault, BadLine, NoMemory, Limit}
use Rattle.adsc_bench.proofs.BenchLaws.{told-whole}

-- ---- what a source told

-- what holds of the bytes that were read, whatever follows, holds of the bytes that the source told
told-front : (left rest : Option (List ℕ)) (bytes : List ℕ) (P : List ℕ → Type 0) → Consumes left rest bytes → ((more : List ℕ) → rest ≡ Some more → P (bytes ++ more)) → IfSome left P
told-front None rest bytes P read holds = tt
told-front (Some all) None bytes P read holds = absurd read
told-front (Some all) (Some more) bytes P read holds = subst P (sym read) (holds more refl)

told-always : (left : Option (List ℕ)) (P : List ℕ → Type 0) → ((bytes : List ℕ) → P bytes) → IfSome left P
told-always None P holds = tt
told-always (Some bytes) P holds = holds bytes

-- where the end was seen, nothing more comes
nothing_more : (ended : Type 0) (left : Option (List ℕ)) (more : List ℕ) → (ended → IsAtEnd left) → left ≡ Some more → ended → more ≡ []
nothing_more ended None more at_end is end = absurd (cc)
nothing_more ended (Some rest) more at_end is end = some_same rest more is ∙ at_end end
  where
    some_same : (rest more : List ℕ) → Some rest ≡ Some more → more ≡ rest
    some_same rest more is = cc

-- ---- the status that is due

due-memory : (bytes : List ℕ) → IsDueStatus bytes NoMemory
due-memory bytes = record {
  over = λ over. inr refl;
  refused = λ within some. inr refl;
  done = λ within none. inr refl;
}

due-cut : (bytes text : List ℕ) → IsShownCut bytes text → IsDueStatus bytes Limit
due-cut bytes text cut = record {
  over = λ over. inl refl;
  refused = λ within some. absurd (within cut.over);
  done = λ within none. absurd (within cut.over);
}

due-done : (bytes text : List ℕ) → IsShownWhole bytes text 0 → IsDueStatus bytes Done
due-done bytes text whole = record {
  over = λ over. absurd (whole.within over);
  refused = λ within some. absurd (nothing_below (refused_is_counted (script_lines bytes) whole.lines_shown 0 whole.shown some));
  done = λ within none. inl refl;
}
  where
    nothing_below : 0 < 0 → ⊥
    nothing_below below = omega (arith, below)

due-refused : (bytes text : List ℕ) (refused : ℕ) → 0 < refused → IsShownWhole bytes text refused → IsDueStatus bytes Refused
due-refused bytes text refused some_refused whole = record {
  over = λ over. absurd (whole.within over);
  refused = λ within some. inl refl;
  done = λ within none. absurd (none (counted_is_refused (script_lines bytes) whole.lines_shown refused whole.shown some_refused));
}

-- ---- no line yet

pub shows-memory : (before after : Seen) (untouched : Type 0) → untouched → Shows before after untouched NoMemory
shows-memory before after untouched kept = record {
  promised = kept;
  due = λ unread unwrit. told-always before.left (λ bytes. IsDueStatus bytes NoMemory) due-memory;
}

pub nothing_shown : (now : Seen) (reader : LinesRead) (refused : ℕ) → ((bytes : List ℕ) → StandsIn bytes bytes reader) → reader.number ≡ 0 → reader.ended ≡ false → refused ≡ 0
    → HasShown now now reader reader.number refused
nothing_shown now reader refused stands number not_ended none = record {
  read = [];
  consumed = Consumes-none now.left;
  at_end = λ end. absurd (both (sym not_ended ∙ end));
  stands = λ rest last. stands rest;
  text = [];
  shown = λ rest last. AreShown-none (take reader.number (script_lines rest)) [] refused (ap (λ n. take n (script_lines rest)) number) refl none;
  written = Appends-none now.written;
  unfaulted = (refl, refl);
}
  where
    both : false ≡ true → ⊥
    both e = cc

-- each line makes the limit nearer
pub still_counts : (before now : Seen) (reader : LinesRead) (refused after : ℕ) → HasShown before now reader reader.number refused → after ≡ reader.number + 1
    → MAX_SCRIPT_LINES + 1 - after < MAX_SCRIPT_LINES + 1 - reader.number
still_counts before now reader refused after has one =
    let stands : StandsIn (has.read ++ []) [] reader = has.stands [] (λ end. refl) in
    omega (arith, one, (within_parts (has.read ++ []) reader.number stands.within).0)

-- ---- one call of the reader

-- in each input that begins with what was read, the reader stood before the call
stood : (before now : Seen) (reader next : LinesRead) (count refused : ℕ) (left : Option (List ℕ)) (result : Result Line Failure) (has : HasShown before now reader count refused)
    (reads : ReadsNext reader next now.left left result) (rest : List ℕ) → (IsTrue next.ended → rest ≡ [])
    → (IsTrue reader.ended → reads.took ++ rest ≡ []) × StandsIn (has.read ++ reads.took ++ rest) (reads.took ++ rest) reader
stood before now reader next count refused left result has reads rest last = (
  nothing,
  subst (λ bytes. StandsIn bytes (reads.took ++ rest) reader) (sym (append_assoc has.read reads.took rest)) (has.stands (reads.took ++ rest) nothing),
)
  where
    nothing : IsTrue reader.ended → reads.took ++ rest ≡ []
    nothing end = ap (λ t. t ++ rest) (reads.still end).1 ∙ last (reads.still end).0

-- the same lines are shown behind the call
still_shown : (before now : Seen) (reader next : LinesRead) (count refused : ℕ) (left : Option (List ℕ)) (result : Result Line Failure) (has : HasShown before now reader count refused)
    (reads : ReadsNext reader next now.left left result) (rest : List ℕ) → (IsTrue next.ended → rest ≡ [])
    → AreShown (take count (script_lines (has.read ++ reads.took ++ rest))) has.text refused
still_shown before now reader next count refused left result has reads rest last =
    subst (λ bytes. AreShown (take count (script_lines bytes)) has.text refused) (sym (append_assoc has.read reads.took rest))
    (has.shown (reads.took ++ rest) (stood before now reader next count refused left result has reads rest last).0)

-- a line of that number is within the limits, where the reader stands behind it
within_limits : (before now : Seen) (reader next : LinesRead) (count refused : ℕ) (left : Option (List ℕ)) (result : Result Line Failure) (has : HasShown before now reader count refused)
    (reads : ReadsNext reader next now.left left result) (rest : List ℕ) → (IsTrue next.ended → rest ≡ [])
    → is_within_limits (has.read ++ reads.took ++ rest) reader.number ≡ true
within_limits before now reader next count refused left result has reads rest last = (stood before now reader next count refused left result has reads rest last).1.within

-- ---- a line

text_shown : (number : ℕ) (line text : List ℕ) (way : LineShown) → IsShown number line text way → (bytes : List ℕ) → IsLineAt bytes number answers.Text line → IsLineShown bytes number text way
text_shown number line text way shown bytes is = record { line = line; has = is.0; within = is.1; shown = shown }

long_shown : (number : ℕ) (read text : List ℕ) (way : LineShown) → ((line : List ℕ) → MAX_LINE_BYTES < length line → IsShown number line text way)
    → (bytes : List ℕ) → IsLineAt bytes number answers.TooLong read → IsLineShown bytes number text way
long_shown number read text way shown bytes is = record { line = is.0; has = is.1; within = is.2; shown = shown is.0 is.3 }

-- a line was read, and its text is ready
line_read : (before : Seen) (left left' : Option (List ℕ)) (reads reads' : ℕ) (written : Option (List ℕ)) (writes : ℕ) (reader next : LinesRead) (refused : ℕ) (text : List ℕ) (way : LineShown)
    (answer : Line) → HasShown before (seen left reads written writes) reader reader.number refused → ReadsNext reader next left left' (Ok answer) → reads' ≡ reads → lines_passed answer ≡ 1
    → ((bytes : List ℕ) → IsLineAt bytes next.number answer next.text → IsLineShown bytes next.number text way)
    → HasReadLine before (seen left' reads' written writes) next refused text way
line_read before left left' reads reads' written writes reader next refused text way answer has call kept one show = record {
  count = reader.number;
  next = number;
  so_far = record {
    read = has.read ++ call.took;
    consumed = Consumes-then before.left left left' has.read call.took has.consumed call.consumed;
    at_end = call.at_end has.at_end;
    stands = λ rest last. call.stands (has.read ++ call.took ++ rest) rest last (stood before (seen left reads written writes) reader next reader.number refused left' (Ok answer) has call rest last).1;
    text = has.text;
    shown = λ rest last. still_shown before (seen left reads written writes) reader next reader.number refused left' (Ok answer) has call rest last;
    written = has.written;
    unfaulted = (kept ∙ has.unfaulted.0, has.unfaulted.1);
  };
  line = λ rest last. show (has.read ++ call.took ++ rest)
      (subst (λ n. IsLineAt (has.read ++ call.took ++ rest) n answer next.text) (sym number)
      (call.line (has.read ++ call.took ++ rest) rest last (stood before (seen left reads written writes) reader next reader.number refused left' (Ok answer) has call rest last).1));
}
  where
    number : next.number ≡ reader.number + 1
    number = omega (arith, call.passed, one)

-- a line that isn't too long was read
pub text_read : (before : Seen) (left left' : Option (List ℕ)) (reads reads' : ℕ) (written : Option (List ℕ)) (writes : ℕ) (reader next : LinesRead) (refused number : ℕ) (line text : List ℕ) (way : LineShown)
    → HasShown before (seen left reads written writes) reader reader.number refused → ReadsNext reader next left left' (Ok answers.Text) → reads' ≡ reads
    → number ≡ next.number → line ≡ next.text → IsShown number line text way → HasReadLine before (seen left' reads' written writes) next refused text way
text_read before left left' reads reads' written writes reader next refused number line text way has call kept numbered same is =
    line_read before left left' reads reads' written writes reader next refused text way answers.Text has call kept refl
    (text_shown next.number next.text text way (subst (λ l. IsShown next.number l text way) same (subst (λ n. IsShown n line text way) numbered is)))

-- a line that is too long was read
pub long_read : (before : Seen) (left left' : Option (List ℕ)) (reads reads' : ℕ) (written : Option (List ℕ)) (writes : ℕ) (reader next : LinesRead) (refused number : ℕ) (text : List ℕ) (way : LineShown)
    → HasShown before (seen left reads written writes) reader reader.number refused → ReadsNext reader next left left' (Ok answers.TooLong) → reads' ≡ reads
    → number ≡ next.number → ((line : List ℕ) → MAX_LINE_BYTES < length line → IsShown number line text way) → HasReadLine before (seen left' reads' written writes) next refused text way
long_read before left left' reads reads' written writes reader next refused number text way has call kept numbered is =
    line_read before left left' reads reads' written writes reader next refused text way answers.TooLong has call kept refl
    (long_shown next.number next.text text way (λ line long. subst (λ n. IsShown n line text way) numbered (is line long)))

-- the lines up to this one stand before the limit
front_lines : (bytes : List ℕ) (number : ℕ) (text : List ℕ) (way : LineShown) → IsLineShown bytes number text way → take number (lines_before_limit bytes) ≡ take number (script_lines bytes)
front_lines bytes number text way line =
    let front = before_limit-front bytes number line.within in
    ap (take number) front.1
    ∙ take_at (take number (script_lines bytes)) front.0 number (length-take-le number (script_lines bytes) (line_is_there bytes line.line number line.has))

-- the text of the line was written
pub line_written : (before : Seen) (left : Option (List ℕ)) (reads : ℕ) (written written' : Option (List ℕ)) (writes writes' : ℕ) (reader : LinesRead) (refused refused' : ℕ) (text : List ℕ)
    (way : LineShown) → HasReadLine before (seen left reads written writes) reader refused text way → refused' ≡ refused + refusals way
    → Appends written written' text → writes' ≡ writes → HasShown before (seen left reads written' writes') reader reader.number refused'
line_written before left reads written written' writes writes' reader refused refused' text way has counted appended kept = record {
  read = has.so_far.read;
  consumed = has.so_far.consumed;
  at_end = has.so_far.at_end;
  stands = has.so_far.stands;
  text = has.so_far.text ++ text;
  shown = λ rest last.
      let line = has.line rest last in
      shown_next (has.so_far.read ++ rest) line.line has.so_far.text text has.count reader.number refused refused' way has.next line.has counted (has.so_far.shown rest last) line.shown;
  written = Appends-then before.written written written' has.so_far.text text has.so_far.written appended;
  unfaulted = (has.so_far.unfaulted.0, kept ∙ has.so_far.unfaulted.1);
}

-- the text of the line could not be written
pub line_unwritten : (before : Seen) (left : Option (List ℕ)) (reads : ℕ) (written written' : Option (List ℕ)) (writes writes' : ℕ) (reader : LinesRead) (refused : ℕ) (text : List ℕ)
    (way : LineShown) → HasReadLine before (seen left reads written writes) reader refused text way → Rose writes writes' → AppendsPrefix written written' text
    → Shows before (seen left reads written' writes') ⊥ WriteFault
line_unwritten before left reads written written' writes writes' reader refused text way has rose front = record {
  promised = (
    rose_before,
    has.so_far.unfaulted.0,
    told-front before.left left has.so_far.read (λ bytes. (shown : List ℕ) × IsShownSoFar bytes shown × AppendsPrefix before.written written' shown) has.so_far.consumed
        (λ more is. (
          has.so_far.text ++ text,
          inr (front_shown more (nothing_more (IsTrue reader.ended) left more has.so_far.at_end is)),
          AppendsPrefix-then before.written written written' has.so_far.text text has.so_far.written front,
        )),
  );
  due = λ unread unwrit. absurd (unwrit rose_before);
}
  where
    rose_before : Rose before.write_faults writes'
    rose_before = subst (λ n. Rose n writes') has.so_far.unfaulted.1 rose

    front_shown : (more : List ℕ) → (IsTrue reader.ended → more ≡ []) → IsShownFront (has.so_far.read ++ more) (has.so_far.text ++ text)
    front_shown more last =
        let line = has.line more last in
        record {
          count = reader.number;
          refused = refused + refusals way;
          shown = subst (λ (lines : List (List ℕ)). AreShown lines (has.so_far.text ++ text) (refused + refusals way)) (sym (front_lines (has.so_far.read ++ more) reader.number text way line))
              (shown_next (has.so_far.read ++ more) line.line has.so_far.text text has.count reader.number refused (refused + refusals way) way has.next line.has refl (has.so_far.shown more last) line.shown);
        }

-- ---- no line

-- the limit is met
pub limit_met : (before : Seen) (left left' : Option (List ℕ)) (reads reads' : ℕ) (written : Option (List ℕ)) (writes : ℕ) (reader next : LinesRead) (refused number : ℕ)
    → HasShown before (seen left reads written writes) reader reader.number refused → ReadsNext reader next left left' (Ok (answers.Limit number)) → reads' ≡ reads
    → Shows before (seen left' reads' written writes) ⊥ Limit
limit_met before left left' reads reads' written writes reader next refused number has call kept = record {
  promised = (
    (kept ∙ has.unfaulted.0, has.unfaulted.1),
    told-front before.left left' (has.read ++ call.took) (λ bytes. (shown : List ℕ) × IsShownCut bytes shown × Appends before.written written shown) consumed
        (λ more is. (has.text, cut more (nothing_more (IsTrue next.ended) left' more (call.at_end has.at_end) is), has.written)),
  );
  due = λ unread unwrit. told-front before.left left' (has.read ++ call.took) (λ bytes. IsDueStatus bytes Limit) consumed
      (λ more is. due-cut (has.read ++ call.took ++ more) has.text (cut more (nothing_more (IsTrue next.ended) left' more (call.at_end has.at_end) is)));
}
  where
    consumed : Consumes before.left left' (has.read ++ call.took)
    consumed = Consumes-then before.left left left' has.read call.took has.consumed call.consumed

    cut : (more : List ℕ) → (IsTrue next.ended → more ≡ []) → IsShownCut (has.read ++ call.took ++ more) has.text
    cut more last =
        let now = seen left reads written writes in
        let stands = stood before now reader next reader.number refused left' (Ok (answers.Limit number)) has call more last in
        let over = call.line (has.read ++ call.took ++ more) more last stands.1 in
        record {
          over = (reader.number + 1, (refl, over.1, over.2));
          refused = refused;
          shown = subst (λ (lines : List (List ℕ)). AreShown lines has.text refused)
              (sym (before_limit-at (has.read ++ call.took ++ more) reader.number (within_limits before now reader next reader.number refused left' (Ok (answers.Limit number)) has call more last) (inr over.2)))
              (still_shown before now reader next reader.number refused left' (Ok (answers.Limit number)) has call more last);
        }

-- a read failed
pub read_failed : (before : Seen) (left left' : Option (List ℕ)) (reads reads' : ℕ) (written : Option (List ℕ)) (writes : ℕ) (reader next : LinesRead) (refused : ℕ) (fault : Failure)
    → HasShown before (seen left reads written writes) reader reader.number refused → ReadsNext reader next left left' (Err fault) → Rose reads reads'
    → Shows before (seen left' reads' written writes) ⊥ ReadFault
read_failed before left left' reads reads' written writes reader next refused fault has call rose = record {
  promised = (
    has.unfaulted.1,
    (has.read ++ call.took, (rose_before, Consumes-then before.left left left' has.read call.took has.consumed call.consumed), (has.text, refused, whole, has.written)),
  );
  due = λ unread unwrit. absurd (unread rose_before);
}
  where
    rose_before : Rose before.read_faults reads'
    rose_before = subst (λ n. Rose n reads') has.unfaulted.0 rose

    both : false ≡ true → ⊥
    both e = cc

    last : IsTrue next.ended → newline ∷ [] ≡ []
    last end = absurd (both (sym call.faulted.2 ∙ end))

    whole : AreShown (whole_lines (has.read ++ call.took)) has.text refused
    whole =
        let now = seen left reads written writes in
        let stands = stood before now reader next reader.number refused left' (Err fault) has call (newline ∷ []) last in
        let lines = whole_lines-read (has.read ++ call.took) next (call.stands (has.read ++ call.took ++ newline ∷ []) (newline ∷ []) last stands.1) call.faulted.1 in
        subst (λ (ls : List (List ℕ)). AreShown ls has.text refused)
        (sym (lines ∙ ap (λ n. take n (script_lines (has.read ++ call.took ++ newline ∷ []))) call.faulted.0))
        (still_shown before now reader next reader.number refused left' (Err fault) has call (newline ∷ []) last)

-- the input has ended
pub all_read : (before : Seen) (left left' : Option (List ℕ)) (reads reads' : ℕ) (written : Option (List ℕ)) (writes : ℕ) (reader next : LinesRead) (refused : ℕ)
    → HasShown before (seen left reads written writes) reader reader.number refused → ReadsNext reader next left left' (Ok answers.End) → reads' ≡ reads
    → HasReadAll before (seen left' reads' written writes) next.number refused
all_read before left left' reads reads' written writes reader next refused has call kept = at (append-nil (has.read ++ call.took))
  where
    last : IsTrue next.ended → ◌≡◌ {A = List ℕ} [] []
    last end = refl

    now : Seen
    now = seen left reads written writes

    bytes : List ℕ
    bytes = has.read ++ call.took ++ []

    stands : StandsIn bytes (call.took ++ []) reader
    stands = (stood before now reader next reader.number refused left' (Ok answers.End) has call [] last).1

    few : length (script_lines bytes) < reader.number + 1
    few = call.line bytes [] last stands

    within : is_within_limits bytes reader.number ≡ true
    within = within_limits before now reader next reader.number refused left' (Ok answers.End) has call [] last

    both : true ≡ false → ⊥
    both e = cc

    not_over : IsOverLimit bytes → ⊥
    not_over (number, (same, there, over)) = both (sym (within_before bytes number reader.number (omega (arith, there, few)) within) ∙ over)

    at : bytes ≡ has.read ++ call.took → HasReadAll before (seen left' reads' written writes) next.number refused
    at same = record {
      read = has.read ++ call.took;
      consumed = Consumes-then before.left left left' has.read call.took has.consumed call.consumed;
      at_end = call.at_end has.at_end (call.last refl);
      within = subst (λ bs. IsOverLimit bs → ⊥) same not_over;
      counted = omega (arith, call.passed, few, stands.few, ap (λ bs. length (script_lines bs)) same);
      text = has.text;
      shown = subst (λ bs. AreShown (script_lines bs) has.text refused) same
          (subst (λ (lines : List (List ℕ)). AreShown lines has.text refused) (take_all reader.number (script_lines bytes) (omega (arith, few)))
          (still_shown before now reader next reader.number refused left' (Ok answers.End) has call [] last));
      written = has.written;
      unfaulted = (kept ∙ has.unfaulted.0, has.unfaulted.1);
    }

-- ---- the end

whole_shown : (before now : Seen) (count refused : ℕ) (text : List ℕ) (has : HasReadAll before now count refused) → text ≡ end_text count refused → IsShownWhole has.read (has.text ++ text) refused
whole_shown before now count refused text has spelled = record {
  within = has.within;
  lines_shown = has.text;
  shown = has.shown;
  spelled = ap (λ t. has.text ++ t) (spelled ∙ ap (λ n. end_text n refused) has.counted);
}

-- the line that ends the text was written
pub end_written : (before : Seen) (left : Option (List ℕ)) (reads : ℕ) (written written' : Option (List ℕ)) (writes writes' : ℕ) (count refused : ℕ) (text : List ℕ) (status : Status)
    → HasReadAll before (seen left reads written writes) count refused → text ≡ end_text count refused → Appends written written' text → writes' ≡ writes → status ≡ status_of_whole refused
    → Shows before (seen left reads written' writes') ⊥ status
end_written before left reads written written' writes writes' count refused text status has spelled appended kept is =
    subst (λ s. Shows before (seen left reads written' writes') ⊥ s) (sym is) (by_count refused refl)
  where
    unfaulted : (reads ≡ before.read_faults) × (writes' ≡ before.write_faults)
    unfaulted = (has.unfaulted.0, kept ∙ has.unfaulted.1)

    all_written : Appends before.written written' (has.text ++ text)
    all_written = Appends-then before.written written written' has.text text has.written appended

    whole : IsShownWhole has.read (has.text ++ text) refused
    whole = whole_shown before (seen left reads written writes) count refused text has spelled

    some_refused : (n : ℕ) → status_of_whole (suc n) ≡ Refused
    some_refused n = ap (λ b. cond b Done Refused) (ne_eqb (suc n) 0 (λ none. omega (arith, none)))

    by_count : (n : ℕ) → refused ≡ n → Shows before (seen left reads written' writes') ⊥ (status_of_whole refused)
    by_count zero none = subst (λ k. Shows before (seen left reads written' writes') ⊥ (status_of_whole k)) (sym none) (record {
      promised = (
        unfaulted,
        told-whole before.left left has.read (λ bytes. IsAtEnd left × ((shown : List ℕ) × IsShownWhole bytes shown 0 × Appends before.written written' shown)) has.consumed has.at_end
            (has.at_end, (has.text ++ text, subst (λ k. IsShownWhole has.read (has.text ++ text) k) none whole, all_written)),
      );
      due = λ unread unwrit. told-whole before.left left has.read (λ bytes. IsDueStatus bytes Done) has.consumed has.at_end
          (due-done has.read (has.text ++ text) (subst (λ k. IsShownWhole has.read (has.text ++ text) k) none whole));
    })
    by_count (suc n) some = subst (λ s. Shows before (seen left reads written' writes') ⊥ s) (sym (ap status_of_whole some ∙ some_refused n)) (record {
      promised = (
        unfaulted,
        told-whole before.left left has.read
            (λ bytes. IsAtEnd left × ((shown : List ℕ) × (k : ℕ) × (0 < k) × IsShownWhole bytes shown k × Appends before.written written' shown)) has.consumed has.at_end
            (has.at_end, (has.text ++ text, refused, omega (arith, some), whole, all_written)),
      );
      due = λ unread unwrit. told-whole before.left left has.read (λ bytes. IsDueStatus bytes Refused) has.consumed has.at_end
          (due-refused has.read (has.text ++ text) refused (omega (arith, some)) whole);
    })

-- the line that ends the text could not be written
pub end_unwritten : (before : Seen) (left : Option (List ℕ)) (reads : ℕ) (written written' : Option (List ℕ)) (writes writes' : ℕ) (count refused : ℕ) (text : List ℕ)
    → HasReadAll before (seen left reads written writes) count refused → text ≡ end_text count refused → Rose writes writes' → AppendsPrefix written written' text
    → Shows before (seen left reads written' writes') ⊥ WriteFault
end_unwritten before left reads written written' writes writes' count refused text has spelled rose front = record {
  promised = (
    rose_before,
    has.unfaulted.0,
    told-whole before.left left has.read (λ bytes. (shown : List ℕ) × IsShownSoFar bytes shown × AppendsPrefix before.written written' shown) has.consumed has.at_end
        (has.text ++ text, inl (refused, whole_shown before (seen left reads written writes) count refused text has spelled), AppendsPrefix-then before.written written written' has.text text has.written front),
  );
  due = λ unread unwrit. absurd (unwrit rose_before);
}
  where
    rose_before : Rose before.write_faults writes'
    rose_before = subst (λ n. Rose n writes') has.unfaulted.1 rose

-- ---- with any meaning of untouched

-- a status of `show` other than want of memory promises the same, whatever untouched means
pub shows_anyway : (before after : Seen) (untouched : Type 0) (status : Status) → Shows before after ⊥ status → Shows before after untouched status
shows_anyway before after untouched status shows = record { promised = at status shows.promised; due = shows.due }
  where
    at : (status : Status) → Promises before after ⊥ status → Promises before after untouched status
    at Done promised = promised
    at Refused promised = promised
    at Words promised = promised
    at ReadFault promised = promised
    at WriteFault promised = promised
    at BadLine promised = promised
    at NoMemory promised = absurd promised
    at Limit promised = promised
