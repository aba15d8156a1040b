-- One text put after another.
use Rattle.std.proofs.Common.{◌≡◌, ℕ, ◌+◌, ◌<◌, ◌≤◌, List, [], ◌++◌, length, take, drop, sym, ◌∙◌, ap, refl, subst, arith, Bool, true, false}
use Rattle.std.proofs.lemmas.List.{append-nil, append_assoc, length-append}
use Rattle.std.specs.Io.KnownBytes.{Appends}
use Rattle.std.specs.declared.option.Option.{Option}
use Rattle.adsc_io.specs.Causes.{Rose}
use Rattle.adsc_io.proofs.Joined.{Appends-then}
use Rattle.std.specs.Prelude.{Result, Ok, Err, get_or}
use Rattle.std.specs.List.{flat_map}
use Rattle.std.proofs.lemmas.List.{take_more, take-append-drop, length-drop, flat_map_more}
use Rattle.std.proofs.Math.Seq.{take-append_seam}
use Rattle.adsc_io.specs.Writes.{AppendsPrefix}
use Rattle.adsc_io.specs.declared.failures.WriteFault.{WriteFault}
use Rattle.adsc_io.proofs.Joined.{Appends-none, AppendsPrefix-then}
use Rattle.adsc_run.specs.Outgoing.{OnWay, Puts, PutsBy, GoesOn, BreaksOff, Writes, Finishes, FinishesBy}

-- where a first text went on
after : (before middle now : OnWay) (first second : List ℕ) (failed : Bool)
    → GoesOn before middle first → PutsBy false failed middle now second → PutsBy false failed before now (first ++ second)
after before middle now first second false one two = record {
  gone = one.gone ++ two.gone;
  whole = sym (append_assoc before.waiting first second) ∙ ap (λ t. t ++ second) one.whole ∙ append_assoc one.gone middle.waiting second
      ∙ ap (λ t. one.gone ++ t) two.whole ∙ sym (append_assoc one.gone two.gone now.waiting);
  written = Appends-then before.written middle.written now.written one.gone two.gone one.written two.written;
  kept = two.kept ∙ one.kept;
}
after before middle now first second true one two = record {
  gone = one.gone ++ two.gone;
  left = two.left;
  whole = sym (append_assoc before.waiting first second) ∙ ap (λ t. t ++ second) one.whole ∙ append_assoc one.gone middle.waiting second
      ∙ ap (λ t. one.gone ++ t) two.whole ∙ sym (append_assoc one.gone two.gone two.left);
  some = two.some;
  written = Appends-then before.written middle.written now.written one.gone two.gone one.written two.written;
  later = omega (arith, two.later, one.kept);
  rose = omega (arith, two.rose, one.kept);
}

-- where the first text broke off
broken : (before middle : OnWay) (first second : List ℕ) → BreaksOff before middle first → BreaksOff before middle (first ++ second)
broken before middle first second one = record {
  gone = one.gone;
  left = one.left ++ second;
  whole = sym (append_assoc before.waiting first second) ∙ ap (λ t. t ++ second) one.whole ∙ append_assoc one.gone one.left second;
  some = omega (arith, one.some, length-append one.left second);
  written = one.written;
  later = one.later;
  rose = one.rose;
}

-- by whether a write failed before, in between and now
then_by : (a b c : Bool) (before middle now : OnWay) (first second : List ℕ) → before.failed ≡ a → middle.failed ≡ b → now.failed ≡ c
    → PutsBy a b before middle first → PutsBy b c middle now second → PutsBy a c before now (first ++ second)
then_by true true c before middle now first second r p q one two = two ∙ one
then_by true false c before middle now first second r p q one two = let same = ap (λ (w : OnWay). w.failed) one in absurd cc
then_by false true true before middle now first second r p q one two =
    subst (λ end. BreaksOff before end (first ++ second)) (sym two) (broken before middle first second one)
then_by false true false before middle now first second r p q one two = let same = ap (λ (w : OnWay). w.failed) two in absurd cc
then_by false false c before middle now first second r p q one two = after before middle now first second c one two

-- a text and then another
pub puts_then : (before middle now : OnWay) (first second : List ℕ) → Puts before middle first → Puts middle now second → Puts before now (first ++ second)
puts_then before middle now first second one two =
    record { puts = then_by before.failed middle.failed now.failed before middle now first second refl refl refl one.puts two.puts }

-- nothing was put
none_by : (before : OnWay) (failed : Bool) → PutsBy failed failed before before []
none_by before true = refl
none_by before false = record { gone = []; whole = append-nil before.waiting; written = Appends-none before.written; kept = refl }

pub puts_none : (before : OnWay) → Puts before before []
puts_none before = record { puts = none_by before before.failed }

-- a write of all that waited and the text failed
pub puts_broken : (before now : OnWay) (text bytes : List ℕ) → before.failed ≡ false → now.failed ≡ true → bytes ≡ before.waiting ++ text
    → AppendsPrefix before.written now.written bytes → before.faults ≤ now.faults → Rose before.faults now.faults → Puts before now text
puts_broken before now text bytes fresh failed whole (count, short, front) later rose = record {
  puts = rw (fresh, failed) (record {
    gone = take count bytes;
    left = drop count bytes;
    whole = sym whole ∙ sym (take-append-drop count bytes);
    some = omega (arith, short, length-drop count bytes);
    written = front;
    later = later;
    rose = rose;
  });
}

-- the same text
pub puts_same : (before now : OnWay) (text other : List ℕ) → Puts before now text → text ≡ other → Puts before now other
puts_same before now text other puts same = subst (Puts before now) same puts

-- A text for each item of a list so far, and then that of the next item.
pub puts_more : {A : Type 0} (f : A → List ℕ) (items : List A) (at : ℕ) (other : A) (before middle now : OnWay) (text : List ℕ) → at < length items
    → Puts before middle (flat_map f (take at items)) → Puts middle now text → text ≡ f (get_or items at other) → Puts before now (flat_map f (take (at + 1) items))
puts_more f items at other before middle now text within one two same =
    subst (Puts before now) (flat_map_more f [] (take at items) (get_or items at other) ∙ ap (flat_map f) (sym (take_more items at other within)))
    (puts_then before middle now (flat_map f (take at items)) (f (get_or items at other)) one (puts_same middle now text (f (get_or items at other)) two same))

-- what was put from nothing on, and then finished
finish_by : (failed : Bool) (start before : OnWay) (written : Option (List ℕ)) (faults : ℕ) (result : Result Unit WriteFault) (text : List ℕ) → start.waiting ≡ []
    → PutsBy false failed start before text → FinishesBy failed before written faults result → Writes start.written start.faults written faults result text
finish_by true start before written faults (Ok x) text empty puts finishes = let wrong = finishes.0 in absurd cc
finish_by true start before written faults (Err e) text empty puts finishes = record {
  whole = tt;
  front = (
    length puts.gone,
    omega (arith, puts.some, ap length (ap (λ t. t ++ text) (sym empty) ∙ puts.whole), length-append puts.gone puts.left),
    subst (λ t. Appends start.written written t) (sym (take-append_seam puts.gone puts.left) ∙ ap (take (length puts.gone)) (sym (ap (λ t. t ++ text) (sym empty) ∙ puts.whole)))
        (subst (λ w. Appends start.written w puts.gone) (sym finishes.1) puts.written),
  );
  cause = record { later = omega (arith, puts.later, finishes.2); failed = omega (arith, puts.rose, finishes.2); kept = tt };
}
finish_by false start before written faults (Ok x) text empty puts finishes = record {
  whole = subst (Appends start.written written) (sym (ap (λ t. t ++ text) (sym empty) ∙ puts.whole))
      (Appends-then start.written before.written written puts.gone before.waiting puts.written finishes.whole);
  front = tt;
  cause = record { later = omega (arith, puts.kept, finishes.cause.later); failed = tt; kept = finishes.cause.kept ∙ puts.kept };
}
finish_by false start before written faults (Err e) text empty puts finishes = record {
  whole = tt;
  front = subst (AppendsPrefix start.written written) (sym (ap (λ t. t ++ text) (sym empty) ∙ puts.whole))
      (AppendsPrefix-then start.written before.written written puts.gone before.waiting puts.written finishes.front);
  cause = record { later = omega (arith, puts.kept, finishes.cause.later); failed = omega (arith, puts.kept, finishes.cause.failed); kept = tt };
}

pub finished : (start before : OnWay) (written : Option (List ℕ)) (faults : ℕ) (result : Result Unit WriteFault) (text : List ℕ)
    → start.waiting ≡ [] → start.failed ≡ false → Puts start before text → Finishes before written faults result
    → Writes start.written start.faults written faults result text
finished start before written faults result text empty fresh puts finishes =
    finish_by before.failed start before written faults result text empty (subst (λ failed. PutsBy failed before.failed start before text) fresh puts.puts) finishes.finishes
