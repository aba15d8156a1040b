-- The laws of the texts of an outbox, and of where they end.
use Rattle.std.proofs.Common.{◌≡◌, ◌≤◌, ◌+◌, ◌-◌, ℕ, All, List, [], ◌∷◌, ◌++◌, drop, length, slice_get, Some, None, inl, inr, refl, sym, ap, ◌∙◌, subst, append-nil, append_assoc, arith}
use Rattle.std.proofs.lemmas.List.{drop-append-le, drop_all, length-append}
use Rattle.std.proofs.lemmas.List.Elements.{All-tail}
use Rattle.std.proofs.lemmas.Option.{slice_get_past}
use Rattle.adsc_io.specs.Lines.{BeginsWithLine, IsUnbroken, ended_lines, newline, script_lines}
use Rattle.adsc_io.proofs.LinesLaws.{script_lines-ended, script_lines-unbroken}
use Rattle.run_rules.proofs.GoingOn.{slice_get-seam}
use Rattle.adsc_run.specs.Outboxes.{AreEnds, EndsAt, IsEnded, IsRest}
use Rattle.adsc_run.proofs.EachItem.{pushed_each}

-- ---- lists

ended_lines-append : (front back : List (List ℕ)) → ended_lines (front ++ back) ≡ ended_lines front ++ ended_lines back
ended_lines-append [] back = refl
ended_lines-append (line ∷ front) back =
    ap (λ rest. line ++ newline ∷ rest) (ended_lines-append front back) ∙ sym (append_assoc line (newline ∷ ended_lines front) (ended_lines back))

drop_front : (front back : List ℕ) → drop (length front) (front ++ back) ≡ back
drop_front front back =
    drop-append-le (length front) front back (omega arith) ∙ ap (λ these. these ++ back) (drop_all (length front) front (omega arith))

same_behind : (front one other : List ℕ) → front ++ newline ∷ one ≡ front ++ newline ∷ other → one ≡ other
same_behind [] one other e = cc
same_behind (byte ∷ front) one other e = same_behind front one other (let tails : front ++ newline ∷ one ≡ front ++ newline ∷ other = cc in tails)

back_unbroken : (front back : List (List ℕ)) → All IsUnbroken (front ++ back) → All IsUnbroken back
back_unbroken [] back all = all
back_unbroken (line ∷ front) back all = back_unbroken front back (All-tail IsUnbroken line (front ++ back) all)

-- ---- what stands behind texts

-- an outbox is the texts before the rest, and the rest
pub outbox_split : (outbox rest : List ℕ) (count : ℕ) → IsEnded outbox → (is : IsRest outbox count rest) → outbox ≡ ended_lines is.front ++ rest
outbox_split outbox rest count whole is =
    whole ∙ ap ended_lines is.texts ∙ ended_lines-append is.front (script_lines rest) ∙ ap (λ these. ended_lines is.front ++ these) (sym is.ended)

-- behind no text the whole outbox stands
pub whole_rest : (outbox : List ℕ) → IsEnded outbox → IsRest outbox 0 outbox
whole_rest outbox whole = record { front = []; counted = refl; texts = refl; ended = whole }

-- an end is within the outbox
pub end_within : (outbox : List ℕ) (count end : ℕ) → IsEnded outbox → EndsAt (script_lines outbox) count end → end ≤ length outbox
end_within outbox count end whole at =
    let split : outbox ≡ ended_lines at.front ++ ended_lines at.back = whole ∙ ap ended_lines at.joined ∙ ended_lines-append at.front at.back in
    omega (arith, ap length split, length-append (ended_lines at.front) (ended_lines at.back), at.bytes)

-- what stands behind an end
pub rest_at_end : (outbox : List ℕ) (count end : ℕ) → IsEnded outbox → EndsAt (script_lines outbox) count end → IsRest outbox count (drop end outbox)
rest_at_end outbox count end whole at = record {
  front = at.front;
  counted = at.counted;
  texts = at.joined ∙ ap (λ these. at.front ++ these) (sym lines);
  ended = rest_is ∙ ap ended_lines (sym lines);
}
  where
    split : outbox ≡ ended_lines at.front ++ ended_lines at.back
    split = whole ∙ ap ended_lines at.joined ∙ ended_lines-append at.front at.back

    rest_is : drop end outbox ≡ ended_lines at.back
    rest_is = ap (λ n. drop n outbox) at.bytes ∙ ap (drop (length (ended_lines at.front))) split ∙ drop_front (ended_lines at.front) (ended_lines at.back)

    lines : script_lines (drop end outbox) ≡ at.back
    lines = ap script_lines rest_is
        ∙ script_lines-ended at.back (back_unbroken at.front at.back (subst (λ these. All IsUnbroken these) at.joined (script_lines-unbroken outbox)))

-- what stands behind so many texts that were found
pub rest_found : (outbox ends : List ℕ) (count end : ℕ) → IsEnded outbox → AreEnds ends (script_lines outbox) → 1 ≤ count → slice_get ends (count - 1) ≡ Some end
    → IsRest outbox count (drop end outbox)
rest_found outbox ends count end whole are some there =
    let same : count - 1 + 1 ≡ count = omega arith in
    subst (λ n. IsRest outbox n (drop end outbox)) same (rest_at_end outbox (count - 1 + 1) end whole (are (count - 1) end there))

-- behind one text more
pub rest_behind_text : (outbox rest text behind : List ℕ) (count : ℕ) → IsRest outbox count rest → script_lines rest ≡ text ∷ script_lines behind
    → BeginsWithLine rest text behind → IsRest outbox (count + 1) behind
rest_behind_text outbox rest text behind count is lines begins = record {
  front = is.front ++ text ∷ [];
  counted = length-append is.front (text ∷ []) ∙ ap (λ n. n + 1) is.counted;
  texts = is.texts ∙ ap (λ these. is.front ++ these) lines ∙ sym (append_assoc is.front (text ∷ []) (script_lines behind));
  ended = elim begins.cut [
    | inl cut ↦ same_behind text behind (ended_lines (script_lines behind)) (sym cut ∙ whole)
    | inr last ↦ absurd (longer (sym last.0 ∙ whole))
  ];
}
  where
    whole : rest ≡ text ++ newline ∷ ended_lines (script_lines behind)
    whole = is.ended ∙ ap ended_lines lines

    longer : text ≡ text ++ newline ∷ ended_lines (script_lines behind) → ⊥
    longer e = omega (arith, ap length e, length-append text (newline ∷ ended_lines (script_lines behind)))

-- where no text is left, so many there are
pub all_counted : (outbox rest : List ℕ) (count : ℕ) → IsRest outbox count rest → script_lines rest ≡ [] → length (script_lines outbox) ≡ count
all_counted outbox rest count is none =
    ap length (is.texts ∙ ap (λ these. is.front ++ these) none ∙ append-nil is.front) ∙ is.counted

-- the text that stands first in the rest
pub text_there : (outbox rest text behind : List ℕ) (count : ℕ) → IsRest outbox count rest → script_lines rest ≡ text ∷ script_lines behind
    → slice_get (script_lines outbox) count ≡ Some text
text_there outbox rest text behind count is lines =
    ap (λ these. slice_get these count) (is.texts ∙ ap (λ these. is.front ++ these) lines)
    ∙ ap (slice_get (is.front ++ text ∷ script_lines behind)) (sym is.counted) ∙ slice_get-seam is.front text (script_lines behind)

-- behind all texts there is none
pub none_there : (outbox : List ℕ) (count place : ℕ) → length (script_lines outbox) ≡ count → count ≤ place → slice_get (script_lines outbox) place ≡ None
none_there outbox count place counted past = slice_get_past (script_lines outbox) place (omega (arith, counted, past))

-- ---- ends

-- no ends
pub no_end : (texts : List (List ℕ)) → AreEnds [] texts
no_end texts place end there = absurd (cc)

-- the rest is no longer than the outbox
pub rest_within : (outbox rest : List ℕ) (count : ℕ) → IsEnded outbox → IsRest outbox count rest → length rest ≤ length outbox
rest_within outbox rest count whole is = omega (arith, ap length (outbox_split outbox rest count whole is), length-append (ended_lines is.front) rest)

-- the texts before the rest end where it begins
pub end_at_rest : (outbox rest : List ℕ) (count : ℕ) → IsEnded outbox → IsRest outbox count rest → EndsAt (script_lines outbox) count (length outbox - length rest)
end_at_rest outbox rest count whole is = record {
  front = is.front;
  back = script_lines rest;
  joined = is.texts;
  counted = is.counted;
  bytes = omega (arith, ap length (outbox_split outbox rest count whole is), length-append (ended_lines is.front) rest);
}

-- one end more
pub end_pushed : (ends : List ℕ) (end : ℕ) (texts : List (List ℕ)) → AreEnds ends texts → EndsAt texts (length ends + 1) end → AreEnds (ends ++ end ∷ []) texts
end_pushed ends end texts are last = pushed_each (λ place found. EndsAt texts (place + 1) found) ends end are last

-- further texts leave the ends as they are
pub ends_stay : (ends : List ℕ) (texts more : List (List ℕ)) → AreEnds ends texts → AreEnds ends (texts ++ more)
ends_stay ends texts more are place end there =
    let at = are place end there in
    record {
      front = at.front;
      back = at.back ++ more;
      joined = ap (λ these. these ++ more) at.joined ∙ append_assoc at.front at.back more;
      counted = at.counted;
      bytes = at.bytes;
    }
