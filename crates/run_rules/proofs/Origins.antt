-- Where in a log a thing was done, and what was done before and after it.
use Rattle.std.proofs.Common.{◌≡◌, ◌⊎◌, ℕ, ◌<◌, ◌≤◌, ◌==◌, ◌||◌, inl, inr, Bool, true, false, cond, List, [], ◌∷◌, ◌++◌, Some, refl, sym, ap, ◌∙◌, arith}
use Rattle.std.specs.Prelude.{slice_get, suc, zero}
use Rattle.adsc_requests.specs.declared.message.Message.{Message}
use Rattle.aircraft_core.specs.Entries.{line_of}
use Rattle.aircraft_core.specs.Setting.{Setting}
use Rattle.aircraft_core.specs.declared.entry.Entry.{Entry}
use Rattle.centre_core.specs.Hearing.{Hearing, Ignores, Greets, Tells}
use Rattle.run_rules.specs.Among.{IsAmong}
use Rattle.run_rules.proofs.Deeds.{AreDeeds, IsDeed, bound_before}
use Rattle.run_rules.specs.Happenings.{Happening, Entered, Refused, Asked, Cancelled, Brought, Heard, Carried, Carries, Answers, SentMessage, answer_sent, entries, entry_in, is_raw, makes_raw, sent_in, sent_messages}
use Rattle.run_rules.specs.Lines.{entry_with}
use Rattle.run_rules.proofs.Members.{among_parts}

-- ---- lines

-- What was done before a happening was done before the line behind it.
pub bound_within : (line number : ℕ) (happening : Happening) → line < number → bound_before line happening ≤ number
bound_within line number (Refused refused) below = omega (arith, below)
bound_within line number (Entered made) below = omega (arith, below)
bound_within line number (Asked l link request) below = omega (arith, below)
bound_within line number (Cancelled l link cancel sent) below = omega (arith, below)
bound_within line number (Brought link place made) below = omega (arith, below)
bound_within line number (Heard l link place hearing) below = omega (arith, below)

-- What was done at this line was done by it, and so was all that stands before it earlier.
pub record IsOfLine (line bound : ℕ) (at : ℕ) : Type 0 where
  pub same : at ≡ line
  pub bound_is : bound ≡ line

-- An ask has the line that did it.
pub ask_line : (order : List ℕ) (setting : Setting) (line : ℕ) (log : List Happening) (happening : Happening) (at link : ℕ) (request : Message)
    → IsDeed order setting line log happening → happening ≡ Asked at link request → IsOfLine line (bound_before line happening) at
ask_line order setting line log (Asked number other asked) at link request deed is =
    let same : number ≡ at = cc in record { same = sym same ∙ deed.0; bound_is = refl }
ask_line order setting line log (Entered made) at link request deed is = absurd (cc)
ask_line order setting line log (Refused refused) at link request deed is = absurd (cc)
ask_line order setting line log (Cancelled l other cancel sent) at link request deed is = absurd (cc)
ask_line order setting line log (Brought other place made) at link request deed is = absurd (cc)
ask_line order setting line log (Heard l other place hearing) at link request deed is = absurd (cc)

line_with : (line link : ℕ) (carried : Carried) → line_of (entry_with line link carried) ≡ line
line_with line link (Carries asked) = refl
line_with line link (Answers contact) = refl

-- An entry has the line of the happening that makes it.
pub entry_line : (order : List ℕ) (setting : Setting) (line : ℕ) (log : List Happening) (happening : Happening) (made : Entry)
    → IsDeed order setting line log happening → IsAmong made (entry_in happening) → IsOfLine line (bound_before line happening) (line_of made)
entry_line order setting line log (Entered other) made deed (inl same) = record { same = ap line_of (sym same) ∙ deed.of_line; bound_is = refl }
entry_line order setting line log (Entered other) made deed (inr among) = absurd among
entry_line order setting line log (Brought link place other) made deed (inl same) =
    record { same = ap line_of (sym same ∙ deed.1.entry) ∙ line_with line link deed.1.sent.carried; bound_is = refl }
entry_line order setting line log (Brought link place other) made deed (inr among) = absurd among
entry_line order setting line log (Refused refused) made deed among = absurd among
entry_line order setting line log (Asked at link request) made deed among = absurd among
entry_line order setting line log (Cancelled at link cancel sent) made deed among = absurd among
entry_line order setting line log (Heard at link place hearing) made deed among = absurd among

-- A happening of a log was done by a line, after what stands behind it; and an ask that stands before it came at a later line.
pub record DoneAt (order : List ℕ) (setting : Setting) (number : ℕ) (later : List Happening) (happening : Happening) (earlier : List Happening) : Type 0 where
  pub line : ℕ
  pub below : line < number
  pub deed : IsDeed order setting line earlier happening
  pub before : AreDeeds order setting (bound_before line happening) earlier
  pub asks_after : (at link : ℕ) (request : Message) → IsAmong (Asked at link request) later → line < at
  pub entries_after : (made : Entry) → IsAmong made (entries later) → line < line_of made

-- Each happening of a log of deeds was done so.
pub done_at : (order : List ℕ) (setting : Setting) (number : ℕ) (later : List Happening) (happening : Happening) (earlier : List Happening)
    → AreDeeds order setting number (later ++ happening ∷ earlier) → DoneAt order setting number later happening earlier
done_at order setting number [] happening earlier deeds =
    record {
      line = deeds.0;
      below = deeds.2;
      deed = deeds.3;
      before = deeds.4;
      asks_after = λ at link request among. absurd among;
      entries_after = λ made among. absurd among;
    }
done_at order setting number (other ∷ later) happening earlier deeds =
    next (done_at order setting (bound_before deeds.0 other) later happening earlier deeds.4)
  where
    next : DoneAt order setting (bound_before deeds.0 other) later happening earlier → DoneAt order setting number (other ∷ later) happening earlier
    next done =
        let less = done.below in
        record {
          line = done.line;
          below = omega (arith, less, bound_within deeds.0 number other deeds.2);
          deed = done.deed;
          before = done.before;
          asks_after = after;
          entries_after = λ made among. made_after made (among_parts made (entries later) (entry_in other) among);
        }
      where
        after : (at link : ℕ) (request : Message) → IsAmong (Asked at link request) (other ∷ later) → done.line < at
        after at link request (inl is) =
            let asked = ask_line order setting deeds.0 (later ++ happening ∷ earlier) other at link request deeds.3 is in
            let less = done.below in
            let bound = asked.bound_is in
            let same = asked.same in
            omega (arith, less, bound, same)
        after at link request (inr among) = done.asks_after at link request among

        made_after : (made : Entry) → IsAmong made (entries later) ⊎ IsAmong made (entry_in other) → done.line < line_of made
        made_after made (inl among) = done.entries_after made among
        made_after made (inr now) =
            let entered = entry_line order setting deeds.0 (later ++ happening ∷ earlier) other made deeds.3 now in
            let less = done.below in
            let bound = entered.bound_is in
            let same = entered.same in
            omega (arith, less, bound, same)

-- What was sent, was sent at an earlier line.
one_line : (line : ℕ) (sent : SentMessage) (carried : Carried) (own : Bool) → IsAmong sent (cond own (record { line = line; carried = carried } ∷ []) []) → sent.line ≡ line
one_line line sent carried true (inl same) = sym (ap (λ (m : SentMessage). m.line) same)
one_line line sent carried true (inr among) = absurd among
one_line line sent carried false among = absurd among

answer_line : (line : ℕ) (sent : SentMessage) (hearing : Hearing) → IsAmong sent (answer_sent line hearing) → sent.line ≡ line
answer_line line sent (Ignores why) among = absurd among
answer_line line sent (Greets contact) (inl same) = sym (ap (λ (m : SentMessage). m.line) same)
answer_line line sent (Greets contact) (inr among) = absurd among
answer_line line sent (Tells items) among = absurd among

heard_line : (line : ℕ) (sent : SentMessage) (hearing : Hearing) (own : Bool) → IsAmong sent (cond own (answer_sent line hearing) []) → sent.line ≡ line
heard_line line sent hearing true among = answer_line line sent hearing among
heard_line line sent hearing false among = absurd among

-- What is sent at a happening is sent at its line.
pub sent_line : (order : List ℕ) (setting : Setting) (line link : ℕ) (log : List Happening) (happening : Happening) (sent : SentMessage)
    → IsDeed order setting line log happening → IsAmong sent (sent_in link happening) → sent.line ≡ line
sent_line order setting line link log (Entered made) sent deed among = absurd among
sent_line order setting line link log (Refused refused) sent deed among = absurd among
sent_line order setting line link log (Brought other place made) sent deed among = absurd among
sent_line order setting line link log (Asked number other request) sent deed among = one_line number sent (Carries request) (link == other) among ∙ deed.0
sent_line order setting line link log (Cancelled number other cancel message) sent deed among = one_line number sent (Carries message) (link == other) among ∙ deed.0
sent_line order setting line link log (Heard number other place hearing) sent deed among = heard_line number sent hearing (link == other) among ∙ deed.0

-- What was sent in a log was sent before the line behind it.
pub sent_before : (order : List ℕ) (setting : Setting) (number link : ℕ) (log : List Happening) (sent : SentMessage)
    → AreDeeds order setting number log → IsAmong sent (sent_messages link log) → sent.line < number
sent_before order setting number link [] sent deeds among = absurd among
sent_before order setting number link (happening ∷ log) sent deeds among =
    at (among_parts sent (sent_messages link log) (sent_in link happening) among) (sent_before order setting (bound_before deeds.0 happening) link log sent deeds.4)
  where
    at : IsAmong sent (sent_messages link log) ⊎ IsAmong sent (sent_in link happening)
        → (IsAmong sent (sent_messages link log) → sent.line < bound_before deeds.0 happening) → sent.line < number
    at (inl before) earlier =
        let less = earlier before in omega (arith, less, bound_within deeds.0 number happening deeds.2)
    at (inr now) earlier =
        let same = sent_line order setting deeds.0 link log happening sent deeds.3 now in
        let below = deeds.2 in
        omega (arith, same, below)

-- Entries and asks of a log came at earlier lines.
pub entry_before : (order : List ℕ) (setting : Setting) (number : ℕ) (log : List Happening) (made : Entry)
    → AreDeeds order setting number log → IsAmong made (entries log) → line_of made < number
entry_before order setting number [] made deeds among = absurd among
entry_before order setting number (happening ∷ log) made deeds among =
    at (among_parts made (entries log) (entry_in happening) among) (entry_before order setting (bound_before deeds.0 happening) log made deeds.4)
  where
    at : IsAmong made (entries log) ⊎ IsAmong made (entry_in happening)
        → (IsAmong made (entries log) → line_of made < bound_before deeds.0 happening) → line_of made < number
    at (inl before) earlier = let less = earlier before in omega (arith, less, bound_within deeds.0 number happening deeds.2)
    at (inr now) earlier =
        let same = (entry_line order setting deeds.0 log happening made deeds.3 now).same in
        let below = deeds.2 in
        omega (arith, same, below)

-- So did asks.
pub ask_before : (order : List ℕ) (setting : Setting) (number at link : ℕ) (request : Message) (log : List Happening)
    → AreDeeds order setting number log → IsAmong (Asked at link request) log → at < number
ask_before order setting number at link request [] deeds among = absurd among
ask_before order setting number at link request (happening ∷ log) deeds (inl is) =
    let same = (ask_line order setting deeds.0 log happening at link request deeds.3 is).same in
    let below = deeds.2 in
    omega (arith, same, below)
ask_before order setting number at link request (happening ∷ log) deeds (inr among) =
    let less = ask_before order setting (bound_before deeds.0 happening) at link request log deeds.4 among in
    omega (arith, less, bound_within deeds.0 number happening deeds.2)

-- ---- entries

-- Where an entry was made.
pub record MadeIn (log : List Happening) (made : Entry) : Type 0 where
  pub later : List Happening
  pub happening : Happening
  pub earlier : List Happening
  pub split : log ≡ later ++ happening ∷ earlier
  pub makes : IsAmong made (entry_in happening)

-- Each entry of a log was made by one of its happenings.
pub made_in : (log : List Happening) (made : Entry) → IsAmong made (entries log) → MadeIn log made
made_in [] made among = absurd among
made_in (happening ∷ log) made among = at (among_parts made (entries log) (entry_in happening) among) (made_in log made)
  where
    at : IsAmong made (entries log) ⊎ IsAmong made (entry_in happening) → (IsAmong made (entries log) → MadeIn log made) → MadeIn (happening ∷ log) made
    at (inl before) rest =
        let found = rest before in
        record {
          later = happening ∷ found.later;
          happening = found.happening;
          earlier = found.earlier;
          split = ap (λ happenings. happening ∷ happenings) found.split;
          makes = found.makes;
        }
    at (inr now) rest = record { later = []; happening = happening; earlier = log; split = refl; makes = now }

-- ---- roles

or_false : (a b : Bool) → (a || b) ≡ false → (a ≡ false) × (b ≡ false)
or_false true b is = absurd (let never : true ≡ false = is in cc)
or_false false b is = (refl, is)

-- An address that isn't raw made no text raw before.
pub not_raw : (link : ℕ) (later : List Happening) (happening : Happening) (earlier : List Happening)
    → is_raw link (later ++ happening ∷ earlier) ≡ false → (makes_raw link happening ≡ false) × (is_raw link earlier ≡ false)
not_raw link [] happening earlier is = or_false (makes_raw link happening) (is_raw link earlier) is
not_raw link (other ∷ later) happening earlier is =
    not_raw link later happening earlier (or_false (makes_raw link other) (is_raw link (later ++ happening ∷ earlier)) is).1

-- ---- places

-- What stands at a place of a list is in it.
pub got_among : {A : Type 0} (xs : List A) (i : ℕ) (x : A) → slice_get xs i ≡ Some x → IsAmong x xs
got_among [] i x got = absurd (cc)
got_among (y ∷ ys) zero x got = inl (cc)
got_among (y ∷ ys) (suc i) x got = inr (got_among ys i x got)
