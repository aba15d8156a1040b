-- What a centre that asks at most 255 times sent and shows bears the number of an ask only since that ask.
use Rattle.std.proofs.Common.{◌≡◌, ◌⊎◌, ℕ, ◌+◌, ◌%◌, ◌<◌, ◌≤◌, inl, inr, cond, List, [], ◌∷◌, ◌++◌, refl, sym, ap, ◌∙◌, subst, arith}
use Rattle.std.proofs.lemmas.Bool.{eq-eqb}
use Rattle.adsc_requests.specs.Contents.{number_of}
use Rattle.adsc_requests.specs.declared.message.Message.{Message}
use Rattle.aircraft_core.specs.Setting.{Setting}
use Rattle.centre_core.specs.Histories.{effects, request_count}
use Rattle.centre_core.proofs.TableLaws.{row_in-table_behind}
use Rattle.run_rules.specs.Among.{IsAmong}
use Rattle.run_rules.specs.Claims.{CarriedBears, NoOtherRowBears, RowBears, ask_count}
use Rattle.run_rules.proofs.Deeds.{AreDeeds, IsDeed, MadeAsk, bound_before}
use Rattle.run_rules.specs.Happenings.{Happening, Entered, Refused, Asked, Cancelled, Brought, Heard, SentMessage, history, sent_in, sent_messages}
use Rattle.run_rules.proofs.CentreSteps.{is_ask}
use Rattle.run_rules.proofs.Members.{among_parts}
use Rattle.run_rules.proofs.Numbers.{below_count, requests_counted}
use Rattle.run_rules.proofs.Origins.{ask_before, ask_line, sent_line}

-- ---- how often a centre asks

-- It never asked more often before.
pub asked_less : (link : ℕ) (later log : List Happening) → ask_count link log ≤ ask_count link (later ++ log)
asked_less link [] log = omega arith
asked_less link (Asked line other request ∷ later) log = omega (arith, asked_less link later log)
asked_less link (Entered made ∷ later) log = asked_less link later log
asked_less link (Refused refused ∷ later) log = asked_less link later log
asked_less link (Cancelled line other cancel sent ∷ later) log = asked_less link later log
asked_less link (Brought other place made ∷ later) log = asked_less link later log
asked_less link (Heard line other place hearing ∷ later) log = asked_less link later log

-- An ask counts one.
pub own_ask_counts : (link line : ℕ) (request : Message) (log : List Happening) → ask_count link (Asked line link request ∷ log) ≡ 1 + ask_count link log
own_ask_counts link line request log = ap (λ b. cond b 1 0 + ask_count link log) (eq-eqb link link refl)

-- The number of an ask is how often the centre has asked then.
ask_number : (order : List ℕ) (setting : Setting) (number link : ℕ) (log : List Happening) (request : Message) → AreDeeds order setting number log
    → MadeAsk setting log link request → ask_count link log < 255 → number_of request ≡ ask_count link log + 1
ask_number order setting number link log request deeds made few =
    let numbered = (is_ask setting log link request made).number in
    let counted = requests_counted order setting number link log deeds in
    counts (number_of request) (request_count (effects (history link log))) (ask_count link log) numbered counted few
  where
    counts : (n count asked : ℕ) → n ≡ count % 255 + 1 → count ≡ asked → asked < 255 → n ≡ asked + 1
    counts n count asked numbered counted few = omega (arith, numbered, counted, few)

-- ---- rows

-- When the centre asks, no row bears the number.
pub few_rows : (order : List ℕ) (setting : Setting) (number link line : ℕ) (request : Message) (earlier : List Happening)
    → AreDeeds order setting number earlier → MadeAsk setting earlier link request → ask_count link earlier < 255 → NoOtherRowBears link request earlier
few_rows order setting number link line request earlier deeds made few kind other bears =
    let numbered = ask_number order setting number link earlier request deeds made few in
    let less =
    (below_count order setting number link earlier deeds).rows kind (number_of request)
    (subst (RowBears (number_of request)) (sym (row_in-table_behind kind (effects (history link earlier)))) bears) in
    omega (arith, numbered, less)

-- ---- what was sent

-- What bears the number of an ask was sent since then.
pub sent_since : (order : List ℕ) (setting : Setting) (number link at : ℕ) (request : Message) (log : List Happening) (sent : SentMessage) → AreDeeds order setting number log
    → ask_count link log ≤ 255 → IsAmong (Asked at link request) log → IsAmong sent (sent_messages link log) → CarriedBears (number_of request) sent.carried → at ≤ sent.line
sent_since order setting number link at request [] sent deeds few asked among bears = absurd asked
sent_since order setting number link at request (happening ∷ log) sent deeds few asked among bears =
    by asked (among_parts sent (sent_messages link log) (sent_in link happening) among)
    (λ before. sent_since order setting (bound_before deeds.0 happening) link at request log sent deeds.4 (omega (arith, few, asked_less link (happening ∷ []) log)) before)
  where
    -- An ask has a number above those that were sent before.
    newer : happening ≡ Asked at link request → IsAmong sent (sent_messages link log) → at ≤ sent.line
    newer is before =
        let made : MadeAsk setting log link request = (subst (IsDeed order setting deeds.0 log) is deeds.3).1 in
        let counted : ask_count link (happening ∷ log) ≡ 1 + ask_count link log =
        ap (λ h. ask_count link (h ∷ log)) is ∙ own_ask_counts link at request log in
        let numbered = ask_number order setting (bound_before deeds.0 happening) link log request deeds.4 made (omega (arith, counted, few)) in
        let less = (below_count order setting (bound_before deeds.0 happening) link log deeds.4).sent sent (number_of request) before bears in
        absurd (omega (arith, numbered, less))

    by : (happening ≡ Asked at link request) ⊎ IsAmong (Asked at link request) log → IsAmong sent (sent_messages link log) ⊎ IsAmong sent (sent_in link happening)
        → (IsAmong (Asked at link request) log → IsAmong sent (sent_messages link log) → CarriedBears (number_of request) sent.carried → at ≤ sent.line) → at ≤ sent.line
    by (inl is) (inl before) rest = newer is before
    by (inl is) (inr now) rest =
        let line = sent_line order setting deeds.0 link log happening sent deeds.3 now in
        let asked_at = (ask_line order setting deeds.0 log happening at link request deeds.3 is).same in
        omega (arith, line, asked_at)
    by (inr earlier) (inl before) rest = rest earlier before bears
    by (inr earlier) (inr now) rest =
        let line = sent_line order setting deeds.0 link log happening sent deeds.3 now in
        let less = ask_before order setting (bound_before deeds.0 happening) at link request log deeds.4 earlier in
        let bound = at_most deeds.0 happening in
        omega (arith, line, less, bound)
      where
        at_most : (l : ℕ) (h : Happening) → bound_before l h ≤ l + 1
        at_most l (Refused refused) = omega arith
        at_most l (Entered made) = omega arith
        at_most l (Asked line other asked) = omega arith
        at_most l (Cancelled line other cancel message) = omega arith
        at_most l (Brought other place made) = omega arith
        at_most l (Heard line other place hearing) = omega arith
