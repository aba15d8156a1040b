-- Which numbers the rows of a centre and its messages bear: at most 255, and at most as many as it asked so far.
use Rattle.std.proofs.Common.{◌≡◌, ◌≢◌, ◌⊎◌, ℕ, ◌+◌, ◌≤◌, ◌==◌, inl, inr, Bool, true, false, cond, List, [], ◌∷◌, Option, Some, None, refl, sym, ap, ◌∙◌, subst, arith}
use Rattle.std.proofs.lemmas.Bool.{eq-eqb, eqb-true}
use Rattle.adsc_downlink.specs.Items.{ItemData}
use Rattle.adsc_requests.specs.Contents.{number_of}
use Rattle.adsc_requests.specs.declared.kind.Kind.{Kind}
use Rattle.adsc_requests.specs.declared.kind.Kind.TheVariants.{Demand, Periodic, Event, Emergency}
use Rattle.adsc_requests.specs.declared.message.Message.{Message}
use Rattle.adsc_requests.specs.declared.message.Message.TheVariants as message
use Rattle.aircraft_core.specs.Setting.{Setting}
use Rattle.centre_core.specs.Answers.{answer_in}
use Rattle.centre_core.specs.Events.{CentreEvent, Asks, HearsItem}
use Rattle.centre_core.specs.Heard.{with_heard, with_items}
use Rattle.centre_core.specs.Hearing.{Hearing, Ignores, Greets, Tells}
use Rattle.centre_core.specs.Histories.{effects, next_number, request_count, table_at, table_behind}
use Rattle.centre_core.specs.Rows.{Effect, RequestSent}
use Rattle.centre_core.specs.Steps.{with_effect}
use Rattle.centre_core.specs.Tables.{effect_of_answer, effect_of_cancelling, effect_of_taking, request_to_cancel, row_in, taker}
use Rattle.centre_core.specs.declared.answer.AnswerKind.{AnswerKind}
use Rattle.centre_core.specs.declared.answer.ItemAnswer.{ItemAnswer}
use Rattle.centre_core.specs.declared.table.CentreTable.{CentreTable}
use Rattle.net_script.specs.declared.line.Cancel.{Cancel}
use Rattle.net_script.specs.declared.line.Cancel.TheVariants.{Of, EmergencyMode, All}
use Rattle.run_rules.specs.Among.{IsAmong}
use Rattle.run_rules.specs.Claims.{CarriedBears, RowBears, ask_count}
use Rattle.run_rules.proofs.Deeds.{AreDeeds, IsDeed, MadeAsk, bound_before}
use Rattle.run_rules.specs.Happenings.{Happening, Entered, Refused, Asked, Cancelled, Brought, Heard, Carries, SentMessage, history, sent_in, sent_messages, with_cancel}
use Rattle.run_rules.proofs.CentreSteps.{ConfirmsGood, GoesOn, IsAsk, IsSpent, IsToCentre, asked_history, asked_sends, is_ask, to_centre}
use Rattle.run_rules.proofs.CentreSteps.IsToCentre.{asks, goes}
use Rattle.run_rules.proofs.Members.{among_parts}
use Rattle.run_rules.proofs.RowsGo.{row_not_requested, row_requested, same_or_other}

-- A message bears its number.
pub bears_own : (request : Message) (n : ℕ) → CarriedBears n (Carries request) → number_of request ≡ n
bears_own message.CancelAll n bears = absurd bears
bears_own (message.Cancel m) n bears = bears
bears_own (message.CancelEmergency m) n bears = bears
bears_own (message.Periodic m interval groups intent) n bears = bears
bears_own (message.Event m limits) n bears = bears
bears_own (message.Emergency m interval groups intent) n bears = bears

-- The rows bear no number above this one, nor do the messages that were sent.
pub record Below (bound link : ℕ) (log : List Happening) : Type 0 where
  pub rows : (kind : Kind) (n : ℕ) → RowBears n (row_in kind (table_at (history link log))) → n ≤ bound
  pub sent : (sent : SentMessage) (n : ℕ) → IsAmong sent (sent_messages link log) → CarriedBears n sent.carried → n ≤ bound

Any : Message → Type 0
Any request = Unit {0}

any_good : (link : ℕ) (log : List Happening) (happening : Happening) → ConfirmsGood Any link log happening
unfolding Any
any_good link log (Heard line other place (Tells items)) = λ same item among kind request is confirms. tt
any_good link log (Heard line other place (Ignores why)) = tt
any_good link log (Heard line other place (Greets contact)) = tt
any_good link log (Entered made) = tt
any_good link log (Refused refused) = tt
any_good link log (Asked line other request) = tt
any_good link log (Cancelled line other cancel sent) = tt
any_good link log (Brought other place made) = tt

module _ (bound now link : ℕ) (log : List Happening) (below : Below bound link log) (grows : bound ≤ now) where
  old_row : (kind : Kind) (n : ℕ) → RowBears n (row_in kind (table_at (history link log))) → n ≤ now
  old_row kind n bears = let less = below.rows kind n bears in omega (arith, less, grows)

  -- After an ask by a request of such a number.
  below_asked : (line : ℕ) (request : Message) → IsAsk log link request → number_of request ≤ now → Below now link (Asked line link request ∷ log)
  below_asked line request ask few = record {
    rows = λ kind n bears. in_row kind n (same_or_other kind ask.kind) (subst (λ t. RowBears n (row_in kind t)) table bears);
    sent = λ sent n among bears.
        of_sent sent n bears (among_parts sent (sent_messages link log) (sent_in link (Asked line link request)) among);
  }
    where
      table : table_at (history link (Asked line link request ∷ log)) ≡ with_effect (RequestSent request) (table_at (history link log))
      table = ap table_at (asked_history line link request log) ∙ ask.table

      in_row : (kind : Kind) (n : ℕ) → (kind ≡ ask.kind) ⊎ (kind ≢ ask.kind) → RowBears n (row_in kind (with_effect (RequestSent request) (table_at (history link log)))) → n ≤ now
      in_row kind n (inl same) bears =
          let own : number_of request ≡ n =
          subst (RowBears n) (ap (λ k. row_in k (with_effect (RequestSent request) (table_at (history link log)))) same ∙ row_requested request ask.kind (table_at (history link log)) ask.of_kind) bears in
          omega (arith, own, few)
      in_row kind n (inr differs) bears =
          old_row kind n (subst (RowBears n) (row_not_requested request ask.kind kind (table_at (history link log)) ask.of_kind differs) bears)

      new_one : (sent : SentMessage) (n : ℕ) → CarriedBears n sent.carried → IsAmong sent (record { line = line; carried = Carries request } ∷ []) → n ≤ now
      new_one sent n bears (inl same) =
          let own = bears_own request n (subst (λ (m : SentMessage). CarriedBears n m.carried) (sym same) bears) in omega (arith, own, few)
      new_one sent n bears (inr among) = absurd among

      of_sent : (sent : SentMessage) (n : ℕ) → CarriedBears n sent.carried → IsAmong sent (sent_messages link log) ⊎ IsAmong sent (sent_in link (Asked line link request)) → n ≤ now
      of_sent sent n bears (inl before) = let less = below.sent sent n before bears in omega (arith, less, grows)
      of_sent sent n bears (inr new) = new_one sent n bears (subst (IsAmong sent) (asked_sends line link request) new)

  -- After any other happening.
  below_gone : (Good : Message → Type 0) (happening : Happening) → GoesOn Good link log happening → Below now link (happening ∷ log)
  below_gone Good happening gone = record {
    rows = λ kind n bears. old_row kind n ((gone.rows kind).bears n bears);
    sent = λ sent n among bears. of_sent sent n bears (among_parts sent (sent_messages link log) (sent_in link happening) among);
  }
    where
      spent : (n : ℕ) → IsSpent (history link log) (history link (happening ∷ log)) n → n ≤ now
      spent n (inl none) = omega (arith, none)
      spent n (inr found) = old_row found.0 n found.1

      of_sent : (sent : SentMessage) (n : ℕ) → CarriedBears n sent.carried → IsAmong sent (sent_messages link log) ⊎ IsAmong sent (sent_in link happening) → n ≤ now
      of_sent sent n bears (inl before) = let less = below.sent sent n before bears in omega (arith, less, grows)
      of_sent sent n bears (inr new) = spent n (gone.sent sent n new bears)

next_is_octet : (past : List Effect) → next_number past ≤ 255
next_is_octet past = omega arith

none_below : (bound link : ℕ) → Below bound link []
none_below bound link = record { rows = λ kind n bears. absurd (empty kind n bears); sent = λ sent n among bears. absurd among }
  where
    empty : (kind : Kind) (n : ℕ) → RowBears n (row_in kind (table_at [])) → ⊥
    empty Demand n bears = bears
    empty Periodic n bears = bears
    empty Event n bears = bears
    empty Emergency n bears = bears

-- All numbers are octets.
pub below_255 : (order : List ℕ) (setting : Setting) (number link : ℕ) (log : List Happening) → AreDeeds order setting number log → Below 255 link log
below_255 order setting number link [] deeds = none_below 255 link
below_255 order setting number link (happening ∷ log) deeds =
    at (to_centre Any link log order setting deeds.0 happening deeds.3 (any_good link log happening)) (below_255 order setting (bound_before deeds.0 happening) link log deeds.4)
  where
    at : IsToCentre Any link log happening → Below 255 link log → Below 255 link (happening ∷ log)
    at (asks line request is ask) below =
        subst (λ h. Below 255 link (h ∷ log)) (sym is)
        (below_asked 255 255 link log below (omega arith) line request ask (let few = next_is_octet (effects (history link log)) in let same = ask.number in omega (arith, few, same)))
    at (goes gone) below = below_gone 255 255 link log below (omega arith) Any happening gone

-- ---- how many requests were sent

cancel_counts : (kind : Kind) (request : Option Message) (past : List Effect) → request_count (effect_of_cancelling kind request ∷ past) ≡ request_count past
cancel_counts kind None past = refl
cancel_counts kind (Some request) past = refl

taking_counts : (kind : Option Kind) (answer : AnswerKind) (past : List Effect) → request_count (effect_of_taking kind answer ∷ past) ≡ request_count past
taking_counts None answer past = refl
taking_counts (Some kind) answer past = refl

answer_counts : (answer : Option ItemAnswer) (table : CentreTable) (past : List Effect) → request_count (effect_of_answer answer table ∷ past) ≡ request_count past
answer_counts None table past = refl
answer_counts (Some answer) table past = taking_counts (taker answer.number table) answer.kind past

items_count : (items : List ItemData) (w : List CentreEvent) → request_count (effects (with_items items w)) ≡ request_count (effects w)
items_count [] w = refl
items_count (item ∷ items) w =
    items_count items (HearsItem item ∷ w) ∙ answer_counts (answer_in item) (table_behind (effects w)) (effects w)

heard_counts : (hearing : Hearing) (w : List CentreEvent) → request_count (effects (with_heard hearing w)) ≡ request_count (effects w)
heard_counts (Ignores why) w = refl
heard_counts (Greets contact) w = refl
heard_counts (Tells items) w = items_count items w

cancelled_counts : (cancel : Cancel) (w : List CentreEvent) → request_count (effects (with_cancel cancel w)) ≡ request_count (effects w)
cancelled_counts (Of kind) w = cancel_counts kind (request_to_cancel (row_in kind (table_at w))) (effects w)
cancelled_counts EmergencyMode w = refl
cancelled_counts All w = refl

-- A centre sent as many requests as it asked.
pub requests_counted : (order : List ℕ) (setting : Setting) (number link : ℕ) (log : List Happening) → AreDeeds order setting number log
    → request_count (effects (history link log)) ≡ ask_count link log
requests_counted order setting number link [] deeds = refl
requests_counted order setting number link (happening ∷ log) deeds =
    at happening deeds.3 (requests_counted order setting (bound_before deeds.0 happening) link log deeds.4)
  where
    asked : (other line : ℕ) (request : Message) (own : Bool) → (link == other) ≡ own → IsDeed order setting deeds.0 log (Asked line other request)
        → request_count (effects (history link log)) ≡ ask_count link log
        → request_count (effects (cond own (Asks request ∷ history link log) (history link log))) ≡ cond own 1 0 + ask_count link log
    asked other line request false is deed before = before ∙ sym (omega arith)
    asked other line request true is deed before =
        let ask = is_ask setting log link request (subst (λ l. MadeAsk setting log l request) (sym (eqb-true link other is)) deed.1) in
        let one : request_count (effects (Asks request ∷ history link log)) ≡ request_count (effects (history link log)) + 1 =
        ap (λ e. request_count (e ∷ effects (history link log))) ask.effect in
        omega (arith, one, before)

    unchanged : (now : List CentreEvent) (own : Bool) → request_count (effects now) ≡ request_count (effects (history link log))
        → request_count (effects (history link log)) ≡ ask_count link log → request_count (effects (cond own now (history link log))) ≡ ask_count link log
    unchanged now true counts before = counts ∙ before
    unchanged now false counts before = before

    at : (h : Happening) → IsDeed order setting deeds.0 log h → request_count (effects (history link log)) ≡ ask_count link log
        → request_count (effects (history link (h ∷ log))) ≡ ask_count link (h ∷ log)
    at (Entered made) deed before = before
    at (Refused refused) deed before = before
    at (Brought other place made) deed before = before
    at (Asked line other request) deed before = asked other line request (link == other) refl deed before
    at (Cancelled line other cancel sent) deed before =
        unchanged (with_cancel cancel (history link log)) (link == other) (cancelled_counts cancel (history link log)) before
    at (Heard line other place hearing) deed before =
        unchanged (with_heard hearing (history link log)) (link == other) (heard_counts hearing (history link log)) before

-- No number is above how often the centre asked.
pub below_count : (order : List ℕ) (setting : Setting) (number link : ℕ) (log : List Happening) → AreDeeds order setting number log
    → Below (ask_count link log) link log
below_count order setting number link [] deeds = none_below 0 link
below_count order setting number link (happening ∷ log) deeds =
    at (to_centre Any link log order setting deeds.0 happening deeds.3 (any_good link log happening)) (below_count order setting (bound_before deeds.0 happening) link log deeds.4)
  where
    at : IsToCentre Any link log happening → Below (ask_count link log) link log → Below (ask_count link (happening ∷ log)) link (happening ∷ log)
    at (asks line request is ask) below =
        subst (λ h. Below (ask_count link (h ∷ log)) link (h ∷ log)) (sym is)
        (subst (λ n. Below n link (Asked line link request ∷ log)) (sym (ap (λ b. cond b 1 0 + ask_count link log) (eq-eqb link link refl)))
        (below_asked (ask_count link log) (1 + ask_count link log) link log below (omega arith) line request ask
        (let counted = requests_counted order setting (bound_before deeds.0 happening) link log deeds.4 in
        let same = ask.number in
        omega (arith, counted, same))))
    at (goes gone) below = below_gone (ask_count link log) (ask_count link (happening ∷ log)) link log below (more_asked happening) Any happening gone
      where
        more_asked : (h : Happening) → ask_count link log ≤ ask_count link (h ∷ log)
        more_asked (Asked line other request) = omega arith
        more_asked (Entered made) = omega arith
        more_asked (Refused refused) = omega arith
        more_asked (Cancelled line other cancel sent) = omega arith
        more_asked (Brought other place made) = omega arith
        more_asked (Heard line other place hearing) = omega arith
