-- Rows go on: the table at the end of a history, after one event more.
use Rattle.std.proofs.Common.{◌≡◌, ℕ, Bool, true, false, List, ◌∷◌, Option, Some, None, Result, Ok, Err, if◌then◌else◌, refl, sym, ap, ◌∙◌}
use Rattle.std.specs.List.{list_any}
use Rattle.adsc_requests.specs.Contents.{number_of}
use Rattle.adsc_requests.specs.Kind.{kind_in}
use Rattle.adsc_requests.specs.declared.kind.Kind.{Kind}
use Rattle.adsc_requests.specs.declared.kind.Kind.TheVariants.{Demand, Periodic, Event, Emergency}
use Rattle.adsc_requests.specs.declared.message.Message.{Message}
use Rattle.centre_core.specs.Answers.{answer_in}
use Rattle.centre_core.specs.Events.{CentreEvent, Asks, Cancels, CancelsAll, HearsContact, HearsItem}
use Rattle.centre_core.specs.Histories.{effects, is_logon, last_number, next_number, table_at, table_behind}
use Rattle.centre_core.specs.Rows.{Effect, RequestSent, CancelSent, CancelAllSent, LoggedOn, AnswerTaken, NothingDone, is_kind, row_behind, same_kind}
use Rattle.centre_core.specs.Steps.{row_answered, row_cancelled, table_after, with_effect, with_pending, with_row}
use Rattle.centre_core.specs.Tables.{request_or_refusal, effect_of, effect_of_answer, effect_of_asking, effect_of_cancelling, effect_of_sending, effect_of_taking, request_to_cancel, row_in, taker}
use Rattle.centre_core.specs.declared.answer.ItemAnswer.{ItemAnswer}
use Rattle.centre_core.specs.declared.answer.AnswerKind.{AnswerKind}
use Rattle.centre_core.specs.declared.refusal.AskRefused.{AskRefused}
use Rattle.centre_core.specs.declared.shown.Shown.{Shown}
use Rattle.centre_core.specs.declared.shown.Shown.TheVariants as shown
use Rattle.centre_core.specs.declared.table.CentreTable.{CentreTable}
use Rattle.centre_core.proofs.NumberLaws.{asked_numbered, kind_in-with_number, next_number_after}
use Rattle.centre_core.proofs.RowLaws.{PassesBy, row_ended, row_ends, row_passed, row_requested, row_takes, same_kind_self}

make_table : Bool → ℕ → Shown × Shown × Shown × Shown → CentreTable
make_table on last rows = record { logged_on = on; last = last; demand = rows.0; periodic = rows.1; event = rows.2; emergency = rows.3 }

-- tables with the same rows are the same
same_rows : (on : Bool) (last : ℕ) (a b : Shown × Shown × Shown × Shown) → a.0 ≡ b.0 → a.1 ≡ b.1 → a.2 ≡ b.2 → a.3 ≡ b.3
    → make_table on last a ≡ make_table on last b
same_rows on last a b demand periodic event emergency i = make_table on last (demand i, periodic i, event i, emergency i)

abbrev rows_of : CentreTable → Shown × Shown × Shown × Shown
rows_of table = (table.demand, table.periodic, table.event, table.emergency)

-- ---- effects that pass by

nothing_passes : (kind : Kind) → PassesBy kind NothingDone
nothing_passes kind = record { sent = refl; all = refl; cancel = refl; answer = refl }

logon_passes : (kind : Kind) → PassesBy kind LoggedOn
logon_passes kind = record { sent = refl; all = refl; cancel = refl; answer = refl }

request_passes : (kind other : Kind) (request : Message) → kind_in request ≡ Some other → is_kind kind (Some other) ≡ false → PassesBy kind (RequestSent request)
request_passes kind other request asks differs = record {
  sent = ap (λ (o : Option Kind). if is_kind kind o then Some request else None) asks ∙ ap (λ (b : Bool). if b then Some request else None) differs;
  all = refl;
  cancel = refl;
  answer = refl;
}

-- ---- each effect

after_nothing : (past : List Effect) → table_behind (NothingDone ∷ past) ≡ table_behind past
unfolding make_table
after_nothing past =
    same_rows (list_any is_logon past) (last_number past) (rows_of (table_behind (NothingDone ∷ past))) (rows_of (table_behind past))
    (row_passed Demand NothingDone past (nothing_passes Demand)) (row_passed Periodic NothingDone past (nothing_passes Periodic))
    (row_passed Event NothingDone past (nothing_passes Event)) (row_passed Emergency NothingDone past (nothing_passes Emergency))

after_logon : (past : List Effect) → table_behind (LoggedOn ∷ past) ≡ with_effect LoggedOn (table_behind past)
unfolding make_table
after_logon past =
    same_rows true (last_number past) (rows_of (table_behind (LoggedOn ∷ past))) (rows_of (table_behind past))
    (row_passed Demand LoggedOn past (logon_passes Demand)) (row_passed Periodic LoggedOn past (logon_passes Periodic))
    (row_passed Event LoggedOn past (logon_passes Event)) (row_passed Emergency LoggedOn past (logon_passes Emergency))

after_cancel_all : (past : List Effect) → table_behind (CancelAllSent ∷ past) ≡ with_effect CancelAllSent (table_behind past)
unfolding make_table
after_cancel_all past =
    same_rows (list_any is_logon past) (last_number past) (rows_of (table_behind (CancelAllSent ∷ past))) (rows_of (with_effect CancelAllSent (table_behind past)))
    (row_ended Demand past) (row_ended Periodic past) (row_ended Event past) (row_ended Emergency past)

-- An effect that one row feels, and that passes the others by.
after_one : (kind : Kind) (effect : Effect) (row : Shown) (past : List Effect) → row_behind kind (effect ∷ past) ≡ row
    → ((other : Kind) → same_kind other kind ≡ false → PassesBy other effect)
    → table_behind (effect ∷ past)
    ≡ with_row kind row (make_table (list_any is_logon (effect ∷ past)) (last_number (effect ∷ past)) (rows_of (table_behind past)))
unfolding make_table
after_one Demand effect row past here others =
    same_rows (list_any is_logon (effect ∷ past)) (last_number (effect ∷ past)) (rows_of (table_behind (effect ∷ past)))
    (row, row_behind Periodic past, row_behind Event past, row_behind Emergency past)
    here (row_passed Periodic effect past (others Periodic refl)) (row_passed Event effect past (others Event refl)) (row_passed Emergency effect past (others Emergency refl))
after_one Periodic effect row past here others =
    same_rows (list_any is_logon (effect ∷ past)) (last_number (effect ∷ past)) (rows_of (table_behind (effect ∷ past)))
    (row_behind Demand past, row, row_behind Event past, row_behind Emergency past)
    (row_passed Demand effect past (others Demand refl)) here (row_passed Event effect past (others Event refl)) (row_passed Emergency effect past (others Emergency refl))
after_one Event effect row past here others =
    same_rows (list_any is_logon (effect ∷ past)) (last_number (effect ∷ past)) (rows_of (table_behind (effect ∷ past)))
    (row_behind Demand past, row_behind Periodic past, row, row_behind Emergency past)
    (row_passed Demand effect past (others Demand refl)) (row_passed Periodic effect past (others Periodic refl)) here (row_passed Emergency effect past (others Emergency refl))
after_one Emergency effect row past here others =
    same_rows (list_any is_logon (effect ∷ past)) (last_number (effect ∷ past)) (rows_of (table_behind (effect ∷ past)))
    (row_behind Demand past, row_behind Periodic past, row_behind Event past, row)
    (row_passed Demand effect past (others Demand refl)) (row_passed Periodic effect past (others Periodic refl)) (row_passed Event effect past (others Event refl)) here

pub row_in-table_behind : (kind : Kind) (past : List Effect) → row_in kind (table_behind past) ≡ row_behind kind past
row_in-table_behind Demand past = refl
row_in-table_behind Periodic past = refl
row_in-table_behind Event past = refl
row_in-table_behind Emergency past = refl

after_answer : (kind : Kind) (answer : AnswerKind) (past : List Effect)
    → table_behind (AnswerTaken kind answer ∷ past) ≡ with_effect (AnswerTaken kind answer) (table_behind past)
unfolding make_table
after_answer kind answer past =
    after_one kind (AnswerTaken kind answer) (row_answered answer (row_behind kind past)) past (row_takes kind answer past)
    (λ other differs. record { sent = refl; all = refl; cancel = refl; answer = ap (λ (b : Bool). let taken : Option AnswerKind = if b then Some answer else None in taken) differs })
    ∙ ap (λ (row : Shown). with_row kind (row_answered answer row) (table_behind past)) (sym (row_in-table_behind kind past))

after_cancel : (kind : Kind) (found : Message) (past : List Effect) → request_to_cancel (row_in kind (table_behind past)) ≡ Some found
    → table_behind (CancelSent kind ∷ past) ≡ with_effect (CancelSent kind) (table_behind past)
unfolding make_table
after_cancel kind found past e =
    after_one kind (CancelSent kind) (row_cancelled (row_behind kind past)) past
    (row_ends kind found past (ap request_to_cancel (sym (row_in-table_behind kind past)) ∙ e))
    (λ other differs. record { sent = refl; all = refl; cancel = differs; answer = refl })
    ∙ ap (λ (row : Shown). with_row kind (row_cancelled row) (table_behind past)) (sym (row_in-table_behind kind past))

-- a table with another last number
with_last : ℕ → CentreTable → CentreTable
with_last n table = record table { last = n }

with_row_last : (kind : Kind) (row : Shown) (n : ℕ) (table : CentreTable) → with_row kind row (with_last n table) ≡ with_last n (with_row kind row table)
unfolding with_last
with_row_last Demand row n table = refl
with_row_last Periodic row n table = refl
with_row_last Event row n table = refl
with_row_last Emergency row n table = refl

after_request : (request : Message) (kind : Kind) (past : List Effect) → kind_in request ≡ Some kind
    → table_behind (RequestSent request ∷ past) ≡ with_effect (RequestSent request) (table_behind past)
unfolding make_table with_last
after_request request kind past asks =
    after_one kind (RequestSent request) (shown.Pending request) past (row_requested kind request past (ap (is_kind kind) asks ∙ same_kind_self kind))
    (λ other differs. request_passes other kind request asks differs)
    ∙ with_row_last kind (shown.Pending request) (number_of request) (table_behind past)
    ∙ ap (λ (o : Option Kind). with_last (number_of request) (with_pending o request (table_behind past))) (sym asks)

-- ---- each event

sent_goes_on : (request : Message) (kind : Kind) (n : ℕ) (past : List Effect) (result : Result Message AskRefused) → kind_in request ≡ Some kind
    → request_or_refusal request n (table_behind past) ≡ result
    → table_behind (effect_of_sending result ∷ past) ≡ with_effect (effect_of_sending result) (table_behind past)
sent_goes_on request kind n past (Err refused) asks e = after_nothing past
sent_goes_on request kind n past (Ok sent) asks e =
    after_request sent kind past (ap kind_in (asked_numbered request n (table_behind past) sent e) ∙ kind_in-with_number n request ∙ asks)

ask_goes_on : (request : Message) (kind : Option Kind) (n : ℕ) (past : List Effect) → kind_in request ≡ kind
    → table_behind (effect_of_asking kind request n (table_behind past) ∷ past) ≡ with_effect (effect_of_asking kind request n (table_behind past)) (table_behind past)
ask_goes_on request None n past asks = after_nothing past
ask_goes_on request (Some kind) n past asks = sent_goes_on request kind n past (request_or_refusal request n (table_behind past)) asks refl

cancel_goes_on : (kind : Kind) (request : Option Message) (past : List Effect) → request_to_cancel (row_in kind (table_behind past)) ≡ request
    → table_behind (effect_of_cancelling kind request ∷ past) ≡ with_effect (effect_of_cancelling kind request) (table_behind past)
cancel_goes_on kind None past e = after_nothing past
cancel_goes_on kind (Some found) past e = after_cancel kind found past e

taking_goes_on : (kind : Option Kind) (answer : AnswerKind) (past : List Effect)
    → table_behind (effect_of_taking kind answer ∷ past) ≡ with_effect (effect_of_taking kind answer) (table_behind past)
taking_goes_on None answer past = after_nothing past
taking_goes_on (Some kind) answer past = after_answer kind answer past

answer_goes_on : (answer : Option ItemAnswer) (past : List Effect)
    → table_behind (effect_of_answer answer (table_behind past) ∷ past) ≡ with_effect (effect_of_answer answer (table_behind past)) (table_behind past)
answer_goes_on None past = after_nothing past
answer_goes_on (Some answer) past = taking_goes_on (taker answer.number (table_behind past)) answer.kind past

goes_on : (event : CentreEvent) (n : ℕ) (past : List Effect)
    → table_behind (effect_of event n (table_behind past) ∷ past) ≡ with_effect (effect_of event n (table_behind past)) (table_behind past)
goes_on (Asks request) n past = ask_goes_on request (kind_in request) n past refl
goes_on (Cancels kind) n past = cancel_goes_on kind (request_to_cancel (row_in kind (table_behind past))) past refl
goes_on CancelsAll n past = after_cancel_all past
goes_on HearsContact n past = after_logon past
goes_on (HearsItem item) n past = answer_goes_on (answer_in item) past

-- The table at the end of a history with one event more is the table after that event.
pub rows_go_on : (event : CentreEvent) (w : List CentreEvent) → table_at (event ∷ w) ≡ table_after event (table_at w)
rows_go_on event w =
    goes_on event (next_number (effects w)) (effects w)
    ∙ ap (λ (n : ℕ). with_effect (effect_of event n (table_at w)) (table_at w)) (sym (next_number_after w))

-- A centre that stood for a history stands for it with the event.
pub stands_after : (event : CentreEvent) (w : List CentreEvent) (table : CentreTable) → table ≡ table_at w → table_after event table ≡ table_at (event ∷ w)
stands_after event w table stands = ap (table_after event) stands ∙ sym (rows_go_on event w)
