-- The numbers of requests, and the logon, behind one effect more.
use Rattle.std.proofs.Common.{◌≡◌, ℕ, zero, suc, ◌+◌, ◌%◌, Bool, true, false, ◌||◌, List, [], ◌∷◌, Option, Some, None, Result, Ok, Err, if◌then◌else◌, refl, sym, ap, ◌∙◌, add-one, arith}
use Rattle.std.specs.List.{list_any}
use Rattle.adsc_requests.specs.Contents.{number_of}
use Rattle.adsc_requests.specs.Kind.{kind_in}
use Rattle.adsc_requests.specs.declared.kind.Kind.{Kind}
use Rattle.adsc_requests.specs.declared.message.Message.{Message}
use Rattle.adsc_requests.specs.declared.message.Message.TheVariants.{CancelAll, Cancel, CancelEmergency, Periodic, Event, Emergency}
use Rattle.centre_core.specs.Answers.{answer_in}
use Rattle.centre_core.specs.Events.{CentreEvent, Asks, Cancels, CancelsAll, HearsContact, HearsItem}
use Rattle.centre_core.specs.Histories.{effects, is_contact, is_logon, last_number, next_number, request_count, table_behind, was_contacted}
use Rattle.centre_core.specs.Rows.{Effect, RequestSent, CancelSent, CancelAllSent, LoggedOn, AnswerTaken, NothingDone}
use Rattle.centre_core.specs.Steps.{number_after}
use Rattle.centre_core.specs.Tables.{request_or_refusal, effect_of, effect_of_answer, effect_of_asking, effect_of_cancelling, effect_of_sending, effect_of_taking, number_pending, row_if, taker, unless_waiting, with_number, request_to_cancel, row_in}
use Rattle.centre_core.specs.declared.answer.ItemAnswer.{ItemAnswer}
use Rattle.centre_core.specs.declared.answer.AnswerKind.{AnswerKind}
use Rattle.centre_core.specs.declared.refusal.AskRefused.{AskRefused}
use Rattle.centre_core.specs.declared.refusal.AskRefused.TheVariants.{NotLoggedOn}
use Rattle.centre_core.specs.declared.table.CentreTable.{CentreTable}

-- ---- messages

-- a request bears the number that it is given
pub number_of-with_number : (n : ℕ) (request : Message) (kind : Kind) → kind_in request ≡ Some kind → number_of (with_number n request) ≡ n
number_of-with_number n CancelAll kind e = cc
number_of-with_number n (Cancel m) kind e = refl
number_of-with_number n (CancelEmergency m) kind e = refl
number_of-with_number n (Periodic m interval groups intent) kind e = refl
number_of-with_number n (Event m limits) kind e = refl
number_of-with_number n (Emergency m interval groups intent) kind e = refl

-- and asks for what it asked
pub kind_in-with_number : (n : ℕ) (request : Message) → kind_in (with_number n request) ≡ kind_in request
kind_in-with_number n CancelAll = refl
kind_in-with_number n (Cancel m) = refl
kind_in-with_number n (CancelEmergency m) = refl
kind_in-with_number n (Periodic m interval groups intent) = refl
kind_in-with_number n (Event m limits) = refl
kind_in-with_number n (Emergency m interval groups intent) = refl

-- the request that is sent is the one that was asked for, with its number
sent_numbered : (request : Message) (n : ℕ) (on : Bool) (pending : Option ℕ) (sent : Message)
    → ◌≡◌ {A = Result Message AskRefused} (if on then unless_waiting pending (with_number n request) else Err NotLoggedOn) (Ok sent)
    → sent ≡ with_number n request
sent_numbered request n true None sent e = cc
sent_numbered request n true (Some m) sent e = cc
sent_numbered request n false pending sent e = cc

pub asked_numbered : (request : Message) (n : ℕ) (table : CentreTable) (sent : Message) → request_or_refusal request n table ≡ Ok sent → sent ≡ with_number n request
asked_numbered request n table sent e = sent_numbered request n table.logged_on (number_pending (row_if (kind_in request) table)) sent e

-- ---- the count of requests

-- the number of the last of so many requests, or 0
number_of_last : ℕ → ℕ
number_of_last zero = 0
number_of_last (suc k) = k % 255 + 1

-- where an effect sends a request, that bears this number
abbrev pub BearsNumber : ℕ → Effect → Type 0
BearsNumber n (RequestSent request) = number_of request ≡ n
BearsNumber n effect = Unit {0}

-- the number after that of the last request is the next one
next_after : (count : ℕ) → number_after (number_of_last count) ≡ count % 255 + 1
unfolding number_of_last
next_after zero = refl
next_after (suc k) = omega arith

counted : (effect : Effect) (past : List Effect) → BearsNumber (next_number past) effect → last_number past ≡ number_of_last (request_count past)
    → last_number (effect ∷ past) ≡ number_of_last (request_count (effect ∷ past))
unfolding number_of_last
counted (RequestSent request) past bears before = bears ∙ sym (ap number_of_last (add-one (request_count past)))
counted (CancelSent kind) past bears before = before
counted CancelAllSent past bears before = before
counted LoggedOn past bears before = before
counted (AnswerTaken kind answer) past bears before = before
counted NothingDone past bears before = before

-- an event sends a request under the number that it is given, or none
bears_asked : (request : Message) (kind : Kind) (n : ℕ) (table : CentreTable) (result : Result Message AskRefused) → kind_in request ≡ Some kind
    → request_or_refusal request n table ≡ result → BearsNumber n (effect_of_sending result)
bears_asked request kind n table (Err refused) asks e = tt
bears_asked request kind n table (Ok sent) asks e = ap number_of (asked_numbered request n table sent e) ∙ number_of-with_number n request kind asks

bears_asking : (request : Message) (n : ℕ) (table : CentreTable) (kind : Option Kind) → kind_in request ≡ kind → BearsNumber n (effect_of_asking kind request n table)
bears_asking request n table None asks = tt
bears_asking request n table (Some kind) asks = bears_asked request kind n table (request_or_refusal request n table) asks refl

bears_cancelling : (n : ℕ) (kind : Kind) (request : Option Message) → BearsNumber n (effect_of_cancelling kind request)
bears_cancelling n kind None = tt
bears_cancelling n kind (Some request) = tt

bears_taking : (n : ℕ) (kind : Option Kind) (answer : AnswerKind) → BearsNumber n (effect_of_taking kind answer)
bears_taking n None answer = tt
bears_taking n (Some kind) answer = tt

bears_answer : (n : ℕ) (answer : Option ItemAnswer) (table : CentreTable) → BearsNumber n (effect_of_answer answer table)
bears_answer n None table = tt
bears_answer n (Some answer) table = bears_taking n (taker answer.number table) answer.kind

pub bears_number : (event : CentreEvent) (n : ℕ) (table : CentreTable) → BearsNumber n (effect_of event n table)
bears_number (Asks request) n table = bears_asking request n table (kind_in request) refl
bears_number (Cancels kind) n table = bears_cancelling n kind (request_to_cancel (row_in kind table))
bears_number CancelsAll n table = tt
bears_number HearsContact n table = tt
bears_number (HearsItem item) n table = bears_answer n (answer_in item) table

numbered : (w : List CentreEvent) → last_number (effects w) ≡ number_of_last (request_count (effects w))
unfolding number_of_last
numbered [] = refl
numbered (event ∷ w) =
    counted (effect_of event (next_number (effects w)) (table_behind (effects w))) (effects w)
    (bears_number event (next_number (effects w)) (table_behind (effects w))) (numbered w)

-- The next number at the end of a history is the one after the last.
pub next_number_after : (w : List CentreEvent) → number_after (last_number (effects w)) ≡ next_number (effects w)
next_number_after w = ap number_after (numbered w) ∙ next_after (request_count (effects w))

-- ---- the logon

-- a contact alone logs on
logon_sending : (result : Result Message AskRefused) → is_logon (effect_of_sending result) ≡ false
logon_sending (Ok request) = refl
logon_sending (Err refused) = refl

logon_asking : (kind : Option Kind) (request : Message) (n : ℕ) (table : CentreTable) → is_logon (effect_of_asking kind request n table) ≡ false
logon_asking None request n table = refl
logon_asking (Some kind) request n table = logon_sending (request_or_refusal request n table)

logon_cancelling : (kind : Kind) (request : Option Message) → is_logon (effect_of_cancelling kind request) ≡ false
logon_cancelling kind None = refl
logon_cancelling kind (Some request) = refl

logon_taking : (kind : Option Kind) (answer : AnswerKind) → is_logon (effect_of_taking kind answer) ≡ false
logon_taking None answer = refl
logon_taking (Some kind) answer = refl

logon_answer : (answer : Option ItemAnswer) (table : CentreTable) → is_logon (effect_of_answer answer table) ≡ false
logon_answer None table = refl
logon_answer (Some answer) table = logon_taking (taker answer.number table) answer.kind

logon_of : (event : CentreEvent) (n : ℕ) (table : CentreTable) → is_logon (effect_of event n table) ≡ is_contact event
logon_of (Asks request) n table = logon_asking (kind_in request) request n table
logon_of (Cancels kind) n table = logon_cancelling kind (request_to_cancel (row_in kind table))
logon_of CancelsAll n table = refl
logon_of HearsContact n table = refl
logon_of (HearsItem item) n table = logon_answer (answer_in item) table

-- The aircraft is logged on where a contact was heard.
pub logged_on_by_contact : (w : List CentreEvent) → list_any is_logon (effects w) ≡ was_contacted w
logged_on_by_contact [] = refl
logged_on_by_contact (event ∷ w) =
    ap (λ (b : Bool). b || list_any is_logon (effects w)) (logon_of event (next_number (effects w)) (table_behind (effects w)))
    ∙ ap (λ (b : Bool). is_contact event || b) (logged_on_by_contact w)
