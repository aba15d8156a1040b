-- A centre's table: whether its aircraft is logged on, the number of its last request, and its four rows; and what comes of an
-- event, by the table before it (this project's profile).
use Rattle.std.specs.Prelude.{ℕ, Bool, false, ◌==◌, List, [], ◌∷◌, find, Option, Some, None, is_some, option_map, Result, Ok, Err, if◌then◌else◌}
use Rattle.std.specs.Option.{option_or}
use Rattle.adsc_downlink.specs.Items.{ItemData}
use Rattle.adsc_requests.specs.Contents.{number_of}
use Rattle.adsc_requests.specs.Kind.{kind_in}
use Rattle.adsc_requests.specs.declared.kind.Kind.{Kind}
use Rattle.adsc_requests.specs.declared.kind.Kind.TheVariants.{Demand, Periodic, Event, Emergency}
use Rattle.adsc_requests.specs.declared.message.Message.{Message}
use Rattle.adsc_requests.specs.declared.message.Message.TheVariants as message
use Rattle.centre_core.specs.Answers.{answer_in}
use Rattle.centre_core.specs.Events.{CentreEvent, Asks, Cancels, CancelsAll, HearsContact, HearsItem}
use Rattle.centre_core.specs.Rows.{Effect, RequestSent, CancelSent, CancelAllSent, LoggedOn, AnswerTaken, NothingDone}
use Rattle.centre_core.specs.declared.answer.ItemAnswer.{ItemAnswer}
use Rattle.centre_core.specs.declared.answer.AnswerKind.{AnswerKind}
use Rattle.centre_core.specs.declared.refusal.AskRefused.{AskRefused}
use Rattle.centre_core.specs.declared.refusal.AskRefused.TheVariants.{NotLoggedOn, Waiting}
use Rattle.centre_core.specs.declared.shown.Shown.{Shown}
use Rattle.centre_core.specs.declared.shown.Shown.TheVariants as shown
use Rattle.centre_core.specs.declared.table.CentreTable.{CentreTable}

-- ---- rows

-- The row of a kind in a table.
abbrev pub row_in : Kind → CentreTable → Shown
row_in Demand table = table.demand
row_in Periodic table = table.periodic
row_in Event table = table.event
row_in Emergency table = table.emergency

-- The row of a kind, if there is one; else nothing is shown.
abbrev pub row_if : Option Kind → CentreTable → Shown
row_if None table = shown.Nothing
row_if (Some kind) table = row_in kind table

-- The number under which a row is pending, if it is pending.
abbrev pub number_pending : Shown → Option ℕ
number_pending (shown.Pending request) = Some (number_of request)
number_pending row = None

-- The number under which a row is cancelling, if it is cancelling.
abbrev pub number_cancelling : Shown → Option ℕ
number_cancelling (shown.Cancelling request) = Some (number_of request)
number_cancelling row = None

-- The request that a cancel would end: that of a row that is pending, confirmed or partial.
abbrev pub request_to_cancel : Shown → Option Message
request_to_cancel (shown.Pending request) = Some request
request_to_cancel (shown.Confirmed request) = Some request
request_to_cancel (shown.Partial request) = Some request
request_to_cancel row = None

-- The number of that request.
abbrev pub number_to_cancel : Shown → Option ℕ
number_to_cancel row = option_map number_of (request_to_cancel row)

-- The number that a cancel of emergency mode bears, by the emergency row: that of a confirmed or a partial contract, else 0.
abbrev pub mode_cancel_number : Shown → ℕ
mode_cancel_number (shown.Confirmed request) = number_of request
mode_cancel_number (shown.Partial request) = number_of request
mode_cancel_number row = 0

-- ---- who takes an answer

-- The kinds, in the order in which their rows take an answer.
abbrev pub kinds : List Kind
kinds = Demand ∷ Periodic ∷ Event ∷ Emergency ∷ []

-- Whether this is the number, if there is one.
abbrev pub is_number : ℕ → Option ℕ → Bool
is_number n None = false
is_number n (Some other) = other == n

-- The row that takes an answer of a number: the first that is pending under it, or else the first that is cancelling under it.
abbrev pub taker : ℕ → CentreTable → Option Kind
taker n table =
    option_or (find (λ kind. is_number n (number_pending (row_in kind table))) kinds)
    (find (λ kind. is_number n (number_cancelling (row_in kind table))) kinds)

-- Whether some row takes the answer, if there is one.
abbrev pub is_answer_taken : Option ItemAnswer → CentreTable → Bool
is_answer_taken None table = false
is_answer_taken (Some answer) table = is_some (taker answer.number table)

-- Whether some row takes the answer that an item is.
abbrev pub is_taken : ItemData → CentreTable → Bool
is_taken item table = is_answer_taken (answer_in item) table

-- ---- what comes of an event

-- The message with this number; a cancel of all has none.
abbrev pub with_number : ℕ → Message → Message
with_number n message.CancelAll = message.CancelAll
with_number n (message.Cancel m) = message.Cancel n
with_number n (message.CancelEmergency m) = message.CancelEmergency n
with_number n (message.Periodic m interval groups intent) = message.Periodic n interval groups intent
with_number n (message.Event m limits) = message.Event n limits
with_number n (message.Emergency m interval groups intent) = message.Emergency n interval groups intent

-- The request, unless one of its kind is pending: then the refusal names the number of that one.
abbrev pub unless_waiting : Option ℕ → Message → Result Message AskRefused
unless_waiting None request = Ok request
unless_waiting (Some n) request = Err (Waiting n)

-- What is sent where the centre asks by this request and this is the next number: the request with the number, or a refusal,
-- where the aircraft isn't logged on or a request of the kind is pending.
abbrev pub request_or_refusal : Message → ℕ → CentreTable → Result Message AskRefused
request_or_refusal request number table =
    if table.logged_on then unless_waiting (number_pending (row_if (kind_in request) table)) (with_number number request)
    else Err NotLoggedOn

-- What is refused has no effect.
abbrev pub effect_of_sending : Result Message AskRefused → Effect
effect_of_sending (Ok request) = RequestSent request
effect_of_sending (Err refused) = NothingDone

-- A request is sent or refused; a cancel asks for nothing.
abbrev pub effect_of_asking : Option Kind → Message → ℕ → CentreTable → Effect
effect_of_asking None request number table = NothingDone
effect_of_asking (Some kind) request number table = effect_of_sending (request_or_refusal request number table)

-- A cancel of a kind is sent where there is a request to cancel, and else refused.
abbrev pub effect_of_cancelling : Kind → Option Message → Effect
effect_of_cancelling kind None = NothingDone
effect_of_cancelling kind (Some request) = CancelSent kind

-- An answer that no row takes has no effect.
abbrev pub effect_of_taking : Option Kind → AnswerKind → Effect
effect_of_taking None answer = NothingDone
effect_of_taking (Some kind) answer = AnswerTaken kind answer

-- An answer is taken by the row that takes its number.
abbrev pub effect_of_answer : Option ItemAnswer → CentreTable → Effect
effect_of_answer None table = NothingDone
effect_of_answer (Some answer) table = effect_of_taking (taker answer.number table) answer.kind

-- What comes of an event, by the number of the next request and the table before the event.
abbrev pub effect_of : CentreEvent → ℕ → CentreTable → Effect
effect_of (Asks request) number table = effect_of_asking (kind_in request) request number table
effect_of (Cancels kind) number table = effect_of_cancelling kind (request_to_cancel (row_in kind table))
effect_of CancelsAll number table = CancelAllSent
effect_of HearsContact number table = LoggedOn
effect_of (HearsItem item) number table = effect_of_answer (answer_in item) table
