-- The row of a kind of contract at a centre: where the centre's last request of this kind stands (this project's profile). A row
-- looks back over what came of the events so far, of which the newest is the first, and stores nothing.
use Rattle.std.specs.Prelude.{Bool, true, false, List, [], ◌∷◌, Option, Some, None, is_some, if◌then◌else◌}
use Rattle.std.specs.Option.{option_or}
use Rattle.contract_rules.specs.LookingBack.{standing, after_last, none_such}
use Rattle.adsc_requests.specs.Kind.{kind_in}
use Rattle.adsc_requests.specs.declared.kind.Kind.{Kind}
use Rattle.adsc_requests.specs.declared.kind.Kind.TheVariants.{Demand, Periodic, Event, Emergency}
use Rattle.adsc_requests.specs.declared.message.Message.{Message}
use Rattle.centre_core.specs.declared.answer.AnswerKind.{AnswerKind}
use Rattle.centre_core.specs.declared.answer.AnswerKind.TheVariants.{Acknowledgement, Noncompliance, NegativeAcknowledgement}
use Rattle.centre_core.specs.declared.shown.Shown.{Shown}
use Rattle.centre_core.specs.declared.shown.Shown.TheVariants as shown

-- What comes of an event.
pub data Effect : Type 0 where
  -- this request is sent, with its number in it
  RequestSent : Message → Effect
  -- a cancel of the contract of this kind is sent
  CancelSent : Kind → Effect
  -- a cancel of all contracts is sent
  CancelAllSent : Effect
  -- the aircraft is logged on
  LoggedOn : Effect
  -- the row of this kind takes an answer
  AnswerTaken : Kind → AnswerKind → Effect
  -- nothing: the event was refused, or heard in vain
  NothingDone : Effect

-- Whether two kinds are the same.
abbrev pub same_kind : Kind → Kind → Bool
same_kind Demand Demand = true
same_kind Periodic Periodic = true
same_kind Event Event = true
same_kind Emergency Emergency = true
same_kind kind other = false

-- Whether this is the kind, if there is one.
abbrev pub is_kind : Kind → Option Kind → Bool
is_kind kind None = false
is_kind kind (Some other) = same_kind kind other

-- The request of this kind that an effect sends, if it sends one.
abbrev pub request_sent : Kind → Effect → Option Message
request_sent kind (RequestSent request) = if is_kind kind (kind_in request) then Some request else None
request_sent kind effect = None

-- Whether an effect sends a cancel of this kind.
abbrev pub is_cancel_of : Kind → Effect → Bool
is_cancel_of kind (CancelSent other) = same_kind kind other
is_cancel_of kind effect = false

-- Whether an effect sends a cancel of all.
abbrev pub is_cancel_of_all : Effect → Bool
is_cancel_of_all CancelAllSent = true
is_cancel_of_all effect = false

-- The answer that the row of this kind takes, if it takes one.
abbrev pub answer_taken : Kind → Effect → Option AnswerKind
answer_taken kind (AnswerTaken other answer) = if same_kind kind other then Some answer else None
answer_taken kind effect = None

-- ---- looking back

-- The last request of this kind, unless a cancel of all followed it.
abbrev pub request_standing : Kind → List Effect → Option Message
request_standing kind past = standing (request_sent kind) (λ _ effect. is_cancel_of_all effect) past

-- What followed the last request of this kind.
abbrev pub since_request : Kind → List Effect → List Effect
since_request kind past = after_last (λ effect _. is_some (request_sent kind effect)) past

-- What followed the last cancel of this kind.
abbrev pub since_cancel : Kind → List Effect → List Effect
since_cancel kind past = after_last (λ effect _. is_cancel_of kind effect) past

-- Whether there is no cancel of this kind.
abbrev pub is_uncancelled : Kind → List Effect → Bool
is_uncancelled kind past = none_such (λ effect _. is_cancel_of kind effect) past

-- The first answer that the row of this kind took, if it took one.
abbrev pub first_answer : Kind → List Effect → Option AnswerKind
first_answer kind [] = None
first_answer kind (effect ∷ past) = option_or (first_answer kind past) (answer_taken kind effect)

-- ---- the row

-- A request that wasn't cancelled is pending until its row takes an answer, and the first answer decides.
abbrev pub answered_row : Message → Option AnswerKind → Shown
answered_row request None = shown.Pending request
answered_row request (Some Acknowledgement) = shown.Confirmed request
answered_row request (Some Noncompliance) = shown.Partial request
answered_row request (Some (NegativeAcknowledgement reason)) = shown.Refused request reason

-- A request that was cancelled is cancelling until its row takes an answer.
abbrev pub cancelled_row : Message → Option AnswerKind → Shown
cancelled_row request None = shown.Cancelling request
cancelled_row request (Some answer) = shown.Nothing

-- The row of a request of this kind, by what followed it; without a request it shows nothing.
abbrev pub row_since : Kind → Option Message → List Effect → Shown
row_since kind None since = shown.Nothing
row_since kind (Some request) since =
    if is_uncancelled kind since then answered_row request (first_answer kind since)
    else cancelled_row request (first_answer kind (since_cancel kind since))

-- The row of a kind behind these effects.
abbrev pub row_behind : Kind → List Effect → Shown
row_behind kind past = row_since kind (request_standing kind past) (since_request kind past)
