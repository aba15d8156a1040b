-- One effect more: how a row that looks back follows from the row before.
use Rattle.std.proofs.Common.{◌≡◌, Bool, true, false, not, ◌&&◌, cond, List, [], ◌∷◌, Option, Some, None, is_some, if◌then◌else◌, refl, ap, ◌∙◌}
use Rattle.std.specs.Option.{option_or}
use Rattle.adsc_requests.specs.Kind.{kind_in}
use Rattle.adsc_requests.specs.declared.kind.Kind.{Kind}
use Rattle.adsc_requests.specs.declared.kind.Kind.TheVariants.{Demand, Periodic, Event, Emergency}
use Rattle.adsc_requests.specs.declared.message.Message.{Message}
use Rattle.centre_core.specs.Rows.{Effect, RequestSent, CancelSent, CancelAllSent, AnswerTaken, answer_taken, answered_row, cancelled_row, first_answer, is_cancel_of, is_cancel_of_all, is_kind, is_uncancelled, request_sent, request_standing, row_behind, row_since, same_kind, since_cancel, since_request}
use Rattle.centre_core.specs.Steps.{row_answered, row_cancelled}
use Rattle.centre_core.specs.Tables.{request_to_cancel}
use Rattle.centre_core.specs.declared.answer.AnswerKind.{AnswerKind}
use Rattle.centre_core.specs.declared.answer.AnswerKind.TheVariants.{Acknowledgement, Noncompliance, NegativeAcknowledgement}
use Rattle.centre_core.specs.declared.shown.Shown.TheVariants as shown
use Rattle.contract_rules.proofs.LinkSteps.{or_none}
use Rattle.centre_core.proofs.StandingLaws.{standing_begun, standing_ended, standing_kept}

pub same_kind_self : (kind : Kind) → same_kind kind kind ≡ true
same_kind_self Demand = refl
same_kind_self Periodic = refl
same_kind_self Event = refl
same_kind_self Emergency = refl

-- ---- an effect that passes a row by

-- the effect neither begins this row, nor ends it, nor is an answer that it takes
pub record PassesBy (kind : Kind) (effect : Effect) : Type 0 where
  pub sent : request_sent kind effect ≡ None
  pub all : is_cancel_of_all effect ≡ false
  pub cancel : is_cancel_of kind effect ≡ false
  pub answer : answer_taken kind effect ≡ None

-- the row of a request, where one such effect more followed it
passed_since : (kind : Kind) (effect : Effect) (request : Option Message) (since : List Effect) → is_cancel_of kind effect ≡ false
    → answer_taken kind effect ≡ None → row_since kind request (effect ∷ since) ≡ row_since kind request since
passed_since kind effect None since cancel answer = refl
passed_since kind effect (Some request) since cancel answer =
    let first = first_answer kind since in
    let rest = since_cancel kind since in
    ap (λ (c : Bool). if (not c && is_uncancelled kind since) then answered_row request (option_or first (answer_taken kind effect)) else cancelled_row request (first_answer kind (cond c [] (effect ∷ rest)))) cancel
    ∙ ap (λ (a : Option AnswerKind). if is_uncancelled kind since then answered_row request (option_or first a) else cancelled_row request (option_or (first_answer kind rest) a)) answer
    ∙ ap (λ (a : Option AnswerKind). if is_uncancelled kind since then answered_row request a else cancelled_row request (option_or (first_answer kind rest) None)) (or_none first)
    ∙ ap (λ (a : Option AnswerKind). if is_uncancelled kind since then answered_row request first else cancelled_row request a) (or_none (first_answer kind rest))

-- the row by what stands and what followed it
row_same : (kind : Kind) (effect : Effect) (past : List Effect) (standing : Option Message) (since : List Effect)
    → request_standing kind (effect ∷ past) ≡ standing → since_request kind (effect ∷ past) ≡ since
    → row_behind kind (effect ∷ past) ≡ row_since kind standing since
row_same kind effect past standing since stands follows i = row_since kind (stands i) (follows i)

-- what followed a request, behind an effect that sends none
since_more : (kind : Kind) (effect : Effect) (past : List Effect) → request_sent kind effect ≡ None
    → since_request kind (effect ∷ past) ≡ effect ∷ since_request kind past
since_more kind effect past none = ap (λ (s : Option Message). cond (is_some s) [] (effect ∷ since_request kind past)) none

pub row_passed : (kind : Kind) (effect : Effect) (past : List Effect) → PassesBy kind effect → row_behind kind (effect ∷ past) ≡ row_behind kind past
row_passed kind effect past passes =
    row_same kind effect past (request_standing kind past) (effect ∷ since_request kind past)
    (standing_kept (request_sent kind) (λ _ other. is_cancel_of_all other) effect past passes.sent (λ request. passes.all))
    (since_more kind effect past passes.sent)
    ∙ passed_since kind effect (request_standing kind past) (since_request kind past) passes.cancel passes.answer

-- ---- an effect that a row feels

-- a request of the kind is pending
pub row_requested : (kind : Kind) (request : Message) (past : List Effect) → is_kind kind (kind_in request) ≡ true
    → row_behind kind (RequestSent request ∷ past) ≡ shown.Pending request
row_requested kind request past asks =
    let sent : request_sent kind (RequestSent request) ≡ Some request = ap (λ (b : Bool). if b then Some request else None) asks in
    row_same kind (RequestSent request) past (Some request) []
    (standing_begun (request_sent kind) (λ _ other. is_cancel_of_all other) (RequestSent request) past request sent)
    (ap (λ (s : Option Message). cond (is_some s) [] (RequestSent request ∷ since_request kind past)) sent)

-- a cancel of all leaves nothing
pub row_ended : (kind : Kind) (past : List Effect) → row_behind kind (CancelAllSent ∷ past) ≡ shown.Nothing
row_ended kind past =
    row_same kind CancelAllSent past None (CancelAllSent ∷ since_request kind past)
    (standing_ended (request_sent kind) (λ _ other. is_cancel_of_all other) CancelAllSent past refl (λ request. refl)) refl

-- where a row has a request to cancel, it is cancelling under its cancel
cancelling : (request found : Message) (uncancelled : Bool) (first after : Option AnswerKind)
    → request_to_cancel (if uncancelled then answered_row request first else cancelled_row request after) ≡ Some found
    → shown.Cancelling request ≡ row_cancelled (if uncancelled then answered_row request first else cancelled_row request after)
cancelling request found true None after e = refl
cancelling request found true (Some Acknowledgement) after e = refl
cancelling request found true (Some Noncompliance) after e = refl
cancelling request found true (Some (NegativeAcknowledgement reason)) after e = cc
cancelling request found false first None e = cc
cancelling request found false first (Some answer) e = cc

cancelled_since : (kind : Kind) (request : Option Message) (found : Message) (since : List Effect)
    → request_to_cancel (row_since kind request since) ≡ Some found
    → row_since kind request (CancelSent kind ∷ since) ≡ row_cancelled (row_since kind request since)
cancelled_since kind None found since e = refl
cancelled_since kind (Some request) found since e =
    let first = first_answer kind since in
    let rest = since_cancel kind since in
    ap (λ (c : Bool). if (not c && is_uncancelled kind since) then answered_row request (option_or first None) else cancelled_row request (first_answer kind (cond c [] (CancelSent kind ∷ rest)))) (same_kind_self kind)
    ∙ cancelling request found (is_uncancelled kind since) first (first_answer kind rest) e

pub row_ends : (kind : Kind) (found : Message) (past : List Effect) → request_to_cancel (row_behind kind past) ≡ Some found
    → row_behind kind (CancelSent kind ∷ past) ≡ row_cancelled (row_behind kind past)
row_ends kind found past e =
    row_same kind (CancelSent kind) past (request_standing kind past) (CancelSent kind ∷ since_request kind past)
    (standing_kept (request_sent kind) (λ _ other. is_cancel_of_all other) (CancelSent kind) past refl (λ request. refl)) refl
    ∙ cancelled_since kind (request_standing kind past) found (since_request kind past) e

-- a row takes its first answer, before and after its cancel
answering : (request : Message) (answer : AnswerKind) (uncancelled : Bool) (first after : Option AnswerKind)
    → (if uncancelled then answered_row request (option_or first (Some answer)) else cancelled_row request (option_or after (Some answer)))
    ≡ row_answered answer (if uncancelled then answered_row request first else cancelled_row request after)
answering request answer true None after = refl
answering request answer true (Some Acknowledgement) after = refl
answering request answer true (Some Noncompliance) after = refl
answering request answer true (Some (NegativeAcknowledgement reason)) after = refl
answering request answer false first None = refl
answering request answer false first (Some other) = refl

answered_since : (kind : Kind) (request : Option Message) (answer : AnswerKind) (since : List Effect)
    → row_since kind request (AnswerTaken kind answer ∷ since) ≡ row_answered answer (row_since kind request since)
answered_since kind None answer since = refl
answered_since kind (Some request) answer since =
    let first = first_answer kind since in
    let rest = since_cancel kind since in
    ap (λ (same : Bool). let taken : Option AnswerKind = if same then Some answer else None in if is_uncancelled kind since then answered_row request (option_or first taken) else cancelled_row request (option_or (first_answer kind rest) taken)) (same_kind_self kind)
    ∙ answering request answer (is_uncancelled kind since) first (first_answer kind rest)

pub row_takes : (kind : Kind) (answer : AnswerKind) (past : List Effect)
    → row_behind kind (AnswerTaken kind answer ∷ past) ≡ row_answered answer (row_behind kind past)
row_takes kind answer past =
    row_same kind (AnswerTaken kind answer) past (request_standing kind past) (AnswerTaken kind answer ∷ since_request kind past)
    (standing_kept (request_sent kind) (λ _ other. is_cancel_of_all other) (AnswerTaken kind answer) past refl (λ request. refl)) refl
    ∙ answered_since kind (request_standing kind past) answer (since_request kind past)
