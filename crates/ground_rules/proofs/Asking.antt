-- What is sent when a centre asks, from what it answers.
use Rattle.std.proofs.Common.{◌≡◌, ◌↔◌, ℕ, Bool, true, false, IsTrue, List, Option, Some, None, Result, Ok, Err, inl, inr, if◌then◌else◌, refl, sym, ap, ◌∙◌}
use Rattle.std.proofs.lemmas.Bool.{cases_Bool}
use Rattle.adsc_requests.specs.declared.message.Message.{Message}
use Rattle.centre_core.specs.Events.{CentreEvent}
use Rattle.centre_core.specs.Histories.{next_number_at, row_for, table_at, was_contacted}
use Rattle.centre_core.specs.Tables.{number_pending, request_or_refusal, unless_waiting, with_number}
use Rattle.centre_core.specs.declared.refusal.AskRefused.{AskRefused}
use Rattle.centre_core.specs.declared.refusal.AskRefused.TheVariants.{NotLoggedOn, Waiting}
use Rattle.centre_core.proofs.NumberLaws.{logged_on_by_contact}

-- A request is sent where the centre was contacted and no request of the kind is pending.
pub ask_is_sent : (request : Message) (w : List CentreEvent) → (was_contacted w ≡ false → ⊥)
    → ((n : ℕ) → IsTrue (was_contacted w) × (number_pending (row_for request w) ≡ Some n) → ⊥)
    → request_or_refusal request (next_number_at w) (table_at w) ≡ Ok (with_number (next_number_at w) request)
ask_is_sent request w contacted free = elim (cases_Bool (was_contacted w)) [
  | inl on ↦ at on (number_pending (row_for request w)) refl
  | inr off ↦ absurd (contacted off)
]
  where
    sent : Message
    sent = with_number (next_number_at w) request

    at : was_contacted w ≡ true → (pending : Option ℕ) → number_pending (row_for request w) ≡ pending
        → request_or_refusal request (next_number_at w) (table_at w) ≡ Ok sent
    at on None none =
        ap (λ (b : Bool). if b then unless_waiting (number_pending (row_for request w)) sent else Err NotLoggedOn) (logged_on_by_contact w ∙ on)
        ∙ ap (λ pending. unless_waiting pending sent) none
    at on (Some n) some = absurd (free n (on, some))

-- It is refused where the centre wasn't contacted, or a request of the kind is pending.
pub ask_is_off : (request : Message) (w : List CentreEvent) → was_contacted w ≡ false
    → request_or_refusal request (next_number_at w) (table_at w) ≡ Err NotLoggedOn
ask_is_off request w off =
    ap (λ (b : Bool). if b then unless_waiting (number_pending (row_for request w)) (with_number (next_number_at w) request) else Err NotLoggedOn)
    (logged_on_by_contact w ∙ off)

pub ask_waits : (request : Message) (w : List CentreEvent) (n : ℕ) → was_contacted w ≡ true → number_pending (row_for request w) ≡ Some n
    → request_or_refusal request (next_number_at w) (table_at w) ≡ Err (Waiting n)
ask_waits request w n on pending =
    ap (λ (b : Bool). if b then unless_waiting (number_pending (row_for request w)) (with_number (next_number_at w) request) else Err NotLoggedOn)
    (logged_on_by_contact w ∙ on)
    ∙ ap (λ found. unless_waiting found (with_number (next_number_at w) request)) pending

-- What the centre answered is what is sent, or why it is refused.
pub ask_sent : {T : Type 0} (request : Message) (w : List CentreEvent) (result : Result T AskRefused) (value : T) → result ≡ Ok value
    → (result ≡ Err NotLoggedOn) ↔ (was_contacted w ≡ false)
    → ((n : ℕ) → (result ≡ Err (Waiting n)) ↔ (IsTrue (was_contacted w) × (number_pending (row_for request w) ≡ Some n)))
    → request_or_refusal request (next_number_at w) (table_at w) ≡ Ok (with_number (next_number_at w) request)
ask_sent {T} request w result value is off waiting =
    ask_is_sent request w (λ none. other NotLoggedOn (sym is ∙ off.1 none)) (λ n some. other (Waiting n) (sym is ∙ (waiting n).1 some))
  where
    other : (why : AskRefused) → ◌≡◌ {A = Result T AskRefused} (Ok value) (Err why) → ⊥
    other why both = cc

pub ask_refused : {T : Type 0} (request : Message) (w : List CentreEvent) (result : Result T AskRefused) (why : AskRefused) → result ≡ Err why
    → (result ≡ Err NotLoggedOn) ↔ (was_contacted w ≡ false)
    → ((n : ℕ) → (result ≡ Err (Waiting n)) ↔ (IsTrue (was_contacted w) × (number_pending (row_for request w) ≡ Some n)))
    → request_or_refusal request (next_number_at w) (table_at w) ≡ Err why
ask_refused {T} request w result NotLoggedOn is off waiting = ask_is_off request w (off.0 is)
ask_refused {T} request w result (Waiting n) is off waiting = let why = (waiting n).0 is in ask_waits request w n why.0 why.1
