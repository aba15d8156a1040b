-- Worked histories of a centre: the row of a kind after each event, the oldest event first.
use Rattle.std.specs.Prelude.{◌≡◌, ℕ, List, [], ◌∷◌, Option, Some, None, refl}
use Rattle.adsc_downlink.specs.Items.ItemData.{ack, nack, noncompliance, emergency_off}
use Rattle.adsc_requests.specs.declared.kind.Kind.{Kind}
use Rattle.adsc_requests.specs.declared.kind.Kind.TheVariants as kinds
use Rattle.adsc_requests.specs.declared.message.Message.{Message}
use Rattle.adsc_requests.specs.declared.message.Message.TheVariants.{Periodic}
use Rattle.centre_core.specs.Events.{CentreEvent, Asks, Cancels, CancelsAll, HearsContact, HearsItem}
use Rattle.centre_core.specs.Histories.{row_at}
use Rattle.centre_core.specs.declared.shown.Shown.{Shown}
use Rattle.centre_core.specs.declared.shown.Shown.TheVariants.{Nothing, Pending, Confirmed, Partial, Refused, Cancelling}

-- The row of a kind after each of these events, which follow a past.
abbrev pub rows_along : Kind → List CentreEvent → List CentreEvent → List Shown
rows_along kind past [] = []
rows_along kind past (event ∷ events) = row_at kind (event ∷ past) ∷ rows_along kind (event ∷ past) events

-- A periodic request of this number and interval, without groups.
abbrev pub request : ℕ → Option ℕ → Message
request n interval = Periodic n interval (record { m = None ∷ None ∷ None ∷ None ∷ None ∷ None ∷ []; six = refl }) None

-- A periodic request of 304 s, and a demand.
abbrev pub periodic : ℕ → Message
periodic n = request n (Some 0xa5)

abbrev pub demand : ℕ → Message
demand n = request n None

-- Asked, confirmed, cancelled. A request before the contact is refused, and so is a second one while the first is pending. Only
-- the answer of its number confirms it, and the answer to its cancel empties the row.
abbrev pub AskedConfirmedCancelled : Type 0
AskedConfirmedCancelled =
    rows_along kinds.Periodic []
    (Asks (periodic 0) ∷ HearsContact ∷ Asks (periodic 0) ∷ Asks (request 0 (Some 0x40)) ∷ HearsItem (ack 2) ∷ HearsItem (ack 1)
    ∷ Cancels kinds.Periodic ∷ Cancels kinds.Periodic ∷ HearsItem (ack 1) ∷ [])
    ≡ Nothing ∷ Nothing ∷ Pending (periodic 1) ∷ Pending (periodic 1) ∷ Pending (periodic 1) ∷ Confirmed (periodic 1)
    ∷ Cancelling (periodic 1) ∷ Cancelling (periodic 1) ∷ Nothing ∷ []

-- Refused and asked again. The answer to the first request doesn't answer the second, which has another number.
abbrev pub RefusedAskedAgain : Type 0
RefusedAskedAgain =
    rows_along kinds.Periodic []
    (HearsContact ∷ Asks (periodic 0) ∷ HearsItem (nack 1 6 0) ∷ Asks (periodic 0) ∷ HearsItem (ack 1) ∷ HearsItem (emergency_off 2)
    ∷ HearsItem (noncompliance 2) ∷ HearsItem (nack 2 6 0) ∷ [])
    ≡ Nothing ∷ Pending (periodic 1) ∷ Refused (periodic 1) 6 ∷ Pending (periodic 2) ∷ Pending (periodic 2) ∷ Pending (periodic 2)
    ∷ Partial (periodic 2) ∷ Partial (periodic 2) ∷ []

-- Two kinds. Each row takes the answer of its own number, and a cancel of all empties both.
abbrev pub two_kinds : List CentreEvent
two_kinds =
    HearsContact ∷ Asks (demand 0) ∷ Asks (periodic 0) ∷ HearsItem (ack 2) ∷ HearsItem (ack 1) ∷ CancelsAll ∷ HearsItem (ack 2) ∷ []

abbrev pub TwoKinds : Type 0
TwoKinds =
    (rows_along kinds.Demand [] two_kinds
    ≡ Nothing ∷ Pending (demand 1) ∷ Pending (demand 1) ∷ Pending (demand 1) ∷ Confirmed (demand 1) ∷ Nothing ∷ Nothing ∷ [])
    × (rows_along kinds.Periodic [] two_kinds
    ≡ Nothing ∷ Nothing ∷ Pending (periodic 2) ∷ Confirmed (periodic 2) ∷ Confirmed (periodic 2) ∷ Nothing ∷ Nothing ∷ [])
