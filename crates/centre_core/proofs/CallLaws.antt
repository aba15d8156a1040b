-- What the calls of a centre answer, by the history that it stands for.
use Rattle.std.proofs.Common.{◌≡◌, ◌↔◌, ℕ, Bool, true, false, IsTrue, List, Option, Some, None, Result, Ok, Err, if◌then◌else◌, refl, sym, ap, ◌∙◌}
use Rattle.std.specs.Prelude.{IsSome}
use Rattle.adsc_requests.specs.Contents.{number_of}
use Rattle.adsc_requests.specs.Kind.{kind_in}
use Rattle.adsc_requests.specs.declared.kind.Kind.{Kind}
use Rattle.adsc_requests.specs.declared.message.Message.{Message}
use Rattle.centre_core.specs.Events.{CentreEvent}
use Rattle.centre_core.specs.Histories.{effects, next_number_at, row_at, row_for, table_at, was_contacted}
use Rattle.centre_core.specs.Steps.{number_after}
use Rattle.centre_core.specs.Tables.{request_or_refusal, number_pending, number_to_cancel, row_if, row_in, unless_waiting, with_number}
use Rattle.centre_core.specs.declared.refusal.AskRefused.{AskRefused}
use Rattle.centre_core.specs.declared.refusal.AskRefused.TheVariants.{NotLoggedOn, Waiting}
use Rattle.centre_core.specs.declared.table.CentreTable.{CentreTable}
use Rattle.centre_core.proofs.NumberLaws.{asked_numbered, logged_on_by_contact, next_number_after, number_of-with_number}
use Rattle.centre_core.proofs.TableLaws.{row_in-table_behind}

-- ---- rows

-- the row that is shown is the row
pub row_shown : (kind : Kind) (w : List CentreEvent) (table : CentreTable) → table ≡ table_at w → row_in kind table ≡ row_at kind w
row_shown kind w table stands = ap (row_in kind) stands ∙ row_in-table_behind kind (effects w)

-- ---- asks

-- the aircraft is logged on where it was contacted
contacted : (w : List CentreEvent) (table : CentreTable) → table ≡ table_at w → table.logged_on ≡ was_contacted w
contacted w table stands = ap (λ (t : CentreTable). t.logged_on) stands ∙ logged_on_by_contact w

some_kind : (kind : Option Kind) → IsSome kind → (found : Kind) × (kind ≡ Some found)
some_kind None some = absurd (cc)
some_kind (Some kind) some = (kind, refl)

-- the number of the request that is sent
pub number_sent : (w : List CentreEvent) (table : CentreTable) (request sent : Message) → table ≡ table_at w → IsSome (kind_in request)
    → request_or_refusal request (number_after table.last) table ≡ Ok sent → number_of sent ≡ next_number_at w
number_sent w table request sent stands some e =
    let kind = some_kind (kind_in request) some in
    ap number_of (asked_numbered request (number_after table.last) table sent e)
    ∙ number_of-with_number (number_after table.last) request kind.0 kind.1
    ∙ ap (λ (t : CentreTable). number_after t.last) stands ∙ next_number_after w

-- what a request is asked by, as plain parts
abbrev asked_of : Bool → Option ℕ → Message → Result Message AskRefused
asked_of on pending request = if on then unless_waiting pending request else Err NotLoggedOn

sent_on : (on : Bool) (pending : Option ℕ) (request sent : Message) → asked_of on pending request ≡ Ok sent → on ≡ true
sent_on true pending request sent e = refl
sent_on false pending request sent e = cc

refused_off : (on : Bool) (pending : Option ℕ) (request : Message) (refused : AskRefused) → asked_of on pending request ≡ Err refused
    → (refused ≡ NotLoggedOn) ↔ (on ≡ false)
refused_off true None request refused e = cc
refused_off true (Some n) request refused e = ((λ is. cc), (λ off. cc))
refused_off false pending request refused e = ((λ is. refl), (λ off. cc))

refused_waiting : (on : Bool) (pending : Option ℕ) (request : Message) (refused : AskRefused) (n : ℕ) → asked_of on pending request ≡ Err refused
    → (refused ≡ Waiting n) ↔ (IsTrue on × (pending ≡ Some n))
refused_waiting true None request refused n e = cc
refused_waiting true (Some m) request refused n e = ((λ is. (refl, cc)), (λ waits. let same : Some m ≡ Some n = waits.1 in cc))
refused_waiting false pending request refused n e = ((λ is. cc), (λ waits. let on : false ≡ true = waits.0 in cc))

-- a request is sent where the aircraft was contacted
pub sent_contacted : (w : List CentreEvent) (table : CentreTable) (request sent : Message) → table ≡ table_at w
    → request_or_refusal request (number_after table.last) table ≡ Ok sent → was_contacted w ≡ true
sent_contacted w table request sent stands e =
    sym (contacted w table stands)
    ∙ sent_on table.logged_on (number_pending (row_if (kind_in request) table)) (with_number (number_after table.last) request) sent e

-- a fact of two that are the same
along : (on same : Bool) → on ≡ same → (P : Type 0) → (P ↔ (on ≡ false)) → P ↔ (same ≡ false)
along on same is P iff = ((λ p. sym is ∙ iff.0 p), (λ off. iff.1 (is ∙ off)))

-- it is refused for want of a contact where there was none
pub refused_uncontacted : (w : List CentreEvent) (table : CentreTable) (request : Message) (refused : AskRefused) → table ≡ table_at w
    → request_or_refusal request (number_after table.last) table ≡ Err refused → (refused ≡ NotLoggedOn) ↔ (was_contacted w ≡ false)
refused_uncontacted w table request refused stands e =
    along table.logged_on (was_contacted w) (contacted w table stands) (refused ≡ NotLoggedOn)
    (refused_off table.logged_on (number_pending (row_if (kind_in request) table)) (with_number (number_after table.last) request) refused e)

-- and for a pending request of its number
pub refused_pending : (w : List CentreEvent) (table : CentreTable) (request : Message) (refused : AskRefused) (n : ℕ) → table ≡ table_at w
    → request_or_refusal request (number_after table.last) table ≡ Err refused
    → (refused ≡ Waiting n) ↔ (IsTrue (was_contacted w) × (number_pending (row_for request w) ≡ Some n))
refused_pending w table request refused n stands e =
    let on : table.logged_on ≡ was_contacted w = contacted w table stands in
    let row : number_pending (row_if (kind_in request) table) ≡ number_pending (row_for request w) = ap (λ (t : CentreTable). number_pending (row_if (kind_in request) t)) stands in
    let iff = refused_waiting table.logged_on (number_pending (row_if (kind_in request) table)) (with_number (number_after table.last) request) refused n e in
    ((λ is. let both = iff.0 is in (sym on ∙ both.0, sym row ∙ both.1)), (λ waits. iff.1 (on ∙ waits.0, row ∙ waits.1)))

-- a result with this refusal
pub refused_so : {T : Type 0} (result : Result T AskRefused) (refused why : AskRefused) (P : Type 0) → result ≡ Err refused → ((refused ≡ why) ↔ P)
    → (result ≡ Err why) ↔ P
refused_so result refused why P is iff = ((λ e. let same : Err refused ≡ Err why = sym is ∙ e in iff.0 (cc)), (λ p. is ∙ ap Err (iff.1 p)))

-- ---- cancels

-- the number of the contract that is cancelled
pub number_cancelled : (kind : Kind) (w : List CentreEvent) (table : CentreTable) (number : Option ℕ) → table ≡ table_at w
    → number ≡ number_to_cancel (row_in kind table) → number_to_cancel (row_at kind w) ≡ number
number_cancelled kind w table number stands e = ap number_to_cancel (sym (row_shown kind w table stands)) ∙ sym e
