-- When the quiet ends: by an ask, a cancel, and the items of a text.
use Rattle.std.proofs.Common.{◌≡◌, ℕ, Bool, true, false, not, ◌&&◌, ◌||◌, List, [], ◌∷◌, Option, Some, None, Ok, Err, if◌then◌else◌, option_map, find, refl, sym, ap, ◌∙◌, subst}
use Rattle.std.specs.Option.{option_or}
use Rattle.adsc_downlink.specs.Items.{ItemData}
use Rattle.adsc_requests.specs.Contents.{number_of}
use Rattle.adsc_requests.specs.Kind.{kind_in}
use Rattle.adsc_requests.specs.declared.kind.Kind.{Kind}
use Rattle.adsc_requests.specs.declared.kind.Kind.TheVariants.{Demand, Periodic, Event, Emergency}
use Rattle.adsc_requests.specs.declared.message.Message.{Message}
use Rattle.centre_core.specs.Answers.{answer_in}
use Rattle.centre_core.specs.Events.{CentreEvent, Asks, Cancels, HearsItem}
use Rattle.centre_core.specs.Heard.{with_items}
use Rattle.centre_core.specs.Histories.{effects, next_number_at, row_at, table_at}
use Rattle.centre_core.specs.Rows.{is_kind, same_kind}
use Rattle.centre_core.specs.Steps.{row_answered, with_effect}
use Rattle.centre_core.specs.Tables.{effect_of, effect_of_answer, effect_of_asking, effect_of_cancelling, effect_of_sending, effect_of_taking, is_number, kinds, number_cancelling, number_pending, number_to_cancel, request_or_refusal, request_to_cancel, row_in, taker, with_number}
use Rattle.centre_core.specs.declared.answer.AnswerKind.{AnswerKind}
use Rattle.centre_core.specs.declared.answer.AnswerKind.TheVariants.{Acknowledgement, Noncompliance, NegativeAcknowledgement}
use Rattle.centre_core.specs.declared.answer.ItemAnswer.{ItemAnswer}
use Rattle.centre_core.specs.declared.refusal.AskRefused.{AskRefused}
use Rattle.centre_core.specs.declared.shown.Shown.{Shown}
use Rattle.centre_core.specs.declared.shown.Shown.TheVariants as shown
use Rattle.centre_core.specs.declared.table.CentreTable.{CentreTable}
use Rattle.centre_core.proofs.NumberLaws.{kind_in-with_number}
use Rattle.centre_core.proofs.TableLaws.{row_in-table_behind, rows_go_on}
use Rattle.ground_rules.specs.Waiting.{tell_position, waits}
use Rattle.ground_rules.specs.Watching.{Making, WatchEvent, Happens, ends_quiet, events, items_in, quiet_since, sets_periodic, tells_position, time}

-- ---- asks and cancels

-- A request that is sent ends the quiet where it asks for a periodic contract.
pub asks_end : (request : Message) (w : List CentreEvent) (kind : Kind) → kind_in request ≡ Some kind
    → request_or_refusal request (next_number_at w) (table_at w) ≡ Ok (with_number (next_number_at w) request)
    → ends_quiet (Asks request) w ≡ is_kind Periodic (kind_in request)
asks_end request w kind is sent =
    ap (λ found. sets_periodic (effect_of_asking found request (next_number_at w) (table_at w))) is
    ∙ ap (λ answer. sets_periodic (effect_of_sending answer)) sent
    ∙ ap (is_kind Periodic) (kind_in-with_number (next_number_at w) request)

-- One that is refused doesn't.
pub refused_goes_on : (request : Message) (w : List CentreEvent) (kind : Kind) (why : AskRefused) → kind_in request ≡ Some kind
    → request_or_refusal request (next_number_at w) (table_at w) ≡ Err why → ends_quiet (Asks request) w ≡ false
refused_goes_on request w kind why is refused =
    ap (λ found. sets_periodic (effect_of_asking found request (next_number_at w) (table_at w))) is
    ∙ ap (λ answer. sets_periodic (effect_of_sending answer)) refused

-- A cancel that is sent ends the quiet where it is of the periodic contract, and one that is refused doesn't.
pub cancels_end : (kind : Kind) (w : List CentreEvent) (n : ℕ) → number_to_cancel (row_at kind w) ≡ Some n
    → ends_quiet (Cancels kind) w ≡ same_kind Periodic kind
cancels_end kind w n some =
    ap (λ row. sets_periodic (effect_of_cancelling kind (request_to_cancel row))) (row_in-table_behind kind (effects w)) ∙ found (request_to_cancel (row_at kind w)) some
  where
    found : (request : Option Message) → option_map number_of request ≡ Some n → sets_periodic (effect_of_cancelling kind request) ≡ same_kind Periodic kind
    found None none = cc
    found (Some request) is = refl

pub uncancelled_goes_on : (kind : Kind) (w : List CentreEvent) → number_to_cancel (row_at kind w) ≡ None → ends_quiet (Cancels kind) w ≡ false
uncancelled_goes_on kind w none =
    ap (λ row. sets_periodic (effect_of_cancelling kind (request_to_cancel row))) (row_in-table_behind kind (effects w)) ∙ found (request_to_cancel (row_at kind w)) none
  where
    found : (request : Option Message) → option_map number_of request ≡ None → sets_periodic (effect_of_cancelling kind request) ≡ false
    found None is = refl
    found (Some request) is = cc

-- ---- items

never_both : (b : Bool) → (b && not b) ≡ false
never_both true = refl
never_both false = refl

-- What one item makes of the periodic row: it gives it its state exactly where the row waited and doesn't any more, and a row that
-- doesn't wait goes on not waiting.
pub record Goes (ends : Bool) (old new : Shown) : Type 0 where
  pub sets : ends ≡ (waits old && not (waits new))
  pub rests : waits old ≡ false → waits new ≡ false

row_goes : (kind : AnswerKind) (row : Shown) → waits row ≡ true → Goes true row (row_answered kind row)
row_goes Acknowledgement (shown.Pending request) is = record { sets = refl; rests = λ none. refl }
row_goes Noncompliance (shown.Pending request) is = record { sets = refl; rests = λ none. refl }
row_goes (NegativeAcknowledgement reason) (shown.Pending request) is = record { sets = refl; rests = λ none. refl }
row_goes kind (shown.Cancelling request) is = record { sets = refl; rests = λ none. refl }
row_goes kind shown.Nothing is = cc
row_goes kind (shown.Confirmed request) is = cc
row_goes kind (shown.Partial request) is = cc
row_goes kind (shown.Refused request reason) is = cc

stays : (row : Shown) → Goes false row row
stays row = record { sets = sym (never_both (waits row)); rests = λ none. none }

taken_goes : (table : CentreTable) (found : Option Kind) (kind : AnswerKind) → (found ≡ Some Periodic → waits table.periodic ≡ true)
    → Goes (sets_periodic (effect_of_taking found kind)) table.periodic (with_effect (effect_of_taking found kind) table).periodic
taken_goes table None kind waited = stays table.periodic
taken_goes table (Some Demand) kind waited = stays table.periodic
taken_goes table (Some Event) kind waited = stays table.periodic
taken_goes table (Some Emergency) kind waited = stays table.periodic
taken_goes table (Some Periodic) kind waited = row_goes kind table.periodic (waited refl)

-- The periodic row takes an answer only where it waits.
find_holds : {A : Type 0} (p : A → Bool) (items : List A) (found : A) → find p items ≡ Some found → p found ≡ true
find_holds p [] found is = cc
find_holds {A} p (item ∷ items) found is = at (p item) refl is (find_holds p items found)
  where
    same : Some item ≡ Some found → item ≡ found
    same e = cc

    at : (b : Bool) → p item ≡ b → (if b then Some item else find p items) ≡ Some found → (find p items ≡ Some found → p found ≡ true) → p found ≡ true
    at true on e rest = ap p (sym (same e)) ∙ on
    at false off e rest = rest e

pending_waits : (n : ℕ) (row : Shown) → is_number n (number_pending row) ≡ true → waits row ≡ true
pending_waits n (shown.Pending request) is = refl
pending_waits n shown.Nothing is = cc
pending_waits n (shown.Confirmed request) is = cc
pending_waits n (shown.Partial request) is = cc
pending_waits n (shown.Refused request reason) is = cc
pending_waits n (shown.Cancelling request) is = cc

cancelling_waits : (n : ℕ) (row : Shown) → is_number n (number_cancelling row) ≡ true → waits row ≡ true
cancelling_waits n (shown.Cancelling request) is = refl
cancelling_waits n shown.Nothing is = cc
cancelling_waits n (shown.Pending request) is = cc
cancelling_waits n (shown.Confirmed request) is = cc
cancelling_waits n (shown.Partial request) is = cc
cancelling_waits n (shown.Refused request reason) is = cc

taker_waits : (n : ℕ) (table : CentreTable) → taker n table ≡ Some Periodic → waits table.periodic ≡ true
taker_waits n table is = at (find (λ kind. is_number n (number_pending (row_in kind table))) kinds) refl is
  where
    at : (first : Option Kind) → find (λ kind. is_number n (number_pending (row_in kind table))) kinds ≡ first
        → option_or first (find (λ kind. is_number n (number_cancelling (row_in kind table))) kinds) ≡ Some Periodic → waits table.periodic ≡ true
    at (Some kind) found same =
        pending_waits n table.periodic (find_holds (λ k. is_number n (number_pending (row_in k table))) kinds Periodic (found ∙ same))
    at None found same =
        cancelling_waits n table.periodic (find_holds (λ k. is_number n (number_cancelling (row_in k table))) kinds Periodic same)

answer_goes : (table : CentreTable) (answer : Option ItemAnswer)
    → Goes (sets_periodic (effect_of_answer answer table)) table.periodic (with_effect (effect_of_answer answer table) table).periodic
answer_goes table None = stays table.periodic
answer_goes table (Some answer) = taken_goes table (taker answer.number table) answer.kind (taker_waits answer.number table)

item_goes : (item : ItemData) (w : List CentreEvent)
    → Goes (sets_periodic (effect_of (HearsItem item) (next_number_at w) (table_at w))) (row_at Periodic w) (row_at Periodic (HearsItem item ∷ w))
item_goes item w =
    subst (λ row. Goes (sets_periodic (effect_of (HearsItem item) (next_number_at w) (table_at w))) (row_at Periodic w) row)
    (ap (λ (table : CentreTable). table.periodic) (sym (rows_go_on (HearsItem item) w))) (answer_goes (table_at w) (answer_in item))

-- What items make of a past: its history, its time, and since when it is quiet.
pub record ItemsHeard (making : Making) (items : List ItemData) (past : List WatchEvent) : Type 0 where
  pub history : events making (items_in items past) ≡ with_items items (events making past)
  pub now : time making (items_in items past) ≡ time making past
  pub since : quiet_since making (items_in items past)
      ≡ (if (waits (row_at Periodic (events making past)) && not (waits (row_at Periodic (with_items items (events making past))))) || tell_position items
      then time making past else quiet_since making past)
  pub rests : waits (row_at Periodic (events making past)) ≡ false → waits (row_at Periodic (with_items items (events making past))) ≡ false

joined : (told sets one two three any : Bool) (now quiet : ℕ) → sets ≡ (one && not two) → (one ≡ false → two ≡ false) → (two ≡ false → three ≡ false)
    → (if (two && not three) || any then now else (if told || sets then now else quiet)) ≡ (if (one && not three) || (told || any) then now else quiet)
joined told sets true true true true now quiet is first second = at told
  where
    at : (b : Bool) → now ≡ (if b || true then now else quiet)
    at true = refl
    at false = refl
joined true sets true true true false now quiet is first second = refl
joined false sets true true true false now quiet is first second = ap (λ b. if b then now else quiet) is
joined told sets true true false any now quiet is first second = refl
joined told sets true false true any now quiet is first second = let both : true ≡ false = second refl in cc
joined told sets true false false true now quiet is first second = refl
joined true sets true false false false now quiet is first second = refl
joined false sets true false false false now quiet is first second = ap (λ b. if b then now else quiet) is
joined told sets false true three any now quiet is first second = let both : true ≡ false = first refl in cc
joined told sets false false true any now quiet is first second = let both : true ≡ false = second refl in cc
joined true sets false false false true now quiet is first second = refl
joined false sets false false false true now quiet is first second = refl
joined true sets false false false false now quiet is first second = refl
joined false sets false false false false now quiet is first second = ap (λ b. if b then now else quiet) is

pub items_heard : (making : Making) (items : List ItemData) (past : List WatchEvent) → ItemsHeard making items past
items_heard making [] past = record {
  history = refl;
  now = refl;
  since = sym (ap (λ b. if b || false then time making past else quiet_since making past) (never_both (waits (row_at Periodic (events making past)))));
  rests = λ none. none;
}
items_heard making (item ∷ items) past =
    let now : List WatchEvent = Happens (HearsItem item) ∷ past in
    let first = item_goes item (events making past) in
    let others = items_heard making items now in
    record {
      history = others.history;
      now = others.now;
      since = others.since
          ∙ joined (tells_position (HearsItem item)) (sets_periodic (effect_of (HearsItem item) (next_number_at (events making past)) (table_at (events making past))))
          (waits (row_at Periodic (events making past))) (waits (row_at Periodic (HearsItem item ∷ events making past)))
          (waits (row_at Periodic (with_items items (HearsItem item ∷ events making past)))) (tell_position items)
          (time making past) (quiet_since making past) first.sets first.rests others.rests;
      rests = λ none. others.rests (first.rests none);
    }
