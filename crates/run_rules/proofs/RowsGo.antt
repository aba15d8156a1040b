-- How the rows of a centre's table go on: what a row bears it bore before, and what is newly confirmed was confirmed by an item.
use Rattle.std.proofs.Common.{◌≡◌, ◌≢◌, ◌⊎◌, ℕ, Bool, true, false, cond, inl, inr, List, [], ◌∷◌, Option, Some, None, refl, sym, ap, ◌∙◌, subst}
use Rattle.std.specs.List.{find}
use Rattle.std.specs.Option.{option_or}
use Rattle.std.proofs.lemmas.Bool.{eqb-true}
use Rattle.adsc_downlink.specs.Items.{ItemData}
use Rattle.adsc_downlink.specs.Items.ItemData.{ack, nack, noncompliance, emergency_off, report}
use Rattle.adsc_requests.specs.Contents.{number_of}
use Rattle.adsc_requests.specs.Kind.{kind_in}
use Rattle.adsc_requests.specs.declared.kind.Kind.{Kind}
use Rattle.adsc_requests.specs.declared.kind.Kind.TheVariants.{Demand, Periodic, Event, Emergency}
use Rattle.adsc_requests.specs.declared.message.Message.{Message}
use Rattle.centre_core.specs.Events.{CentreEvent, Cancels, CancelsAll, HearsContact, HearsItem}
use Rattle.centre_core.specs.Heard.{with_items}
use Rattle.centre_core.specs.Histories.{table_at}
use Rattle.centre_core.specs.Rows.{RequestSent}
use Rattle.centre_core.specs.Steps.{row_answered, row_cancelled, table_after, with_effect, with_nothing, with_pending, with_row}
use Rattle.centre_core.specs.Tables.{effect_of_taking, effect_of_cancelling, is_number, kinds, number_cancelling, number_pending, request_to_cancel, row_in, taker}
use Rattle.centre_core.specs.declared.answer.AnswerKind.{AnswerKind}
use Rattle.centre_core.specs.declared.answer.AnswerKind.TheVariants.{Acknowledgement, Noncompliance, NegativeAcknowledgement}
use Rattle.centre_core.specs.declared.shown.Shown.{Shown}
use Rattle.centre_core.specs.declared.shown.Shown.TheVariants as shown
use Rattle.centre_core.specs.declared.table.CentreTable.{CentreTable}
use Rattle.centre_core.proofs.TableLaws.{rows_go_on}
use Rattle.run_rules.specs.Among.{IsAmong}
use Rattle.run_rules.specs.Claims.{RowBears}

-- ---- kinds

-- Two kinds are the same, or differ.
pub same_or_other : (kind other : Kind) → (kind ≡ other) ⊎ (kind ≢ other)
same_or_other Demand Demand = inl refl
same_or_other Demand Periodic = inr (λ e. cc)
same_or_other Demand Event = inr (λ e. cc)
same_or_other Demand Emergency = inr (λ e. cc)
same_or_other Periodic Demand = inr (λ e. cc)
same_or_other Periodic Periodic = inl refl
same_or_other Periodic Event = inr (λ e. cc)
same_or_other Periodic Emergency = inr (λ e. cc)
same_or_other Event Demand = inr (λ e. cc)
same_or_other Event Periodic = inr (λ e. cc)
same_or_other Event Event = inl refl
same_or_other Event Emergency = inr (λ e. cc)
same_or_other Emergency Demand = inr (λ e. cc)
same_or_other Emergency Periodic = inr (λ e. cc)
same_or_other Emergency Event = inr (λ e. cc)
same_or_other Emergency Emergency = inl refl

-- The row of the kind that is written, and those of the others.
pub row_written : (kind : Kind) (row : Shown) (table : CentreTable) → row_in kind (with_row kind row table) ≡ row
row_written Demand row table = refl
row_written Periodic row table = refl
row_written Event row table = refl
row_written Emergency row table = refl

-- The rows of other kinds stay.
pub row_besides : (kind other : Kind) (row : Shown) (table : CentreTable) → other ≢ kind → row_in other (with_row kind row table) ≡ row_in other table
row_besides Demand Demand row table differs = absurd (differs refl)
row_besides Demand Periodic row table differs = refl
row_besides Demand Event row table differs = refl
row_besides Demand Emergency row table differs = refl
row_besides Periodic Demand row table differs = refl
row_besides Periodic Periodic row table differs = absurd (differs refl)
row_besides Periodic Event row table differs = refl
row_besides Periodic Emergency row table differs = refl
row_besides Event Demand row table differs = refl
row_besides Event Periodic row table differs = refl
row_besides Event Event row table differs = absurd (differs refl)
row_besides Event Emergency row table differs = refl
row_besides Emergency Demand row table differs = refl
row_besides Emergency Periodic row table differs = refl
row_besides Emergency Event row table differs = refl
row_besides Emergency Emergency row table differs = absurd (differs refl)

-- ---- who takes an answer

-- The item confirms a request of this number: it acknowledges it, in full or in part.
abbrev pub Confirms : ℕ → ItemData → Type 0
Confirms n (ack m) = m ≡ n
Confirms n (noncompliance m) = m ≡ n
Confirms n item = ⊥

abbrev IsConfirming : AnswerKind → Type 0
IsConfirming Acknowledgement = Unit {0}
IsConfirming Noncompliance = Unit {0}
IsConfirming (NegativeAcknowledgement reason) = ⊥

found_passes : (test : Kind → Bool) (among : List Kind) (kind : Kind) → find test among ≡ Some kind → test kind ≡ true
found_passes test [] kind found = absurd (let none : None ≡ Some kind = found in cc)
found_passes test (first ∷ among) kind found = at (test first) refl (found_passes test among kind) found
  where
    at : (b : Bool) → test first ≡ b → (find test among ≡ Some kind → test kind ≡ true)
        → cond b (Some first) (find test among) ≡ Some kind → test kind ≡ true
    at true passes rest is = let same : first ≡ kind = cc in ap test (sym same) ∙ passes
    at false passes rest is = rest is

one_of_two : (a b : Option Kind) (kind : Kind) → option_or a b ≡ Some kind → (a ≡ Some kind) ⊎ (b ≡ Some kind)
one_of_two None b kind is = inr is
one_of_two (Some other) b kind is = inl is

-- A pending row that takes an answer bears its number.
taken_under : (n : ℕ) (table : CentreTable) (kind : Kind) (request : Message) → taker n table ≡ Some kind → row_in kind table ≡ shown.Pending request
    → number_of request ≡ n
taken_under n table kind request taken is =
    at (one_of_two (find pending kinds) (find cancelling kinds) kind taken)
  where
    pending : Kind → Bool
    pending k = is_number n (number_pending (row_in k table))

    cancelling : Kind → Bool
    cancelling k = is_number n (number_cancelling (row_in k table))

    at : (find pending kinds ≡ Some kind) ⊎ (find cancelling kinds ≡ Some kind) → number_of request ≡ n
    at (inl found) =
        eqb-true (number_of request) n (sym (ap (λ row. is_number n (number_pending row)) is) ∙ found_passes pending kinds kind found)
    at (inr found) =
        absurd (let never : false ≡ true = sym (ap (λ row. is_number n (number_cancelling row)) is) ∙ found_passes cancelling kinds kind found in cc)

-- ---- a row

-- Where the row shows these, it bears their numbers; it is pending where it was; and what it confirms it confirmed, or it is good.
pub record RowGoes (Good : Message → Type 0) (old new : Shown) : Type 0 where
  pub bears : (n : ℕ) → RowBears n new → RowBears n old
  pub pending : (request : Message) → new ≡ shown.Pending request → old ≡ shown.Pending request
  pub confirmed : (request : Message) → new ≡ shown.Confirmed request → (old ≡ shown.Confirmed request) ⊎ Good request
  pub partial : (request : Message) → new ≡ shown.Partial request → (old ≡ shown.Partial request) ⊎ Good request

-- Each row goes on so.
abbrev pub RowsGo : (Message → Type 0) → CentreTable → CentreTable → Type 0
RowsGo Good old new = (kind : Kind) → RowGoes Good (row_in kind old) (row_in kind new)

module _ (Good : Message → Type 0) where
  row_stays : (row : Shown) → RowGoes Good row row
  row_stays row = record { bears = λ n b. b; pending = λ request e. e; confirmed = λ request e. inl e; partial = λ request e. inl e }

  row_empties : (row : Shown) → RowGoes Good row shown.Nothing
  row_empties row = record {
    bears = λ n b. absurd b;
    pending = λ request e. absurd (cc);
    confirmed = λ request e. absurd (cc);
    partial = λ request e. absurd (cc);
  }

  -- A table that is the same goes on so.
  pub rows_stay : (table : CentreTable) → RowsGo Good table table
  rows_stay table kind = row_stays (row_in kind table)

  -- And one step may follow another.
  pub rows_then : (a b c : CentreTable) → RowsGo Good a b → RowsGo Good b c → RowsGo Good a c
  rows_then a b c first second kind = record {
    bears = λ n is. (first kind).bears n ((second kind).bears n is);
    pending = λ request is. (first kind).pending request ((second kind).pending request is);
    confirmed = λ request is. elim ((second kind).confirmed request is) [ inl was ↦ (first kind).confirmed request was | inr good ↦ inr good ];
    partial = λ request is. elim ((second kind).partial request is) [ inl was ↦ (first kind).partial request was | inr good ↦ inr good ];
  }

  -- A table with one row written, which goes on so.
  one_row : (kind : Kind) (row : Shown) (table : CentreTable) → RowGoes Good (row_in kind table) row → RowsGo Good table (with_row kind row table)
  one_row kind row table goes other = at (same_or_other other kind)
    where
      at : (other ≡ kind) ⊎ (other ≢ kind) → RowGoes Good (row_in other table) (row_in other (with_row kind row table))
      at (inl same) =
          subst (λ k. RowGoes Good (row_in k table) (row_in k (with_row kind row table))) (sym same)
          (subst (RowGoes Good (row_in kind table)) (sym (row_written kind row table)) goes)
      at (inr differs) = subst (RowGoes Good (row_in other table)) (sym (row_besides kind other row table differs)) (row_stays (row_in other table))

  cancelled : (row : Shown) → RowGoes Good row (row_cancelled row)
  cancelled shown.Nothing = row_stays shown.Nothing
  cancelled (shown.Pending request) = record { bears = λ n b. b; pending = λ r e. absurd (cc); confirmed = λ r e. absurd (cc); partial = λ r e. absurd (cc) }
  cancelled (shown.Confirmed request) = record { bears = λ n b. b; pending = λ r e. absurd (cc); confirmed = λ r e. absurd (cc); partial = λ r e. absurd (cc) }
  cancelled (shown.Partial request) = record { bears = λ n b. b; pending = λ r e. absurd (cc); confirmed = λ r e. absurd (cc); partial = λ r e. absurd (cc) }
  cancelled (shown.Refused request reason) = row_stays (shown.Refused request reason)
  cancelled (shown.Cancelling request) = row_stays (shown.Cancelling request)

  refused : (request : Message) (reason : ℕ) → RowGoes Good (shown.Pending request) (shown.Refused request reason)
  refused request reason = record { bears = λ n b. b; pending = λ r e. absurd (cc); confirmed = λ r e. absurd (cc); partial = λ r e. absurd (cc) }

  answered : (answer : AnswerKind) (row : Shown) → (IsConfirming answer → (request : Message) → row ≡ shown.Pending request → Good request)
      → RowGoes Good row (row_answered answer row)
  answered answer shown.Nothing good = row_stays shown.Nothing
  answered Acknowledgement (shown.Pending request) good = record {
    bears = λ n b. b;
    pending = λ r e. absurd (cc);
    confirmed = λ r e. let same : request ≡ r = cc in inr (subst Good same (good tt request refl));
    partial = λ r e. absurd (cc);
  }
  answered Noncompliance (shown.Pending request) good = record {
    bears = λ n b. b;
    pending = λ r e. absurd (cc);
    confirmed = λ r e. absurd (cc);
    partial = λ r e. let same : request ≡ r = cc in inr (subst Good same (good tt request refl));
  }
  answered (NegativeAcknowledgement reason) (shown.Pending request) good = refused request reason
  answered answer (shown.Confirmed request) good = row_stays (shown.Confirmed request)
  answered answer (shown.Partial request) good = row_stays (shown.Partial request)
  answered answer (shown.Refused request reason) good = row_stays (shown.Refused request reason)
  answered answer (shown.Cancelling request) good = row_empties (shown.Cancelling request)

  -- ---- an item

  taking_goes : (answer : AnswerKind) (table : CentreTable) (taken : Option Kind)
      → (IsConfirming answer → (kind : Kind) (request : Message) → taken ≡ Some kind → row_in kind table ≡ shown.Pending request → Good request)
      → RowsGo Good table (with_effect (effect_of_taking taken answer) table)
  taking_goes answer table None good = rows_stay table
  taking_goes answer table (Some kind) good =
      one_row kind (row_answered answer (row_in kind table)) table
      (answered answer (row_in kind table) (λ confirms request is. good confirms kind request refl is))

  item_goes : (item : ItemData) (table : CentreTable)
      → ((kind : Kind) (request : Message) → row_in kind table ≡ shown.Pending request → Confirms (number_of request) item → Good request)
      → RowsGo Good table (table_after (HearsItem item) table)
  item_goes (ack n) table good =
      taking_goes Acknowledgement table (taker n table)
      (λ confirms kind request taken is. good kind request is (sym (taken_under n table kind request taken is)))
  item_goes (noncompliance n) table good =
      taking_goes Noncompliance table (taker n table)
      (λ confirms kind request taken is. good kind request is (sym (taken_under n table kind request taken is)))
  item_goes (nack n reason place) table good =
      taking_goes (NegativeAcknowledgement reason) table (taker n table) (λ confirms kind request taken is. absurd confirms)
  item_goes (emergency_off n) table good = rows_stay table
  item_goes (report one) table good = rows_stay table

  -- Items that are heard one by one.
  pub items_go : (items : List ItemData) (w : List CentreEvent)
      → ((item : ItemData) → IsAmong item items → (kind : Kind) (request : Message) → row_in kind (table_at w) ≡ shown.Pending request
      → Confirms (number_of request) item → Good request)
      → RowsGo Good (table_at w) (table_at (with_items items w))
  items_go [] w good = rows_stay (table_at w)
  items_go (item ∷ items) w good =
      let now = HearsItem item ∷ w in
      let first : RowsGo Good (table_at w) (table_at now) =
      subst (RowsGo Good (table_at w)) (sym (rows_go_on (HearsItem item) w)) (item_goes item (table_at w) (good item (inl refl))) in
      rows_then (table_at w) (table_at now) (table_at (with_items items now)) first
      (items_go items now (λ other among kind request is confirms. good other (inr among) kind request ((first kind).pending request is) confirms))

  -- ---- a contact and cancels

  contact_goes : (table : CentreTable) → RowsGo Good table (table_after HearsContact table)
  contact_goes table Demand = row_stays (row_in Demand table)
  contact_goes table Periodic = row_stays (row_in Periodic table)
  contact_goes table Event = row_stays (row_in Event table)
  contact_goes table Emergency = row_stays (row_in Emergency table)

  -- Rows go on so when a contact is heard.
  pub contact_goes_on : (w : List CentreEvent) → RowsGo Good (table_at w) (table_at (HearsContact ∷ w))
  contact_goes_on w = subst (RowsGo Good (table_at w)) (sym (rows_go_on HearsContact w)) (contact_goes (table_at w))

  all_cancelled : (table : CentreTable) → RowsGo Good table (table_after CancelsAll table)
  all_cancelled table Demand = row_empties (row_in Demand table)
  all_cancelled table Periodic = row_empties (row_in Periodic table)
  all_cancelled table Event = row_empties (row_in Event table)
  all_cancelled table Emergency = row_empties (row_in Emergency table)

  -- When all is cancelled.
  pub all_cancelled_on : (w : List CentreEvent) → RowsGo Good (table_at w) (table_at (CancelsAll ∷ w))
  all_cancelled_on w = subst (RowsGo Good (table_at w)) (sym (rows_go_on CancelsAll w)) (all_cancelled (table_at w))

  cancel_goes : (kind : Kind) (table : CentreTable) (request : Option Message) → RowsGo Good table (with_effect (effect_of_cancelling kind request) table)
  cancel_goes kind table None = rows_stay table
  cancel_goes kind table (Some request) = one_row kind (row_cancelled (row_in kind table)) table (cancelled (row_in kind table))

  -- And when a kind is cancelled.
  pub cancel_goes_on : (kind : Kind) (w : List CentreEvent) → RowsGo Good (table_at w) (table_at (Cancels kind ∷ w))
  cancel_goes_on kind w =
      subst (RowsGo Good (table_at w)) (sym (rows_go_on (Cancels kind) w)) (cancel_goes kind (table_at w) (request_to_cancel (row_in kind (table_at w))))

-- No row is pending after a cancel of all, and that of the kind isn't after its cancel.
pub none_pending : (kind : Kind) (w : List CentreEvent) (request : Message) → row_in kind (table_at (CancelsAll ∷ w)) ≡ shown.Pending request → ⊥
none_pending kind w request is = at kind (sym (ap (row_in kind) (rows_go_on CancelsAll w)) ∙ is)
  where
    at : (k : Kind) → row_in k (with_nothing (table_at w)) ≡ shown.Pending request → ⊥
    at Demand e = cc
    at Periodic e = cc
    at Event e = cc
    at Emergency e = cc

-- After its cancel a row isn't pending.
pub not_pending : (kind : Kind) (w : List CentreEvent) (found request : Message) → request_to_cancel (row_in kind (table_at w)) ≡ Some found
    → row_in kind (table_at (Cancels kind ∷ w)) ≡ shown.Pending request → ⊥
not_pending kind w found request some is =
    never (row_in kind (table_at w))
    (sym (row_written kind (row_cancelled (row_in kind (table_at w))) (table_at w))
    ∙ sym (ap (λ o. row_in kind (with_effect (effect_of_cancelling kind o) (table_at w))) some)
    ∙ sym (ap (row_in kind) (rows_go_on (Cancels kind) w)) ∙ is)
  where
    never : (row : Shown) → row_cancelled row ≡ shown.Pending request → ⊥
    never shown.Nothing e = cc
    never (shown.Pending r) e = cc
    never (shown.Confirmed r) e = cc
    never (shown.Partial r) e = cc
    never (shown.Refused r reason) e = cc
    never (shown.Cancelling r) e = cc

-- ---- a request

with_last : ℕ → CentreTable → CentreTable
with_last n table = record table { last = n }

row_in-last : (kind : Kind) (n : ℕ) (table : CentreTable) → row_in kind (with_last n table) ≡ row_in kind table
unfolding with_last
row_in-last Demand n table = refl
row_in-last Periodic n table = refl
row_in-last Event n table = refl
row_in-last Emergency n table = refl

requested : (request : Message) (kind : Kind) (table : CentreTable) → kind_in request ≡ Some kind
    → with_effect (RequestSent request) table ≡ with_last (number_of request) (with_row kind (shown.Pending request) table)
unfolding with_last
requested request kind table asks = ap (λ (o : Option Kind). with_last (number_of request) (with_pending o request table)) asks

-- After a request its row is pending, and the others are as they were.
pub row_requested : (request : Message) (kind : Kind) (table : CentreTable) → kind_in request ≡ Some kind
    → row_in kind (with_effect (RequestSent request) table) ≡ shown.Pending request
row_requested request kind table asks =
    ap (row_in kind) (requested request kind table asks)
    ∙ row_in-last kind (number_of request) (with_row kind (shown.Pending request) table) ∙ row_written kind (shown.Pending request) table

-- The rows of other kinds are as they were.
pub row_not_requested : (request : Message) (kind other : Kind) (table : CentreTable) → kind_in request ≡ Some kind → other ≢ kind
    → row_in other (with_effect (RequestSent request) table) ≡ row_in other table
row_not_requested request kind other table asks differs =
    ap (row_in other) (requested request kind table asks)
    ∙ row_in-last other (number_of request) (with_row kind (shown.Pending request) table) ∙ row_besides kind other (shown.Pending request) table differs
