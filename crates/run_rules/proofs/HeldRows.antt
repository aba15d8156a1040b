-- What the rows of a centre hold, happening by happening, where no number is reused too early.
use Rattle.std.proofs.Common.{◌≡◌, ◌≢◌, ◌⊎◌, ℕ, ◌<◌, ◌≤◌, inl, inr, List, [], ◌∷◌, Some, refl, sym, ap, ◌∙◌, subst, arith}
use Rattle.adsc_requests.specs.Contents.{number_of}
use Rattle.adsc_requests.specs.declared.kind.Kind.{Kind}
use Rattle.adsc_requests.specs.declared.kind.Kind.TheVariants as kinds
use Rattle.adsc_requests.specs.declared.message.Message.{Message}
use Rattle.centre_core.specs.Histories.{effects, table_at}
use Rattle.centre_core.specs.Rows.{RequestSent}
use Rattle.centre_core.specs.Steps.{with_effect}
use Rattle.centre_core.specs.Tables.{row_in}
use Rattle.centre_core.specs.declared.shown.Shown.{Shown}
use Rattle.centre_core.specs.declared.shown.Shown.TheVariants as shown
use Rattle.centre_core.proofs.TableLaws.{row_in-table_behind}
use Rattle.run_rules.specs.Among.{IsAmong}
use Rattle.run_rules.specs.Claims.{CarriedBears, NoOtherRowBears, RowBears}
use Rattle.run_rules.specs.Happenings.{Happening, Asked, Carries, SentMessage, history, sent_in, sent_messages}
use Rattle.run_rules.proofs.CentreSteps.{GoesOn, IsAsk, IsSpent, asked_history, asked_sends}
use Rattle.run_rules.proofs.Members.{among_parts}
use Rattle.run_rules.proofs.Numbers.{bears_own}
use Rattle.run_rules.proofs.RowsGo.{row_not_requested, row_requested, same_or_other}

-- ---- what rows hold

-- The centre asked by the request that is pending, and since then nothing else that it sent bears the number.
pub record HeldAsk (link : ℕ) (log : List Happening) (request : Message) : Type 0 where
  pub line : ℕ
  pub asked : IsAmong (Asked line link request) log
  pub some : 1 ≤ number_of request
  pub sole : (sent : SentMessage) → IsAmong sent (sent_messages link log) → line ≤ sent.line → CarriedBears (number_of request) sent.carried
      → sent.carried ≡ Carries request

-- Each row that is pending holds its ask, and no other row bears its number; and what is confirmed, in full or in part, is good.
pub record RowsHold (Good : Message → Type 0) (link : ℕ) (log : List Happening) : Type 0 where
  pub pending : (kind : Kind) (request : Message) → row_in kind (table_at (history link log)) ≡ shown.Pending request → HeldAsk link log request
  pub alone : (kind other : Kind) (request : Message) → row_in kind (table_at (history link log)) ≡ shown.Pending request → other ≢ kind
      → RowBears (number_of request) (row_in other (table_at (history link log))) → ⊥
  pub confirmed : (kind : Kind) (request : Message) → row_in kind (table_at (history link log)) ≡ shown.Confirmed request → Good request
  pub partial : (kind : Kind) (request : Message) → row_in kind (table_at (history link log)) ≡ shown.Partial request → Good request

no_rows : (kind : Kind) (row : Shown) → row_in kind (table_at []) ≡ row → row ≡ shown.Nothing
no_rows kinds.Demand row is = sym is
no_rows kinds.Periodic row is = sym is
no_rows kinds.Event row is = sym is
no_rows kinds.Emergency row is = sym is

-- At the begin no row is pending or confirmed.
pub nothing_held : (Good : Message → Type 0) (link : ℕ) → RowsHold Good link []
nothing_held Good link = record {
  pending = λ kind request is. absurd (let never = no_rows kind (shown.Pending request) is in cc);
  alone = λ kind other request is differs bears. absurd (let never = no_rows kind (shown.Pending request) is in cc);
  confirmed = λ kind request is. absurd (let never = no_rows kind (shown.Confirmed request) is in cc);
  partial = λ kind request is. absurd (let never = no_rows kind (shown.Partial request) is in cc);
}

-- An ask is held on where nothing else that bears its number is sent.
held_on : (link : ℕ) (log : List Happening) (happening : Happening) (request : Message) → HeldAsk link log request
    → ((sent : SentMessage) → IsAmong sent (sent_in link happening) → CarriedBears (number_of request) sent.carried → ⊥) → HeldAsk link (happening ∷ log) request
held_on link log happening request held none = record {
  line = held.line;
  asked = inr held.asked;
  some = held.some;
  sole = λ sent among since bears. at sent (among_parts sent (sent_messages link log) (sent_in link happening) among) since bears;
}
  where
    at : (sent : SentMessage) → IsAmong sent (sent_messages link log) ⊎ IsAmong sent (sent_in link happening) → held.line ≤ sent.line
        → CarriedBears (number_of request) sent.carried → sent.carried ≡ Carries request
    at sent (inl before) since bears = held.sole sent before since bears
    at sent (inr now) since bears = absurd (none sent now bears)

module _ (Good : Message → Type 0) (link : ℕ) (log : List Happening) (holds : RowsHold Good link log) where
  -- ---- a happening that is no ask

  -- A happening at which the rows go on keeps what they hold.
  pub hold_gone : (happening : Happening) → GoesOn Good link log happening → RowsHold Good link (happening ∷ log)
  hold_gone happening gone = record {
    pending = λ kind request is. held kind request is;
    alone = λ kind other request is differs bears.
        holds.alone kind other request ((gone.rows kind).pending request is) differs ((gone.rows other).bears (number_of request) bears);
    confirmed = λ kind request is. elim ((gone.rows kind).confirmed request is) [ inl was ↦ holds.confirmed kind request was | inr good ↦ good ];
    partial = λ kind request is. elim ((gone.rows kind).partial request is) [ inl was ↦ holds.partial kind request was | inr good ↦ good ];
  }
    where
      spent : (kind : Kind) (request : Message) → row_in kind (table_at (history link (happening ∷ log))) ≡ shown.Pending request → 1 ≤ number_of request
          → IsSpent (history link log) (history link (happening ∷ log)) (number_of request) → ⊥
      spent kind request is some (inl none) = omega (arith, none, some)
      spent kind request is some (inr found) = at (same_or_other found.0 kind)
        where
          at : (found.0 ≡ kind) ⊎ (found.0 ≢ kind) → ⊥
          at (inl same) = found.2 request (ap (λ k. row_in k (table_at (history link (happening ∷ log)))) same ∙ is)
          at (inr differs) = holds.alone kind found.0 request ((gone.rows kind).pending request is) differs found.1

      held : (kind : Kind) (request : Message) → row_in kind (table_at (history link (happening ∷ log))) ≡ shown.Pending request → HeldAsk link (happening ∷ log) request
      held kind request is =
          let was = holds.pending kind request ((gone.rows kind).pending request is) in
          held_on link log happening request was
          (λ sent among bears. spent kind request is was.some (gone.sent sent (number_of request) among bears))

  -- ---- an ask

  module _ (line : ℕ) (request : Message) (ask : IsAsk log link request) (fresh : NoOtherRowBears link request log)
      (earlier : (sent : SentMessage) → IsAmong sent (sent_messages link log) → sent.line < line) where
    -- The table after it, and each row.
    asked_table : table_at (history link (Asked line link request ∷ log)) ≡ with_effect (RequestSent request) (table_at (history link log))
    asked_table = ap table_at (asked_history line link request log) ∙ ask.table

    own_row : row_in ask.kind (table_at (history link (Asked line link request ∷ log))) ≡ shown.Pending request
    own_row = ap (row_in ask.kind) asked_table ∙ row_requested request ask.kind (table_at (history link log)) ask.of_kind

    other_row : (kind : Kind) → kind ≢ ask.kind → row_in kind (table_at (history link (Asked line link request ∷ log))) ≡ row_in kind (table_at (history link log))
    other_row kind differs = ap (row_in kind) asked_table ∙ row_not_requested request ask.kind kind (table_at (history link log)) ask.of_kind differs

    -- No other row bears the number.
    unborne : (kind : Kind) (n : ℕ) → kind ≢ ask.kind → number_of request ≡ n → RowBears n (row_in kind (table_at (history link log))) → ⊥
    unborne kind n differs same bears =
        fresh kind
        (λ is. differs (let one : Some ask.kind ≡ Some kind = sym ask.of_kind ∙ is in cc))
        (subst (RowBears (number_of request)) (row_in-table_behind kind (effects (history link log)))
        (subst (λ m. RowBears m (row_in kind (table_at (history link log)))) (sym same) bears))

    new_held : HeldAsk link (Asked line link request ∷ log) request
    new_held = record {
      line = line;
      asked = inl refl;
      some = let same = ask.number in omega (arith, same);
      sole = λ sent among since bears. at sent (among_parts sent (sent_messages link log) (sent_in link (Asked line link request)) among) since;
    }
      where
        one : (sent : SentMessage) → IsAmong sent (record { line = line; carried = Carries request } ∷ []) → sent.carried ≡ Carries request
        one sent (inl same) = sym (ap (λ (m : SentMessage). m.carried) same)
        one sent (inr among) = absurd among

        at : (sent : SentMessage) → IsAmong sent (sent_messages link log) ⊎ IsAmong sent (sent_in link (Asked line link request)) → line ≤ sent.line
            → sent.carried ≡ Carries request
        at sent (inl before) since = absurd (let less = earlier sent before in omega (arith, less, since))
        at sent (inr now) since = one sent (subst (IsAmong sent) (asked_sends line link request) now)

    -- The ask of another row is held on.
    old_held : (kind : Kind) (other : Message) → kind ≢ ask.kind → row_in kind (table_at (history link log)) ≡ shown.Pending other → HeldAsk link (Asked line link request ∷ log) other
    old_held kind other differs is =
        held_on link log (Asked line link request) other (holds.pending kind other is)
        (λ sent among bears. one sent (subst (IsAmong sent) (asked_sends line link request) among) bears)
      where
        one : (sent : SentMessage) → IsAmong sent (record { line = line; carried = Carries request } ∷ []) → CarriedBears (number_of other) sent.carried → ⊥
        one sent (inl same) bears =
            unborne kind (number_of other) differs
            (bears_own request (number_of other) (subst (λ (m : SentMessage). CarriedBears (number_of other) m.carried) (sym same) bears))
            (subst (RowBears (number_of other)) (sym is) refl)
        one sent (inr among) bears = among

    held_row : (kind : Kind) (other : Message) → (kind ≡ ask.kind) ⊎ (kind ≢ ask.kind)
        → row_in kind (table_at (history link (Asked line link request ∷ log))) ≡ shown.Pending other → HeldAsk link (Asked line link request ∷ log) other
    held_row kind other (inl same) is =
        let one : shown.Pending request ≡ shown.Pending other = sym own_row ∙ ap (λ k. row_in k (table_at (history link (Asked line link request ∷ log)))) (sym same) ∙ is in
        let requests : request ≡ other = cc in
        subst (HeldAsk link (Asked line link request ∷ log)) requests new_held
    held_row kind other (inr differs) is = old_held kind other differs (sym (other_row kind differs) ∙ is)

    -- No other row bears the number of one that is pending.
    alone_row : (kind other : Kind) (held : Message) → (kind ≡ ask.kind) ⊎ (kind ≢ ask.kind) → (other ≡ ask.kind) ⊎ (other ≢ ask.kind)
        → row_in kind (table_at (history link (Asked line link request ∷ log))) ≡ shown.Pending held → other ≢ kind
        → RowBears (number_of held) (row_in other (table_at (history link (Asked line link request ∷ log)))) → ⊥
    alone_row kind other held (inl same) (inl own) is differs bears = differs (own ∙ sym same)
    alone_row kind other held (inl same) (inr apart) is differs bears =
        let one : shown.Pending request ≡ shown.Pending held = sym own_row ∙ ap (λ k. row_in k (table_at (history link (Asked line link request ∷ log)))) (sym same) ∙ is in
        let requests : request ≡ held = cc in
        unborne other (number_of held) apart (ap number_of requests) (subst (RowBears (number_of held)) (other_row other apart) bears)
    alone_row kind other held (inr apart) (inl own) is differs bears =
        let number : number_of request ≡ number_of held =
        subst (RowBears (number_of held)) (ap (λ k. row_in k (table_at (history link (Asked line link request ∷ log)))) own ∙ own_row) bears in
        unborne kind (number_of held) apart number (subst (RowBears (number_of held)) (sym (sym (other_row kind apart) ∙ is)) refl)
    alone_row kind other held (inr apart) (inr far) is differs bears =
        holds.alone kind other held (sym (other_row kind apart) ∙ is) differs (subst (RowBears (number_of held)) (other_row other far) bears)

    confirmed_row : (kind : Kind) (other : Message) → (kind ≡ ask.kind) ⊎ (kind ≢ ask.kind)
        → row_in kind (table_at (history link (Asked line link request ∷ log))) ≡ shown.Confirmed other → Good other
    confirmed_row kind other (inl same) is =
        absurd (let one : shown.Pending request ≡ shown.Confirmed other = sym own_row ∙ ap (λ k. row_in k (table_at (history link (Asked line link request ∷ log)))) (sym same) ∙ is in cc)
    confirmed_row kind other (inr differs) is = holds.confirmed kind other (sym (other_row kind differs) ∙ is)

    partial_row : (kind : Kind) (other : Message) → (kind ≡ ask.kind) ⊎ (kind ≢ ask.kind)
        → row_in kind (table_at (history link (Asked line link request ∷ log))) ≡ shown.Partial other → Good other
    partial_row kind other (inl same) is =
        absurd (let one : shown.Pending request ≡ shown.Partial other = sym own_row ∙ ap (λ k. row_in k (table_at (history link (Asked line link request ∷ log)))) (sym same) ∙ is in cc)
    partial_row kind other (inr differs) is = holds.partial kind other (sym (other_row kind differs) ∙ is)

    -- So does an ask whose number no other row bears.
    pub hold_asked : RowsHold Good link (Asked line link request ∷ log)
    hold_asked = record {
      pending = λ kind other is. held_row kind other (same_or_other kind ask.kind) is;
      alone = λ kind other held is differs bears.
          alone_row kind other held (same_or_other kind ask.kind) (same_or_other other ask.kind) is differs bears;
      confirmed = λ kind other is. confirmed_row kind other (same_or_other kind ask.kind) is;
      partial = λ kind other is. partial_row kind other (same_or_other kind ask.kind) is;
    }
