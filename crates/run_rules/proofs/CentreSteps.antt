-- What a happening is to a centre: it asks, and the request is pending in its row; or its rows go on, and what it sends bears no number
-- of a row that stays pending.
use Rattle.std.proofs.Common.{◌≡◌, ◌⊎◌, ℕ, ◌==◌, inl, inr, Bool, true, false, cond, List, [], ◌∷◌, Option, Some, None, Result, Ok, Err, if◌then◌else◌, refl, sym, ap, ◌∙◌, subst}
use Rattle.std.proofs.lemmas.Bool.{eq-eqb, eqb-true}
use Rattle.adsc_downlink.specs.Items.{ItemData}
use Rattle.adsc_requests.specs.Contents.{number_of}
use Rattle.adsc_requests.specs.Kind.{kind_in}
use Rattle.adsc_requests.specs.declared.kind.Kind.{Kind}
use Rattle.adsc_requests.specs.declared.kind.Kind.TheVariants as kinds
use Rattle.adsc_requests.specs.declared.message.Message.{Message}
use Rattle.adsc_requests.specs.declared.message.Message.TheVariants as message
use Rattle.aircraft_core.specs.Setting.{Setting}
use Rattle.centre_core.specs.Events.{CentreEvent, Asks}
use Rattle.centre_core.specs.Heard.{with_heard}
use Rattle.centre_core.specs.Hearing.{Hearing, Ignores, Greets, Tells}
use Rattle.centre_core.specs.Histories.{effects, next_number_at, row_at, table_at}
use Rattle.centre_core.specs.Rows.{RequestSent}
use Rattle.centre_core.specs.Steps.{with_effect}
use Rattle.centre_core.specs.Tables.{effect_of_asking, effect_of_sending, mode_cancel_number, number_pending, number_to_cancel, request_or_refusal, request_to_cancel, row_if, row_in, unless_waiting, with_number}
use Rattle.centre_core.specs.declared.refusal.AskRefused.{AskRefused}
use Rattle.centre_core.specs.declared.refusal.AskRefused.TheVariants.{NotLoggedOn}
use Rattle.centre_core.specs.declared.shown.Shown.{Shown}
use Rattle.centre_core.specs.declared.shown.Shown.TheVariants as shown
use Rattle.centre_core.proofs.NumberLaws.{asked_numbered, kind_in-with_number, next_number_after, number_of-with_number}
use Rattle.centre_core.proofs.TableLaws.{row_in-table_behind, rows_go_on}
use Rattle.net_script.specs.Forms.{AsksWithoutNumber}
use Rattle.net_script.specs.declared.line.Cancel.{Cancel}
use Rattle.net_script.specs.declared.line.Cancel.TheVariants.{Of, EmergencyMode, All}
use Rattle.run_rules.specs.Among.{IsAmong}
use Rattle.run_rules.specs.Claims.{CarriedBears, RowBears}
use Rattle.run_rules.proofs.Deeds.{IsDeed, MadeAsk}
use Rattle.run_rules.specs.Happenings.{Happening, Entered, Refused, Asked, Cancelled, Brought, Heard, Carries, SentMessage, answer_sent, history, sent_in, with_cancel}
use Rattle.run_rules.specs.Lines.{cancel_step, cancelling_step}
use Rattle.run_rules.specs.Stages.{does}
use Rattle.run_rules.proofs.RowsGo.{Confirms, RowsGo, all_cancelled_on, cancel_goes_on, contact_goes_on, items_go, not_pending, rows_stay}

-- ---- a request

asks_kind : (asked : Message) → AsksWithoutNumber asked → (kind : Kind) × (kind_in asked ≡ Some kind)
asks_kind message.CancelAll asks = absurd asks
asks_kind (message.Cancel n) asks = absurd asks
asks_kind (message.CancelEmergency n) asks = absurd asks
asks_kind (message.Periodic n interval groups intent) asks = (_, refl)
asks_kind (message.Event n limits) asks = (kinds.Event, refl)
asks_kind (message.Emergency n interval groups intent) asks = (kinds.Emergency, refl)

renumbered : (m n : ℕ) (request : Message) → with_number m (with_number n request) ≡ with_number m request
renumbered m n message.CancelAll = refl
renumbered m n (message.Cancel k) = refl
renumbered m n (message.CancelEmergency k) = refl
renumbered m n (message.Periodic k interval groups intent) = refl
renumbered m n (message.Event k limits) = refl
renumbered m n (message.Emergency k interval groups intent) = refl

-- The request that a centre asked by: of a kind, with the next number; and the table after it.
pub record IsAsk (log : List Happening) (link : ℕ) (request : Message) : Type 0 where
  pub kind : Kind
  pub of_kind : kind_in request ≡ Some kind
  pub number : number_of request ≡ next_number_at (history link log)
  pub effect : effect_of_asking (kind_in request) request (next_number_at (history link log)) (table_at (history link log)) ≡ RequestSent request
  pub table : table_at (Asks request ∷ history link log) ≡ with_effect (RequestSent request) (table_at (history link log))

-- An ask of a log is such a one.
pub is_ask : (setting : Setting) (log : List Happening) (link : ℕ) (request : Message) → MadeAsk setting log link request → IsAsk log link request
is_ask setting log link request made = record {
  kind = asked.0;
  of_kind = of_kind;
  number = ap number_of numbered ∙ number_of-with_number next made.asked asked.0 asked.1;
  effect = effect;
  table = rows_go_on (Asks request) w
      ∙ ap (λ n. with_effect (effect_of_asking (kind_in request) request n (table_at w)) (table_at w)) (next_number_after w)
      ∙ ap (λ e. with_effect e (table_at w)) effect;
}
  where
    w : List CentreEvent
    w = history link log

    next : ℕ
    next = next_number_at w

    asked : (kind : Kind) × (kind_in made.asked ≡ Some kind)
    asked = asks_kind made.asked made.is_request.asks

    numbered : request ≡ with_number next made.asked
    numbered = asked_numbered made.asked next (table_at w) request made.sent

    of_kind : kind_in request ≡ Some asked.0
    of_kind = ap kind_in numbered ∙ kind_in-with_number next made.asked ∙ asked.1

    same : with_number next request ≡ with_number next made.asked
    same = ap (with_number next) numbered ∙ renumbered next next made.asked

    again : request_or_refusal request next (table_at w) ≡ Ok request
    again =
        ap (λ k. sending k (with_number next request)) (of_kind ∙ sym asked.1)
        ∙ ap (λ m. sending (kind_in made.asked) m) same
        ∙ made.sent
      where
        sending : Option Kind → Message → Result Message AskRefused
        sending k m = if (table_at w).logged_on then unless_waiting (number_pending (row_if k (table_at w))) m else Err NotLoggedOn

    effect : effect_of_asking (kind_in request) request next (table_at w) ≡ RequestSent request
    effect = ap (λ k. effect_of_asking k request next (table_at w)) of_kind ∙ ap effect_of_sending again

-- ---- other happenings

-- What is sent bears this number: 0, or that of a row that isn't pending afterwards.
abbrev pub IsSpent : List CentreEvent → List CentreEvent → ℕ → Type 0
IsSpent w now n =
    (n ≡ 0) ⊎ ((kind : Kind) × RowBears n (row_in kind (table_at w)) × ((request : Message) → row_in kind (table_at now) ≡ shown.Pending request → ⊥))

-- A happening after which the rows go on, and at which nothing is sent but what is spent.
pub record GoesOn (Good : Message → Type 0) (link : ℕ) (log : List Happening) (happening : Happening) : Type 0 where
  pub rows : RowsGo Good (table_at (history link log)) (table_at (history link (happening ∷ log)))
  pub sent : (sent : SentMessage) (n : ℕ) → IsAmong sent (sent_in link happening) → CarriedBears n sent.carried
      → IsSpent (history link log) (history link (happening ∷ log)) n

-- What a happening is to the centre of a link.
pub data IsToCentre (Good : Message → Type 0) (link : ℕ) (log : List Happening) (happening : Happening) : Type 0 where
  asks : (line : ℕ) (request : Message) → happening ≡ Asked line link request → IsAsk log link request → IsToCentre Good link log happening
  goes : GoesOn Good link log happening → IsToCentre Good link log happening

-- What is heard confirms good requests only.
abbrev pub ConfirmsGood : (Message → Type 0) → ℕ → List Happening → Happening → Type 0
ConfirmsGood Good link log (Heard line other place (Tells items)) =
    link ≡ other → (item : ItemData) → IsAmong item items → (kind : Kind) (request : Message)
    → row_in kind (table_at (history link log)) ≡ shown.Pending request → Confirms (number_of request) item → Good request
ConfirmsGood Good link log happening = Unit {0}

-- ---- cancels

pending_bears : (row : Shown) (n : ℕ) → number_to_cancel row ≡ Some n → RowBears n row
pending_bears shown.Nothing n is = absurd (let none : None ≡ Some n = is in cc)
pending_bears (shown.Pending request) n is = let same : Some (number_of request) ≡ Some n = is in cc
pending_bears (shown.Confirmed request) n is = let same : Some (number_of request) ≡ Some n = is in cc
pending_bears (shown.Partial request) n is = let same : Some (number_of request) ≡ Some n = is in cc
pending_bears (shown.Refused request reason) n is = absurd (let none : None ≡ Some n = is in cc)
pending_bears (shown.Cancelling request) n is = absurd (let none : None ≡ Some n = is in cc)

some_request : (row : Shown) (n : ℕ) → number_to_cancel row ≡ Some n → (request : Message) × (request_to_cancel row ≡ Some request)
some_request row n is = at (request_to_cancel row) refl is
  where
    at : (o : Option Message) → request_to_cancel row ≡ o → ◌≡◌ {A = Option ℕ} (elim o [ None ↦ None | Some request ↦ Some (number_of request) ]) (Some n)
        → (request : Message) × (request_to_cancel row ≡ Some request)
    at None e is = absurd (let none : None ≡ Some n = is in cc)
    at (Some request) e is = (request, e)

-- The message by which a kind is cancelled.
kind_cancelled : (line link : ℕ) (kind : Kind) (number : Option ℕ) (sent : Message)
    → cancelling_step line link (Of kind) number ≡ does (Cancelled line link (Of kind) sent ∷ []) → (n : ℕ) × (number ≡ Some n) × (sent ≡ message.Cancel n)
kind_cancelled line link kind None sent is = absurd (cc)
kind_cancelled line link kind (Some n) sent is = (n, refl, cc)

mode_bears : (row : Shown) → (mode_cancel_number row ≡ 0) ⊎ (RowBears (mode_cancel_number row) row × ((request : Message) → row ≡ shown.Pending request → ⊥))
mode_bears shown.Nothing = inl refl
mode_bears (shown.Pending request) = inl refl
mode_bears (shown.Confirmed request) = inr (refl, λ r is. cc)
mode_bears (shown.Partial request) = inr (refl, λ r is. cc)
mode_bears (shown.Refused request reason) = inl refl
mode_bears (shown.Cancelling request) = inl refl

module _ (Good : Message → Type 0) (link : ℕ) (log : List Happening) where
  cancel_of_kind : (line : ℕ) (kind : Kind) (sent : Message) → cancel_step (history link log) line link (Of kind) ≡ does (Cancelled line link (Of kind) sent ∷ [])
      → (n : ℕ) → CarriedBears n (Carries sent)
      → (k : Kind) × RowBears n (row_in k (table_at (history link log)))
      × ((request : Message) → row_in k (table_at (with_cancel (Of kind) (history link log))) ≡ shown.Pending request → ⊥)
  cancel_of_kind line kind sent is n bears =
      let w = history link log in
      let found = kind_cancelled line link kind (number_to_cancel (row_at kind w)) sent is in
      let number : number_to_cancel (row_in kind (table_at w)) ≡ Some found.0 = ap number_to_cancel (row_in-table_behind kind (effects w)) ∙ found.1 in
      let same : found.0 ≡ n = subst (λ m. CarriedBears n (Carries m)) found.2 bears in
      let request = some_request (row_in kind (table_at w)) found.0 number in (
        kind,
        subst (λ m. RowBears m (row_in kind (table_at w))) same (pending_bears (row_in kind (table_at w)) found.0 number),
        λ r pending. not_pending kind w request.0 r request.1 pending,
      )

  cancel_of_mode : (line : ℕ) (sent : Message) → cancel_step (history link log) line link EmergencyMode ≡ does (Cancelled line link EmergencyMode sent ∷ [])
      → (n : ℕ) → CarriedBears n (Carries sent)
      → (n ≡ 0) ⊎ ((k : Kind) × RowBears n (row_in k (table_at (history link log)))
      × ((request : Message) → row_in k (table_at (history link log)) ≡ shown.Pending request → ⊥))
  cancel_of_mode line sent is n bears =
      at (mode_bears (row_at kinds.Emergency w)) (subst (λ m. CarriedBears n (Carries m)) (sym named) bears)
    where
      w : List CentreEvent
      w = history link log

      row : Shown
      row = row_at kinds.Emergency w

      named : message.CancelEmergency (mode_cancel_number (row_at kinds.Emergency (history link log))) ≡ sent
      named = cc

      at : (mode_cancel_number row ≡ 0) ⊎ (RowBears (mode_cancel_number row) row × ((request : Message) → row ≡ shown.Pending request → ⊥))
          → mode_cancel_number row ≡ n
          → (n ≡ 0) ⊎ ((k : Kind) × RowBears n (row_in k (table_at (history link log)))
          × ((request : Message) → row_in k (table_at (history link log)) ≡ shown.Pending request → ⊥))
      at (inl none) same = inl (sym same ∙ none)
      at (inr found) same = inr (kinds.Emergency, subst (λ m. RowBears m row) same found.0, found.1)

  all_bears : (line : ℕ) (sent : Message) (n : ℕ) → cancel_step (history link log) line link All ≡ does (Cancelled line link All sent ∷ [])
      → CarriedBears n (Carries sent) → ⊥
  all_bears line sent n is bears = let named : message.CancelAll ≡ sent = cc in subst (λ m. CarriedBears n (Carries m)) (sym named) bears

  goes_at : (happening : Happening) (now : List CentreEvent) (sents : List SentMessage) → history link (happening ∷ log) ≡ now → sent_in link happening ≡ sents
      → RowsGo Good (table_at (history link log)) (table_at now)
      → ((sent : SentMessage) (n : ℕ) → IsAmong sent sents → CarriedBears n sent.carried → IsSpent (history link log) now n)
      → IsToCentre Good link log happening
  goes_at happening now sents is sends rows spent =
      goes (record {
        rows = subst (λ v. RowsGo Good (table_at (history link log)) (table_at v)) (sym is) rows;
        sent = λ sent n among bears.
            subst (λ v. IsSpent (history link log) v n) (sym is) (spent sent n (subst (IsAmong sent) sends among) bears);
      })

  unchanged : (happening : Happening) → history link (happening ∷ log) ≡ history link log → sent_in link happening ≡ [] → IsToCentre Good link log happening
  unchanged happening is sends = goes_at happening (history link log) [] is sends (rows_stay Good (table_at (history link log))) (λ sent n among bears. absurd among)

  own_cancel : (line : ℕ) (cancel : Cancel) (sent : Message) → cancel_step (history link log) line link cancel ≡ does (Cancelled line link cancel sent ∷ [])
      → RowsGo Good (table_at (history link log)) (table_at (with_cancel cancel (history link log)))
      × ((n : ℕ) → CarriedBears n (Carries sent) → IsSpent (history link log) (with_cancel cancel (history link log)) n)
  own_cancel line (Of kind) sent is = (cancel_goes_on Good kind (history link log), λ n bears. inr (cancel_of_kind line kind sent is n bears))
  own_cancel line EmergencyMode sent is = (rows_stay Good (table_at (history link log)), λ n bears. cancel_of_mode line sent is n bears)
  own_cancel line All sent is = (all_cancelled_on Good (history link log), λ n bears. absurd (all_bears line sent n is bears))

  one_sent : (sent one : SentMessage) (P : SentMessage → Type 0) → IsAmong sent (one ∷ []) → P one → P sent
  one_sent sent one P (inl same) holds = subst P same holds
  one_sent sent one P (inr among) holds = absurd among

  at_cancel : (line other : ℕ) (cancel : Cancel) (sent : Message) (own : Bool) → (link == other) ≡ own
      → cancel_step (history other log) line other cancel ≡ does (Cancelled line other cancel sent ∷ []) → IsToCentre Good link log (Cancelled line other cancel sent)
  at_cancel line other cancel sent false is step =
      unchanged (Cancelled line other cancel sent) (ap (λ b. cond b (with_cancel cancel (history link log)) (history link log)) is)
      (ap (λ b. cond b (record { line = line; carried = Carries sent } ∷ []) []) is)
  at_cancel line other cancel sent true is step =
      let same : other ≡ link = sym (eqb-true link other is) in
      let goes_so = own_cancel line cancel sent (subst (λ l. cancel_step (history l log) line l cancel ≡ does (Cancelled line l cancel sent ∷ [])) same step) in
      goes_at (Cancelled line other cancel sent) (with_cancel cancel (history link log)) (record { line = line; carried = Carries sent } ∷ [])
      (ap (λ b. cond b (with_cancel cancel (history link log)) (history link log)) is)
      (ap (λ b. cond b (record { line = line; carried = Carries sent } ∷ []) []) is)
      goes_so.0
      (λ one n among bears.
      goes_so.1 n (one_sent (record { line = line; carried = Carries sent }) one (λ m. CarriedBears n m.carried)
      (turned one (record { line = line; carried = Carries sent }) among) bears))
    where
      turned : (one other : SentMessage) → IsAmong one (other ∷ []) → IsAmong other (one ∷ [])
      turned one other (inl same) = inl (sym same)
      turned one other (inr among) = absurd among

  no_numbers : (line : ℕ) (hearing : Hearing) (sent : SentMessage) (n : ℕ) → IsAmong sent (answer_sent line hearing) → CarriedBears n sent.carried → ⊥
  no_numbers line (Ignores why) sent n among bears = among
  no_numbers line (Greets contact) sent n (inl same) bears = subst (λ (m : SentMessage). CarriedBears n m.carried) (sym same) bears
  no_numbers line (Greets contact) sent n (inr among) bears = among
  no_numbers line (Tells items) sent n among bears = among

  heard_goes : (line other place : ℕ) (hearing : Hearing) → link ≡ other → ConfirmsGood Good link log (Heard line other place hearing)
      → RowsGo Good (table_at (history link log)) (table_at (with_heard hearing (history link log)))
  heard_goes line other place (Ignores why) same good = rows_stay Good (table_at (history link log))
  heard_goes line other place (Greets contact) same good = contact_goes_on Good (history link log)
  heard_goes line other place (Tells items) same good = items_go Good items (history link log) (good same)

  at_heard : (line other place : ℕ) (hearing : Hearing) (own : Bool) → (link == other) ≡ own → ConfirmsGood Good link log (Heard line other place hearing)
      → IsToCentre Good link log (Heard line other place hearing)
  at_heard line other place hearing false is good =
      unchanged (Heard line other place hearing) (ap (λ b. cond b (with_heard hearing (history link log)) (history link log)) is)
      (ap (λ b. cond b (answer_sent line hearing) []) is)
  at_heard line other place hearing true is good =
      goes_at (Heard line other place hearing) (with_heard hearing (history link log)) (answer_sent line hearing)
      (ap (λ b. cond b (with_heard hearing (history link log)) (history link log)) is)
      (ap (λ b. cond b (answer_sent line hearing) []) is)
      (heard_goes line other place hearing (eqb-true link other is) good)
      (λ sent n among bears. absurd (no_numbers line hearing sent n among bears))

  at_ask : (setting : Setting) (line other : ℕ) (request : Message) (own : Bool) → (link == other) ≡ own → MadeAsk setting log other request
      → IsToCentre Good link log (Asked line other request)
  at_ask setting line other request false is made =
      unchanged (Asked line other request) (ap (λ b. cond b (Asks request ∷ history link log) (history link log)) is)
      (ap (λ b. cond b (record { line = line; carried = Carries request } ∷ []) []) is)
  at_ask setting line other request true is made =
      let same : other ≡ link = sym (eqb-true link other is) in
      asks line request (ap (λ l. Asked line l request) same) (is_ask setting log link request (subst (λ l. MadeAsk setting log l request) same made))

  -- What a happening is to the centre of a link.
  pub to_centre : (order : List ℕ) (setting : Setting) (line : ℕ) (happening : Happening) → IsDeed order setting line log happening
      → ConfirmsGood Good link log happening → IsToCentre Good link log happening
  to_centre order setting line (Entered made) deed good = unchanged (Entered made) refl refl
  to_centre order setting line (Refused refused) deed good = unchanged (Refused refused) refl refl
  to_centre order setting line (Asked number other request) deed good = at_ask setting number other request (link == other) refl deed.1
  to_centre order setting line (Cancelled number other cancel sent) deed good = at_cancel number other cancel sent (link == other) refl deed.2
  to_centre order setting line (Brought other place made) deed good = unchanged (Brought other place made) refl refl
  to_centre order setting line (Heard number other place hearing) deed good = at_heard number other place hearing (link == other) refl good

-- The history and the messages of a centre that asks.
pub asked_history : (line link : ℕ) (request : Message) (log : List Happening) → history link (Asked line link request ∷ log) ≡ Asks request ∷ history link log
asked_history line link request log = ap (λ b. cond b (Asks request ∷ history link log) (history link log)) (eq-eqb link link refl)

-- By its ask it sends the request.
pub asked_sends : (line link : ℕ) (request : Message) → sent_in link (Asked line link request) ≡ record { line = line; carried = Carries request } ∷ []
asked_sends line link request =
    ap (λ b. cond b (record { line = line; carried = Carries request } ∷ []) []) (eq-eqb link link refl)
