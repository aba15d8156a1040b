-- The laws of a station: what a call of its centre makes of it.
use Rattle.std.proofs.Common.{◌≡◌, ◌↔◌, ℕ, Bool, true, false, IsTrue, cond, ◌||◌, ◌==◌, List, [], ◌∷◌, ◌++◌, map, Option, Some, None, Result, Ok, Err, inl, inr, if◌then◌else◌, refl, sym, ap, ◌∙◌, subst, eq-eqb}
use Rattle.std.proofs.lemmas.Bool.{cases_Bool}
use Rattle.std.proofs.lemmas.List.{map-append}
use Rattle.adsc_requests.specs.declared.kind.Kind.{Kind}
use Rattle.adsc_requests.specs.declared.kind.Kind.TheVariants.{Emergency}
use Rattle.adsc_requests.specs.declared.message.Message.{Message}
use Rattle.adsc_requests.specs.declared.message.Message.TheVariants as message
use Rattle.aircraft_core.specs.Setting.{Setting}
use Rattle.centre_core.specs.Events.{CentreEvent, Asks}
use Rattle.centre_core.specs.Histories.{StandsFor, effects, next_number, next_number_at, row_at, row_for, table_at, table_behind, was_contacted}
use Rattle.centre_core.specs.Tables.{effect_of, mode_cancel_number, number_pending, number_to_cancel, request_or_refusal, unless_waiting, with_number}
use Rattle.centre_core.specs.View.{KeepsNames}
use Rattle.centre_core.specs.declared.refusal.AskRefused.{AskRefused}
use Rattle.centre_core.specs.declared.refusal.AskRefused.TheVariants.{NotLoggedOn, Waiting}
use Rattle.centre_core.specs.declared.table.CentreTable.{CentreTable}
use Rattle.centre_core.proofs.NumberLaws.{logged_on_by_contact}
use Rattle.std.specs.Prelude.{IfOk, OnOk}
use Rattle.aircraft_core.specs.Setting.{address_of}
use Rattle.centre_core.specs.Heard.{IsAnswerTo, with_heard}
use Rattle.centre_core.specs.Hearing.{Hearing, Greets, Ignores, Says, SaysTo, Tells}
use Rattle.centre_core.specs.View.{CentreView}
use Rattle.centre_core.specs.declared.heard.Heard.{Heard}
use Rattle.centre_core.specs.declared.heard.Heard.TheVariants as heard
use Rattle.net_script.specs.declared.line.Cancel.{Cancel}
use Rattle.net_script.specs.declared.line.Cancel.TheVariants.{Of, EmergencyMode}
use Rattle.net_script.specs.declared.refusal.Code.TheVariants as code
use Rattle.run_rules.specs.Lines.{ask_step, asking_step, cancel_step, cancelling_step}
use Rattle.run_rules.specs.declared.end.End.{End}
use Rattle.run_rules.specs.Happenings.{Heard as WasHeard}
use Rattle.run_rules.specs.Happenings.{Happening, Asked, Cancelled, Carries, answer_sent, with_cancel, history, is_centre, is_raw, makes_centre, makes_raw, sent_in, sent_messages, with_happening}
use Rattle.adsc_run.specs.declared.carried.SentText.TheVariants as texts
use Rattle.adsc_run.specs.Stations.{StationDid, StationStands, answers_to, ends_bad, is_centre_role, is_raw_role, text_sent}
use Rattle.adsc_run.specs.declared.station.Role.TheVariants.{Centre}
use Rattle.adsc_run.specs.declared.station.Station.{Station}

-- a link is itself
pub same_link : (link : ℕ) → (link == link) ≡ true
same_link link = eq-eqb link link refl

-- What a centre does makes its station what the happening says.
pub centre_acts : (setting : Setting) (link : ℕ) (log : List Happening) (before now : Station) (happening : Happening)
    → StationStands setting link log before → is_raw link log ≡ false
    → makes_raw link happening ≡ false → makes_centre link happening ≡ true
    → now.role ≡ Centre → now.address ≡ before.address → KeepsNames before.centre now.centre
    → StandsFor now.centre (with_happening link happening (history link log))
    → now.sent.items ≡ before.sent.items ++ map text_sent (sent_in link happening)
    → StationStands setting link (happening ∷ log) now
centre_acts setting link log before now happening stood unused not_raw centre role place names stands sent =
    record {
      listed = place ∙ stood.listed;
      raw = ap is_raw_role role ∙ sym (ap (λ b. b || is_raw link log) not_raw ∙ unused);
      centre = ap is_centre_role role ∙ sym (ap (λ b. b || is_centre link log) centre);
      address = names.0 ∙ stood.address;
      registration = names.1 ∙ stood.registration;
      stands = stands;
      sent = sent ∙ ap (λ front. front ++ map text_sent (sent_in link happening)) stood.sent
          ∙ sym (map-append text_sent (sent_messages link log) (sent_in link happening));
    }

-- ---- asks

-- the centre asks where it was contacted, and no request of the kind is pending
pub ask_is_sent : (request : Message) (w : List CentreEvent) → (was_contacted w ≡ false → ⊥)
    → ((n : ℕ) → IsTrue (was_contacted w) × (number_pending (row_for request w) ≡ Some n) → ⊥)
    → request_or_refusal request (next_number_at w) (table_at w) ≡ Ok (with_number (next_number_at w) request)
ask_is_sent request w contacted free = elim (cases_Bool (was_contacted w)) [
  | inl on ↦ at on (number_pending (row_for request w)) refl
  | inr off ↦ absurd (contacted off)
]
  where
    sent : Message
    sent = with_number (next_number_at w) request

    at : was_contacted w ≡ true → (pending : Option ℕ) → number_pending (row_for request w) ≡ pending
        → request_or_refusal request (next_number_at w) (table_at w) ≡ Ok sent
    at on None none =
        ap (λ (b : Bool). if b then unless_waiting (number_pending (row_for request w)) sent else Err NotLoggedOn) (logged_on_by_contact w ∙ on)
        ∙ ap (λ pending. unless_waiting pending sent) none
    at on (Some n) some = absurd (free n (on, some))

-- it is refused where it wasn't contacted
pub ask_is_off : (request : Message) (w : List CentreEvent) → was_contacted w ≡ false
    → request_or_refusal request (next_number_at w) (table_at w) ≡ Err NotLoggedOn
ask_is_off request w off =
    ap (λ (b : Bool). if b then unless_waiting (number_pending (row_for request w)) (with_number (next_number_at w) request) else Err NotLoggedOn)
    (logged_on_by_contact w ∙ off)

-- and where a request of the kind is pending
pub ask_waits : (request : Message) (w : List CentreEvent) (n : ℕ) → was_contacted w ≡ true → number_pending (row_for request w) ≡ Some n
    → request_or_refusal request (next_number_at w) (table_at w) ≡ Err (Waiting n)
ask_waits request w n on pending =
    ap (λ (b : Bool). if b then unless_waiting (number_pending (row_for request w)) (with_number (next_number_at w) request) else Err NotLoggedOn)
    (logged_on_by_contact w ∙ on)
    ∙ ap (λ found. unless_waiting found (with_number (next_number_at w) request)) pending

-- in an ask no number counts
asked_the_same : (request : Message) (n m : ℕ) (table : CentreTable) → effect_of (Asks request) m table ≡ effect_of (Asks (with_number n request)) m table
asked_the_same message.CancelAll n m table = refl
asked_the_same (message.Cancel k) n m table = refl
asked_the_same (message.CancelEmergency k) n m table = refl
asked_the_same (message.Periodic k interval groups intent) n m table = refl
asked_the_same (message.Event k limits) n m table = refl
asked_the_same (message.Emergency k interval groups intent) n m table = refl

pub ask_has_no_number : (request : Message) (n : ℕ) (w : List CentreEvent) → table_at (Asks request ∷ w) ≡ table_at (Asks (with_number n request) ∷ w)
ask_has_no_number request n w =
    ap (λ effect. table_behind (effect ∷ effects w)) (asked_the_same request n (next_number (effects w)) (table_behind (effects w)))

-- an answer that is Ok isn't this refusal
pub ok_is_not : {T : Type 0} (result : Result T AskRefused) (value : T) (why : AskRefused) (P : Type 0) → result ≡ Ok value → (result ≡ Err why) ↔ P → P → ⊥
ok_is_not result value why P is iff p = let both : Ok value ≡ Err why = sym is ∙ iff.1 p in cc

-- the centre asked
pub station_asked : (setting : Setting) (line link : ℕ) (log : List Happening) (before now : Station) (request : Message) (n : ℕ)
    → StationStands setting link log before → is_raw link log ≡ false
    → (was_contacted (history link log) ≡ false → ⊥)
    → ((m : ℕ) → IsTrue (was_contacted (history link log)) × (number_pending (row_for request (history link log)) ≡ Some m) → ⊥)
    → n ≡ next_number_at (history link log) → now.role ≡ Centre → now.address ≡ before.address → KeepsNames before.centre now.centre
    → StandsFor now.centre (Asks request ∷ history link log)
    → now.sent.items ≡ before.sent.items ++ texts.Message (with_number n request) ∷ []
    → StationDid (ask_step (history link log) line link request) line setting link log now None
station_asked setting line link log before now request n stood unused contacted free numbered role place names stands sent =
    let w = history link log in
    let numbered_request = with_number (next_number_at w) request in
    let same = same_link link in
    subst (λ answer. StationDid (asking_step line link answer) line setting link log now None) (sym (ask_is_sent request w contacted free))
    (centre_acts setting link log before now (Asked line link numbered_request) stood unused refl same role place names
    (subst (λ (b : Bool). StandsFor now.centre (cond b (Asks numbered_request ∷ w) w)) (sym same) (stands ∙ ask_has_no_number request (next_number_at w) w))
    (sent ∙ ap (λ m. before.sent.items ++ texts.Message (with_number m request) ∷ []) numbered
    ∙ ap (λ (b : Bool). before.sent.items ++ map text_sent (cond b (record { line = line; carried = Carries numbered_request } ∷ []) [])) (sym same)))

-- ---- cancels

-- the centre cancelled
pub station_cancelled : (setting : Setting) (line link : ℕ) (log : List Happening) (before now : Station) (cancel : Cancel) (message : Message)
    → StationStands setting link log before → is_raw link log ≡ false → now.role ≡ Centre → now.address ≡ before.address → KeepsNames before.centre now.centre
    → StandsFor now.centre (with_cancel cancel (history link log)) → now.sent.items ≡ before.sent.items ++ texts.Message message ∷ []
    → StationStands setting link (Cancelled line link cancel message ∷ log) now
station_cancelled setting line link log before now cancel message stood unused role place names stands sent =
    let w = history link log in
    let same = same_link link in
    centre_acts setting link log before now (Cancelled line link cancel message) stood unused refl same role place names
    (subst (λ (b : Bool). StandsFor now.centre (cond b (with_cancel cancel w) w)) (sym same) stands)
    (sent ∙ ap (λ (b : Bool). before.sent.items ++ map text_sent (cond b (record { line = line; carried = Carries message } ∷ []) [])) (sym same))

-- ---- deliveries

-- what a centre answers to what it heard
answered_so : (centre : CentreView) (line : ℕ) (hearing : Hearing) (answer : Heard) → IsAnswerTo centre hearing answer
    → answers_to answer ≡ map text_sent (answer_sent line hearing)
answered_so centre line (Ignores why) answer is = ap answers_to is
answered_so centre line (Greets contact) (heard.Contact sent) is = refl
answered_so centre line (Greets contact) (heard.Downlink found matched) is = absurd is
answered_so centre line (Greets contact) (heard.Ignored why) is = absurd is
answered_so centre line (Tells items) (heard.Contact sent) is = absurd is
answered_so centre line (Tells items) (heard.Downlink found matched) is = refl
answered_so centre line (Tells items) (heard.Ignored why) is = absurd is

-- the centre heard a text
pub station_heard : (setting : Setting) (line link place : ℕ) (log : List Happening) (before now : Station) (text : List ℕ) (hearing : Hearing) (answer : Heard)
    → StationStands setting link log before → is_raw link log ≡ false → SaysTo before.centre text hearing → IsAnswerTo before.centre hearing answer
    → now.role ≡ Centre → now.address ≡ before.address → KeepsNames before.centre now.centre → StandsFor now.centre (with_heard hearing (history link log))
    → now.sent.items ≡ before.sent.items ++ answers_to answer
    → (heard : Hearing) × Says (address_of setting link) setting.registration text heard × StationStands setting link (WasHeard line link place heard ∷ log) now
station_heard setting line link place log before now text hearing answer stood unused says answers role listed names stands sent =
    let w = history link log in
    let same = same_link link in (
      hearing,
      subst (λ (x : List ℕ × List ℕ). Says x.0 x.1 text hearing) (λ i. (stood.address i, stood.registration i)) says,
      centre_acts setting link log before now (WasHeard line link place hearing) stood unused refl same role listed names
          (subst (λ (b : Bool). StandsFor now.centre (cond b (with_heard hearing w) w)) (sym same) stands)
          (sent ∙ ap (λ more. before.sent.items ++ more) (answered_so before.centre line hearing answer answers)
          ∙ ap (λ (b : Bool). before.sent.items ++ map text_sent (cond b (answer_sent line hearing) [])) (sym same)),
    )

-- ---- results

pub on_ok_then : {E A P Q : Type 0} (result : Result A E) → OnOk result Q → (Q → P) → OnOk result P
on_ok_then (Ok value) holds so = so holds
on_ok_then (Err fault) holds so = tt

-- a result that is Ok and nothing more
pub if_ok_none : {E Q : Type 0} (result : Result (Option End) E) → IfOk result (λ end. end ≡ None) → OnOk result Q → (P : Option End → Type 0) → (Q → P None)
    → IfOk result P
if_ok_none (Ok end) none holds P so = subst P (sym none) (so holds)
if_ok_none (Err fault) none holds P so = tt

-- ---- refusals

-- a station that is as it was
pub station_same : (setting : Setting) (link : ℕ) (log : List Happening) (before now : Station) → StationStands setting link log before
    → now.address ≡ before.address → now.role ≡ before.role → now.centre ≡ before.centre → now.sent.items ≡ before.sent.items → StationStands setting link log now
station_same setting link log before now stood place role centre sent =
    record {
      listed = place ∙ stood.listed;
      raw = ap is_raw_role role ∙ stood.raw;
      centre = ap is_centre_role role ∙ stood.centre;
      address = ap (λ (v : CentreView). v.address) centre ∙ stood.address;
      registration = ap (λ (v : CentreView). v.registration) centre ∙ stood.registration;
      stands = ap (λ (v : CentreView). v.table) centre ∙ stood.stands;
      sent = sent ∙ stood.sent;
    }

-- a centre that wasn't contacted can't ask
pub asked_off : (setting : Setting) (line link : ℕ) (log : List Happening) (now : Station) (request : Message) (end : End) → was_contacted (history link log) ≡ false
    → end ≡ ends_bad line code.Logon 0 → StationStands setting link log now
    → StationDid (ask_step (history link log) line link request) line setting link log now (Some end)
asked_off setting line link log now request end off is stands =
    subst (λ answer. StationDid (asking_step line link answer) line setting link log now (Some end)) (sym (ask_is_off request (history link log) off)) (is, stands)

-- a centre waits for another answer
pub asked_waiting : (setting : Setting) (line link : ℕ) (log : List Happening) (now : Station) (request : Message) (n : ℕ) (end : End)
    → IsTrue (was_contacted (history link log)) × (number_pending (row_for request (history link log)) ≡ Some n)
    → end ≡ ends_bad line code.Waiting n → StationStands setting link log now
    → StationDid (ask_step (history link log) line link request) line setting link log now (Some end)
asked_waiting setting line link log now request n end waits is stands =
    subst (λ answer. StationDid (asking_step line link answer) line setting link log now (Some end))
    (sym (ask_waits request (history link log) n waits.0 waits.1)) (is, stands)

-- an error is this one where what it stands for holds
pub err_is : {T : Type 0} (result : Result T AskRefused) (why : AskRefused) (P : Type 0) → result ≡ Err why → (result ≡ Err why) ↔ P → P
err_is result why P is iff = iff.0 is

-- ---- cancels of a kind

pub kind_cancelled : (setting : Setting) (line link : ℕ) (log : List Happening) (now : Station) (kind : Kind) (n : ℕ)
    → number_to_cancel (row_at kind (history link log)) ≡ Some n
    → StationStands setting link (Cancelled line link (Of kind) (message.Cancel n) ∷ log) now
    → StationDid (cancel_step (history link log) line link (Of kind)) line setting link log now None
kind_cancelled setting line link log now kind n number stands =
    subst (λ found. StationDid (cancelling_step line link (Of kind) found) line setting link log now None) (sym number) stands

pub nothing_to_cancel : (setting : Setting) (line link : ℕ) (log : List Happening) (now : Station) (kind : Kind) (end : End)
    → number_to_cancel (row_at kind (history link log)) ≡ None → end ≡ ends_bad line code.Nothing 0 → StationStands setting link log now
    → StationDid (cancel_step (history link log) line link (Of kind)) line setting link log now (Some end)
nothing_to_cancel setting line link log now kind end none is stands =
    subst (λ found. StationDid (cancelling_step line link (Of kind) found) line setting link log now (Some end)) (sym none) (is, stands)

-- the emergency mode was cancelled
pub mode_cancelled : (setting : Setting) (line link : ℕ) (log : List Happening) (now : Station) (n : ℕ) → n ≡ mode_cancel_number (row_at Emergency (history link log))
    → StationStands setting link (Cancelled line link EmergencyMode (message.CancelEmergency n) ∷ log) now
    → StationDid (cancel_step (history link log) line link EmergencyMode) line setting link log now None
mode_cancelled setting line link log now n number stands =
    subst (λ m. StationStands setting link (Cancelled line link EmergencyMode (message.CancelEmergency m) ∷ log) now) number stands
