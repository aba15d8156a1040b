-- What a call makes of a watcher, over plain values.
use Rattle.std.proofs.Common.{◌≡◌, ◌↔◌, ℕ, Bool, false, not, ◌&&◌, ◌||◌, IsTrue, List, [], ◌∷◌, Option, Some, None, Result, Ok, Err, if◌then◌else◌, is_ok, IsSome, IfOk, IsErr, map, max, refl, sym, ap, ◌∙◌, subst}
use Rattle.std.specs.List.{list_any}
use Rattle.adsc_requests.specs.Kind.{kind_in}
use Rattle.adsc_requests.specs.declared.kind.Kind.{Kind}
use Rattle.adsc_requests.specs.declared.kind.Kind.TheVariants.{Periodic}
use Rattle.adsc_requests.specs.declared.message.Message.{Message}
use Rattle.centre_core.specs.Events.{CentreEvent, Asks, Cancels}
use Rattle.centre_core.specs.Heard.{IsAnswerTo, with_heard}
use Rattle.centre_core.specs.Hearing.{Hearing, Ignores, Greets, Tells}
use Rattle.centre_core.specs.Histories.{StandsFor, row_at, row_for, was_contacted}
use Rattle.centre_core.specs.Rows.{is_kind, same_kind}
use Rattle.centre_core.specs.Tables.{number_pending, number_to_cancel}
use Rattle.centre_core.specs.View.{CentreView}
use Rattle.centre_core.specs.declared.heard.Heard.{Heard}
use Rattle.centre_core.specs.declared.heard.Heard.TheVariants as heard
use Rattle.centre_core.specs.declared.refusal.AskRefused.{AskRefused}
use Rattle.centre_core.specs.declared.refusal.AskRefused.TheVariants.{NotLoggedOn, Waiting}
use Rattle.centre_core.specs.declared.refusal.NothingShown.{NothingShown}
use Rattle.centre_core.specs.declared.sent.Sent.{Sent}
use Rattle.ground_rules.specs.Watching.{Making, WatchEvent, Happens, Ticks, WatcherView, Watches, ends_quiet, events, heard_in}
use Rattle.ground_rules.specs.Waiting.{heard_ends, tell_position, waits}
use Rattle.ground_rules.proofs.Asking.{ask_refused, ask_sent}
use Rattle.ground_rules.proofs.Quiet.{asks_end, cancels_end, items_heard, refused_goes_on, uncancelled_goes_on}

-- The watcher has the time that it had, and the quiet ended, if it did.
pub record Ends (before now : WatcherView) (ends : Bool) : Type 0 where
  pub time : now.time ≡ before.time
  pub quiet : now.quiet ≡ (if ends then before.time else before.quiet)

-- So it is where it was changed so.
pub ended : (view before now : WatcherView) (centre : CentreView) (ends : Bool) → view ≡ before
    → now ≡ record view { centre = centre; quiet = if ends then view.time else view.quiet } → Ends before now ends
ended view before now centre ends same is = record {
  time = ap (λ (v : WatcherView). v.time) is ∙ ap (λ (v : WatcherView). v.time) same;
  quiet = ap (λ (v : WatcherView). v.quiet) is ∙ (λ i. if ends then (same i).time else (same i).quiet);
}

some_kind : (found : Option Kind) → IsSome found → (kind : Kind) × (found ≡ Some kind)
some_kind (Some kind) is = (kind, refl)
some_kind None is = cc

-- One event more, where it is told whether it ends the quiet.
pub watches_on : (before now : WatcherView) (making : Making) (past : List WatchEvent) (event : CentreEvent) (ends : Bool)
    → Watches before making past → StandsFor now.centre (event ∷ events making past) → Ends before now ends → ends_quiet event (events making past) ≡ ends
    → Watches now making (Happens event ∷ past)
watches_on before now making past event ends stood stands is_now is = record {
  centre = stands;
  time = is_now.time ∙ stood.time;
  quiet = is_now.quiet ∙ (λ i. if sym is i then stood.time i else stood.quiet i);
}

-- An ask: whatever was answered, the watcher then stands for the past with it.
pub watches_asked : (before now : WatcherView) (making : Making) (past : List WatchEvent) (request : Message) (result : Result Sent AskRefused)
    → Watches before making past → IsSome (kind_in request)
    → (result ≡ Err NotLoggedOn) ↔ (was_contacted (events making past) ≡ false)
    → ((n : ℕ) → (result ≡ Err (Waiting n)) ↔ (IsTrue (was_contacted (events making past)) × (number_pending (row_for request (events making past)) ≡ Some n)))
    → StandsFor now.centre (Asks request ∷ events making past) → Ends before now (is_ok result && is_kind Periodic (kind_in request))
    → Watches now making (Happens (Asks request) ∷ past)
watches_asked before now making past request (Ok sent) stood some off waiting stands is_now =
    let kind = some_kind (kind_in request) some in
    watches_on before now making past (Asks request) (is_kind Periodic (kind_in request)) stood stands is_now
    (asks_end request (events making past) kind.0 kind.1 (ask_sent request (events making past) (Ok sent) sent refl off waiting))
watches_asked before now making past request (Err why) stood some off waiting stands is_now =
    let kind = some_kind (kind_in request) some in
    watches_on before now making past (Asks request) false stood stands is_now
    (refused_goes_on request (events making past) kind.0 why kind.1 (ask_refused request (events making past) (Err why) why refl off waiting))

-- A cancel.
pub watches_cancelled : (before now : WatcherView) (making : Making) (past : List WatchEvent) (kind : Kind) (result : Result Sent NothingShown)
    → Watches before making past → IfOk result (λ sent. number_to_cancel (row_at kind (events making past)) ≡ Some sent.n)
    → IsErr result ↔ (number_to_cancel (row_at kind (events making past)) ≡ None)
    → StandsFor now.centre (Cancels kind ∷ events making past) → Ends before now (is_ok result && same_kind Periodic kind)
    → Watches now making (Happens (Cancels kind) ∷ past)
watches_cancelled before now making past kind (Ok sent) stood number nothing stands is_now =
    watches_on before now making past (Cancels kind) (same_kind Periodic kind) stood stands is_now (cancels_end kind (events making past) sent.n number)
watches_cancelled before now making past kind (Err why) stood number nothing stands is_now =
    watches_on before now making past (Cancels kind) false stood stands is_now (uncancelled_goes_on kind (events making past) (nothing.0 refl))

-- A text more.
pub watches_heard : (before now : WatcherView) (making : Making) (past : List WatchEvent) (hearing : Hearing) (answer : Heard) (waited still : Bool)
    → Watches before making past → IsAnswerTo before.centre hearing answer → StandsFor now.centre (with_heard hearing (events making past))
    → waited ≡ waits (row_at Periodic (events making past)) → still ≡ waits (row_at Periodic (with_heard hearing (events making past)))
    → Ends before now (heard_ends waited still answer)
    → Watches now making (heard_in hearing past)
watches_heard before now making past (Ignores why) answer waited still stood is stands was now_waits is_now = record {
  centre = stands;
  time = is_now.time ∙ stood.time;
  quiet = is_now.quiet ∙ ap (λ found. if heard_ends waited still found then before.time else before.quiet) is ∙ stood.quiet;
}
watches_heard before now making past (Greets contact) (heard.Contact sent) waited still stood is stands was now_waits is_now = record {
  centre = stands;
  time = is_now.time ∙ stood.time;
  quiet = is_now.quiet ∙ stood.quiet;
}
watches_heard before now making past (Greets contact) (heard.Downlink found matched) waited still stood is stands was now_waits is_now = absurd is
watches_heard before now making past (Greets contact) (heard.Ignored why) waited still stood is stands was now_waits is_now = absurd is
watches_heard before now making past (Tells items) (heard.Contact sent) waited still stood is stands was now_waits is_now = absurd is
watches_heard before now making past (Tells items) (heard.Ignored why) waited still stood is stands was now_waits is_now = absurd is
watches_heard before now making past (Tells items) (heard.Downlink found matched) waited still stood is stands was now_waits is_now =
    let so = items_heard making items past in
    record {
      centre = subst (λ w. StandsFor now.centre w) (sym so.history) stands;
      time = is_now.time ∙ stood.time ∙ sym so.now;
      quiet = is_now.quiet ∙ (λ i. if (was i && not (now_waits i)) || tell_position (is i) then stood.time i else stood.quiet i) ∙ sym so.since;
    }

-- A tick more.
pub watches_tick : (before now : WatcherView) (making : Making) (past : List WatchEvent) (t : ℕ)
    → Watches before making past → now.centre ≡ before.centre → now.time ≡ max before.time t → now.quiet ≡ before.quiet
    → Watches now making (Ticks t ∷ past)
watches_tick before now making past t stood centre moment quiet = record {
  centre = ap (λ (c : CentreView). c.table) centre ∙ stood.centre;
  time = moment ∙ ap (λ now. max now t) stood.time;
  quiet = quiet ∙ stood.quiet;
}

-- A test of what items stand for.
pub any_map : {A B : Type 0} (f : A → B) (test : B → Bool) (items : List A) → list_any (λ item. test (f item)) items ≡ list_any test (map f items)
any_map f test [] = refl
any_map f test (item ∷ items) = ap (λ others. test (f item) || others) (any_map f test items)
