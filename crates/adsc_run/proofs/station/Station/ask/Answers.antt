use Rattle.std.proofs.Common.{rules, refl, [], ◌∷◌, ◌++◌, ◌≡◌, false, IsTrue, Some, ap, ◌∙◌, sym, subst}
use Rattle.centre_core.specs.Events.{Asks}
use Rattle.centre_core.specs.View.{CentreView, KeepsNames}
use Rattle.adsc_run.specs.declared.carried.SentText.TheVariants.{Message}
use Rattle.centre_core.specs.Histories.{StandsFor, row_for, was_contacted}
use Rattle.centre_core.specs.Tables.{number_pending}
use Rattle.centre_core.specs.declared.refusal.AskRefused.TheVariants.{NotLoggedOn, Waiting}
use Rattle.run_rules.specs.Happenings.{history}
use Rattle.net_script.specs.declared.refusal.Code.TheVariants as code
use Rattle.adsc_run.specs.Stations.{ends_bad}
use Rattle.adsc_run.proofs.StationLaws.{asked_off, asked_waiting, err_is, if_ok_none, ok_is_not, station_asked, station_same}
use Rattle.adsc_run.proofs.station.Station.ask.Goals as goal

pub returns-in-Ok : goal.returns-in-Ok
returns-in-Ok c setting link log stood unused =
    let w = history link log in
    if_ok_none c.send.result c.send.ensures.end c.send.ensures.sent _
    (λ sent. station_asked setting c.args.line link log c.args.self.now c.send.new.self c.args.request.now c.in-Ok.sent.n stood unused
    (ok_is_not c.ask.result c.in-Ok.sent NotLoggedOn (was_contacted w ≡ false) c.in-Ok.is (c.ask.ensures.not_logged_on w stood.stands))
    (λ m. ok_is_not c.ask.result c.in-Ok.sent (Waiting m) (IsTrue (was_contacted w) × (number_pending (row_for c.args.request.now w) ≡ Some m)) c.in-Ok.is
    (c.ask.ensures.waiting w stood.stands m))
    (c.in-Ok.ensures.number w stood.stands) c.send.ensures.role c.send.ensures.address
    (subst (λ centre. KeepsNames c.args.self.now.centre centre) (sym c.send.ensures.centre) c.ask.ensures.names)
    (subst (λ (centre : CentreView). StandsFor centre (Asks c.args.request.now ∷ w)) (sym c.send.ensures.centre) (c.ask.ensures.stands w stood.stands))
    (sent ∙ ap (λ message. c.args.self.now.sent.items ++ Message message ∷ []) c.with_number.ensures))

pub returns-in-Err-NotLoggedOn : goal.returns-in-Err-NotLoggedOn
returns-in-Err-NotLoggedOn c setting link log stood unused =
    let w = history link log in
    asked_off setting c.args.line link log (record { address = c.args.self.now.address; role = c.args.self.now.role; centre = c.ask.new.self; sent = c.args.self.now.sent }) c.args.request.now _
    (err_is c.ask.result NotLoggedOn (was_contacted w ≡ false) (search rules) (c.ask.ensures.not_logged_on w stood.stands))
    c.bad_line.ensures (station_same setting link log c.args.self.now (record { address = c.args.self.now.address; role = c.args.self.now.role; centre = c.ask.new.self; sent = c.args.self.now.sent }) stood refl refl (search rules) refl)

pub returns-in-Err-Waiting : goal.returns-in-Err-Waiting
returns-in-Err-Waiting c setting link log stood unused =
    let same : c.from.result ≡ c.in-Err-Waiting.n = search rules in
    let w = history link log in
    asked_waiting setting c.args.line link log (record { address = c.args.self.now.address; role = c.args.self.now.role; centre = c.ask.new.self; sent = c.args.self.now.sent }) c.args.request.now c.in-Err-Waiting.n _
    (err_is c.ask.result (Waiting c.in-Err-Waiting.n) (IsTrue (was_contacted w) × (number_pending (row_for c.args.request.now w) ≡ Some c.in-Err-Waiting.n)) (search rules)
    (c.ask.ensures.waiting w stood.stands c.in-Err-Waiting.n))
    (c.bad_line-in-Err-Waiting.ensures ∙ ap (λ m. ends_bad c.args.line code.Waiting m) same) (station_same setting link log c.args.self.now (record { address = c.args.self.now.address; role = c.args.self.now.role; centre = c.ask.new.self; sent = c.args.self.now.sent }) stood refl refl (search rules) refl)
