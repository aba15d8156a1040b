use Rattle.std.proofs.Common.{rules, refl, ◌∷◌, sym, subst}
use Rattle.centre_core.specs.Events.{Cancels}
use Rattle.centre_core.specs.Histories.{StandsFor}
use Rattle.centre_core.specs.View.{CentreView, KeepsNames}
use Rattle.adsc_requests.specs.declared.message.Message.TheVariants.{Cancel}
use Rattle.net_script.specs.declared.line.Cancel.TheVariants.{Of}
use Rattle.run_rules.specs.Happenings.{history}
use Rattle.adsc_run.proofs.StationLaws.{if_ok_none, kind_cancelled, nothing_to_cancel, station_cancelled, station_same}
use Rattle.adsc_run.proofs.station.Station.cancel_kind.Goals as goal

pub returns-in-Ok : goal.returns-in-Ok
returns-in-Ok c setting link log stood unused =
    let w = history link log in
    if_ok_none c.send.result c.send.ensures.end c.send.ensures.sent _
    (λ sent. kind_cancelled setting c.args.line link log c.send.new.self c.args.kind c.in-Ok.sent.n (c.in-Ok.ensures.number w stood.stands)
    (station_cancelled setting c.args.line link log c.args.self.now c.send.new.self (Of c.args.kind) (Cancel c.in-Ok.sent.n) stood unused c.send.ensures.role c.send.ensures.address
    (subst (λ centre. KeepsNames c.args.self.now.centre centre) (sym c.send.ensures.centre) c.cancel.ensures.names)
    (subst (λ (centre : CentreView). StandsFor centre (Cancels c.args.kind ∷ w)) (sym c.send.ensures.centre) (c.cancel.ensures.stands w stood.stands))
    sent))

pub returns-in-Err : goal.returns-in-Err
returns-in-Err c setting link log stood unused =
    let w = history link log in
    nothing_to_cancel setting c.args.line link log (record { address = c.args.self.now.address; role = c.args.self.now.role; centre = c.cancel.new.self; sent = c.args.self.now.sent }) c.args.kind _ ((c.cancel.ensures.nothing w stood.stands).0 (search rules))
    c.bad_line.ensures (station_same setting link log c.args.self.now (record { address = c.args.self.now.address; role = c.args.self.now.role; centre = c.cancel.new.self; sent = c.args.self.now.sent }) stood refl refl (search rules) refl)
