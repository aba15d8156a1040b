use Rattle.std.proofs.Common.{refl, ◌∷◌, sym, subst, ◌∙◌}
use Rattle.centre_core.specs.Events.{CancelsAll}
use Rattle.centre_core.specs.Histories.{StandsFor}
use Rattle.centre_core.specs.View.{CentreView, KeepsNames}
use Rattle.adsc_requests.specs.declared.message.Message.TheVariants as message
use Rattle.net_script.specs.declared.line.Cancel.TheVariants.{EmergencyMode, All}
use Rattle.run_rules.specs.Happenings.{history}
use Rattle.adsc_run.proofs.StationLaws.{if_ok_none, mode_cancelled, station_cancelled}
use Rattle.adsc_run.proofs.station.Station.cancel.Goals as goal

pub returns-in-EmergencyMode : goal.returns-in-EmergencyMode
returns-in-EmergencyMode c setting link log stood unused =
    let w = history link log in
    rw (c.in-EmergencyMode.is) (if_ok_none c.send.result c.send.ensures.end c.send.ensures.sent _
    (λ sent. mode_cancelled setting c.args.line link log c.send.new.self _ (c.cancel_emergency-n.ensures.number w stood.stands)
    (station_cancelled setting c.args.line link log c.args.self.now c.send.new.self EmergencyMode (message.CancelEmergency c.cancel_emergency-n.result.n) stood unused c.send.ensures.role c.send.ensures.address
    (subst (λ centre. KeepsNames c.args.self.now.centre centre) (sym (c.send.ensures.centre ∙ c.cancel_emergency-n.ensures.same)) (refl, refl))
    (subst (λ (centre : CentreView). StandsFor centre w) (sym (c.send.ensures.centre ∙ c.cancel_emergency-n.ensures.same)) stood.stands)
    sent)))

pub returns-in-All : goal.returns-in-All
returns-in-All c setting link log stood unused =
    let w = history link log in
    rw (c.in-All.is) (if_ok_none c.send-in-All.result c.send-in-All.ensures.end c.send-in-All.ensures.sent _
    (λ sent. station_cancelled setting c.args.line link log c.args.self.now c.send-in-All.new.self All message.CancelAll stood unused c.send-in-All.ensures.role c.send-in-All.ensures.address
    (subst (λ centre. KeepsNames c.args.self.now.centre centre) (sym c.send-in-All.ensures.centre) c.cancel_all.ensures.names)
    (subst (λ (centre : CentreView). StandsFor centre (CancelsAll ∷ w)) (sym c.send-in-All.ensures.centre) (c.cancel_all.ensures.stands w stood.stands))
    sent))
