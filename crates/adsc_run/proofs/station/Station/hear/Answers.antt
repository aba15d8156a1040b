use Rattle.std.proofs.Common.{sym, subst}
use Rattle.centre_core.specs.Heard.{with_heard}
use Rattle.centre_core.specs.Histories.{StandsFor}
use Rattle.centre_core.specs.View.{CentreView, KeepsNames}
use Rattle.run_rules.specs.Happenings.{history}
use Rattle.adsc_run.proofs.StationLaws.{on_ok_then, station_heard}
use Rattle.adsc_run.proofs.station.Station.hear.Goals as goal

pub returns-clause-stands : goal.returns-clause-stands
returns-clause-stands c =
    on_ok_then c.answer.result c.answer.ensures.sent
    (λ sent setting link log line place stood unused.
    let w = history link log in
    let said = c.hear-heard.ensures.said in
    station_heard setting line link place log c.args.self.now c.answer.new.self c.args.text.now said.0 c.hear-heard.result stood unused said.1 said.2
    c.answer.ensures.role c.answer.ensures.address
    (subst (λ centre. KeepsNames c.args.self.now.centre centre) (sym c.answer.ensures.centre) c.hear-heard.ensures.names)
    (subst (λ (centre : CentreView). StandsFor centre (with_heard said.0 w)) (sym c.answer.ensures.centre) (c.hear-heard.ensures.stands w stood.stands said.0 said.1))
    sent)
