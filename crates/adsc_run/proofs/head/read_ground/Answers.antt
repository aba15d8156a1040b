use Rattle.std.proofs.Common.{◌≡◌, Err, refl, subst, rules}
use Rattle.std.proofs.lemmas.Result.{IfErr-weaker, IfOk-weaker}
use Rattle.run_rules.specs.Stages.{named, stage_behind}
use Rattle.script_reading.specs.Readable.{SaysRightly}
use Rattle.adsc_run.specs.UnderWay.{IsInStage}
use Rattle.adsc_run.proofs.HeadLaws.{said_stops, says_on}
use Rattle.adsc_run.proofs.head.read_ground.Goals as goal

pub read_said-requires : goal.read_said-requires
read_said-requires g c = (c.requires.0, c.requires.2.readings, c.requires.2.read)

pub returns-clause-went : goal.returns-clause-went
returns-clause-went g c =
    IfOk-weaker c.ground_said.result _ _
    (λ ground is before who stood. subst (λ said. IsInStage before (g.S.Source.left c.read_said.new.source) c.read_said.new.feed.lines 2 (stage_behind (named who) said)) is
    (says_on before _ _ _ _ 1 (named who) _ stood (c.in_ok-said.ensures.said before stood.readings stood.read) (rw (is) refl)))
    c.ground_said.ensures.said

pub returns-clause-links : goal.returns-clause-links
returns-clause-links g c =
    IfOk-weaker c.ground_said.result _ _ (λ ground is. subst SaysRightly is c.in_ok-said.ensures.rightly) c.ground_said.ensures.said

pub returns-clause-stopped : goal.returns-clause-stopped
returns-clause-stopped g c =
    IfErr-weaker c.ground_said.result _ _
    (λ stop stops before who stood. said_stops before _ _ _ _ 1 (named who) _ stop stood tt (c.in_ok-said.ensures.said before stood.readings stood.read) (stops who))
    c.ground_said.ensures.stopped

pub returns-in_err-said-clause-stopped : goal.returns-in_err-said-clause-stopped
returns-in_err-said-clause-stopped g c =
    let answered : c.from_residual.result ≡ Err c.in_err-said.field-0.0 = search rules in
    rw (answered) (λ before who stood. c.in_err-said.ensures.stopped before 1 (named who) tt refl stood)
