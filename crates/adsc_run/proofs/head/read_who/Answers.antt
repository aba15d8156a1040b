use Rattle.std.proofs.Common.{◌≡◌, Err, refl, subst, rules}
use Rattle.std.proofs.lemmas.Result.{IfErr-weaker, IfOk-weaker}
use Rattle.run_rules.specs.Stages.{begun, stage_behind}
use Rattle.adsc_run.specs.UnderWay.{IsInStage}
use Rattle.adsc_run.proofs.HeadLaws.{said_stops, says_on}
use Rattle.adsc_run.proofs.head.read_who.Goals as goal

pub read_said-requires : goal.read_said-requires
read_said-requires g c = (c.requires.0, c.requires.1.readings, c.requires.1.read)

pub returns-clause-went : goal.returns-clause-went
returns-clause-went g c =
    IfOk-weaker c.who_said.result _ _
    (λ who is before stood. subst (λ said. IsInStage before (g.S.Source.left c.read_said.new.source) c.read_said.new.feed.lines 1 (stage_behind begun said)) is
    (says_on before _ _ _ _ 0 begun _ stood (c.in_ok-said.ensures.said before stood.readings stood.read) (rw (is) refl)))
    c.who_said.ensures.said

pub returns-clause-stopped : goal.returns-clause-stopped
returns-clause-stopped g c =
    IfErr-weaker c.who_said.result _ _
    (λ stop stops before stood. said_stops before _ _ _ _ 0 begun _ stop stood tt (c.in_ok-said.ensures.said before stood.readings stood.read) stops)
    c.who_said.ensures.stopped

pub returns-in_err-said-clause-stopped : goal.returns-in_err-said-clause-stopped
returns-in_err-said-clause-stopped g c =
    let answered : c.from_residual.result ≡ Err c.in_err-said.field-0.0 = search rules in
    rw (answered) (λ before stood. c.in_err-said.ensures.stopped before 0 begun tt refl stood)
