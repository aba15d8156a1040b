use Rattle.std.proofs.Common.{[], ◌∷◌, ◌++◌, ◌∙◌, ap, subst, sym}
use Rattle.std.proofs.lemmas.Result.{IfErr-weaker, IfOk-weaker}
use Rattle.run_rules.specs.declared.reading.Reading.TheVariants.{Says}
use Rattle.adsc_run.specs.Feeds.{HasRead, IsNext, IsReadableNext, found_in}
use Rattle.adsc_run.specs.UnderWay.{StopsBy}
use Rattle.adsc_run.proofs.HeadLaws.{next_stops}
use Rattle.adsc_run.proofs.head.read_said.Goals as goal

pub returns-in-Ok-clause-said : goal.returns-in-Ok-clause-said
returns-in-Ok-clause-said g c =
    IfOk-weaker c.said_in.result _ _
    (λ said is before readings has.
    subst (λ lines. HasRead before (g.S.Source.left c.next.new.source) lines (readings ++ Says said ∷ [])) (sym c.take_reading.ensures.lines)
    (subst (λ found. IsNext before (g.S.Source.left c.next.new.source) c.next.new.self.lines readings found)
    (ap (λ reading. found_in reading c.in-Ok.next) (sym c.take_reading.ensures.reading) ∙ is) (c.in-Ok.ensures.next before readings has)))
    c.said_in.ensures.said

pub returns-in-Ok-clause-rightly : goal.returns-in-Ok-clause-rightly
returns-in-Ok-clause-rightly g c =
    IfOk-weaker c.said_in.result _ _
    (λ said is. subst IsReadableNext (ap (λ reading. found_in reading c.in-Ok.next) (sym c.take_reading.ensures.reading) ∙ is) c.in-Ok.ensures.readable)
    c.said_in.ensures.said

pub returns-in-Ok-clause-stopped : goal.returns-in-Ok-clause-stopped
returns-in-Ok-clause-stopped g c =
    IfErr-weaker c.said_in.result _ _
    (λ stop stops before count stage head numbered stood.
    next_stops before _ _ _ _ c.args.number count stage _ stop stood head numbered (c.in-Ok.ensures.next before stood.readings stood.read)
    (subst (λ reading. StopsBy c.args.number stage (found_in reading c.in-Ok.next) stop) c.take_reading.ensures.reading (stops stage head)))
    c.said_in.ensures.stopped
