use Rattle.std.proofs.Common.{false, sym, subst}
use Rattle.std.proofs.lemmas.Result.{IfOk-weaker}
use Rattle.run_rules.specs.Stages.{receives}
use Rattle.adsc_run.specs.Courses.{Did}
use Rattle.adsc_run.proofs.StepLaws.{ended_here}
use Rattle.adsc_run.proofs.course.Course.receive.Goals as goal

pub returns-in-Ok : goal.returns-in-Ok
returns-in-Ok c log stood =
    let found = c.in-Ok.ensures.found log (λ link. receives c.args.self.now.craft.setting link c.args.place) stood in
    IfOk-weaker c.receive_from.result _ _
    (λ end did. subst (λ step. Did false step c.args.line log c.args.self.now c.receive_from.new.self end) (sym found.0) did)
    (c.receive_from.ensures log stood found.1)

pub returns-in-Err : goal.returns-in-Err
returns-in-Err c log stood =
    ended_here false _ c.args.line log c.args.self.now c.in-Err.end (c.in-Err.ensures.bad log (λ link. receives c.args.self.now.craft.setting link c.args.place) stood) stood
