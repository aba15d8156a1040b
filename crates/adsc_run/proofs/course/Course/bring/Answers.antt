use Rattle.std.proofs.Common.{true, sym, subst}
use Rattle.std.proofs.lemmas.Result.{IfOk-weaker}
use Rattle.run_rules.specs.Happenings.{sent_messages}
use Rattle.run_rules.specs.Lines.{bring_step}
use Rattle.adsc_run.specs.Courses.{Did}
use Rattle.adsc_run.proofs.StepLaws.{ended_here}
use Rattle.adsc_run.proofs.course.Course.bring.Goals as goal

pub returns-in-Ok : goal.returns-in-Ok
returns-in-Ok c log stood =
    let found = c.in-Ok.ensures.found log (λ link. bring_step (sent_messages link log) c.args.line link c.args.place) stood in
    IfOk-weaker c.bring_from.result _ _
    (λ end did. subst (λ step. Did true step c.args.line log c.args.self.now c.bring_from.new.self end) (sym found.0) did)
    (c.bring_from.ensures log stood found.1)

pub returns-in-Err : goal.returns-in-Err
returns-in-Err c log stood =
    ended_here true _ c.args.line log c.args.self.now c.in-Err.end (c.in-Err.ensures.bad log (λ link. bring_step (sent_messages link log) c.args.line link c.args.place) stood) stood
