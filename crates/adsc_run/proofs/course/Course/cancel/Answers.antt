use Rattle.std.proofs.Common.{false, refl, sym, subst, arith}
use Rattle.std.proofs.lemmas.Result.{IfOk-weaker}
use Rattle.run_rules.specs.Happenings.{history}
use Rattle.run_rules.specs.Lines.{cancel_step}
use Rattle.adsc_run.specs.Courses.{Did}
use Rattle.adsc_run.proofs.StepLaws.{cancelled_did, ended_here}
use Rattle.adsc_run.proofs.course.Course.cancel.Goals as goal

pub returns-in-Ok : goal.returns-in-Ok
returns-in-Ok c log stood =
    let found = c.in-Ok.ensures.found log (λ link. cancel_step (history link log) c.args.line link c.args.cancel) stood in
    IfOk-weaker c.cancel_at.result _ _
    (λ end did. subst (λ step. Did false step c.args.line log c.args.self.now (record { craft = c.args.self.now.craft; stations = c.cancel_at.new.stations; refused = c.args.self.now.refused; burst = c.args.self.now.burst; downlink_ends = c.args.self.now.downlink_ends }) end) (sym found.0)
    (cancelled_did c.args.line c.in-Ok.link log c.args.self.now (record { craft = c.args.self.now.craft; stations = c.cancel_at.new.stations; refused = c.args.self.now.refused; burst = c.args.self.now.burst; downlink_ends = c.args.self.now.downlink_ends }) stood (omega (arith, c.in-Ok.ensures.within, c.requires.count)) refl refl refl stood.found c.args.cancel end did))
    (c.cancel_at.ensures c.args.self.now.craft.setting log stood.each found.1)

pub returns-in-Err : goal.returns-in-Err
returns-in-Err c log stood =
    ended_here false _ c.args.line log c.args.self.now c.in-Err.end (c.in-Err.ensures.bad log (λ link. cancel_step (history link log) c.args.line link c.args.cancel) stood) stood
