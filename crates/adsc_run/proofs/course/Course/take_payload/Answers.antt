use Rattle.std.proofs.Common.{◌∷◌, [], subst, true}
use Rattle.std.proofs.lemmas.Result.{IfOk-weaker}
use Rattle.aircraft_core.specs.declared.entry.Entry.TheVariants.{Uplink}
use Rattle.run_rules.specs.Happenings.{Entered}
use Rattle.run_rules.specs.Texts.{takes}
use Rattle.adsc_run.specs.Courses.{Did}
use Rattle.adsc_run.proofs.StepLaws.{payload_bad, payload_right, payload_wrong, taken_none, was_taken}
use Rattle.adsc_run.proofs.course.Course.take_payload.Goals as goal

pub returns-in-Ok : goal.returns-in-Ok
returns-in-Ok c log stood =
    payload_right log c.args.link c.args.line _ c.args.uplink.now.asked _ c.args.self.now _ _ c.in-Ok.is
    (subst (λ octets. Did true (takes log c.args.link (Entered (Uplink c.args.line c.args.link octets) ∷ [])) c.args.line log c.args.self.now c.take_on.new.self c.in_ok-end.end)
    c.append_octets.ensures (c.in_ok-end.ensures log stood))

pub returns-in-Some : goal.returns-in-Some
returns-in-Some c log stood =
    payload_bad log c.args.link c.args.line _ _ c.args.self.now _ _ _ c.in-Some.is
    (subst (λ octets. Did true (takes log c.args.link (Entered (Uplink c.args.line c.args.link octets) ∷ [])) c.args.line log c.args.self.now c.take_on.new.self c.in_ok-end.end)
    c.append_octets.ensures (c.in_ok-end.ensures log stood))

pub returns-in-None : goal.returns-in-None
returns-in-None c log stood =
    let entry = Uplink c.args.line c.args.link c.args.uplink.now.octets in
    let did = taken_none log c.args.link c.args.line entry c.args.self.now _ _ c.in-None.is
    (subst (λ octets. Did true (takes log c.args.link (Entered (Uplink c.args.line c.args.link octets) ∷ [])) c.args.line log c.args.self.now c.take_on.new.self c.in_ok-end.end)
    c.append_octets.ensures (c.in_ok-end.ensures log stood)) in
    IfOk-weaker c.refuse.result _ _
    (λ end refused. payload_wrong log c.args.link c.args.line entry c.args.uplink.now.asked c.in-Err.refusal c.args.self.now _ _ end c.in-Err.is did refused)
    (c.refuse.ensures (Entered entry ∷ log) (was_taken log c.args.link c.args.line entry c.args.self.now _ did).1)
