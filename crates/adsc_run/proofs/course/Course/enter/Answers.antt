use Rattle.std.proofs.Common.{[], ◌∷◌, ◌++◌, refl, ap, ◌∙◌}
use Rattle.adsc_run.proofs.StepLaws.{flight_entered}
use Rattle.adsc_run.proofs.course.Course.enter.Goals as goal

pub returns : goal.returns
returns c log line stood =
    flight_entered c.args.self.now _ log line c.args.entry stood (c.apply.ensures.setting ∙ c.in_ok-reserve.ensures.setting)
    (c.apply.ensures.journal ∙ ap (λ j. j ++ c.args.entry ∷ []) c.in_ok-reserve.ensures.journal) refl refl refl refl c.requires.flight
