use Rattle.adsc_run.proofs.RunLaws.{outcome_of}
use Rattle.adsc_run.proofs.course.Course.finish.Goals as goal

pub returns-in-Ok-ended-clause-run : goal.returns-in-Ok-ended-clause-run
returns-in-Ok-ended-clause-run g c before now ending =
    outcome_of c.args.workers before now c.in-Ok.entered c.args.end c.in-Ok-ended.outcome
    (record { ended = ending.ended c.in-Ok.entered c.in-Ok.ensures; done = ending.done })
    c.in-Ok-ended.ensures.craft c.in-Ok-ended.ensures.refused c.in-Ok-ended.ensures.centres c.in-Ok-ended.ensures.end
