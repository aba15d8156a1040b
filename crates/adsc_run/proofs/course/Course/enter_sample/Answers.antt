use Rattle.adsc_run.proofs.course.Course.enter_sample.Goals as goal

pub returns : goal.returns
returns c log stood = c.enter.ensures log c.args.line stood
