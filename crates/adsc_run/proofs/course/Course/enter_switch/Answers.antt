use Rattle.adsc_run.proofs.course.Course.enter_switch.Goals as goal

pub returns : goal.returns
returns c log stood = c.enter.ensures log c.args.line stood
