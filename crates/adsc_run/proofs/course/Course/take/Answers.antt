use Rattle.adsc_run.proofs.course.Course.take.Goals as goal

pub returns-in-Says : goal.returns-in-Says
returns-in-Says c log stood = rw (c.in-Says.is) (c.take_value.ensures log stood)

pub returns-in-Brings : goal.returns-in-Brings
returns-in-Brings c log stood = rw (c.in-Brings.is) (c.take_text.ensures log stood)
