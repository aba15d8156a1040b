use Rattle.adsc_run.proofs.course.Course.take_notice.Goals as goal

pub returns-in_default : goal.returns-in_default
returns-in_default c log stood = rw (c.in_default.ensures.place) (c.refuse.ensures log stood)

pub returns : goal.returns
returns c log stood = rw (c.in-Some.ensures.place) (c.take_characters.ensures log stood)
