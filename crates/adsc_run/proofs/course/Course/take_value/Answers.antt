use Rattle.adsc_run.proofs.course.Course.take_value.Goals as goal

pub returns-in-S : goal.returns-in-S
returns-in-S c log stood = rw (c.in-S.is) (c.enter_sample.ensures log stood)

pub returns-in-T : goal.returns-in-T
returns-in-T c log stood = rw (c.in-T.is) (c.enter_tick.ensures log stood)

pub returns-in-E : goal.returns-in-E
returns-in-E c log stood = rw (c.in-E.is) (c.enter_switch.ensures log stood)

pub returns-in-L : goal.returns-in-L
returns-in-L c log stood = rw (c.in-L.is) (c.log_on.ensures log stood)

pub returns-in-C : goal.returns-in-C
returns-in-C c log stood = rw (c.in-C.is) (c.ask.ensures log stood)

pub returns-in-K : goal.returns-in-K
returns-in-K c log stood = rw (c.in-K.is) (c.cancel.ensures log stood)

pub returns-in-B : goal.returns-in-B
returns-in-B c log stood = rw (c.in-B.is) (c.bring.ensures log stood)

pub returns-in-R : goal.returns-in-R
returns-in-R c log stood = rw (c.in-R.is) (c.receive.ensures log stood)
