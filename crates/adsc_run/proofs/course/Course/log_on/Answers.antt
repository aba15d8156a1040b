use Rattle.std.proofs.Common.{refl, sym, append-nil}
use Rattle.adsc_run.proofs.course.Course.log_on.Goals as goal

pub returns-in-Some : goal.returns-in-Some
returns-in-Some c log stood = rw (c.in-Some.ensures.place) (c.enter.ensures log c.args.line stood)

pub returns-in-None : goal.returns-in-None
returns-in-None c log stood =
    rw (c.in-None.ensures.place)
    (c.bad_line.ensures, stood, record { setting = refl; journal = sym (append-nil c.args.self.now.craft.journal); burst = refl })
