use Rattle.std.proofs.Common.{refl, sym, append-nil}
use Rattle.adsc_run.proofs.StepLaws.{text_refused}
use Rattle.adsc_run.proofs.course.Course.refuse.Goals as goal

pub returns : goal.returns
returns c log stood = (
  text_refused c.args.self.now _ log c.args.line c.args.why stood refl refl c.in_ok-push.ensures.items refl refl,
  record { craft = refl; burst = sym (append-nil c.args.self.now.burst.items) },
)
