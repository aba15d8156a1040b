use Rattle.std.proofs.Common.{◌∙◌}
use Rattle.adsc_run.proofs.HeadLaws.{too_soon}
use Rattle.adsc_run.proofs.head.said_in.Goals as goal

pub returns-in-End-clause-stopped : goal.returns-in-End-clause-stopped
returns-in-End-clause-stopped c stage head = rw (c.in-End.is) (c.bad_line.ensures ∙ too_soon stage c.args.number head)
