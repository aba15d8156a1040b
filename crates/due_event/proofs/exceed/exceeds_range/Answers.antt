use Rattle.std.proofs.Common.{rules}
use Rattle.due_event.proofs.exceed.exceeds_range.Goals as goal

pub returns-in-Some : goal.returns-in-Some
returns-in-Some c = rw c.in-Some.is (search rules)
