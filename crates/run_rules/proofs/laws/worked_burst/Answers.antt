use Rattle.run_rules.proofs.WorkedBursts.{order_decides}
use Rattle.run_rules.proofs.laws.worked_burst.Goals as goal

pub returns : goal.returns
returns c = order_decides
