use Rattle.run_rules.proofs.RisingOrder.{rising_is_allowed}
use Rattle.run_rules.proofs.laws.a_rising_order_is_allowed.Goals as goal

pub returns : goal.returns
returns c = rising_is_allowed
