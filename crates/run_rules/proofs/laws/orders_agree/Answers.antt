use Rattle.run_rules.proofs.OrdersAgree.{orders_agree}
use Rattle.run_rules.proofs.laws.orders_agree.Goals as goal

pub returns : goal.returns
returns c = orders_agree
