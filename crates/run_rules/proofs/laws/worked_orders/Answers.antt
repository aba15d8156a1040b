use Rattle.run_rules.proofs.WorkedOrders.{across_a_cancel, across_a_tick, of_one_worker}
use Rattle.run_rules.proofs.laws.worked_orders.Goals as goal

pub returns-clause-across_a_tick : goal.returns-clause-across_a_tick
returns-clause-across_a_tick c = across_a_tick

pub returns-clause-across_a_cancel : goal.returns-clause-across_a_cancel
returns-clause-across_a_cancel c = across_a_cancel

pub returns-clause-of_one_worker : goal.returns-clause-of_one_worker
returns-clause-of_one_worker c = of_one_worker
