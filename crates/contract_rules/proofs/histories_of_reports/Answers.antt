-- Each clause is the history's own computation.
use Rattle.contract_rules.proofs.Worked.{period_and_moduli, numbers_in_series, groups_of_demand, greatest_tick, intervals}
use Rattle.contract_rules.proofs.histories_of_reports.Goals as goal

pub returns-clause-period_and_moduli : goal.returns-clause-period_and_moduli
returns-clause-period_and_moduli c = period_and_moduli

pub returns-clause-numbers_in_series : goal.returns-clause-numbers_in_series
returns-clause-numbers_in_series c = numbers_in_series

pub returns-clause-groups_of_demand : goal.returns-clause-groups_of_demand
returns-clause-groups_of_demand c = groups_of_demand

pub returns-clause-greatest_tick : goal.returns-clause-greatest_tick
returns-clause-greatest_tick c = greatest_tick

pub returns-clause-intervals : goal.returns-clause-intervals
returns-clause-intervals c = intervals
