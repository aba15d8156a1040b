use Rattle.run_rules.proofs.AllowedOrders.{bursts_stand_in_line, link_stands_in_line, one_worker_rises, worker_stands_in_line}
use Rattle.run_rules.proofs.JournalCounts.{each_entry_stands_once}
use Rattle.run_rules.proofs.LineNumbers.{orders_name_lines}
use Rattle.run_rules.proofs.laws.allowed_orders_keep_line_order.Goals as goal

pub returns-clause-once : goal.returns-clause-once
returns-clause-once c = each_entry_stands_once

pub returns-clause-lines : goal.returns-clause-lines
returns-clause-lines c = orders_name_lines

pub returns-clause-link : goal.returns-clause-link
returns-clause-link c = link_stands_in_line

pub returns-clause-worker : goal.returns-clause-worker
returns-clause-worker c = worker_stands_in_line

pub returns-clause-bursts : goal.returns-clause-bursts
returns-clause-bursts c = bursts_stand_in_line

pub returns-clause-alone : goal.returns-clause-alone
returns-clause-alone c = one_worker_rises
