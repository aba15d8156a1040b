use Rattle.run_rules.proofs.WorkedOldDownlink.{old_downlink_misleads}
use Rattle.run_rules.proofs.WorkedOldUplink.{old_uplink_misleads}
use Rattle.run_rules.proofs.WorkedOtherRow.{other_row_misleads}
use Rattle.run_rules.proofs.laws.worked_early_reuse.Goals as goal

pub returns-clause-old_uplink : goal.returns-clause-old_uplink
returns-clause-old_uplink c = old_uplink_misleads

pub returns-clause-old_downlink : goal.returns-clause-old_downlink
returns-clause-old_downlink c = old_downlink_misleads

pub returns-clause-other_row : goal.returns-clause-other_row
returns-clause-other_row c = other_row_misleads
