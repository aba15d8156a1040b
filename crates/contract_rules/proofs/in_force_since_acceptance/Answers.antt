use Rattle.contract_rules.proofs.LiveAndInForce.{in_force_since_acceptance}
use Rattle.contract_rules.proofs.Series.{in_force_splits}
use Rattle.contract_rules.proofs.in_force_since_acceptance.Goals as goal

pub returns-clause-exactly : goal.returns-clause-exactly
returns-clause-exactly c = in_force_since_acceptance

pub returns-clause-splits : goal.returns-clause-splits
returns-clause-splits c = in_force_splits
