use Rattle.contract_rules.proofs.Anchors.{anchor_is_latest}
use Rattle.contract_rules.proofs.anchor_is_latest.Goals as goal

pub returns : goal.returns
returns c = anchor_is_latest
