use Rattle.contract_rules.proofs.LiveAndInForce.{live_since_admission}
use Rattle.contract_rules.proofs.live_since_admission.Goals as goal

pub returns : goal.returns
returns c = live_since_admission
