use Rattle.contract_rules.proofs.AtMostFive.{at_most_five_live}
use Rattle.contract_rules.proofs.at_most_five_live.Goals as goal

pub returns : goal.returns
returns c = at_most_five_live
