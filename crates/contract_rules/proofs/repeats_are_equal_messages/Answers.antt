use Rattle.contract_rules.proofs.Equality.{equality_of_messages}
use Rattle.contract_rules.proofs.repeats_are_equal_messages.Goals as goal

pub returns : goal.returns
returns c = equality_of_messages
