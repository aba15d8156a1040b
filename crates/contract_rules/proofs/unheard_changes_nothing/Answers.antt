use Rattle.contract_rules.proofs.Unchanged.{unheard_changes_nothing}
use Rattle.contract_rules.proofs.unheard_changes_nothing.Goals as goal

pub returns : goal.returns
returns c = unheard_changes_nothing
