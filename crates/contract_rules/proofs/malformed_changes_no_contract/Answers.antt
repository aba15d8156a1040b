use Rattle.contract_rules.proofs.Unchanged.{malformed_changes_no_contract, malformed_changes_nothing}
use Rattle.contract_rules.proofs.malformed_changes_no_contract.Goals as goal

pub returns-clause-contracts : goal.returns-clause-contracts
returns-clause-contracts c = malformed_changes_no_contract

pub returns-clause-all_else : goal.returns-clause-all_else
returns-clause-all_else c = malformed_changes_nothing
