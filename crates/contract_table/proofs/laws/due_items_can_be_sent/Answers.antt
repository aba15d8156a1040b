use Rattle.contract_table.proofs.Sendable.{due_items_sendable}
use Rattle.contract_table.proofs.laws.due_items_can_be_sent.Goals as goal

pub returns : goal.returns
returns c = due_items_sendable
