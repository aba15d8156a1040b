-- Each type holds its data, and proofs about it.
use Rattle.adsc_downlink.proofs.SameValues.{same_item, same_items}
use Rattle.adsc_downlink.proofs.laws.same_data_same_value.Goals as goal

pub returns-clause-item : goal.returns-clause-item
returns-clause-item c = same_item

pub returns-clause-items : goal.returns-clause-items
returns-clause-items c = same_items
