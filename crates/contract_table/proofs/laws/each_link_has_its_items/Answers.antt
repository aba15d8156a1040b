use Rattle.contract_table.proofs.DueItems.{dues_in_order, few_items}
use Rattle.contract_table.proofs.DuesLemmas.{items_on-dues_of}
use Rattle.contract_table.proofs.laws.each_link_has_its_items.Goals as goal

pub returns : goal.returns
returns c = record {
  items = λ configuration links link past act inside. items_on-dues_of link configuration links past act inside;
  rising = dues_in_order;
  few = few_items;
}
