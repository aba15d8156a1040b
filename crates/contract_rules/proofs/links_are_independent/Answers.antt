use Rattle.contract_rules.proofs.Independence.{links_are_independent}
use Rattle.contract_rules.proofs.FiveLinks.{five_links_are_independent}
use Rattle.contract_rules.proofs.links_are_independent.Goals as goal

pub returns-clause-but_for_admissions : goal.returns-clause-but_for_admissions
returns-clause-but_for_admissions c = links_are_independent

pub returns-clause-of_at_most_five : goal.returns-clause-of_at_most_five
returns-clause-of_at_most_five c = five_links_are_independent
