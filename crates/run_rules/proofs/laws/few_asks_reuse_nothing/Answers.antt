use Rattle.run_rules.proofs.FewAsks.{few_asks_reuse_nothing}
use Rattle.run_rules.proofs.laws.few_asks_reuse_nothing.Goals as goal

pub returns : goal.returns
returns c = few_asks_reuse_nothing
