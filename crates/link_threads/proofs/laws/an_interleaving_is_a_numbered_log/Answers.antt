use Rattle.link_threads.proofs.Mixing.{numbered}
use Rattle.link_threads.proofs.laws.an_interleaving_is_a_numbered_log.Goals as goal

pub returns : goal.returns
returns c = λ lists whole mix. numbered lists whole mix
