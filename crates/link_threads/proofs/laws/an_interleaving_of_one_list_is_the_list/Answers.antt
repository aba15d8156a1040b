use Rattle.link_threads.proofs.Mixing.{mixed_one}
use Rattle.link_threads.proofs.laws.an_interleaving_of_one_list_is_the_list.Goals as goal

pub returns : goal.returns
returns c = λ list whole mix. mixed_one list whole mix
