use Rattle.std.proofs.Common.{rules}
use Rattle.adsc_bench.proofs.ListLemmas.{one_item}
use Rattle.adsc_bench.proofs.words.ask_for_show.Goals as goal

pub returns-in-len1 : goal.returns-in-len1
returns-in-len1 c =
    let one = one_item _ _ c.in-len1.len_at_least c.in-len1.len_below c.command-item.is in
    rw one (search rules)
