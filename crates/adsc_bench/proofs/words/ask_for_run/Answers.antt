use Rattle.std.proofs.Common.{rules}
use Rattle.std.proofs.lemmas.Option.{IfSome_then}
use Rattle.adsc_bench.proofs.ListLemmas.{two_items}
use Rattle.adsc_bench.proofs.words.ask_for_run.Goals as goal

pub returns-in-len2-clause-some : goal.returns-in-len2-clause-some
returns-in-len2-clause-some c =
    let two = two_items _ _ _ c.in-len2.len_at_least c.in-len2.len_below c.command-item.is c.count-item.is in
    IfSome_then c.workers_of.result c.workers_of.ensures.some (λ workers is. (is.0, is.1, rw two (search rules)))
