use Rattle.std.proofs.Common.{rules}
use Rattle.std.proofs.lemmas.Option.{IfSome_then}
use Rattle.adsc_bench.proofs.ListLemmas.{three_items}
use Rattle.adsc_bench.proofs.words.ask_for_make.Goals as goal

pub returns-in-len3-clause-some : goal.returns-in-len3-clause-some
returns-in-len3-clause-some c =
    let three = three_items _ _ _ _ c.in-len3.len_at_least c.in-len3.len_below c.command-item.is c.number-item.is c.lines-item.is in
    IfSome_then c.script_of.result c.script_of.ensures.some (λ asked is. (_, _, is, rw three (search rules)))
