use Rattle.adsc_run.proofs.ListLaws.{given}
use Rattle.adsc_run.proofs.lists.give.Goals as goal

pub returns : goal.returns
returns c =
    given c.args.lists.now.items c.from.result c.args.worker c.index_mut.result.now c.push.new.self c.args.entry c.from.ensures c.requires
    c.index_mut.ensures.value c.in_ok-push.ensures.items
