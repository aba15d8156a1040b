use Rattle.std.proofs.Common.{◌≡◌, arith, length}
use Rattle.std.proofs.lemmas.List.{length-map}
use Rattle.adsc_run.specs.Lists.{lists_in}
use Rattle.adsc_run.proofs.ListLaws.{none_dealt}
use Rattle.adsc_run.proofs.lists.empty_lists.Goals as goal

pub returns : goal.returns
returns c =
    let count : length (lists_in c.loop-worker.lists.items) ≡ length c.loop-worker.lists.items = length-map c.loop-worker.lists.items _ in
    none_dealt c.args.workers (lists_in c.loop-worker.lists.items) c.requires
    (omega (arith, count, c.loop-worker.invariant.count, c.loop-worker.auto._worker-end, c.loop-worker-test.false))
    c.loop-worker.invariant.empty
