use Rattle.std.proofs.Common.{[]}
use Rattle.adsc_run.proofs.OutgoingLaws.{puts_then}
use Rattle.adsc_run.proofs.output.outgoing.Outgoing.put.Goals as goal

pub returns-in-Err : goal.returns-in-Err
returns-in-Err g c =
    puts_then _ _ _ [] c.args.bytes.now
    (rw c.in-Err.ensures.err at c.write_block.ensures.puts)
    c.put_first.ensures
