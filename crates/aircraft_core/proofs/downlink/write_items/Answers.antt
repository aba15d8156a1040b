use Rattle.std.proofs.Common.{arith}
use Rattle.aircraft_core.proofs.WritingLaws.{all_written, next_fits, next_sendable, written_more}
use Rattle.aircraft_core.proofs.downlink.write_items.Goals as goal

pub write_item-requires-clause-sendable : goal.write_item-requires-clause-sendable
write_item-requires-clause-sendable c =
    next_sendable c.args.setup.now c.args.sample.now c.args.dues.now c.loop-due.due-index _ c.args.out.now c.loop-due.out c.loop-due-test.true c.loop-due.invariant.written

pub write_item-requires-clause-room : goal.write_item-requires-clause-room
write_item-requires-clause-room c =
    next_fits c.args.setup.now c.args.sample.now c.args.dues.now c.loop-due.due-index _ c.args.out.now c.loop-due.out c.loop-due-test.true c.loop-due.invariant.written
    c.requires.room

pub loop-due-preserved : goal.loop-due-preserved
loop-due-preserved c = record {
  written = written_more c.args.setup.now c.args.sample.now c.args.dues.now c.loop-due.due-index _ c.args.out.now c.loop-due.out c.loop-due-test.true
      c.loop-due.invariant.written c.write_item.new.out c.write_item.ensures.bits c.write_item.ensures.size;
  octets = c.write_item.ensures.whole;
}

pub returns-clause-bits : goal.returns-clause-bits
returns-clause-bits c =
    (all_written c.args.setup.now c.args.sample.now c.args.dues.now c.loop-due.due-index c.args.out.now c.loop-due.out (omega arith) c.loop-due.invariant.written).0

pub returns-clause-size : goal.returns-clause-size
returns-clause-size c =
    (all_written c.args.setup.now c.args.sample.now c.args.dues.now c.loop-due.due-index c.args.out.now c.loop-due.out (omega arith) c.loop-due.invariant.written).1
