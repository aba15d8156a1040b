use Rattle.std.proofs.Common.{◌%◌, length, ap, arith}
use Rattle.aircraft_core.proofs.HearingLaws.{told_none, written_none}
use Rattle.aircraft_core.proofs.TakingLaws.{told_message, written_message}
use Rattle.aircraft_core.proofs.taking.hear.Goals as goal

pub loop-message-init : goal.loop-message-init
loop-message-init c = record {
  table = c.requires.table;
  told = told_none c.args.table.now;
  written = written_none c.args.setup.now c.args.latest.now c.args.table.now c.args.link c.args.out.now;
  size = omega (arith, ap length c.requires.empty);
  octets = ap (λ bits. length bits % 8) c.requires.empty;
}

pub loop-message-preserved : goal.loop-message-preserved
loop-message-preserved c = record {
  table = c.tell.ensures.table;
  told = told_message c.args.link c.args.messages.now c.loop-message.message-index c.message-item.result c.loop-message-test.true c.message-item.is
      c.args.table.now c.loop-message.table c.tell.new.table c.loop-message.invariant.told c.tell.ensures.told;
  written = written_message c.args.link c.args.messages.now c.loop-message.message-index c.message-item.result c.loop-message-test.true c.message-item.is
      c.args.setup.now c.args.latest.now c.args.table.now c.loop-message.table c.args.out.now c.loop-message.out c.tell.new.out
      c.loop-message.invariant.told c.loop-message.invariant.written c.tell.ensures.written;
  size = omega (arith, c.tell.ensures.size, c.loop-message.invariant.size);
  octets = c.tell.ensures.whole;
}
