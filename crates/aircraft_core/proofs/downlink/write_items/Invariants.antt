-- What is written, and what is left.
use Rattle.std.proofs.Common.{◌≡◌, ◌%◌, length}
use Rattle.aircraft_core.proofs.WritingLaws.{IsWrittenTo}
use Rattle.aircraft_core.proofs.downlink.write_items.Given as goal

abbrev pub invariant-loop-due : goal.invariant-loop-due
invariant-loop-due l = record {
  written : IsWrittenTo l.setup l.sample l.dues l.due-index l.fn.out l.out;
  octets : length l.out % 8 ≡ 0;
}
