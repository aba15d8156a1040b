-- The messages so far were told, and what they make due was written.
use Rattle.std.proofs.Common.{◌≡◌, ◌*◌, ◌%◌, ◌≤◌, length, take}
use Rattle.aircraft_core.specs.Taking.{IsTableOf, WasTold, WasWritten, said_on}
use Rattle.aircraft_core.proofs.taking.hear.Given as goal

abbrev pub invariant-loop-message : goal.invariant-loop-message
invariant-loop-message l = record {
  table : IsTableOf l.setup l.table;
  told : WasTold l.fn.table (said_on l.link (take l.message-index l.messages)) l.table;
  written : WasWritten l.setup l.latest l.fn.table l.link (said_on l.link (take l.message-index l.messages)) l.fn.out l.out;
  size : length l.out ≤ 496 * l.message-index;
  octets : length l.out % 8 ≡ 0;
}
