-- The digits that are left are read as those behind the number so far.
use Rattle.std.proofs.Common.{◌≡◌, ◌≤◌, drop}
use Rattle.afn_logon.specs.Reading.{digits_reading}
use Rattle.afn_logon.proofs.numbers.read_number.Given as goal

abbrev pub invariant-loop-digit : goal.invariant-loop-digit
invariant-loop-digit l = record {
  whole : digits_reading l.digits l.limit 0 l.fn.unread ≡ digits_reading (drop l.digit-index l.digits) l.limit l.number l.unread;
  bound : l.number ≤ l.limit;
}
