use Rattle.std.proofs.Common.{◌≡◌, length}
use Rattle.adsc_io.specs.Lines.{script_lines}
use Rattle.adsc_run.specs.Outboxes.{AreEnds, IsRest}
use Rattle.adsc_run.proofs.outbox.TextEnds.find.Given as goal

-- the ends so far are found, and the rest stands behind the last
abbrev pub invariant-loop : goal.invariant-loop
invariant-loop l = record {
  ends : AreEnds l.self.ends.items (script_lines l.outbox);
  rest : IsRest l.outbox (length l.self.ends.items) l.rest;
  count : length l.self.ends.items ≡ l.counter;
}
