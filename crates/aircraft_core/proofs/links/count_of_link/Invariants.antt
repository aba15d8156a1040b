-- The dues so far are all on the link.
use Rattle.std.proofs.Common.{◌≡◌, ◌+◌, drop}
use Rattle.aircraft_core.specs.Sending.{count_at_front}
use Rattle.aircraft_core.proofs.links.count_of_link.Given as goal

abbrev pub invariant-loop-due : goal.invariant-loop-due
invariant-loop-due l = record {
  count : l.count ≡ l.due-index;
  whole : l.count + count_at_front l.link (drop l.due-index l.dues) ≡ count_at_front l.link l.dues;
}
