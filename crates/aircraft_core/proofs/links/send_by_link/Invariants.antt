-- What was sent, and what is left.
use Rattle.std.proofs.Common.{length}
use Rattle.aircraft_core.proofs.LinkLaws.{IsLeft}
use Rattle.aircraft_core.proofs.links.send_by_link.Given as goal

abbrev pub invariant-loop-first : goal.invariant-loop-first
invariant-loop-first l = IsLeft l.setup l.sample l.dues l.rest l.fn.outboxes l.outboxes

abbrev pub decreases-loop-first : goal.decreases-loop-first
decreases-loop-first l = length l.rest
