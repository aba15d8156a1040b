use Rattle.std.proofs.Common.{◌≡◌, List, Option, ℕ}
use Rattle.adsc_run.specs.Feeds.{IsReadableNext, found_in}
use Rattle.adsc_run.specs.UnderWay.{IsAtNext, IsUnderWay}
use Rattle.adsc_run.proofs.RunLaws.{turns_left}
use Rattle.adsc_run.proofs.course.Course.fly.Given as goal

-- the lines so far are carried out, but for what stands next, and no read failed
abbrev pub invariant-loop-course : goal.invariant-loop-course
invariant-loop-course g l = let source = g.S.Source in record {
  at : (before : Option (List ℕ)) → IsUnderWay l.workers before (source.left l.fn.source) l.fn.feed.lines l.fn.self
      → IsAtNext l.workers before (source.left l.source) l.feed.lines l.course (found_in l.feed.reading l.next);
  readable : IsReadableNext (found_in l.feed.reading l.next);
  kept : source.faults l.source ≡ source.faults l.fn.source;
}

abbrev pub decreases-loop-course : goal.decreases-loop-course
decreases-loop-course g l = turns_left l.feed.lines (found_in l.feed.reading l.next) l.course
