use Rattle.net_script.specs.Bytes.{AreCleanBefore}
use Rattle.net_script.proofs.bytes.first_barred.Given as goal

-- No byte so far is barred.
abbrev pub invariant-loop-place : goal.invariant-loop-place
invariant-loop-place l = AreCleanBefore l.line l.place
