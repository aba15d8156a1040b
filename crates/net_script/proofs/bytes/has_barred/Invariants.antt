use Rattle.std.proofs.Common.{◌≡◌, false}
use Rattle.net_script.specs.Bytes.{AreCleanBefore}
use Rattle.net_script.proofs.bytes.has_barred.Given as goal

-- No byte so far is barred, unless one was found.
abbrev pub invariant-loop-byte : goal.invariant-loop-byte
invariant-loop-byte l = l.found ≡ false → AreCleanBefore l.line l.byte-index
