use Rattle.std.proofs.Common.{◌≡◌, ◌-◌, ◌≤◌, length, take}
use Rattle.std.specs.Io.KnownBytes.{Appends}
use Rattle.adsc_io.proofs.writing.write_all.Given as goal

-- The front of the bytes was written, no write failed, and as long as nothing was written the sink is as it was.

abbrev pub invariant-loop-at : goal.invariant-loop-at
invariant-loop-at g l = let sink = g.K.Sink in
    (l.at ≤ length l.bytes)
    × Appends (sink.written l.fn.sink) (sink.written l.sink) (take l.at l.bytes)
    × (sink.faults l.sink ≡ sink.faults l.fn.sink)
    × (l.at ≡ 0 → l.sink ≡ l.fn.sink)

abbrev pub decreases-loop-at : goal.decreases-loop-at
decreases-loop-at g l = length l.bytes - l.at
