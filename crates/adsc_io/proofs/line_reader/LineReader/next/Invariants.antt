use Rattle.std.proofs.Common.{◌≡◌, ◌+◌, ◌-◌, length}
use Rattle.adsc_io.specs.declared.limits.TheConstants.{MAX_SCRIPT_BYTES}
use Rattle.adsc_io.proofs.ReaderLaws.{HasTaken}
use Rattle.adsc_io.proofs.line_reader.LineReader.next.Given as goal

-- so far bytes were taken, and no line was answered
abbrev pub invariant-loop-line : goal.invariant-loop-line
invariant-loop-line g l = let source = g.S.Source in
    HasTaken l.fn.self l.self (source.left l.fn.source) (source.left l.source)
    × (source.faults l.source ≡ source.faults l.fn.source)

abbrev pub decreases-loop-line : goal.decreases-loop-line
decreases-loop-line g l = MAX_SCRIPT_BYTES + 1 - (l.self.taken + length l.self.held)
