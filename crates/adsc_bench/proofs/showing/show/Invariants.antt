use Rattle.std.proofs.Common.{◌+◌, ◌-◌, ◌≤◌}
use Rattle.adsc_io.specs.declared.limits.TheConstants.{MAX_SCRIPT_LINES}
use Rattle.adsc_bench.specs.Progress.{HasShown}
use Rattle.adsc_bench.specs.Seen.{seen}
use Rattle.adsc_bench.proofs.showing.show.Given as goal

-- the lines so far are shown
abbrev pub invariant-loop-status : goal.invariant-loop-status
invariant-loop-status g l = let source = g.S.Source in let sink = g.K.Sink in record {
  shown : HasShown (seen (source.left l.fn.source) (source.faults l.fn.source) (sink.written l.fn.sink) (sink.faults l.fn.sink))
      (seen (source.left l.source) (source.faults l.source) (sink.written l.sink) (sink.faults l.sink)) l.showing.reader l.showing.reader.number l.showing.refused;
  counted : l.showing.refused ≤ l.showing.reader.number;
}

abbrev pub decreases-loop-status : goal.decreases-loop-status
decreases-loop-status g l = MAX_SCRIPT_LINES + 1 - l.showing.reader.number
