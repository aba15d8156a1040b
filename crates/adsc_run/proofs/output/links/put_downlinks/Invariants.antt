use Rattle.std.proofs.Common.{length}
use Rattle.adsc_io.specs.Lines.{script_lines}
use Rattle.adsc_run.specs.Outgoing.{on_way}
use Rattle.adsc_run.proofs.OutputLaws.{PutsSo}
use Rattle.run_rules.specs.Output.{downlink_lines}
use Rattle.adsc_run.proofs.output.links.put_downlinks.Given as goal

-- what was put so far, and the lines of the rest, make up the lines of the whole outbox
abbrev pub invariant-loop-text : goal.invariant-loop-text
invariant-loop-text g l =
    let sink = g.K.Sink in
    PutsSo (on_way (sink.written l.fn.sink) (sink.faults l.fn.sink) l.fn.out) (on_way (sink.written l.sink) (sink.faults l.sink) l.out)
    (downlink_lines (script_lines l.rest)) (downlink_lines (script_lines l.initial.rest))

abbrev pub decreases-loop-text : goal.decreases-loop-text
decreases-loop-text g l = length l.rest
