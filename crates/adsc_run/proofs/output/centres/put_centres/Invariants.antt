use Rattle.std.proofs.Common.{take}
use Rattle.std.specs.List.{flat_map}
use Rattle.adsc_run.specs.OutcomeTexts.{lines_of_row}
use Rattle.adsc_run.specs.Outgoing.{Puts, on_way}
use Rattle.adsc_run.proofs.output.centres.put_centres.Given as goal

-- what was put so far are the lines of the centres so far
abbrev pub invariant-loop-row : goal.invariant-loop-row
invariant-loop-row g l =
    let sink = g.K.Sink in
    Puts (on_way (sink.written l.fn.sink) (sink.faults l.fn.sink) l.fn.out) (on_way (sink.written l.sink) (sink.faults l.sink) l.out)
    (flat_map lines_of_row (take l.row-index l.rows))
