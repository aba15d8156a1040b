use Rattle.std.proofs.Common.{take}
use Rattle.std.specs.List.{flat_map}
use Rattle.adsc_run.specs.Outgoing.{Puts, on_way}
use Rattle.run_rules.specs.Output.{refused_line}
use Rattle.adsc_run.proofs.output.refused.put_refused.Given as goal

-- what was put so far are the lines of the refused texts so far
abbrev pub invariant-loop-one : goal.invariant-loop-one
invariant-loop-one g l =
    let sink = g.K.Sink in
    Puts (on_way (sink.written l.fn.sink) (sink.faults l.fn.sink) l.fn.out) (on_way (sink.written l.sink) (sink.faults l.sink) l.out)
    (flat_map refused_line (take l.one-index l.refused))
