use Rattle.std.proofs.Common.{take}
use Rattle.std.specs.List.{flat_map}
use Rattle.aircraft_core.specs.Entries.{line_of}
use Rattle.output_fields.specs.Fields.{number_field}
use Rattle.adsc_run.specs.Outgoing.{Puts, on_way}
use Rattle.adsc_run.proofs.output.journal.put_entries.Given as goal

-- what was put so far are the line numbers of the entries so far
abbrev pub invariant-loop-entry : goal.invariant-loop-entry
invariant-loop-entry g l =
    let sink = g.K.Sink in
    Puts (on_way (sink.written l.fn.sink) (sink.faults l.fn.sink) l.fn.out) (on_way (sink.written l.sink) (sink.faults l.sink) l.out)
    (flat_map (λ entry. number_field (line_of entry)) (take l.entry-index l.entries))
