use Rattle.adsc_run.specs.Outgoing.{on_way}
use Rattle.adsc_run.proofs.OutputLaws.{PutsLinks}
use Rattle.adsc_run.proofs.output.links.put_links.Given as goal

-- what was put so far, and lines of the other links, make up lines of all links
abbrev pub invariant-loop-link : goal.invariant-loop-link
invariant-loop-link g l =
    let sink = g.K.Sink in
    PutsLinks l.craft.setting l.craft.journal l.link
    (on_way (sink.written l.fn.sink) (sink.faults l.fn.sink) l.fn.out) (on_way (sink.written l.sink) (sink.faults l.sink) l.out)
