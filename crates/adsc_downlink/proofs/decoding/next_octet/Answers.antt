-- The octet that the second reader took stands next.
use Rattle.std.proofs.Common.{ap, ◌∙◌, sym}
use Rattle.bit_terms.specs.Reading.{taken}
use Rattle.adsc_downlink.proofs.Stepping.{next_taken}
use Rattle.adsc_downlink.proofs.decoding.next_octet.Goals as goal

pub returns-in-Ok : goal.returns-in-Ok
returns-in-Ok c = sym (next_taken c.args.from.now c.take.new.self c.in-Ok.octet (ap (taken 8) (sym c.fork-ahead.ensures) ∙ c.in-Ok.ensures.gives))
