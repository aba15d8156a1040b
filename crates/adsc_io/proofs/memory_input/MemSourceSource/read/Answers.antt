-- What is left are the bytes behind those that were copied.
use Rattle.std.proofs.Common.{drop, sym, ◌∙◌, ap}
use Rattle.std.proofs.lemmas.List.{take_rest}
use Rattle.adsc_io.proofs.MemoryLemmas.{bytes_read}
use Rattle.adsc_io.proofs.memory_input.MemSourceSource.read.Goals as goal

pub returns-clause-bytes : goal.returns-clause-bytes
returns-clause-bytes c = bytes_read _ _ _ _ _ _ _ _
    (ap (λ source. source.left) (sym c.self.view_is))
    (take_rest c.deref-2.result.now c.self.inside.at ∙ ap (drop c.self.inside.at) c.deref-2.ensures.value)
    c.self.invariant.1 c.copy_front-count.ensures.count c.copy_front-count.ensures.copied
