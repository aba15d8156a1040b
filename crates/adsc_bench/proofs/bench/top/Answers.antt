use Rattle.std.proofs.Common.{◌≡◌, true, false, refl}
use Rattle.adsc_bench.specs.Making.{Makes}
use Rattle.adsc_bench.proofs.WordsLaws.{as_asked, none_listed}
use Rattle.adsc_bench.proofs.bench.top.Goals as goal

pub returns-in-Some-ask_for_make-clause-makes : goal.returns-in-Some-ask_for_make-clause-makes
returns-in-Some-ask_for_make-clause-makes g c = λ number lines asked. (
  refl,
  as_asked (λ n m. Makes n m (g.K.Sink.written c.args.sink.now) (g.K.Sink.faults c.args.sink.now) (g.K.Sink.written c.make.new.sink)
      (g.K.Sink.faults c.make.new.sink) (c.make.new.sink ≡ c.args.sink.now) c.make.result)
      c.in-Some-ask_for_make.number c.in-Some-ask_for_make.lines number lines _ c.in-Some-ask_for_make.ensures.some asked c.make.ensures,
)

pub returns-clause-words_only : goal.returns-clause-words_only
returns-clause-words_only g c = λ e.
    none_listed _ c.in_default.ensures.none (λ show. let never : false ≡ true = c.if-ask_for_show.ensures.1 show in cc) c.in_default-ask_for_make.ensures.none

pub returns-clause-makes : goal.returns-clause-makes
returns-clause-makes g c = λ number lines asked. absurd (c.in_default-ask_for_make.ensures.none number lines asked)
