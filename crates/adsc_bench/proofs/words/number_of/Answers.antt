use Rattle.std.proofs.Common.{◌≡◌, true, false, Ok, decimal, sym, ap, ◌∙◌}
use Rattle.std.proofs.lemmas.Slice.Eq.{bytes_eq-Decides}
use Rattle.adsc_bench.proofs.WordsLaws.{none_spelled}
use Rattle.adsc_bench.proofs.words.number_of.Goals as goal

pub returns-in_default-clause-none : goal.returns-in_default-clause-none
returns-in_default-clause-none c = none_spelled c.args.word.now c.parse.result c.parse.ensures.value.0 (λ n is spelled. c.in_default.not-Ok n is)

pub returns-clause-none : goal.returns-clause-none
returns-clause-none c = none_spelled c.args.word.now c.parse.result c.parse.ensures.value.0 (λ n is spelled.
    let both : Ok c.in-Ok.number ≡ Ok n = sym c.in-Ok.is ∙ is in
    let same : c.in-Ok.number ≡ n = cc in
    let whole : c.format.result.now ≡ c.args.word.now = c.format.ensures.text ∙ ap decimal same ∙ sym spelled in
    let never : false ≡ true = c.if-eq.ensures ∙ (bytes_eq-Decides c.format.result.now c.args.word.now).1 whole in
    cc)
