use Rattle.std.proofs.Common.{rules, ◌≡◌, ◌∷◌, ap, ◌∙◌}
use Rattle.std.proofs.lemmas.Bool.{eqb-true}
use Rattle.csv.specs.Records.{fields_of}
use Rattle.flight_samples.proofs.SplitLemmas.{last_one, one_more}
use Rattle.flight_samples.proofs.splitter.is_split.Goals as goal

pub returns-in-None : goal.returns-in-None
returns-in-None c last =
    let found = c.in-Some.ensures in
    last_one (fields_of c.args.row.now) c.args.text.now c.loop-place.rest.now c.in-Some.behind.now c.loop-place.place
    (eqb-true _ _ last ∙ c.len.ensures) (rw (← c.field_at.ensures) found.whole) (rw (← c.field_at.ensures) found.begins)
    c.in-None.ensures.cases c.loop-place.invariant

pub loop-place-preserved : goal.loop-place-preserved
loop-place-preserved c =
    let found = c.in-Some.ensures in
    let next = c.in-Some-eq44-default.ensures.cases in
    let behind : c.in-Some.behind.now ≡ 44 ∷ c.in-Some-eq44-default.more.now =
    next.0 ∙ ap (λ byte. byte ∷ c.in-Some-eq44-default.more.now) c.in-Some-eq44-default.field-0-0-test in
    one_more (fields_of c.args.row.now) c.args.text.now c.loop-place.rest.now c.in-Some-eq44-default.more.now c.loop-place.place
    (search rules) (rw (← c.field_at.ensures) found.whole) (rw (← c.field_at.ensures) (rw behind at found.begins)) c.loop-place.invariant
