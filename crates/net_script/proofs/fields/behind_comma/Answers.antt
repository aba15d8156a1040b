use Rattle.std.proofs.Common.{arith, length, ◌<◌, ◌+◌, ap}
use Rattle.std.proofs.lemmas.List.{take_rest}
use Rattle.net_script.proofs.FieldsLaws.{fields-behind, fields-whole, first-joined}
use Rattle.net_script.proofs.fields.behind_comma.Goals as goal

pub returns-then-end-text-clause-none : goal.returns-then-end-text-clause-none
returns-then-end-text-clause-none c =
    ap length (fields-whole _ (λ k lt. c.field_length-end.ensures.unbroken k (omega (arith, c.if-end-text.true))))

pub returns-clause-some : goal.returns-clause-some
returns-clause-some c =
    let found = c.field_length-end.ensures in
    let inside : c.field_length-end.result < length c.args.text.now = omega (arith, found.within) in
    rw (take_rest c.args.text.now (c.field_length-end.result + 1)) (fields-behind _ _ inside found.unbroken (found.ended inside))

pub returns-clause-joined : goal.returns-clause-joined
returns-clause-joined c =
    let found = c.field_length-end.ensures in
    let inside : c.field_length-end.result < length c.args.text.now = omega (arith, found.within) in
    rw (take_rest c.args.text.now (c.field_length-end.result + 1)) (first-joined _ _ inside found.unbroken (found.ended inside))
