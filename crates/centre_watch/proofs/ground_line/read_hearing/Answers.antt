use Rattle.std.proofs.Common.{rules, Option, Some, None, IsSome, ◌≡◌, sym, ◌∙◌, inr, refl, subst}
use Rattle.acars_envelope.specs.Names.{IsAddress}
use Rattle.net_script.specs.declared.refusal.LineRefusal.{LineRefusal}
use Rattle.ground_rules.specs.GroundLines.{IsGroundRefusal}
use Rattle.centre_watch.proofs.GroundLineLaws.{hearing_read, hearing_wrong}
use Rattle.centre_watch.proofs.ground_line.read_hearing.Goals as goal

pub returns-in-Some-new-clause-ok : goal.returns-in-Some-new-clause-ok
returns-in-Some-new-clause-ok c =
    let value = c.in-Some-new.ensures.value ∙ c.field_at.ensures in
    hearing_read c.args.line.now c.in-Some.rest.now c.in-Some-behind_comma.field-0.now c.in-Some-new.address c.requires
    c.in-Some.ensures.joined c.in-Some.ensures.some c.in-Some-behind_comma.ensures.joined c.in-Some-behind_comma.ensures.some
    (subst IsAddress (sym c.in-Some-new.ensures.value) (search rules)) value

-- no address was found
none_found : {A : Type 0} (found : Option A) → found ≡ None → IsSome found → ⊥
none_found None is some = cc
none_found (Some value) is some = cc

pub returns-in-None-clause-refused : goal.returns-in-None-clause-refused
returns-in-None-clause-refused c =
    let wrong = hearing_wrong c.args.line.now c.in-Some.rest.now c.in-Some-behind_comma.field-0.now c.in-Some.ensures.some c.in-Some-behind_comma.ensures.some
    (λ is. none_found c.new.result c.in-None.is (c.new.ensures.found.1 (subst IsAddress (sym c.field_at.ensures) is))) in
    subst (λ (refusal : LineRefusal). IsGroundRefusal c.args.line.now refusal) (sym c.bad-in-None.ensures) (inr (c.requires, (wrong.0, wrong.1, refl)))
