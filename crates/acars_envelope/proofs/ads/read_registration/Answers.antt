use Rattle.std.proofs.Common.{◌∙◌, sym}
use Rattle.acars_envelope.proofs.RegistrationLaws.{no_registration_fault, registration_right, seven_characters}
use Rattle.acars_envelope.proofs.ads.read_registration.Goals as goal

pub from_seven-requires : goal.from_seven-requires
from_seven-requires c =
    let text = c.args.text.now in
    let long = c.in_ok-check_registration.ensures.there in
    rw (← seven_characters text long) (registration_right text long c.in_ok-check_registration.ensures.right
    (λ dots. c.is_dots.ensures.others c.if-is_dots.false (sym (seven_characters text long) ∙ dots)))

pub returns-clause-passed : goal.returns-clause-passed
returns-clause-passed c =
    let text = c.args.text.now in
    let long = c.in_ok-check_registration.ensures.there in
    no_registration_fault text long c.in_ok-check_registration.ensures.right
    (λ dots. c.is_dots.ensures.others c.if-is_dots.false (sym (seven_characters text long) ∙ dots))
