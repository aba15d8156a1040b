use Rattle.std.proofs.Common.{arith, ◌∙◌, ap}
use Rattle.acars_envelope.specs.Texts.{four_digits}
use Rattle.acars_envelope.proofs.TextLaws.{ads_pieces}
use Rattle.acars_envelope.proofs.ads.read_ads.Goals as goal

pub returns-clause-spelled : goal.returns-clause-spelled
returns-clause-spelled c =
    let long = c.in_ok-check_payload_size.ensures.size.0 in
    ads_pieces c.args.text.now c.in_ok-registration.registration _ _ (omega (arith, long)) c.requires.letters
    c.in_ok-registration.ensures.value.1 c.append_payload.ensures.spelled
    (c.in_ok-check_last_digits.ensures.right ∙ ap four_digits (rw c.as_slice.ensures.value at c.check_of_ads.ensures))
