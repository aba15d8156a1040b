use Rattle.std.proofs.Common.{◌≡◌, ◌≤◌, ℕ, true, arith}
use Rattle.std.proofs.lemmas.Bool.Decides.{nat_tests}
use Rattle.acars_envelope.specs.Bodies.{is_body_size}
use Rattle.acars_envelope.specs.declared.texts.Body.TheVariants.{Ads}
use Rattle.acars_envelope.proofs.PrintableLaws.{sealed_text_has_no_newline}
use Rattle.aircraft_core.proofs.outbox.Outbox.send.Goals as goal

sized : (count : ℕ) → 1 ≤ count → count ≤ 255 → is_body_size count ≡ true
sized count low high = grind (arith, nat_tests)

pub returns-clause-unbroken : goal.returns-clause-unbroken
returns-clause-unbroken c =
    let forms = c.append_ads_text.ensures.forms in
    sealed_text_has_no_newline c.args.address.now (Ads c.args.registration.now (record { items = c.args.payload.now }))
    forms.0 (forms.1, forms.2) (sized _ c.requires.some c.requires.few)
