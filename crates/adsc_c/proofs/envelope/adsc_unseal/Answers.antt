use Rattle.std.proofs.Common.{◌≡◌, Result, Ok, Err, refl, ◌∙◌, ap}
use Rattle.acars_envelope.specs.declared.texts.Envelope.{Envelope}
use Rattle.acars_envelope.specs.declared.refusal.EnvelopeRefusal.{EnvelopeRefusal}
use Rattle.adsc_c.specs.Envelopes.{flat_envelope_refusal}
use Rattle.adsc_c.proofs.envelope.adsc_unseal.Goals as goal

ok_is_no_err : (read : Result Envelope EnvelopeRefusal) (e : Envelope) (r : EnvelopeRefusal) → read ≡ Ok e → read ≡ Err r → ⊥
ok_is_no_err read e r ok err = cc

same_err : (read : Result Envelope EnvelopeRefusal) (a b : EnvelopeRefusal) → read ≡ Err a → read ≡ Err b → a ≡ b
same_err read a b first second = cc

pub returns-in-Ok-clause-first : goal.returns-in-Ok-clause-first
returns-in-Ok-clause-first c = λ r fault. absurd (ok_is_no_err c.unseal.result c.in-Ok.read r c.in-Ok.is (c.unseal.ensures.first r fault))

pub returns-in-Err-clause-first : goal.returns-in-Err-clause-first
returns-in-Err-clause-first c = λ r fault.
    (refl, c.flat_envelope_refusal.ensures ∙ ap flat_envelope_refusal (same_err c.unseal.result c.in-Err.fault r c.in-Err.is (c.unseal.ensures.first r fault)))
