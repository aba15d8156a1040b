-- Each text says something to a centre.
use Rattle.std.proofs.Common.{◌≡◌, ℕ, List, inl, inr, refl, sym, subst}
use Rattle.bit_terms.specs.Octets.{octets_bits}
use Rattle.acars_envelope.specs.Texts.{IsEnvelopeText}
use Rattle.acars_envelope.specs.declared.texts.Body.{Body}
use Rattle.acars_envelope.specs.declared.texts.Body.TheVariants.{Ads, Afn}
use Rattle.acars_envelope.specs.declared.texts.Envelope.{Envelope}
use Rattle.adsc_downlink.proofs.OneReading.{some_reading}
use Rattle.afn_logon.proofs.FormLaws.{contact_or_mismatch}
use Rattle.centre_core.specs.Hearing.{Hearing, Ignores, Greets, Tells, Says, SaysInBody, contact_registration_place, downlink_registration_place}
use Rattle.centre_core.specs.declared.heard.Ignored.TheVariants as ignored
use Rattle.ground_texts.proofs.EachEnvelope.{envelope_or_fault}
use Rattle.net_script.proofs.Deciding.{decided_text}

-- The text says something.
abbrev IsSomething : List ℕ → List ℕ → List ℕ → Type 0
IsSomething address registration text = (hearing : Hearing) × Says address registration text hearing

-- What the envelope's body says, where the envelope bears the centre's address.
body_says : (address registration text : List ℕ) (e : Envelope) → IsEnvelopeText e text → e.address ≡ address → (b : Body) → e.body ≡ b
    → IsSomething address registration text
body_says address registration text e is own (Ads other payload) same = elim (decided_text other registration) [
  | inr another ↦ (
    Ignores (ignored.OtherRegistration downlink_registration_place),
    (e, is, (own, subst (λ b. SaysInBody registration b (Ignores (ignored.OtherRegistration downlink_registration_place))) (sym same) (another, refl))),
  )
  | inl its ↦ elim (some_reading (octets_bits payload.items)) [
    | inl items ↦ (Tells items.0, (e, is, (own, subst (λ b. SaysInBody registration b (Tells items.0)) (sym same) (its, items.1))))
    | inr fault ↦
        let said : Hearing = Ignores (ignored.Bits (record { bit = fault.0; why = fault.1 })) in
        (said, (e, is, (own, subst (λ b. SaysInBody registration b said) (sym same) (its, fault.2))))
  ]
]
body_says address registration text e is own (Afn characters) same = elim (contact_or_mismatch characters.items) [
  | inr mismatch ↦
      let said : Hearing = Ignores (ignored.Afn (record { place = mismatch.0 })) in
      (said, (e, is, (own, subst (λ b. SaysInBody registration b said) (sym same) mismatch.1)))
  | inl found ↦ elim (decided_text found.0.registration registration) [
    | inl its ↦ (
      Greets found.0,
      (e, is, (own, subst (λ b. SaysInBody registration b (Greets found.0)) (sym same) (found.0, found.1, (its, refl)))),
    )
    | inr another ↦
        let said : Hearing = Ignores (ignored.OtherRegistration (contact_registration_place found.0.flight)) in
        (said, (e, is, (own, subst (λ b. SaysInBody registration b said) (sym same) (found.0, found.1, (another, refl)))))
  ]
]

-- Each text says something to each centre.
pub each_hearing : (address registration text : List ℕ) → (hearing : Hearing) × Says address registration text hearing
each_hearing address registration text = elim (envelope_or_fault text) [
  | inr fault ↦ (Ignores (ignored.Envelope fault.0), fault.1)
  | inl found ↦ elim (decided_text found.0.address address) [
    | inl own ↦ body_says address registration text found.0 found.1 own found.0.body refl
    | inr other ↦ (Ignores ignored.OtherAddress, (found.0, found.1, other))
  ]
]
