-- Each text from the ground says something.
use Rattle.std.proofs.Common.{ℕ, List, inl, inr, refl}
use Rattle.acars_envelope.specs.declared.texts.Body.{Body}
use Rattle.acars_envelope.specs.declared.texts.Body.TheVariants as body
use Rattle.acars_envelope.specs.Bodies.{HasItsForms}
use Rattle.ground_texts.specs.Readings.{ReadsBody, ReadsText}
use Rattle.ground_texts.specs.declared.ground_text.GroundText.{GroundText}
use Rattle.ground_texts.specs.declared.ground_text.GroundText.TheVariants as text
use Rattle.ground_texts.proofs.EachAnswer.{each_answer}
use Rattle.ground_texts.proofs.EachEnvelope.{envelope_or_fault}
use Rattle.ground_texts.proofs.EachUplink.{each_payload}
use Rattle.ground_texts.proofs.TextLaws.{text_of_body}

-- Each body says something.
each_body : (address : List ℕ) (b : Body) → HasItsForms b → (reading : GroundText) × ReadsBody address b reading
each_body address (body.Ads registration payload) forms =
    let asked = each_payload payload.items forms.1 in
    (text.Ads (record { address = address; registration = registration; octets = payload; asked = asked.0 }), (refl, refl, refl, asked.1))
each_body address (body.Afn found) forms =
    let answer = each_answer found.items in
    (text.Afn (record { address = address; answer = answer.0 }), (refl, answer.1))

-- Each text says something.
pub each_text : (characters : List ℕ) → (reading : GroundText) × ReadsText characters reading
each_text characters =
    elim (envelope_or_fault characters) [
      | inl found ↦
          let said = each_body found.0.address found.0.body found.1.body in
          (said.0, text_of_body characters found.0 said.0 found.1 said.1)
      | inr fault ↦ (text.Refused fault.0, fault.1)
    ]
