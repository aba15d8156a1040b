-- The texts that a centre sends: envelopes of ARINC 622 with one message, or with an answer to a contact, of RTCA DO-258A /
-- EUROCAE ED-100A.
use Rattle.std.specs.Prelude.{ℕ, List, [], ◌∷◌}
use Rattle.acars_envelope.specs.Texts.{sealed_text}
use Rattle.acars_envelope.specs.declared.texts.Body.TheVariants.{Ads, Afn}
use Rattle.adsc_requests.specs.Contents.{content_of}
use Rattle.adsc_requests.specs.Grammar.{joined}
use Rattle.adsc_requests.specs.declared.message.Message.{Message}
use Rattle.afn_logon.specs.Contents.{ContactData}
use Rattle.afn_logon.specs.Makings.{answer_to}
use Rattle.afn_logon.specs.Texts.{answer_text}
use Rattle.centre_core.specs.View.{CentreView}

-- The payload of one message, its groups by rising tag.
abbrev pub message_payload : Message → List ℕ
message_payload message = joined (content_of message ∷ [])

-- The text that carries one message from the centre to its aircraft.
abbrev pub message_text : CentreView → Message → List ℕ
message_text centre message = sealed_text centre.address (Ads centre.registration (record { items = message_payload message }))

-- The text that answers a contact: it accepts the contact and each of its applications.
abbrev pub greeting_text : CentreView → ContactData → List ℕ
greeting_text centre contact = sealed_text centre.address (Afn (record { items = answer_text (answer_to contact) }))
