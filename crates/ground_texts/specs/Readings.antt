-- What a text from the ground says. Texts follow ARINC 622, payloads and the characters of AFN texts RTCA DO-258A / EUROCAE ED-100A;
-- first faults are this project's profile.
use Rattle.std.specs.Prelude.{◌≡◌, ℕ, List, Result, Ok, Err}
use Rattle.acars_envelope.specs.declared.texts.Body.{Body}
use Rattle.acars_envelope.specs.declared.texts.Body.TheVariants as body
use Rattle.acars_envelope.specs.declared.texts.Envelope.{Envelope}
use Rattle.acars_envelope.specs.Faults.{IsFirstEnvelopeFault}
use Rattle.acars_envelope.specs.Texts.{IsEnvelopeText}
use Rattle.adsc_requests.specs.Grammar.{EncodesUplink}
use Rattle.adsc_requests.specs.Refusals.{IsFirstUplinkFault}
use Rattle.adsc_requests.specs.declared.message.Uplink.{Uplink}
use Rattle.adsc_requests.specs.declared.refusal.Refusal.{Refusal}
use Rattle.afn_logon.specs.Contents.{answer_data}
use Rattle.afn_logon.specs.Forms.{IsAnswerText, IsSomeAnswer}
use Rattle.afn_logon.specs.Mismatch.{IsFirstMismatch}
use Rattle.afn_logon.specs.declared.answer.Answer.{Answer}
use Rattle.afn_logon.specs.declared.refusal.AfnRefusal.{AfnRefusal}
use Rattle.ground_texts.specs.declared.ground_text.GroundText.{GroundText}
use Rattle.ground_texts.specs.declared.ground_text.GroundText.TheVariants as text

-- A payload is read as the uplink that it encodes, or as its first fault.
abbrev pub ReadsPayload : List ℕ → Result Uplink Refusal → Type 0
ReadsPayload octets (Ok uplink) = EncodesUplink uplink octets
ReadsPayload octets (Err refusal) = IsFirstUplinkFault refusal octets

-- Characters are read as the answer that they are, or as their first mismatch.
abbrev pub ReadsAnswer : List ℕ → Result Answer AfnRefusal → Type 0
ReadsAnswer characters (Ok answer) = IsAnswerText (answer_data answer) characters
ReadsAnswer characters (Err refusal) = IsFirstMismatch IsSomeAnswer characters refusal.place

-- The body of an envelope from this address is read as an uplink of the application ADS, or as a text of the application AFN.
abbrev pub ReadsBody : List ℕ → Body → GroundText → Type 0
ReadsBody address (body.Ads registration payload) (text.Ads uplink) =
    (uplink.address ≡ address) × (uplink.registration ≡ registration) × (uplink.octets ≡ payload) × ReadsPayload payload.items uplink.asked
ReadsBody address (body.Afn characters) (text.Afn notice) = (notice.address ≡ address) × ReadsAnswer characters.items notice.answer
ReadsBody address found reading = ⊥

-- A text is read as the first bad place of its envelope, or as what its envelope carries.
abbrev pub ReadsText : List ℕ → GroundText → Type 0
ReadsText characters (text.Refused fault) = IsFirstEnvelopeFault characters fault
ReadsText characters reading = (envelope : Envelope) × IsEnvelopeText envelope characters × ReadsBody envelope.address envelope.body reading
