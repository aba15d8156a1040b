-- The laws of what texts from the ground say.
use Rattle.std.proofs.Common.{◌≡◌, ℕ, List, Result, Ok, Err, sym, ap, ◌∙◌, subst}
use Rattle.arrayvec.specs.ArrayVec.{ArrayVec}
use Rattle.acars_envelope.specs.declared.refusal.EnvelopeRefusal.{EnvelopeRefusal}
use Rattle.acars_envelope.specs.declared.texts.Body.{Body}
use Rattle.acars_envelope.specs.declared.texts.Body.TheVariants as body
use Rattle.acars_envelope.specs.declared.texts.Envelope.{Envelope}
use Rattle.acars_envelope.specs.Texts.{IsEnvelopeText}
use Rattle.acars_envelope.proofs.EnvelopeLaws.{envelope_has_no_fault, same_envelope}
use Rattle.acars_envelope.proofs.FaultLaws.{one_first_fault}
use Rattle.adsc_requests.specs.Contents.{contents_of}
use Rattle.adsc_requests.specs.declared.message.Uplink.{Uplink}
use Rattle.adsc_requests.specs.declared.refusal.Refusal.{Refusal}
use Rattle.adsc_requests.proofs.Injective.{same_contents}
use Rattle.adsc_requests.proofs.ReadingLaws.{one_reading, one_refusal, uplink_never_fault}
use Rattle.afn_logon.specs.Contents.{answer_data}
use Rattle.afn_logon.specs.declared.answer.Answer.{Answer}
use Rattle.afn_logon.specs.declared.refusal.AfnRefusal.{AfnRefusal}
use Rattle.afn_logon.proofs.FormLaws.{one_answer, one_mismatch}
use Rattle.afn_logon.proofs.ValueLaws.{same_answer}
use Rattle.ground_texts.specs.Readings.{ReadsAnswer, ReadsBody, ReadsPayload, ReadsText}
use Rattle.ground_texts.specs.declared.ground_text.AdsUplink.{AdsUplink}
use Rattle.ground_texts.specs.declared.ground_text.AfnUplink.{AfnUplink}
use Rattle.ground_texts.specs.declared.ground_text.GroundText.{GroundText}
use Rattle.ground_texts.specs.declared.ground_text.GroundText.TheVariants as text

-- What the body of a text's envelope says, the text says.
pub text_of_body : (characters : List ℕ) (e : Envelope) (reading : GroundText) → IsEnvelopeText e characters → ReadsBody e.address e.body reading
    → ReadsText characters reading
text_of_body characters e (text.Refused fault) is reads = absurd (no_refusal e.address e.body fault reads)
  where
    no_refusal : (address : List ℕ) (b : Body) (fault : EnvelopeRefusal) → ReadsBody address b (text.Refused fault) → ⊥
    no_refusal address (body.Ads registration payload) fault reads = reads
    no_refusal address (body.Afn found) fault reads = reads
text_of_body characters e (text.Afn notice) is reads = (e, is, reads)
text_of_body characters e (text.Ads uplink) is reads = (e, is, reads)

-- ---- payloads and characters

-- A payload is read in one way.
one_payload : (octets : List ℕ) (one other : Result Uplink Refusal) → ReadsPayload octets one → ReadsPayload octets other → one ≡ other
one_payload octets (Ok one) (Ok other) a b =
    ap (λ (u : Uplink). Ok u) (same_contents one other (one_reading octets (contents_of one) (contents_of other) a b))
one_payload octets (Ok one) (Err other) a b = absurd (uplink_never_fault octets (one, a) (other, b))
one_payload octets (Err one) (Ok other) a b = absurd (uplink_never_fault octets (other, b) (one, a))
one_payload octets (Err one) (Err other) a b = ap (λ (r : Refusal). Err r) (one_refusal octets one other a b)

make_refusal : ℕ → AfnRefusal
make_refusal place = record { place = place }

-- Refusals with the same place are equal.
same_place : (a b : AfnRefusal) → a.place ≡ b.place → a ≡ b
unfolding make_refusal
same_place a b place i = make_refusal (place i)

-- Characters are read in one way.
one_characters : (characters : List ℕ) (one other : Result Answer AfnRefusal) → ReadsAnswer characters one → ReadsAnswer characters other → one ≡ other
one_characters characters (Ok one) (Ok other) a b =
    ap (λ (answer : Answer). Ok answer) (same_answer one other (one_answer (answer_data one) (answer_data other) characters a b))
one_characters characters (Ok one) (Err other) a b = absurd (b.none (answer_data one, a))
one_characters characters (Err one) (Ok other) a b = absurd (a.none (answer_data other, b))
one_characters characters (Err one) (Err other) a b = ap (λ (r : AfnRefusal). Err r) (same_place one other (one_mismatch a b))

-- ---- bodies

make_uplink : List ℕ × List ℕ × ArrayVec ℕ × Result Uplink Refusal → AdsUplink
make_uplink parts = record { address = parts.0; registration = parts.1; octets = parts.2; asked = parts.3 }

-- Uplinks with the same parts are equal.
same_ads : (a b : AdsUplink) → a.address ≡ b.address → a.registration ≡ b.registration → a.octets ≡ b.octets → a.asked ≡ b.asked → a ≡ b
unfolding make_uplink
same_ads a b address registration octets asked i = make_uplink (address i, registration i, octets i, asked i)

make_afn : List ℕ × Result Answer AfnRefusal → AfnUplink
make_afn parts = record { address = parts.0; answer = parts.1 }

-- Texts of the application AFN with the same parts are equal.
same_afn : (a b : AfnUplink) → a.address ≡ b.address → a.answer ≡ b.answer → a ≡ b
unfolding make_afn
same_afn a b address answer i = make_afn (address i, answer i)

-- A body is read in one way.
one_body : (address : List ℕ) (b : Body) (one other : GroundText) → ReadsBody address b one → ReadsBody address b other → one ≡ other
one_body address (body.Ads registration payload) (text.Ads one) (text.Ads other) a b =
    let asked = one_payload payload.items one.asked other.asked a.3 b.3 in
    ap (λ (u : AdsUplink). text.Ads u) (same_ads one other (a.0 ∙ sym b.0) (a.1 ∙ sym b.1) (a.2 ∙ sym b.2) asked)
one_body address (body.Afn found) (text.Afn one) (text.Afn other) a b =
    let answer = one_characters found.items one.answer other.answer a.1 b.1 in
    ap (λ (u : AfnUplink). text.Afn u) (same_afn one other (a.0 ∙ sym b.0) answer)
one_body address (body.Ads registration payload) one (text.Afn notice) a b = absurd b
one_body address (body.Ads registration payload) one (text.Refused fault) a b = absurd b
one_body address (body.Ads registration payload) (text.Afn notice) other a b = absurd a
one_body address (body.Ads registration payload) (text.Refused fault) other a b = absurd a
one_body address (body.Afn found) one (text.Ads uplink) a b = absurd b
one_body address (body.Afn found) one (text.Refused fault) a b = absurd b
one_body address (body.Afn found) (text.Ads uplink) other a b = absurd a
one_body address (body.Afn found) (text.Refused fault) other a b = absurd a

-- ---- texts

-- What is read of an envelope.
abbrev Carries : List ℕ → GroundText → Type 0
Carries characters reading = (envelope : Envelope) × IsEnvelopeText envelope characters × ReadsBody envelope.address envelope.body reading

one_carried : (characters : List ℕ) (one other : GroundText) → Carries characters one → Carries characters other → one ≡ other
one_carried characters one other (e, is_e, a) (f, is_f, b) =
    one_body f.address f.body one other (subst (λ (x : Envelope). ReadsBody x.address x.body one) (same_envelope e f characters is_e is_f) a) b

-- A text is read in one way.
pub one_text : (characters : List ℕ) (one other : GroundText) → ReadsText characters one → ReadsText characters other → one ≡ other
one_text characters (text.Refused fault) (text.Refused found) a b = ap (λ (r : EnvelopeRefusal). text.Refused r) (one_first_fault characters fault found a b)
one_text characters (text.Refused fault) (text.Afn notice) a b = absurd (envelope_has_no_fault b.0 characters b.1 fault a)
one_text characters (text.Refused fault) (text.Ads uplink) a b = absurd (envelope_has_no_fault b.0 characters b.1 fault a)
one_text characters (text.Afn notice) (text.Refused found) a b = absurd (envelope_has_no_fault a.0 characters a.1 found b)
one_text characters (text.Ads uplink) (text.Refused found) a b = absurd (envelope_has_no_fault a.0 characters a.1 found b)
one_text characters (text.Afn notice) (text.Afn other) a b = one_carried characters (text.Afn notice) (text.Afn other) a b
one_text characters (text.Afn notice) (text.Ads uplink) a b = one_carried characters (text.Afn notice) (text.Ads uplink) a b
one_text characters (text.Ads uplink) (text.Afn notice) a b = one_carried characters (text.Ads uplink) (text.Afn notice) a b
one_text characters (text.Ads uplink) (text.Ads other) a b = one_carried characters (text.Ads uplink) (text.Ads other) a b
