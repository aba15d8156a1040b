-- The laws of what a text from the aircraft means, layer by layer: what holds of the answer of a layer holds of that above.
use Rattle.std.proofs.Common.{◌≡◌, ℕ, ◌+◌, List, Result, Ok, Err, inl, inr, refl, sym, ap, ◌∙◌, subst}
use Rattle.acars_envelope.specs.declared.texts.Body.{Body}
use Rattle.acars_envelope.specs.declared.texts.Body.TheVariants.{Ads, Afn}
use Rattle.acars_envelope.specs.declared.texts.Envelope.{Envelope}
use Rattle.acars_envelope.specs.declared.refusal.EnvelopeRefusal.{EnvelopeRefusal}
use Rattle.acars_envelope.specs.Faults.{IsFirstEnvelopeFault}
use Rattle.acars_envelope.specs.Texts.{IsEnvelopeText}
use Rattle.afn_logon.specs.Contents.{ContactData}
use Rattle.afn_logon.specs.Forms.{IsContactText, IsSomeContact}
use Rattle.afn_logon.specs.Mismatch.{IsFirstMismatch}
use Rattle.afn_logon.proofs.FormLaws.{one_contact, one_mismatch}
use Rattle.arrayvec.specs.ArrayVec.{ArrayVec}
use Rattle.shown_lines.specs.declared.refusal.TextRefusal.TheVariants as refusal
use Rattle.shown_lines.specs.Meanings.{Meaning, AircraftTextMeans, BodyMeans, ContactMeans, DownlinkMeans, characters_place}
use Rattle.shown_lines.specs.Meanings.Meaning.{contact, refused}
use Rattle.shown_lines.specs.Shown.{IsShownAs}
use Rattle.shown_lines.specs.Texts.{line_text}
use Rattle.shown_lines.specs.declared.show.LineShown.{LineShown}
use Rattle.shown_lines.specs.declared.show.LineShown.TheVariants.{Right, Refused}

-- ---- the characters of an AFN text

-- characters that are a contact are shown as it
pub contact_is_shown : (number : ℕ) (address characters text : List ℕ) (said : ContactData) → IsContactText said characters → text ≡ line_text number (contact address said)
    → IsShownAs number (ContactMeans address characters) text Right
contact_is_shown number address characters text said is spelled = record {
  meaning = contact address said;
  means = inl (said, is, refl);
  only = alone;
  shown = refl;
  spelled = spelled;
}
  where
    alone : (other : Meaning) → ContactMeans address characters other → other ≡ contact address said
    alone other (inl found) = found.2 ∙ ap (contact address) (one_contact found.0 said characters found.1 is)
    alone other (inr bad) = absurd (bad.1.none (said, is))

-- characters that are no contact are shown as refused at their first mismatch
pub mismatch_is_shown : (number : ℕ) (address characters text : List ℕ) (place : ℕ) (way : LineShown) → IsFirstMismatch IsSomeContact characters place
    → text ≡ line_text number (refused (refusal.Characters (characters_place + place))) → way ≡ Refused → IsShownAs number (ContactMeans address characters) text way
mismatch_is_shown number address characters text place way is spelled shown = record {
  meaning = refused (refusal.Characters (characters_place + place));
  means = inr (place, is, refl);
  only = alone;
  shown = shown;
  spelled = spelled;
}
  where
    alone : (other : Meaning) → ContactMeans address characters other → other ≡ refused (refusal.Characters (characters_place + place))
    alone other (inl found) = absurd (is.none (found.0, found.1))
    alone other (inr bad) = bad.2 ∙ ap (λ p. refused (refusal.Characters (characters_place + p))) (one_mismatch bad.1 is)

-- ---- the body of an envelope

-- a payload is shown as the body that carries it
pub payload_is_shown : (number : ℕ) (address registration payload text : List ℕ) (body : Body) (held : ArrayVec ℕ) (way : LineShown) → body ≡ Ads registration held
    → payload ≡ held.items → IsShownAs number (DownlinkMeans address registration payload) text way → IsShownAs number (BodyMeans address body) text way
payload_is_shown number address registration payload text body held way is same said =
    subst (λ (b : Body). IsShownAs number (BodyMeans address b) text way) (sym is)
    (subst (λ octets. IsShownAs number (DownlinkMeans address registration octets) text way) same said)

-- characters are shown as the body that carries them
pub characters_are_shown : (number : ℕ) (address characters text : List ℕ) (body : Body) (held : ArrayVec ℕ) (way : LineShown) → body ≡ Afn held
    → characters ≡ held.items → IsShownAs number (ContactMeans address characters) text way → IsShownAs number (BodyMeans address body) text way
characters_are_shown number address characters text body held way is same said =
    subst (λ (b : Body). IsShownAs number (BodyMeans address b) text way) (sym is)
    (subst (λ cs. IsShownAs number (ContactMeans address cs) text way) same said)

-- ---- the envelope

-- an answer has one value, or one fault, and not both
same_value : {T E : Type 0} (answer : Result T E) (a b : T) → answer ≡ Ok a → answer ≡ Ok b → a ≡ b
same_value answer a b first second = cc

same_fault : {T E : Type 0} (answer : Result T E) (a b : E) → answer ≡ Err a → answer ≡ Err b → a ≡ b
same_fault answer a b first second = cc

not_both : {T E : Type 0} (answer : Result T E) (value : T) (fault : E) → answer ≡ Ok value → answer ≡ Err fault → ⊥
not_both answer value fault ok err = cc

-- a text that is an envelope's means what the envelope's body does
means_its_body : (text : List ℕ) (answer : Result Envelope EnvelopeRefusal) (envelope : Envelope) (shown : Meaning) → answer ≡ Ok envelope
    → ((e : Envelope) → IsEnvelopeText e text → answer ≡ Ok e) → ((fault : EnvelopeRefusal) → IsFirstEnvelopeFault text fault → answer ≡ Err fault)
    → ((other : Meaning) → BodyMeans envelope.address envelope.body other → other ≡ shown)
    → (other : Meaning) → AircraftTextMeans text other → other ≡ shown
means_its_body text answer envelope shown is right first only other (inl wrong) = absurd (not_both answer envelope wrong.0 is (first wrong.0 wrong.1))
means_its_body text answer envelope shown is right first only other (inr carried) =
    only other (subst (λ (e : Envelope). BodyMeans e.address e.body other) (same_value answer carried.0 envelope (right carried.0 carried.1) is) carried.2)

-- a text that is no envelope's means its first bad place
pub means_its_fault : (text : List ℕ) (answer : Result Envelope EnvelopeRefusal) (fault : EnvelopeRefusal) → answer ≡ Err fault
    → ((e : Envelope) → IsEnvelopeText e text → ⊥) → ((r : EnvelopeRefusal) → IsFirstEnvelopeFault text r → answer ≡ Err r)
    → (other : Meaning) → AircraftTextMeans text other → other ≡ refused (refusal.Envelope fault)
means_its_fault text answer fault is none first other (inl wrong) = wrong.2 ∙ ap (λ r. refused (refusal.Envelope r)) (same_fault answer wrong.0 fault (first wrong.0 wrong.1) is)
means_its_fault text answer fault is none first other (inr carried) = absurd (none carried.0 carried.1)

-- a text that is an envelope's is shown as the envelope's body
pub envelope_is_shown : (number : ℕ) (text shown : List ℕ) (answer : Result Envelope EnvelopeRefusal) (envelope : Envelope) (way : LineShown) → answer ≡ Ok envelope
    → IsEnvelopeText envelope text → ((e : Envelope) → IsEnvelopeText e text → answer ≡ Ok e) → ((fault : EnvelopeRefusal) → IsFirstEnvelopeFault text fault → answer ≡ Err fault)
    → IsShownAs number (BodyMeans envelope.address envelope.body) shown way → IsShownAs number (AircraftTextMeans text) shown way
envelope_is_shown number text shown answer envelope way is found right first said = record {
  meaning = said.meaning;
  means = inr (envelope, found, said.means);
  only = means_its_body text answer envelope said.meaning is right first said.only;
  shown = said.shown;
  spelled = said.spelled;
}
