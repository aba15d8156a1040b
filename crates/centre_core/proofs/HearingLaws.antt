-- What a text says is one thing, and what the aircraft sends is heard.
use Rattle.std.proofs.Common.{◌≡◌, ℕ, ◌≤◌, true, List, [], ◌∷◌, length, refl, sym, ap, ◌∙◌, subst, inl, arith}
use Rattle.std.proofs.lemmas.Bool.{le-leb}
use Rattle.std.specs.Cmp.Derive.{both_true}
use Rattle.bit_terms.specs.Octets.{octets_bits}
use Rattle.bit_terms.proofs.OctetsLaws.{length-octets_bits}
use Rattle.hex.specs.Hex.{IsBytes}
use Rattle.acars_envelope.specs.Bodies.{is_well_formed}
use Rattle.acars_envelope.specs.Names.{IsAddress, IsRegistration}
use Rattle.acars_envelope.specs.Texts.{IsEnvelopeText, sealed_text}
use Rattle.acars_envelope.specs.declared.refusal.EnvelopeRefusal.{EnvelopeRefusal}
use Rattle.acars_envelope.specs.declared.texts.Body.{Body}
use Rattle.acars_envelope.specs.declared.texts.Body.TheVariants.{Ads, Afn}
use Rattle.acars_envelope.specs.declared.texts.Envelope.{Envelope}
use Rattle.acars_envelope.proofs.EnvelopeLaws.{envelope_has_no_fault, same_envelope}
use Rattle.acars_envelope.proofs.FaultLaws.{one_first_fault}
use Rattle.adsc_bits.specs.Packing.{octets_of}
use Rattle.adsc_downlink.specs.Encodings.{EncodesDownlink}
use Rattle.adsc_downlink.specs.Items.{ItemData, downlink_bits}
use Rattle.adsc_downlink.specs.declared.refusal.DownRefusal.{DownRefusal}
use Rattle.adsc_downlink.specs.declared.refusal.DownWhy.TheVariants as why
use Rattle.adsc_downlink.proofs.OneReading.{never_both_readings, same_fault_found, same_items_read}
use Rattle.afn_logon.specs.Contents.{ContactData, IsContact}
use Rattle.afn_logon.specs.Forms.{IsContactText}
use Rattle.afn_logon.specs.Texts.{contact_text}
use Rattle.afn_logon.specs.declared.refusal.AfnRefusal.{AfnRefusal}
use Rattle.afn_logon.proofs.FormLaws.{one_contact, one_mismatch}
use Rattle.afn_logon.proofs.SizeLaws.{contact_is_carried}
use Rattle.centre_core.specs.Hearing.{Hearing, Ignores, Says, SaysInBody, SaysInCharacters, SaysInContact, SaysInEnvelope, SaysInPayload, Greets, Tells}
use Rattle.centre_core.specs.declared.heard.Ignored.TheVariants as ignored
use Rattle.centre_core.proofs.WholeOctets.{octets_bits-octets_of, octets_of_bytes, whole_encoding}

-- ---- one thing

same_refusal : (a b : DownRefusal) → a.bit ≡ b.bit → a.why ≡ b.why → a ≡ b
same_refusal a b bit cause i = record { bit = bit i; why = cause i }

one_payload : (octets : List ℕ) (one other : Hearing) → SaysInPayload octets one → SaysInPayload octets other → one ≡ other
one_payload octets (Ignores (ignored.Bits r)) (Ignores (ignored.Bits s)) a b =
    let same = same_fault_found (octets_bits octets) r.bit s.bit r.why s.why a b in
    ap (λ (refusal : DownRefusal). Ignores (ignored.Bits refusal)) (same_refusal r s same.0 same.1)
one_payload octets (Ignores (ignored.Bits r)) (Tells items) a b = absurd (never_both_readings items (octets_bits octets) r.bit r.why b a)
one_payload octets (Tells items) (Ignores (ignored.Bits s)) a b = absurd (never_both_readings items (octets_bits octets) s.bit s.why a b)
one_payload octets (Tells items) (Tells others) a b = ap Tells (same_items_read items others (octets_bits octets) a b)
one_payload octets (Ignores (ignored.Bits r)) other a b = absurd b
one_payload octets (Tells items) other a b = absurd b
one_payload octets one other a b = absurd a

-- a contact says one thing
one_in_contact : (registration : List ℕ) (contact : ContactData) (one other : Hearing) → SaysInContact registration contact one
    → SaysInContact registration contact other → one ≡ other
one_in_contact registration contact (Ignores (ignored.OtherRegistration p)) (Ignores (ignored.OtherRegistration q)) a b =
    ap (λ (place : ℕ). Ignores (ignored.OtherRegistration place)) (a.1 ∙ sym b.1)
one_in_contact registration contact (Ignores (ignored.OtherRegistration p)) (Greets found) a b = absurd (a.0 b.0)
one_in_contact registration contact (Greets found) (Ignores (ignored.OtherRegistration q)) a b = absurd (b.0 a.0)
one_in_contact registration contact (Greets found) (Greets other) a b = ap Greets (a.1 ∙ sym b.1)
one_in_contact registration contact (Ignores (ignored.OtherRegistration p)) other a b = absurd b
one_in_contact registration contact (Greets found) other a b = absurd b
one_in_contact registration contact one other a b = absurd a

-- what the contact says that these characters are
abbrev SaysByContact : List ℕ → List ℕ → Hearing → Type 0
SaysByContact registration characters hearing = (contact : ContactData) × IsContactText contact characters × SaysInContact registration contact hearing

one_by_contact : (registration characters : List ℕ) (one other : Hearing) → SaysByContact registration characters one
    → SaysByContact registration characters other → one ≡ other
one_by_contact registration characters one other (c, is_c, a) (d, is_d, b) =
    one_in_contact registration d one other (subst (λ (x : ContactData). SaysInContact registration x one) (one_contact c d characters is_c is_d) a) b

-- characters are refused at one place
same_place : (r s : AfnRefusal) → r.place ≡ s.place → r ≡ s
same_place r s place i = record { place = place i }

one_in_characters : (registration characters : List ℕ) (one other : Hearing) → SaysInCharacters registration characters one
    → SaysInCharacters registration characters other → one ≡ other
one_in_characters registration characters (Ignores (ignored.Afn r)) (Ignores (ignored.Afn s)) a b =
    ap (λ (refusal : AfnRefusal). Ignores (ignored.Afn refusal)) (same_place r s (one_mismatch a b))
one_in_characters registration characters (Ignores (ignored.Afn r)) other a b = absurd (a.none (b.0, b.1))
one_in_characters registration characters one (Ignores (ignored.Afn s)) a b = absurd (b.none (a.0, a.1))
one_in_characters registration characters one other a b = one_by_contact registration characters one other a b

one_body : (registration : List ℕ) (found : Body) (one other : Hearing) → SaysInBody registration found one → SaysInBody registration found other → one ≡ other
one_body registration (Ads g payload) (Ignores (ignored.OtherRegistration p)) (Ignores (ignored.OtherRegistration q)) a b =
    ap (λ (place : ℕ). Ignores (ignored.OtherRegistration place)) (a.1 ∙ sym b.1)
one_body registration (Ads g payload) (Ignores (ignored.OtherRegistration p)) other a b = absurd (a.0 b.0)
one_body registration (Ads g payload) one (Ignores (ignored.OtherRegistration q)) a b = absurd (b.0 a.0)
one_body registration (Ads g payload) one other a b = one_payload payload.items one other a.1 b.1
one_body registration (Afn characters) one other a b = one_in_characters registration characters.items one other a b

one_envelope : (address registration : List ℕ) (envelope : Envelope) (one other : Hearing) → SaysInEnvelope address registration envelope one
    → SaysInEnvelope address registration envelope other → one ≡ other
one_envelope address registration envelope (Ignores ignored.OtherAddress) (Ignores ignored.OtherAddress) a b = refl
one_envelope address registration envelope (Ignores ignored.OtherAddress) other a b = absurd (a b.0)
one_envelope address registration envelope one (Ignores ignored.OtherAddress) a b = absurd (b a.0)
one_envelope address registration envelope one other a b = one_body registration envelope.body one other a.1 b.1

-- what an envelope with this text says
abbrev SaysBy : List ℕ → List ℕ → List ℕ → Hearing → Type 0
SaysBy address registration text hearing = (envelope : Envelope) × IsEnvelopeText envelope text × SaysInEnvelope address registration envelope hearing

one_by_envelope : (address registration text : List ℕ) (one other : Hearing) → SaysBy address registration text one → SaysBy address registration text other → one ≡ other
one_by_envelope address registration text one other (e, is_e, a) (f, is_f, b) =
    one_envelope address registration f one other
    (subst (λ (x : Envelope). SaysInEnvelope address registration x one) (same_envelope e f text is_e is_f) a) b

-- A text says one thing.
pub one_hearing : (address registration text : List ℕ) (one other : Hearing) → Says address registration text one → Says address registration text other
    → one ≡ other
one_hearing address registration text (Ignores (ignored.Envelope r)) (Ignores (ignored.Envelope s)) a b =
    ap (λ (refusal : EnvelopeRefusal). Ignores (ignored.Envelope refusal)) (one_first_fault text r s a b)
one_hearing address registration text (Ignores (ignored.Envelope r)) other a b = absurd (envelope_has_no_fault b.0 text b.1 r a)
one_hearing address registration text one (Ignores (ignored.Envelope s)) a b = absurd (envelope_has_no_fault a.0 text a.1 s b)
one_hearing address registration text one other a b = one_by_envelope address registration text one other a b

-- ---- what is read

-- no body says that the text is no envelope's, or that the address is another's
body_is_no_fault : (registration : List ℕ) (found : Body) (refusal : EnvelopeRefusal) → SaysInBody registration found (Ignores (ignored.Envelope refusal)) → ⊥
body_is_no_fault registration (Ads g payload) refusal says = says.1
body_is_no_fault registration (Afn characters) refusal says = says.2

body_is_here : (registration : List ℕ) (found : Body) → SaysInBody registration found (Ignores ignored.OtherAddress) → ⊥
body_is_here registration (Ads g payload) says = says.1
body_is_here registration (Afn characters) says = says.2

-- what an envelope says, its text says
pub said_by_text : (address registration text : List ℕ) (envelope : Envelope) (hearing : Hearing) → IsEnvelopeText envelope text
    → SaysInEnvelope address registration envelope hearing → Says address registration text hearing
said_by_text address registration text envelope (Ignores (ignored.Envelope r)) is says = absurd (body_is_no_fault registration envelope.body r says.1)
said_by_text address registration text envelope hearing is says = (envelope, is, says)

-- what a body says, an envelope to this address says
pub said_by_envelope : (address registration : List ℕ) (envelope : Envelope) (hearing : Hearing) → envelope.address ≡ address
    → SaysInBody registration envelope.body hearing → SaysInEnvelope address registration envelope hearing
said_by_envelope address registration envelope (Ignores ignored.OtherAddress) here says = absurd (body_is_here registration envelope.body says)
said_by_envelope address registration envelope hearing here says = (here, says)

-- what a contact says, the characters say that it is
pub said_by_characters : (registration characters : List ℕ) (contact : ContactData) (hearing : Hearing) → IsContactText contact characters
    → SaysInContact registration contact hearing → SaysInCharacters registration characters hearing
said_by_characters registration characters contact (Ignores (ignored.Afn r)) is says = absurd says
said_by_characters registration characters contact hearing is says = (contact, is, says)

-- ---- what the aircraft sends

-- no encoding of items is empty
no_empty : (items : List ItemData) → EncodesDownlink items [] → ⊥
no_empty items encodes =
    never_both_readings items [] 0 why.Short encodes
    (record {
      items = [];
      front = [];
      rest = [];
      few = omega arith;
      encoded = refl;
      stand = refl;
      fault = inl (refl, inl (refl, omega arith, inl refl));
    })

octets_there : (items : List ItemData) (octets : List ℕ) → EncodesDownlink items (octets_bits octets) → 1 ≤ length octets
octets_there items [] encodes = absurd (no_empty items encodes)
octets_there items (octet ∷ octets) encodes = omega arith

pub sealed_is_heard : (address registration octets : List ℕ) (items : List ItemData) → IsAddress address → IsRegistration registration
    → IsBytes octets → length octets ≤ 255 → EncodesDownlink items (octets_bits octets)
    → Says address registration (sealed_text address (Ads registration (record { items = octets }))) (Tells items)
sealed_is_heard address registration octets items is_address is_registration bytes few encodes =
    let sized : is_well_formed (Ads registration (record { items = octets })) ≡ true =
    both_true (le-leb 1 (length octets) (octets_there items octets encodes)) (le-leb (length octets) 255 few) in (
      record { address = address; body = Ads registration (record { items = octets }); well_formed = sized },
      record { address = is_address; body = (is_registration, bytes); spelled = refl },
      (refl, (refl, encodes)),
    )

pub own_is_heard : (address registration : List ℕ) (items : List ItemData) → IsAddress address → IsRegistration registration
    → EncodesDownlink items (downlink_bits items) → length (downlink_bits items) ≤ 2040
    → Says address registration (sealed_text address (Ads registration (record { items = octets_of (downlink_bits items) }))) (Tells items)
own_is_heard address registration items is_address is_registration encodes fits =
    let same : octets_bits (octets_of (downlink_bits items)) ≡ downlink_bits items = octets_bits-octets_of (downlink_bits items) (whole_encoding items (downlink_bits items) encodes) in
    sealed_is_heard address registration (octets_of (downlink_bits items)) items is_address is_registration (octets_of_bytes (downlink_bits items))
    (omega (arith, ap length same, length-octets_bits (octets_of (downlink_bits items))))
    (subst (EncodesDownlink items) (sym same) encodes)

pub own_contact_heard : (address : List ℕ) (contact : ContactData) → IsAddress address → IsContact contact
    → Says address contact.registration (sealed_text address (Afn (record { items = contact_text contact }))) (Greets contact)
own_contact_heard address contact is_address ranges = (
  record { address = address; body = Afn (record { items = contact_text contact }); well_formed = contact_is_carried contact ranges },
  record { address = is_address; body = tt; spelled = refl },
  (refl, (contact, record { ranges = ranges; spelled = refl }, (refl, refl))),
)
