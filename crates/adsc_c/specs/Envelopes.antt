-- The flat structs of an envelope and of a text's refusal: what each of them spells (ARINC 622, the flat form is this project's
-- profile).
use Rattle.std.specs.Prelude.{◌≡◌, ℕ, List, take, replicate}
use Rattle.acars_envelope.specs.declared.texts.Body.{Body}
use Rattle.acars_envelope.specs.declared.texts.Body.TheVariants.{Ads, Afn}
use Rattle.acars_envelope.specs.declared.texts.Envelope.{Envelope}
use Rattle.acars_envelope.specs.declared.refusal.EnvelopeRefusal.{EnvelopeRefusal}
use Rattle.acars_envelope.specs.declared.refusal.EnvelopeWhy.{EnvelopeWhy}
use Rattle.acars_envelope.specs.declared.refusal.EnvelopeWhy.TheVariants as why
use Rattle.acars_envelope.specs.Faults.{IsFirstEnvelopeFault}
use Rattle.acars_envelope.specs.Texts.{IsEnvelopeText}
use Rattle.adsc_c.specs.declared.structs.FlatEnvelope.{FlatEnvelope}
use Rattle.adsc_c.specs.declared.structs.FlatEnvelopeRefusal.{FlatEnvelopeRefusal}

-- The number of the application that a body is for: 1 is ADS, 2 is AFN.
abbrev pub application_of : Body → ℕ
application_of (Ads registration payload) = 1
application_of (Afn text) = 2

-- The registration in a body; an AFN text has none.
abbrev pub registration_of : Body → List ℕ
registration_of (Ads registration payload) = registration
registration_of (Afn text) = replicate 7 0

-- The octets or the characters of a body.
abbrev pub octets_of : Body → List ℕ
octets_of (Ads registration payload) = payload.items
octets_of (Afn text) = text.items

-- The flat struct spells the envelope. What stands in it behind the body means nothing.
pub record SpellsEnvelope (flat : FlatEnvelope) (e : Envelope) : Type 0 where
  pub address : flat.address ≡ e.address
  pub application : flat.application ≡ application_of e.body
  pub registration : flat.registration ≡ registration_of e.body
  pub body : take flat.count flat.body ≡ octets_of e.body

-- The flat struct spells the envelope that the text is of.
abbrev pub SpellsEnvelopeOf : List ℕ → FlatEnvelope → Type 0
SpellsEnvelopeOf text flat = (e : Envelope) × IsEnvelopeText e text × SpellsEnvelope flat e

-- The number of what is wrong at the first bad place of a text.
abbrev pub why_number : EnvelopeWhy → ℕ
why_number why.Slash = 1
why_number why.Address = 2
why_number why.Dot = 3
why_number why.Imi = 4
why_number why.Registration = 5
why_number why.Hex = 6
why_number why.Character = 7
why_number why.TooShort = 8
why_number why.TooLong = 9
why_number (why.Check found due) = 10

-- The check that stands in a text, and the one that is due, where they differ; else 0.
abbrev pub found_check : EnvelopeWhy → ℕ
found_check (why.Check found due) = found
found_check _ = 0

abbrev pub due_check : EnvelopeWhy → ℕ
due_check (why.Check found due) = due
due_check _ = 0

-- The flat struct that spells a refusal of a text.
abbrev pub flat_envelope_refusal : EnvelopeRefusal → FlatEnvelopeRefusal
flat_envelope_refusal r =
    record { place = r.place; why = why_number r.why; found = found_check r.why; due = due_check r.why }

-- The flat struct spells the first fault of the text.
abbrev pub SpellsEnvelopeFaultOf : List ℕ → FlatEnvelopeRefusal → Type 0
SpellsEnvelopeFaultOf text flat = (r : EnvelopeRefusal) × IsFirstEnvelopeFault text r × (flat ≡ flat_envelope_refusal r)
