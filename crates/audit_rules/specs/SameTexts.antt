-- When two texts are the same but for padding. Texts follow ARINC 622, payloads RTCA DO-258A / EUROCAE ED-100A; that padding alone may
-- differ is this project's profile.
use Rattle.std.specs.Prelude.{◌≡◌, ℕ, List, [], ◌∷◌}
use Rattle.bit_terms.specs.Octets.{octets_bits}
use Rattle.acars_envelope.specs.Texts.{IsEnvelopeText}
use Rattle.acars_envelope.specs.declared.texts.Body.{Body}
use Rattle.acars_envelope.specs.declared.texts.Body.TheVariants.{Ads, Afn}
use Rattle.acars_envelope.specs.declared.texts.Envelope.{Envelope}
use Rattle.adsc_downlink.specs.Encodings.{EncodesDownlink}
use Rattle.adsc_downlink.specs.Items.{ItemData}

-- Two payloads encode the same items.
pub record EncodeTheSame (one other : List ℕ) : Type 0 where
  pub items : List ItemData
  pub by_one : EncodesDownlink items (octets_bits one)
  pub by_other : EncodesDownlink items (octets_bits other)

-- Two bodies are the same but for padding: both are of one registration and encode the same items, or both are one AFN text.
abbrev pub IsSameBody : Body → Body → Type 0
IsSameBody (Ads registration payload) (Ads other octets) = (registration ≡ other) × EncodeTheSame payload.items octets.items
IsSameBody (Afn characters) (Afn others) = characters ≡ others
IsSameBody one other = ⊥

-- Two texts are the same but for padding: both are envelopes' texts, of one address, and their bodies are the same.
pub record IsSameText (one other : List ℕ) : Type 0 where
  pub first : Envelope
  pub second : Envelope
  pub is_first : IsEnvelopeText first one
  pub is_second : IsEnvelopeText second other
  pub address : first.address ≡ second.address
  pub body : IsSameBody first.body second.body

-- Of two lists of texts each is the same as the other's at its place, and neither has more.
abbrev pub AreSameTexts : List (List ℕ) → List (List ℕ) → Type 0
AreSameTexts [] [] = Unit {0}
AreSameTexts (one ∷ ones) (other ∷ others) = IsSameText one other × AreSameTexts ones others
AreSameTexts ones others = ⊥
