-- The text of items that were written.
use Rattle.std.proofs.Common.{◌≡◌, ℕ, ◌*◌, ◌≤◌, Bool, List, [], ◌∷◌, ◌++◌, All, length, append-nil, ap, sym, ◌∙◌, subst, arith}
use Rattle.std.proofs.lemmas.List.Elements.{All-nil, All-cons}
use Rattle.acars_envelope.specs.declared.texts.Body.TheVariants.{Ads}
use Rattle.acars_envelope.specs.Texts.{sealed_text}
use Rattle.adsc_bits.specs.Packing.{octets_of}
use Rattle.adsc_io.specs.Lines.{ended, ended_lines, IsUnbroken}
use Rattle.bit_terms.specs.Octets.{octets_bits}
use Rattle.bit_terms.proofs.OctetsLaws.{length-octets_bits}
use Rattle.contract_rules.specs.Due.{Item}
use Rattle.flight_samples.specs.declared.sample.Sample.{Sample}
use Rattle.aircraft_core.specs.Downlinks.{text_of_items, texts_of_items}
use Rattle.aircraft_core.specs.Sending.{item_bits_on}
use Rattle.aircraft_core.specs.Setting.{Setting, address_of}
use Rattle.aircraft_core.proofs.SizeLaws.{no_items}
use Rattle.aircraft_core.proofs.WritingLaws.{no_bits}

-- Octets of some bits are a payload.
pub payload_size : (octets : List ℕ) (bits : List Bool) → octets_bits octets ≡ bits → length bits ≤ 2040 → (1 ≤ length bits → 1 ≤ length octets) × (length octets ≤ 255)
payload_size octets bits same few =
    let size : length bits ≡ 8 * length octets = ap length (sym same) ∙ length-octets_bits octets in
    ((λ some. omega (arith, size, some)), omega (arith, size, few))

-- Where no bit was written, no item is due, and none is sent.
pub nothing_sent : (setting : Setting) (link : ℕ) (sample : Sample) (items : List Item) (bits : List Bool) (sent : List ℕ) → length bits ≡ 0
    → bits ≡ item_bits_on setting sample items
    → (sent ≡ sent ++ ended_lines (texts_of_items setting link sample items)) × All IsUnbroken (texts_of_items setting link sample items)
nothing_sent setting link sample items bits sent none same =
    let empty : [] ≡ items = sym (no_items setting sample items (ap length (sym same) ∙ none)) in
    subst (λ (each : List Item). (sent ≡ sent ++ ended_lines (texts_of_items setting link sample each)) × All IsUnbroken (texts_of_items setting link sample each)) empty
    (sym (append-nil sent), All-nil IsUnbroken)

-- Where some was, the items are sent in one text.
pub items_sent : (setting : Setting) (link : ℕ) (sample : Sample) (items : List Item) (bits : List Bool) (sent now_sent octets address registration : List ℕ)
    → 1 ≤ length bits → bits ≡ item_bits_on setting sample items → octets ≡ octets_of bits → address ≡ address_of setting link → registration ≡ setting.registration
    → now_sent ≡ sent ++ ended (sealed_text address (Ads registration (record { items = octets })))
    → IsUnbroken (sealed_text address (Ads registration (record { items = octets })))
    → (now_sent ≡ sent ++ ended_lines (texts_of_items setting link sample items)) × All IsUnbroken (texts_of_items setting link sample items)
unfolding text_of_items
items_sent setting link sample [] bits sent now_sent octets address registration some same spelled addressed registered added unbroken =
    absurd (omega (arith, some, ap length (same ∙ no_bits setting sample)))
items_sent setting link sample (item ∷ items) bits sent now_sent octets address registration some same spelled addressed registered added unbroken =
    let text = sealed_text (address_of setting link) (Ads setting.registration (record { items = octets_of (item_bits_on setting sample (item ∷ items)) })) in
    let is : sealed_text address (Ads registration (record { items = octets })) ≡ text
    = (λ i. sealed_text (addressed i) (Ads (registered i) (record { items = (spelled ∙ ap octets_of same) i }))) in (
      added ∙ ap (λ t. sent ++ ended t) is,
      All-cons IsUnbroken text [] (subst IsUnbroken is unbroken) (All-nil IsUnbroken),
    )
