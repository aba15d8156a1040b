-- Laws of the definitions, as the contracts of functions without a body state them.
use Rattle.std.specs.Prelude.{◌≡◌, ℕ, ◌≤◌, List, ◌∷◌, length}
use Rattle.bit_terms.specs.Octets.{octets_bits}
use Rattle.hex.specs.Hex.{IsBytes}
use Rattle.acars_envelope.specs.Names.{IsAddress, IsRegistration}
use Rattle.acars_envelope.specs.Texts.{sealed_text}
use Rattle.acars_envelope.specs.declared.texts.Body.TheVariants.{Ads, Afn}
use Rattle.adsc_bits.specs.Packing.{octets_of}
use Rattle.adsc_downlink.specs.Encodings.{EncodesDownlink}
use Rattle.adsc_downlink.specs.Items.{ItemData, downlink_bits}
use Rattle.afn_logon.specs.Contents.{ContactData, IsContact}
use Rattle.afn_logon.specs.Texts.{contact_text}
use Rattle.centre_core.specs.Events.{CentreEvent}
use Rattle.centre_core.specs.Hearing.{Hearing, Greets, Says, Tells}
use Rattle.centre_core.specs.Histories.{table_at}
use Rattle.centre_core.specs.Steps.{table_after}

-- The table at the end of a history goes on event by event.
abbrev pub RowsGoOn : Type 0
RowsGoOn = (event : CentreEvent) (w : List CentreEvent) → table_at (event ∷ w) ≡ table_after event (table_at w)

-- A text says one thing.
abbrev pub OneHearing : Type 0
OneHearing = (address registration text : List ℕ) (one other : Hearing)
    → Says address registration text one → Says address registration text other → one ≡ other

-- A sealed encoding of items, to the centre from its aircraft, says these items.
abbrev pub SealedDownlinkIsHeard : Type 0
SealedDownlinkIsHeard = (address registration octets : List ℕ) (items : List ItemData) → IsAddress address → IsRegistration registration
    → IsBytes octets → length octets ≤ 255 → EncodesDownlink items (octets_bits octets)
    → Says address registration (sealed_text address (Ads registration (record { items = octets }))) (Tells items)

-- So does what the aircraft's encoder writes of items that have an encoding and fit a payload.
abbrev pub OwnDownlinkIsHeard : Type 0
OwnDownlinkIsHeard = (address registration : List ℕ) (items : List ItemData) → IsAddress address → IsRegistration registration
    → EncodesDownlink items (downlink_bits items) → length (downlink_bits items) ≤ 2040
    → Says address registration (sealed_text address (Ads registration (record { items = octets_of (downlink_bits items) }))) (Tells items)

-- A contact that an aircraft writes says this contact to the centre to which it is sent.
abbrev pub OwnContactIsHeard : Type 0
OwnContactIsHeard = (address : List ℕ) (contact : ContactData) → IsAddress address → IsContact contact
    → Says address contact.registration (sealed_text address (Afn (record { items = contact_text contact }))) (Greets contact)
