-- The downlinks that a journal makes due on a link. What is due is said by the contract rules; the items and their encoding, and the
-- contact of a logon, are those of RTCA DO-258A / EUROCAE ED-100A; that an entry with items makes one text is this project's profile.
use Rattle.std.specs.Prelude.{◌≡◌, ◌==◌, ℕ, List, [], ◌∷◌, ◌++◌, map, cond}
use Rattle.adsc_bits.specs.Packing.{octets_of}
use Rattle.adsc_downlink.specs.Items.{downlink_bits}
use Rattle.acars_envelope.specs.declared.texts.Body.TheVariants.{Ads, Afn}
use Rattle.acars_envelope.specs.Texts.{sealed_text}
use Rattle.afn_logon.specs.Contents.{ContactData}
use Rattle.afn_logon.specs.Makings.{aircraft_contact, position_at}
use Rattle.afn_logon.specs.Texts.{contact_text}
use Rattle.contract_rules.specs.Acts.{Act}
use Rattle.contract_rules.specs.Due.{Item, entry_items}
use Rattle.contract_rules.specs.LiveLinks.{Noted, is_live, time_after}
use Rattle.contract_rules.specs.Verdicts.{past_with}
use Rattle.flight_samples.specs.declared.sample.Sample.{Sample as FlightSample}
use Rattle.aircraft_core.specs.declared.entry.Entry.{Entry}
use Rattle.aircraft_core.specs.declared.entry.Entry.TheVariants.{Logon}
use Rattle.aircraft_core.specs.Entries.{latest_after}
use Rattle.aircraft_core.specs.JournalActs.{JournalActs}
use Rattle.aircraft_core.specs.Reports.{item_on}
use Rattle.aircraft_core.specs.Setting.{Setting, address_of, configuration_of}

-- The octets of items, in which padding is zeros.
abbrev pub payload_of_items : Setting → FlightSample → List Item → List ℕ
payload_of_items setting sample items = octets_of (downlink_bits (map (item_on setting sample) items))

-- The text of these items: an envelope of the aircraft to the ground address of the link.
unfoldable pub text_of_items : Setting → ℕ → FlightSample → List Item → List ℕ
text_of_items setting link sample items =
    sealed_text (address_of setting link) (Ads setting.registration (record { items = payload_of_items setting sample items }))

-- Items make one text where some item is due, and none where none is.
abbrev pub texts_of_items : Setting → ℕ → FlightSample → List Item → List (List ℕ)
texts_of_items setting link sample [] = []
texts_of_items setting link sample (item ∷ items) = text_of_items setting link sample (item ∷ items) ∷ []

-- The contact of the aircraft on a link, after this past and this latest sample: who and where it is, the time of day, and whether the
-- link is live.
abbrev pub contact_on : Setting → ℕ → List Noted → FlightSample → ContactData
contact_on setting link past latest =
    aircraft_contact setting.flight setting.registration setting.airframe (time_after past) (position_at latest.lat latest.lon) (is_live link past)

-- The text of that contact: an envelope of the aircraft to the ground address of the link.
unfoldable pub contact_text_on : Setting → ℕ → List Noted → FlightSample → List ℕ
contact_text_on setting link past latest =
    sealed_text (address_of setting link) (Afn (record { items = contact_text (contact_on setting link past latest) }))

-- The texts of an entry on a link, with these acts of its own, after this past and this latest sample. A logon of the link makes one
-- text, the contact, whether or not the link is live. Any other entry makes that of the items due at its acts; a report is on the latest
-- sample, the entry's own included.
abbrev pub entry_texts : Setting → ℕ → List Noted → FlightSample → Entry → List Act → List (List ℕ)
entry_texts setting link past latest (Logon line other) acts = cond (link == other) (contact_text_on setting link past latest ∷ []) []
entry_texts setting link past latest entry acts =
    texts_of_items setting link (latest_after latest entry) (entry_items (configuration_of setting) link past acts)

-- The texts of the entries of a journal on a link, after this past and this latest sample.
abbrev pub journal_texts : Setting → ℕ → List Noted → FlightSample → List Entry → List (List Act) → List (List ℕ)
journal_texts setting link past latest (entry ∷ entries) (acts ∷ others) =
    entry_texts setting link past latest entry acts
    ++ journal_texts setting link (past_with (configuration_of setting) past acts) (latest_after latest entry) entries others
journal_texts setting link past latest _ _ = []

-- These texts are the downlinks of the journal on the link.
pub record AreDownlinks (setting : Setting) (journal : List Entry) (link : ℕ) (texts : List (List ℕ)) : Type 0 where
  pub acts : List (List Act)
  pub are_acts : JournalActs setting.first journal acts
  pub spelled : texts ≡ journal_texts setting link [] setting.first journal acts
