-- What an aircraft's fields stand for, and what they keep.
use Rattle.std.specs.Prelude.{◌≡◌, ◌-◌, ◌<◌, ℕ, List, [], length, All}
use Rattle.std.specs.Vec.{vec_len, vec_capacity}
use Rattle.adsc_io.specs.Lines.{ended_lines, IsUnbroken}
use Rattle.contract_table.specs.Tables.{TableState}
use Rattle.flight_samples.specs.declared.sample.Sample.{Sample as FlightSample}
use Rattle.aircraft_core.specs.declared.entry.Entry.{Entry}
use Rattle.aircraft_core.specs.declared.craft.Craft.TheInside.{Inside}
use Rattle.aircraft_core.specs.Aircraft.{Aircraft}
use Rattle.aircraft_core.specs.Downlinks.{journal_texts}
use Rattle.aircraft_core.specs.Outboxes.{OutboxState, outbox_of, entries_with_room}
use Rattle.aircraft_core.specs.Setting.{Setting}
use Rattle.aircraft_core.specs.Standing.{KeepsLogons, StandsAt}

-- Room for one entry is a place in the journal, and 600 bytes in each outbox.
abbrev pub aircraft_of : Inside → Aircraft
aircraft_of craft = record {
  setting = craft.setup;
  journal = craft.journal.items;
  spare = entries_with_room (vec_capacity craft.journal - vec_len craft.journal) craft.outboxes.items;
}

-- The aircraft stands at the journal; and each link's outbox is the texts that the journal makes due on it, each ended by a newline.
pub record KeepsDownlinks (setting : Setting) (journal : List Entry) (latest : FlightSample) (table : TableState) (outboxes : List OutboxState) : Type 0 where
  pub at : StandsAt setting journal latest table
  pub each_link : length outboxes ≡ length setting.addresses
  pub unbroken : (link : ℕ) → link < length setting.addresses → All IsUnbroken (journal_texts setting link [] setting.first journal at.acts)
  pub spelled : (link : ℕ) → link < length setting.addresses
      → (outbox_of outboxes link).sent ≡ ended_lines (journal_texts setting link [] setting.first journal at.acts)

-- What the type keeps.
pub record KeepsLinks (craft : Inside) : Type 0 where
  pub outboxes : KeepsDownlinks craft.setup craft.journal.items craft.latest craft.table craft.outboxes.items
  pub logons : KeepsLogons craft.setup craft.journal.items craft.logons.items
