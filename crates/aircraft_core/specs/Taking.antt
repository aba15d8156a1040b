-- What an entry does to an aircraft's table, latest sample and outboxes. Nobody has to believe it: it serves private contracts, and what
-- the aircraft's type keeps is proved from it.
use Rattle.std.specs.Prelude.{◌≡◌, ◌<◌, ℕ, Bool, List, ◌++◌, length, map, reverse, All}
use Rattle.adsc_io.specs.Lines.{ended, ended_lines, IsUnbroken}
use Rattle.adsc_requests.specs.declared.message.Message.{Message}
use Rattle.contract_rules.specs.Acts.{Act, Said}
use Rattle.contract_rules.specs.Due.{Item, entry_items}
use Rattle.contract_rules.specs.Verdicts.{past_of}
use Rattle.contract_table.specs.Acts.{rules_message}
use Rattle.contract_table.specs.Tables.{TableState, StandsFor}
use Rattle.flight_samples.specs.declared.sample.Sample.{Sample as FlightSample}
use Rattle.aircraft_core.specs.declared.entry.Entry.{Entry}
use Rattle.aircraft_core.specs.declared.entry.Entry.TheVariants as entries
use Rattle.aircraft_core.specs.Downlinks.{contact_text_on, entry_texts, texts_of_items}
use Rattle.aircraft_core.specs.Entries.{latest_after}
use Rattle.aircraft_core.specs.JournalActs.{EntryActs, UplinkActs}
use Rattle.aircraft_core.specs.Outboxes.{OutboxState, outbox_of}
use Rattle.aircraft_core.specs.Sending.{item_bits_on}
use Rattle.aircraft_core.specs.Setting.{Setting, configuration_of}

-- A table of this setting: its configuration and its links are the aircraft's, and it stands for some acts.
pub record IsTableOf (setting : Setting) (table : TableState) : Type 0 where
  pub configured : table.configuration ≡ configuration_of setting
  pub linked : table.links ≡ length setting.addresses
  pub acts : List Act
  pub stands : StandsFor table acts

-- The acts of messages that were said on a link.
abbrev pub said_on : ℕ → List Message → List Act
said_on link messages = map (λ message. Said link (rules_message message)) messages

-- The items that the rules make due on a link at the acts of an entry, after these acts, the newest first.
abbrev pub due_after : Setting → ℕ → List Act → List Act → List Item
due_after setting link told acts = entry_items (configuration_of setting) link (past_of (configuration_of setting) told) acts

-- A table was told these acts: whatever acts it stood for, it stands for them and these.
pub record WasTold (table : TableState) (acts : List Act) (now_table : TableState) : Type 0 where
  pub stands : (told : List Act) → StandsFor table told → StandsFor now_table (reverse acts ++ told)

-- What these acts make due on their link was written, with the data of this sample.
pub record WasWritten (setting : Setting) (sample : FlightSample) (table : TableState) (link : ℕ) (acts : List Act) (bits now_bits : List Bool) : Type 0 where
  pub spelled : (told : List Act) → StandsFor table told → now_bits ≡ bits ++ item_bits_on setting sample (due_after setting link told acts)

-- What these acts make due on a link was sent.
pub record WasSent (setting : Setting) (sample : FlightSample) (table : TableState) (acts : List Act) (link : ℕ) (sent now_sent : List ℕ) : Type 0 where
  pub unbroken : (told : List Act) → StandsFor table told → All IsUnbroken (texts_of_items setting link sample (due_after setting link told acts))
  pub spelled : (told : List Act) → StandsFor table told
      → now_sent ≡ sent ++ ended_lines (texts_of_items setting link sample (due_after setting link told acts))

-- A payload was heard on a link: its acts were told to the table, and what they make due was written.
pub record IsHeard (setting : Setting) (sample : FlightSample) (link : ℕ) (payload : List ℕ) (table now_table : TableState) (bits now_bits : List Bool) : Type 0 where
  pub acts : List Act
  pub are_acts : UplinkActs link payload acts
  pub told : WasTold table acts now_table
  pub written : WasWritten setting sample table link acts bits now_bits

-- A payload was taken on a link: its acts were told to the table, and what they make due was sent on it.
pub record IsUplinkTaken (setting : Setting) (sample : FlightSample) (link : ℕ) (payload : List ℕ) (table now_table : TableState) (sent now_sent : List ℕ) : Type 0 where
  pub acts : List Act
  pub are_acts : UplinkActs link payload acts
  pub told : WasTold table acts now_table
  pub answered : WasSent setting sample table acts link sent now_sent

-- These acts were taken: the table was told them, and what they make due was sent on each link.
pub record AreTaken (setting : Setting) (sample : FlightSample) (acts : List Act) (table now_table : TableState) (outboxes now_outboxes : List OutboxState) : Type 0 where
  pub told : WasTold table acts now_table
  pub sent : (link : ℕ) → link < length setting.addresses
      → WasSent setting sample table acts link (outbox_of outboxes link).sent (outbox_of now_outboxes link).sent

-- The texts of an entry with these acts were sent on a link, where this was the latest sample before it.
pub record TextsWereSent (setting : Setting) (latest : FlightSample) (table : TableState) (entry : Entry) (acts : List Act) (link : ℕ) (sent now_sent : List ℕ) : Type 0 where
  pub unbroken : (told : List Act) → StandsFor table told → All IsUnbroken (entry_texts setting link (past_of (configuration_of setting) told) latest entry acts)
  pub spelled : (told : List Act) → StandsFor table told
      → now_sent ≡ sent ++ ended_lines (entry_texts setting link (past_of (configuration_of setting) told) latest entry acts)

-- The contact was sent on a link, where this is the latest sample.
pub record ContactWasSent (setting : Setting) (latest : FlightSample) (table : TableState) (link : ℕ) (sent now_sent : List ℕ) : Type 0 where
  pub unbroken : (told : List Act) → StandsFor table told → IsUnbroken (contact_text_on setting link (past_of (configuration_of setting) told) latest)
  pub spelled : (told : List Act) → StandsFor table told
      → now_sent ≡ sent ++ ended (contact_text_on setting link (past_of (configuration_of setting) told) latest)

-- The link of an answer or a logon is below this number.
abbrev pub HasLinkBelow : ℕ → Entry → Type 0
HasLinkBelow links (entries.Answer line link code) = link < links
HasLinkBelow links (entries.Logon line link) = link < links
HasLinkBelow links entry = Unit {0}

-- The entry was taken: the table was told its acts, its texts were sent on each link, and the latest sample is its own, where it is a
-- sample.
pub record IsTaken (setting : Setting) (entry : Entry) (latest now_latest : FlightSample) (table now_table : TableState) (outboxes now_outboxes : List OutboxState) : Type 0 where
  pub acts : List Act
  pub are_acts : EntryActs latest entry acts
  pub last : now_latest ≡ latest_after latest entry
  pub told : WasTold table acts now_table
  pub sent : (link : ℕ) → link < length setting.addresses
      → TextsWereSent setting latest table entry acts link (outbox_of outboxes link).sent (outbox_of now_outboxes link).sent
