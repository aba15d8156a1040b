-- Where an aircraft stands after a journal, whatever it keeps of what it sent.
use Rattle.std.specs.Prelude.{◌≡◌, ◌<◌, ◌≤◌, ℕ, List, length, slice_index_or}
use Rattle.afn_logon.specs.declared.logon.Logon.{Logon}
use Rattle.afn_logon.specs.declared.logon.Logon.TheVariants.{Nothing}
use Rattle.contract_rules.specs.Acts.{Act}
use Rattle.contract_table.specs.Tables.{TableState, StandsFor}
use Rattle.flight_samples.specs.declared.sample.Sample.{Sample as FlightSample}
use Rattle.aircraft_core.specs.declared.entry.Entry.{Entry}
use Rattle.aircraft_core.specs.Entries.{latest_of}
use Rattle.aircraft_core.specs.JournalActs.{JournalActs, newest_first}
use Rattle.aircraft_core.specs.LogonStates.{logon_state}
use Rattle.aircraft_core.specs.Setting.{Setting, configuration_of}

-- There are acts of the journal for which the table stands, and the latest sample is the journal's.
pub record StandsAt (setting : Setting) (journal : List Entry) (latest : FlightSample) (table : TableState) : Type 0 where
  pub some_links : 1 ≤ length setting.addresses
  pub few_links : length setting.addresses ≤ 64
  pub acts : List (List Act)
  pub are_acts : JournalActs setting.first journal acts
  pub last : latest ≡ latest_of setting.first journal
  pub configured : table.configuration ≡ configuration_of setting
  pub linked : table.links ≡ length setting.addresses
  pub stands : StandsFor table (newest_first acts)

-- There is a logon for each link, and it is the state that the journal makes of it.
pub record KeepsLogons (setting : Setting) (journal : List Entry) (logons : List Logon) : Type 0 where
  pub each_link : length logons ≡ length setting.addresses
  pub states : (link : ℕ) → link < length setting.addresses → slice_index_or logons link Nothing ≡ logon_state link journal
