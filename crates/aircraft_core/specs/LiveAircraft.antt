-- What contracts see of an aircraft that keeps no journal, and when it stands after one.
use Rattle.std.specs.Prelude.{◌≡◌, ◌<◌, ℕ, List, [], ◌∷◌, ◌++◌, length}
use Rattle.adsc_io.specs.Lines.{ended_lines}
use Rattle.afn_logon.specs.declared.logon.Logon.{Logon}
use Rattle.contract_table.specs.Tables.{TableState}
use Rattle.flight_samples.specs.declared.sample.Sample.{Sample as FlightSample}
use Rattle.aircraft_core.specs.declared.entry.Entry.{Entry}
use Rattle.aircraft_core.specs.AddedTexts.{AreAdded}
use Rattle.aircraft_core.specs.Outboxes.{OutboxState, outbox_of}
use Rattle.aircraft_core.specs.Setting.{Setting}
use Rattle.aircraft_core.specs.Standing.{KeepsLogons, StandsAt}

-- What it was made with, its latest sample, its table of contracts, the logon of each link, and for each link what the last entry made
-- due. None of these grows with the entries.
pub record LiveAircraft : Type 0 where
  pub setting : Setting
  pub latest : FlightSample
  pub table : TableState
  pub logons : List Logon
  pub outboxes : List OutboxState

-- An outbox holds what an entry added to the downlinks of a journal on a link, each text ended by a newline.
pub record HoldsAdded (setting : Setting) (journal : List Entry) (entry : Entry) (link : ℕ) (sent : List ℕ) : Type 0 where
  pub texts : List (List ℕ)
  pub are_added : AreAdded setting journal entry link texts
  pub spelled : sent ≡ ended_lines texts

-- The aircraft stands after the journal: its table stands for the journal's acts, its latest sample and its logons are the journal's, and
-- its outboxes hold what the last entry added.
pub record StandsAfter (craft : LiveAircraft) (journal : List Entry) : Type 0 where
  pub at : StandsAt craft.setting journal craft.latest craft.table
  pub logons : KeepsLogons craft.setting journal craft.logons
  pub holds : (before : List Entry) (entry : Entry) (link : ℕ) → journal ≡ before ++ entry ∷ [] → link < length craft.setting.addresses
      → HoldsAdded craft.setting before entry link (outbox_of craft.outboxes link).sent
