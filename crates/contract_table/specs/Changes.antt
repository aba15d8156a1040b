-- What an act makes of the live links as a table keeps them. These records serve private contracts.
use Rattle.std.specs.Prelude.{◌≡◌, ℕ, List, ◌++◌, map, Option, All, slice_index_or, slice_set}
use Rattle.contract_rules.specs.Configuration.{Profile}
use Rattle.contract_rules.specs.Acts.{Act}
use Rattle.contract_rules.specs.Messages.{Message}
use Rattle.contract_table.specs.declared.connection.Connection.{Connection}
use Rattle.contract_table.specs.declared.due.Dues.{Dues}
use Rattle.contract_table.specs.Connections.{Connection as Seen}
use Rattle.contract_table.specs.Dues.{dues_in}
use Rattle.contract_table.specs.Messages.{due_by, heard_by}
use Rattle.contract_table.specs.NextConnection.{accepted, flown}
use Rattle.contract_table.specs.Seen.{connection_seen}
use Rattle.contract_table.specs.Sound.{IsSound}

-- An act of the flight on a live link, as time moves to a later moment or stays.
pub record IsFlown (time later : ℕ) (act : Act) (before after : Connection) : Type 0 where
  pub next : connection_seen after ≡ flown time act (connection_seen before)
  pub sound : IsSound later after

-- An accepted message of the live link at this place; the others stay.
pub record IsAcceptedAt (place : ℕ) (profile : Profile) (time : ℕ) (message : Message) (before after : List Connection) : Type 0 where
  pub now : Connection
  pub written : after ≡ slice_set before place now
  pub next : (none : Connection)
      → connection_seen now ≡ accepted profile time message (connection_seen (slice_index_or before place none))
  pub link : (none : Connection) → now.link ≡ (slice_index_or before place none).link
  pub sound : IsSound time now

-- A message that finds this link, if it finds one: the live links after it, and what is due at it,
-- which is added.
pub record IsHeard (profile : Profile) (time : ℕ) (message : Message) (found : Option Seen) (before after : List Connection) (dues more : Dues) : Type 0 where
  pub next : map connection_seen after ≡ heard_by profile time message (map connection_seen before) found
  pub sound : All (IsSound time) after
  pub due : dues_in more ≡ dues_in dues ++ due_by message found
