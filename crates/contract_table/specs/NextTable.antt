-- What one act makes of a table, and what is due at it.
use Rattle.std.specs.Prelude.{ℕ, Bool, [], List, Option, Some, None, map, flat_map}
use Rattle.contract_rules.specs.Messages.{Message}
use Rattle.contract_rules.specs.Acts.{Act, Said, Malformed, Crew, Fault, later_of}
use Rattle.contract_rules.specs.LiveLinks.{Unreadable}
use Rattle.contract_rules.specs.Due.{Item, due_of_fault}
use Rattle.contract_table.specs.ConnectionDues.{dues_flown}
use Rattle.contract_table.specs.Connections.{Connection}
use Rattle.contract_table.specs.Dues.{on_link}
use Rattle.contract_table.specs.Places.{connection_on}
use Rattle.contract_table.specs.Messages.{found_by, heard_by, due_by}
use Rattle.contract_table.specs.NextConnection.{flown}
use Rattle.contract_table.specs.Tables.{TableState}

-- The link that a message of a link finds in a table.
abbrev pub found_in : TableState → ℕ → Message → Option Connection
found_in table link message = found_by table.configuration.kept table.crew table.time link message table.connections

-- The crew's switch of emergency after an act.
abbrev pub crew_after : Bool → Act → Bool
crew_after before (Crew on) = on
crew_after before _ = before

-- The live links after an act.
abbrev pub connections_next : Act → TableState → List Connection
connections_next (Said link message) table =
    heard_by table.configuration.profile table.time message table.connections (found_in table link message)
connections_next (Malformed link fault) table = table.connections
connections_next act table = map (flown table.time act) table.connections

-- The table after an act.
abbrev pub next_table : Act → TableState → TableState
next_table act table =
    record table {
      time = later_of table.time act;
      crew = crew_after table.crew act;
      connections = connections_next act table;
    }

-- The items due at a malformed payload of a link: a negative acknowledgement, where it is live.
abbrev pub due_of_malformed : ℕ → Fault → Option Connection → List (ℕ × Item)
due_of_malformed link fault None = []
due_of_malformed link fault (Some connection) = on_link link (due_of_fault Unreadable fault)

-- The items due at an act, by rising link.
abbrev pub table_dues : Act → TableState → List (ℕ × Item)
table_dues (Said link message) table = due_by message (found_in table link message)
table_dues (Malformed link fault) table = due_of_malformed link fault (connection_on link table.connections)
table_dues act table = flat_map (dues_flown table.time act) table.connections
