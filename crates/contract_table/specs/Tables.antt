-- What contracts see of a table, and when it stands for a list of acts.
use Rattle.std.specs.Prelude.{◌≡◌, ℕ, Bool, cond, nat_lt, List, [], ◌∷◌, map}
use Rattle.contract_rules.specs.Configuration.{Configuration}
use Rattle.contract_rules.specs.Acts.{Act}
use Rattle.contract_rules.specs.LiveLinks.{Noted, live_links, heard_on, time_after}
use Rattle.contract_rules.specs.Emergency.{is_crew_emergency}
use Rattle.contract_rules.specs.Verdicts.{past_of}
use Rattle.contract_table.specs.Connections.{Connection, connection_of}

-- A table: how the aircraft is set up, how many links it has, the time, whether the crew's switch of emergency is on, and
-- the live links by rising number.
pub record TableState : Type 0 where
  pub configuration : Configuration
  pub links : ℕ
  pub time : ℕ
  pub crew : Bool
  pub connections : List Connection

-- A link among others by rising number.
abbrev pub placed : ℕ → List ℕ → List ℕ
placed link [] = link ∷ []
placed link (other ∷ others) = cond (nat_lt other link) (other ∷ placed link others) (link ∷ other ∷ others)

-- Links by rising number.
abbrev pub rising : List ℕ → List ℕ
rising [] = []
rising (link ∷ links) = placed link (rising links)

-- The live links after a past, by rising number.
abbrev pub connections_after : Configuration → List Noted → List Connection
connections_after configuration past =
    map (λ link. connection_of configuration.profile link (heard_on link past)) (rising (live_links past))

-- The table of an aircraft with so many links after a past.
abbrev pub table_after : Configuration → ℕ → List Noted → TableState
table_after configuration links past =
    record {
      configuration = configuration;
      links = links;
      time = time_after past;
      crew = is_crew_emergency past;
      connections = connections_after configuration past;
    }

-- A table stands for acts, the newest first, where it is the table after the past that they make.
abbrev pub StandsFor : TableState → List Act → Type 0
StandsFor table acts = table ≡ table_after table.configuration table.links (past_of table.configuration acts)
