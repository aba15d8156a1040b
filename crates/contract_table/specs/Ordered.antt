-- The order in which a table keeps its live links.
use Rattle.std.specs.Prelude.{ℕ, ◌≤◌, List, map, length, Option}
use Rattle.contract_rules.specs.Configuration.{max_live_links}
use Rattle.contract_table.specs.Connections.{Connection}
use Rattle.contract_table.specs.Places.{HasPlace, IsRising, link_of}

-- The live links of an aircraft that keeps a connection for this link, if for one: they have rising numbers, are at most
-- five, and leave a place for each link for which there is room.
pub record IsOrdered (kept : Option ℕ) (connections : List Connection) : Type 0 where
  pub rising : IsRising (map link_of connections)
  pub few : length connections ≤ max_live_links
  pub places : (link : ℕ) → HasPlace kept link connections
