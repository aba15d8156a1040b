-- What is true of the numbers that a table keeps of a live link, at a time.
use Rattle.std.specs.Prelude.{◌≡◌, ℕ, ◌+◌, ◌≤◌, List, map, Option, option_map, IfSome, All}
use Rattle.std.specs.List.{AllByRecursion}
use Rattle.contract_rules.specs.Messages.{seconds_of}
use Rattle.contract_rules.specs.Emergency.{emergency_interval}
use Rattle.due_emergency.specs.Modes.{ModeState}
use Rattle.contract_table.specs.declared.connection.PeriodicContract.{PeriodicContract}
use Rattle.contract_table.specs.declared.connection.Connection.{Connection}
use Rattle.contract_table.specs.declared.reporting.Reporting.{Reporting}
use Rattle.contract_table.specs.declared.act.Act.{Act}
use Rattle.contract_table.specs.Acts.{IsTaken, last_moment, rules_act}
use Rattle.contract_table.specs.Seen.{emergency_seen}
use Rattle.contract_table.specs.Tables.{TableState, StandsFor}

-- A periodic contract has an interval, began at this time or before, and gave at most one report more than seconds passed.
pub record IsSoundSeries (time : ℕ) (kept : PeriodicContract) : Type 0 where
  pub lasting : 1 ≤ seconds_of kept.asked.interval
  pub begun : kept.since ≤ time
  pub few : kept.since + kept.reports ≤ time + 1

-- Emergency mode was told this time last, has the interval of the emergency contract, and gave few reports since its anchor.
pub record IsSoundMode (time : ℕ) (emergency : Option Reporting) (mode : ModeState) : Type 0 where
  pub last : mode.grid.last ≡ time
  pub interval : mode.grid.interval ≡ emergency_interval (option_map emergency_seen emergency)
  pub few : mode.grid.anchor + mode.reports ≤ time + 1

pub record IsSound (time : ℕ) (kept : Connection) : Type 0 where
  pub periodic : IfSome kept.periodic (IsSoundSeries time)
  pub mode : IsSoundMode time kept.emergency kept.mode

-- A table stands for some acts that it took.
pub record HasHistory (table : TableState) : Type 0 where
  pub told : List Act
  pub taken : AllByRecursion (IsTaken table.links) told
  pub stands : StandsFor table (map rules_act told)

-- The time of a table is within its limit, the numbers of each link are sound at this time, and the table has a history.
pub record IsSoundTable (table : TableState) (connections : List Connection) : Type 0 where
  pub moment : table.time ≤ last_moment
  pub each : All (IsSound table.time) connections
  pub history : HasHistory table
