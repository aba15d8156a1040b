-- What contracts see of a table and of a live link, as the table keeps them.
use Rattle.std.specs.Prelude.{ℕ, Bool, List, map, Option, option_map}
use Rattle.contract_rules.specs.Configuration.{Configuration}
use Rattle.contract_rules.specs.Messages.{Message, Reporting, PeriodicRequest, EmergencyRequest}
use Rattle.due_event.specs.RuleTerms.{rules_limits, rules_profile}
use Rattle.due_emergency.specs.Modes.{ModeState}
use Rattle.contract_table.specs.declared.reporting.Reporting.{Reporting as ReportingKept}
use Rattle.contract_table.specs.declared.connection.PeriodicContract.{PeriodicContract}
use Rattle.contract_table.specs.declared.event.EventContract.{EventContract}
use Rattle.contract_table.specs.declared.connection.Connection.{Connection as ConnectionKept}
use Rattle.contract_table.specs.declared.configuration.Configuration.{Configuration as ConfigurationKept}
use Rattle.contract_table.specs.Acts.{reporting}
use Rattle.contract_table.specs.Connections.{Series, Watched, Anchor, Connection, anchor_where}
use Rattle.contract_table.specs.Tables.{TableState}

-- What a request for reports asks.
abbrev pub reporting_seen : ReportingKept → Reporting
reporting_seen kept = reporting kept.n kept.interval kept.groups kept.intent

-- A periodic contract.
abbrev pub series_seen : PeriodicContract → Series
series_seen kept =
    record { contract = record { request = PeriodicRequest (reporting_seen kept.asked); since = kept.since }; reports = kept.reports }

-- An event contract.
abbrev pub watched_seen : EventContract → Watched
watched_seen kept =
    record {
      number = kept.n;
      limits = rules_limits kept.watch.limits;
      lateral = kept.watch.lateral;
      vertical_rate = kept.watch.vrate;
      range = kept.watch.range;
    }

-- An emergency contract.
abbrev pub emergency_seen : ReportingKept → Message
emergency_seen kept = EmergencyRequest (reporting_seen kept)

-- The anchor of emergency reports, in emergency mode.
abbrev pub anchor_seen : ModeState → Option Anchor
anchor_seen mode = anchor_where mode.is_on mode.grid.anchor mode.reports

-- A live link.
abbrev pub connection_seen : ConnectionKept → Connection
connection_seen kept =
    record {
      link = kept.link;
      periodic = option_map series_seen kept.periodic;
      event = option_map watched_seen kept.event;
      emergency = option_map emergency_seen kept.emergency;
      anchor = anchor_seen kept.mode;
    }

-- What an aircraft is set up with.
abbrev pub configuration_seen : ConfigurationKept → Configuration
configuration_seen kept = record { profile = rules_profile kept.profile; kept = kept.reserved }

-- A table of so many links: how the aircraft is set up, the time, the crew's switch, and the live links.
abbrev pub table_seen : ℕ → ConfigurationKept → ℕ → Bool → List ConnectionKept → TableState
table_seen links configuration time crew connections =
    record {
      configuration = configuration_seen configuration;
      links = links;
      time = time;
      crew = crew;
      connections = map connection_seen connections;
    }
