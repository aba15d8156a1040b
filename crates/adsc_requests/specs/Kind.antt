-- What kind of contract a message asks for, after RTCA DO-258A / EUROCAE ED-100A in this project's profile.
use Rattle.std.specs.Prelude.{ℕ, ◌==◌, Option, Some, None, if◌then◌else◌}
use Rattle.contract_rules.specs.Messages.{interval_seconds}
use Rattle.adsc_requests.specs.declared.kind.Kind.{Kind}
use Rattle.adsc_requests.specs.declared.kind.Kind.TheVariants as kinds
use Rattle.adsc_requests.specs.declared.message.Message.{Message}
use Rattle.adsc_requests.specs.declared.message.Message.TheVariants.{CancelAll, Cancel, CancelEmergency, Periodic, Event, Emergency}

-- A periodic request with this reporting interval: a demand where there is none, or one of 0 s.
abbrev pub periodic_kind : Option ℕ → Kind
periodic_kind None = kinds.Demand
periodic_kind (Some octet) = if interval_seconds octet == 0 then kinds.Demand else kinds.Periodic

-- The three cancels ask for no contract.
abbrev pub kind_in : Message → Option Kind
kind_in CancelAll = None
kind_in (Cancel n) = None
kind_in (CancelEmergency n) = None
kind_in (Periodic n interval groups intent) = Some (periodic_kind interval)
kind_in (Event n limits) = Some kinds.Event
kind_in (Emergency n interval groups intent) = Some kinds.Emergency
