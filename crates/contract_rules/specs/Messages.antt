-- Uplink messages as the contract rules see them: plain data, with an equality that computes.
-- The kinds of messages and their groups follow RTCA DO-258A / EUROCAE ED-100A.
use Rattle.std.specs.Prelude.{if◌then◌else◌, ℕ, ◌+◌, ◌*◌, ◌/◌, ◌%◌, Bool, true, false, not, ◌&&◌, ◌==◌, nat_eq, List, ℤ, Option, Some, None, is_some}
use Rattle.std.specs.Bool.{beq}
use Rattle.std.specs.Option.{option_eq}
use Rattle.std.specs.Ordering.{int_eq}
use Rattle.std.specs.Cmp.Lexicographic.{pointwise}

-- What an aircraft intent group asks for: its modulus, and the projection time in minutes.
pub record Intent : Type 0 where
  pub modulus : ℕ
  pub minutes : ℕ

-- The limits of an altitude range event, in units of 4 ft.
pub record AltitudeRange : Type 0 where
  pub ceiling : ℤ
  pub floor : ℤ

-- What a periodic or an emergency periodic request says: the contract's number, the octet of its reporting
-- interval where it has one, for each of the six groups with tags 12 to 17 its modulus where the group is asked for,
-- and the aircraft intent group where it is asked for.
pub record Reporting : Type 0 where
  pub number : ℕ
  pub interval : Option ℕ
  pub moduli : List (Option ℕ)
  pub intent : Option Intent

-- The limits of an event contract: the lateral deviation threshold in units of 0.125 NM, the vertical rate threshold
-- in units of 64 ft/min, the altitude range, and whether a change of waypoint is an event.
pub record EventLimits : Type 0 where
  pub lateral : Option ℕ
  pub vertical_rate : Option ℤ
  pub range : Option AltitudeRange
  pub waypoint : Bool

-- An uplink message: cancel all contracts and terminate the connection; cancel the contract of a number;
-- cancel emergency mode; or a request for a periodic, an event or an emergency periodic contract.
pub data Message : Type 0 where
  CancelAll : Message
  Cancel : ℕ → Message
  CancelEmergency : ℕ → Message
  PeriodicRequest : Reporting → Message
  EventRequest : ℕ → EventLimits → Message
  EmergencyRequest : Reporting → Message

-- The kinds of requests. A demand is a periodic request that asks for a single report.
pub data Kind : Type 0 where
  Demand : Kind
  Periodic : Kind
  Event : Kind
  Emergency : Kind

-- The contract number that a message bears; 0 where it bears none.
abbrev pub number_of : Message → ℕ
number_of CancelAll = 0
number_of (Cancel number) = number
number_of (CancelEmergency number) = number
number_of (PeriodicRequest asked) = asked.number
number_of (EventRequest number limits) = number
number_of (EmergencyRequest asked) = asked.number

-- The seconds of a scale code: 0 for never, then 1, 8 and 64.
abbrev pub scale_seconds : ℕ → ℕ
scale_seconds code = if code == 0 then 0 else if code == 1 then 1 else if code == 2 then 8 else 64

-- The seconds of a reporting interval's octet: its first two bits are the scale code, the other six the rate,
-- and the interval is the scale times one more than the rate.
abbrev pub interval_seconds : ℕ → ℕ
interval_seconds octet = scale_seconds (octet / 64) * (octet % 64 + 1)

-- The seconds of a reporting interval that may be absent; 0 where it is.
abbrev pub seconds_of : Option ℕ → ℕ
seconds_of None = 0
seconds_of (Some octet) = interval_seconds octet

-- The interval that a request for reports asks for, in seconds; 0 where it asks for none.
abbrev pub interval_of : Message → ℕ
interval_of (PeriodicRequest asked) = seconds_of asked.interval
interval_of (EmergencyRequest asked) = seconds_of asked.interval
interval_of _ = 0

-- A periodic request with this interval is a demand where the interval is absent or 0 s.
abbrev pub is_demand : Option ℕ → Bool
is_demand interval = seconds_of interval == 0

-- Whether the message is a request of this kind.
abbrev pub is_request_of : Kind → Message → Bool
is_request_of Demand (PeriodicRequest asked) = is_demand asked.interval
is_request_of Periodic (PeriodicRequest asked) = not (is_demand asked.interval)
is_request_of Event (EventRequest number limits) = true
is_request_of Emergency (EmergencyRequest asked) = true
is_request_of _ _ = false

-- Whether the message is a request, of whatever kind.
abbrev pub is_request : Message → Bool
is_request (PeriodicRequest asked) = true
is_request (EventRequest number limits) = true
is_request (EmergencyRequest asked) = true
is_request _ = false

-- Whether the message asks for aircraft intent.
abbrev pub asks_for_intent : Message → Bool
asks_for_intent (PeriodicRequest asked) = is_some asked.intent
asks_for_intent (EmergencyRequest asked) = is_some asked.intent
asks_for_intent _ = false

-- Whether two intent groups have the same modulus and projection time.
abbrev pub same_intent : Intent → Intent → Bool
same_intent one other = one.modulus == other.modulus && one.minutes == other.minutes

-- Whether two altitude ranges have the same ceiling and floor.
abbrev pub same_range : AltitudeRange → AltitudeRange → Bool
same_range one other = int_eq one.ceiling other.ceiling && int_eq one.floor other.floor

-- Whether two requests for reports agree in number, interval octet, moduli and intent.
abbrev pub same_reporting : Reporting → Reporting → Bool
same_reporting one other =
    one.number == other.number
    && option_eq nat_eq one.interval other.interval
    && pointwise (option_eq nat_eq) one.moduli other.moduli
    && option_eq same_intent one.intent other.intent

-- Whether two event contracts agree in each limit.
abbrev pub same_limits : EventLimits → EventLimits → Bool
same_limits one other =
    option_eq nat_eq one.lateral other.lateral
    && option_eq int_eq one.vertical_rate other.vertical_rate
    && option_eq same_range one.range other.range
    && beq one.waypoint other.waypoint

-- Two messages are the same where they are of one kind and agree in number and content. An interval is compared by
-- its octet, an absent group differs from one with modulus 0, and an absent interval from one of 0 s.
abbrev pub same_message : Message → Message → Bool
same_message CancelAll CancelAll = true
same_message (Cancel m) (Cancel n) = m == n
same_message (CancelEmergency m) (CancelEmergency n) = m == n
same_message (PeriodicRequest one) (PeriodicRequest other) = same_reporting one other
same_message (EventRequest m one) (EventRequest n other) = m == n && same_limits one other
same_message (EmergencyRequest one) (EmergencyRequest other) = same_reporting one other
same_message _ _ = false
