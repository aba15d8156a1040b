-- The acts of a history: what is said on a link, and what happens to the flight.
use Rattle.std.specs.Prelude.{ℕ, Bool, true, false, ◌==◌, ℤ, max, Option, Some, None}
use Rattle.contract_rules.specs.Messages.{Message, CancelAll}

-- The columns of a flight sample that the rules read: cross-track distance in 0.125 NM, vertical rate in 16 ft/min,
-- altitude in 4 ft, and the active waypoint's latitude and longitude.
pub record Sample : Type 0 where
  pub cross_track : ℤ
  pub vertical_rate : ℤ
  pub altitude : ℤ
  pub waypoint_latitude : ℤ
  pub waypoint_longitude : ℤ

-- Why a payload could not be read: the reason for the negative acknowledgement, the number of the message that was
-- being read, and the place of the faulty octet, counted from 1.
pub record Fault : Type 0 where
  pub reason : ℕ
  pub number : ℕ
  pub octet : ℕ

-- An act. A payload with messages gives one act a message; a payload that can't be read gives one malformed act.
-- The flight's acts are a new sample (with the sample before it), a tick of the clock, and the crew's switch of emergency.
pub data Act : Type 0 where
  Said : ℕ → Message → Act
  Malformed : ℕ → Fault → Act
  Moved : Sample → Sample → Act
  Ticked : ℕ → Act
  Crew : Bool → Act

-- Whether a link hears of an act: its own messages and malformed payloads, and the flight's acts.
abbrev pub concerns : ℕ → Act → Bool
concerns link (Said other message) = link == other
concerns link (Malformed other fault) = link == other
concerns link _ = true

-- Whether an act is a message of this link.
abbrev pub is_said_on : ℕ → Act → Bool
is_said_on link (Said other message) = link == other
is_said_on link _ = false

-- Time after an act: the greater of the time before it and its tick.
abbrev pub later_of : ℕ → Act → ℕ
later_of time (Ticked tick) = max time tick
later_of time _ = time

-- Whether an act is a crew act: the crew switched emergency on or off.
abbrev pub is_crew_act : Act → Bool
is_crew_act (Crew on) = true
is_crew_act _ = false

-- Whether an act is a crew act on.
abbrev pub is_crew_on : Act → Bool
is_crew_on (Crew on) = on
is_crew_on _ = false

-- Whether an act is a cancel-all.
abbrev pub is_cancel_all : Act → Bool
is_cancel_all (Said link CancelAll) = true
is_cancel_all _ = false

-- The sample that an act is, where it is one.
abbrev pub sample_of : Act → Option Sample
sample_of (Moved before now) = Some now
sample_of _ = None
