-- The tables of fields of the report groups. The groups are those of RTCA DO-258A / EUROCAE ED-100A and ARINC 745; the orders, widths and
-- padding of their fields are this project's profile.
use Rattle.std.specs.Prelude.{List, [], ◌∷◌}
use Rattle.adsc_groups.specs.Fields.{Field}
use Rattle.adsc_groups.specs.Fields.Field.{number, signed, padding}

-- Flight identification, group 12: eight characters.
abbrev pub flight_id_fields : List Field
flight_id_fields = number 6 ∷ number 6 ∷ number 6 ∷ number 6 ∷ number 6 ∷ number 6 ∷ number 6 ∷ number 6 ∷ []

-- Predicted route, group 13: latitude, longitude, altitude and time to go of the next waypoint, and the position of the one after it.
abbrev pub route_fields : List Field
route_fields = signed 21 ∷ signed 21 ∷ signed 16 ∷ number 14 ∷ signed 21 ∷ signed 21 ∷ signed 16 ∷ padding 6 ∷ []

-- Earth reference, group 14, and air reference, group 15: whether the angle is invalid, the angle, the speed, the vertical rate.
abbrev pub motion_fields : List Field
motion_fields = number 1 ∷ number 12 ∷ number 13 ∷ signed 12 ∷ padding 2 ∷ []

-- Meteorological, group 16: wind speed, whether its direction is invalid, the direction, the temperature.
abbrev pub weather_fields : List Field
weather_fields = number 9 ∷ number 1 ∷ number 9 ∷ signed 12 ∷ padding 1 ∷ []

-- Airframe identification, group 17: the aircraft's address of 24 bits.
abbrev pub airframe_fields : List Field
airframe_fields = number 24 ∷ []

-- Intermediate projected intent, group 22: distance, whether the angle is invalid, the angle, altitude, time to go.
abbrev pub intermediate_fields : List Field
intermediate_fields = number 16 ∷ number 1 ∷ number 12 ∷ signed 16 ∷ number 14 ∷ padding 5 ∷ []

-- Fixed projected intent, group 23: latitude, longitude, altitude, time to go.
abbrev pub fixed_fields : List Field
fixed_fields = signed 21 ∷ signed 21 ∷ signed 16 ∷ number 14 ∷ []
