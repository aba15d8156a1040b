-- What contracts see of the types of the groups.
use Rattle.std.specs.Prelude.{ℕ, ℤ, pos, List, [], ◌∷◌, slice_index}
use Rattle.adsc_groups.specs.Fields.{size_of}
use Rattle.adsc_groups.specs.Groups.{GroupData, group_fields}
use Rattle.adsc_groups.specs.declared.kinds.FlightId.{FlightId}
use Rattle.adsc_groups.specs.declared.kinds.Route.{Route}
use Rattle.adsc_groups.specs.declared.kinds.Motion.{Motion}
use Rattle.adsc_groups.specs.declared.kinds.Weather.{Weather}
use Rattle.adsc_groups.specs.declared.kinds.Airframe.{Airframe}
use Rattle.adsc_groups.specs.declared.kinds.Intermediate.{Intermediate}
use Rattle.adsc_groups.specs.declared.kinds.Fixed.{Fixed}
use Rattle.adsc_groups.specs.declared.group.Group.{Group}
use Rattle.adsc_groups.specs.declared.group.Group.TheVariants as groups

-- ---- the values of the fields, in the order of the tables

abbrev pub flight_id_values : FlightId → List ℤ
flight_id_values id =
    pos (slice_index id.codes 0) ∷ pos (slice_index id.codes 1) ∷ pos (slice_index id.codes 2) ∷ pos (slice_index id.codes 3)
    ∷ pos (slice_index id.codes 4) ∷ pos (slice_index id.codes 5) ∷ pos (slice_index id.codes 6) ∷ pos (slice_index id.codes 7) ∷ []

abbrev pub route_values : Route → List ℤ
route_values route = route.lat ∷ route.lon ∷ route.alt ∷ pos route.eta ∷ route.next_lat ∷ route.next_lon ∷ route.next_alt ∷ []

abbrev pub motion_values : Motion → List ℤ
motion_values motion = pos motion.invalid ∷ pos motion.angle ∷ pos motion.speed ∷ motion.vrate ∷ []

abbrev pub weather_values : Weather → List ℤ
weather_values weather = pos weather.wind ∷ pos weather.invalid ∷ pos weather.from ∷ weather.temp ∷ []

abbrev pub airframe_values : Airframe → List ℤ
airframe_values airframe = pos airframe.address ∷ []

abbrev pub intermediate_values : Intermediate → List ℤ
intermediate_values intermediate =
    pos intermediate.distance ∷ pos intermediate.invalid ∷ pos intermediate.angle ∷ intermediate.alt ∷ pos intermediate.eta ∷ []

abbrev pub fixed_values : Fixed → List ℤ
fixed_values fixed = fixed.lat ∷ fixed.lon ∷ fixed.alt ∷ pos fixed.eta ∷ []

-- ---- a group

-- The plain numbers of a group.
abbrev pub group_data : Group → GroupData
group_data (groups.FlightId id) = record { tag = 12; values = flight_id_values id }
group_data (groups.Route route) = record { tag = 13; values = route_values route }
group_data (groups.Earth motion) = record { tag = 14; values = motion_values motion }
group_data (groups.Air motion) = record { tag = 15; values = motion_values motion }
group_data (groups.Weather weather) = record { tag = 16; values = weather_values weather }
group_data (groups.Airframe airframe) = record { tag = 17; values = airframe_values airframe }
group_data (groups.Intermediate intermediate) = record { tag = 22; values = intermediate_values intermediate }
group_data (groups.Fixed fixed) = record { tag = 23; values = fixed_values fixed }

-- How many bits the group's data has, without its tag.
abbrev pub group_size : Group → ℕ
group_size group = size_of (group_fields (group_data group).tag)
