-- The columns of a sample: the name of each, and the least and the greatest value that may stand in it.
-- The quantities are those that the ADS-C report groups tell (RTCA DO-258A / EUROCAE ED-100A, ARINC 745).
-- Which columns there are, their order, their units and their ranges are this project's profile.
use Rattle.std.specs.Prelude.{ℕ, ℤ, pos, negsuc, List, [], ◌∷◌, ◌≤ℤ◌, codes}

-- The least and the greatest value of a quantity.
pub record Range : Type 0 where
  pub low : ℤ
  pub high : ℤ

-- The range from low to high.
abbrev pub range : ℤ → ℤ → Range
range low high = record { low = low; high = high }

-- z is in the range.
abbrev pub IsIn : Range → ℤ → Type 0
IsIn r z = (r.low ≤ℤ z) × (z ≤ℤ r.high)

-- A latitude in 180/2^20 degree, north positive: from 90 degrees south to 90 degrees north.
abbrev pub latitudes : Range
latitudes = range (negsuc 524287) (pos 524288)

-- A longitude in 180/2^20 degree, east positive: from 180 degrees west to just below 180 degrees east.
abbrev pub longitudes : Range
longitudes = range (negsuc 1048575) (pos 1048575)

-- An altitude in 4 feet.
abbrev pub altitudes : Range
altitudes = range (negsuc 32767) (pos 32767)

-- A time past the hour in 1/8 second.
abbrev pub times_past_hour : Range
times_past_hour = range (pos 0) (pos 28799)

-- A flag: 1 where it is set.
abbrev pub flags : Range
flags = range (pos 0) (pos 1)

-- A code of position accuracy.
abbrev pub accuracies : Range
accuracies = range (pos 0) (pos 7)

-- A time to go in seconds.
abbrev pub times_to_go : Range
times_to_go = range (pos 0) (pos 16383)

-- An angle in 360/4096 degree.
abbrev pub angles : Range
angles = range (pos 0) (pos 4095)

-- A speed: over the ground in 1/2 knot, through the air in Mach 0.0005.
abbrev pub speeds : Range
speeds = range (pos 0) (pos 8191)

-- A vertical rate in 16 feet a minute, up positive.
abbrev pub vertical_rates : Range
vertical_rates = range (negsuc 2047) (pos 2047)

-- A wind speed in 1/2 knot.
abbrev pub wind_speeds : Range
wind_speeds = range (pos 0) (pos 511)

-- A wind direction in 360/512 degree.
abbrev pub wind_directions : Range
wind_directions = range (pos 0) (pos 511)

-- A temperature in 0.25 degree Celsius.
abbrev pub temperatures : Range
temperatures = range (negsuc 2047) (pos 2047)

-- A distance from the planned track in 0.125 nautical mile; its sign tells the side.
abbrev pub cross_tracks : Range
cross_tracks = range (negsuc 32766) (pos 32767)

-- A column of a sample: its name and the range of its values.
pub record Column : Type 0 where
  pub name : List ℕ
  pub range : Range

-- The column of that name and range.
abbrev pub column : List ℕ → Range → Column
column name range = record { name = name; range = range }

-- The columns of a sample, in their order.
abbrev pub columns : List Column
columns =
    column (codes "lat") latitudes ∷ column (codes "lon") longitudes ∷ column (codes "alt") altitudes
    ∷ column (codes "sec") times_past_hour
    ∷ column (codes "tcas") flags ∷ column (codes "acc") accuracies ∷ column (codes "red") flags
    ∷ column (codes "wlat") latitudes ∷ column (codes "wlon") longitudes ∷ column (codes "walt") altitudes
    ∷ column (codes "eta") times_to_go
    ∷ column (codes "nlat") latitudes ∷ column (codes "nlon") longitudes ∷ column (codes "nalt") altitudes
    ∷ column (codes "tinv") flags ∷ column (codes "track") angles ∷ column (codes "gs") speeds
    ∷ column (codes "vr") vertical_rates
    ∷ column (codes "hinv") flags ∷ column (codes "heading") angles ∷ column (codes "mach") speeds
    ∷ column (codes "wind") wind_speeds ∷ column (codes "winv") flags ∷ column (codes "wdir") wind_directions
    ∷ column (codes "temp") temperatures
    ∷ column (codes "xtk") cross_tracks
    ∷ []
