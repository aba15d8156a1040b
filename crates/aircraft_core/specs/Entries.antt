-- The entries of a journal (this project's profile).
use Rattle.std.specs.Prelude.{ℕ, ◌<◌, ◌≤◌, ◌==◌, Bool, true, List, [], ◌∷◌, length}
use Rattle.flight_samples.specs.declared.sample.Sample.{Sample as FlightSample}
use Rattle.aircraft_core.specs.declared.entry.Entry.{Entry}
use Rattle.aircraft_core.specs.declared.entry.Entry.TheVariants.{Uplink, Answer, Sample, Tick, Crew, Logon}
use Rattle.aircraft_core.specs.Setting.{Setting}

-- The number of the line that brought the entry.
abbrev pub line_of : Entry → ℕ
line_of (Uplink line link bytes) = line
line_of (Answer line link code) = line
line_of (Sample line sample) = line
line_of (Tick line t) = line
line_of (Crew line on) = line
line_of (Logon line link) = line

-- Whether a link hears of the entry: its own uplinks, answers and logons, and the entries of the flight, which are samples, ticks and
-- acts of the crew.
abbrev pub is_heard_by : ℕ → Entry → Bool
is_heard_by link (Uplink line other bytes) = link == other
is_heard_by link (Answer line other code) = link == other
is_heard_by link (Logon line other) = link == other
is_heard_by link entry = true

-- An aircraft of this setting takes the entry: its link is one of the aircraft's, its payload has 1 to 255 octets, and its moment is at
-- most 999,999,999 seconds.
abbrev pub IsTakenBy : Setting → Entry → Type 0
IsTakenBy setting (Uplink line link bytes) = (link < length setting.addresses) × (1 ≤ length bytes.items) × (length bytes.items ≤ 255)
IsTakenBy setting (Answer line link code) = link < length setting.addresses
IsTakenBy setting (Logon line link) = link < length setting.addresses
IsTakenBy setting (Tick line t) = t < 1000000000
IsTakenBy setting entry = Unit {0}

-- The latest sample after the entry: its own, where it is a sample.
abbrev pub latest_after : FlightSample → Entry → FlightSample
latest_after latest (Sample line sample) = sample
latest_after latest entry = latest

-- The latest sample after the entries of a journal, where this is the one before them.
abbrev pub latest_of : FlightSample → List Entry → FlightSample
latest_of latest [] = latest
latest_of latest (entry ∷ entries) = latest_of (latest_after latest entry) entries
