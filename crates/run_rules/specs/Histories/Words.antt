-- The words of worked scripts. A script is given by what its lines say; the requests are those of RTCA DO-258A / EUROCAE ED-100A.
use Rattle.std.specs.Prelude.{ℕ, false, List, [], ◌∷◌, ◌++◌, codes, None, Ok, refl}
use Rattle.adsc_requests.specs.declared.message.Message.{Message}
use Rattle.adsc_requests.specs.declared.message.Message.TheVariants as message
use Rattle.adsc_requests.specs.declared.message.Uplink.{Uplink}
use Rattle.aircraft_core.specs.Setting.{Setting}
use Rattle.aircraft_core.specs.declared.who.Who.{Who}
use Rattle.arrayvec.specs.ArrayVec.{ArrayVec}
use Rattle.flight_samples.specs.declared.sample.Sample.{Sample as FlightSample}
use Rattle.ground_texts.specs.declared.ground_text.GroundText.TheVariants as text
use Rattle.net_script.specs.declared.line.Cancel.{Cancel}
use Rattle.net_script.specs.declared.line.ScriptLine.TheVariants as line
use Rattle.run_rules.specs.Runs.{Run, Script, ScriptRun}
use Rattle.run_rules.specs.Stages.{setting_with}
use Rattle.run_rules.specs.declared.reading.Reading.{Reading}
use Rattle.run_rules.specs.declared.reading.Reading.TheVariants.{Brings, Says}

-- ---- addresses and requests

-- A ground address.
abbrev pub ground : List ℕ
ground = codes "GRND001"

-- An address that no script here lists.
abbrev pub unlisted : List ℕ
unlisted = codes "NOWHERE"

-- An emergency request of this number, without an interval and without groups.
abbrev pub emergency : ℕ → Message
emergency n = message.Emergency n None (record { m = None ∷ None ∷ None ∷ None ∷ None ∷ None ∷ []; six = refl }) None

-- ---- lines

-- The three lines of the head: this aircraft, these ground addresses without a star, and this first sample.
abbrev pub head : Who → List (List ℕ) → FlightSample → List Reading
head who addresses sample = Says (line.A who) ∷ Says (line.G (record { items = addresses }) None) ∷ Says (line.S sample) ∷ []

-- The crew logs on to the address.
abbrev pub logs_on : Reading
logs_on = Says (line.L ground)

-- The centre at the address asks by an emergency request, which gets its number when it is sent.
abbrev pub asks : Reading
asks = Says (line.C ground (emergency 0))

-- The centre at the address cancels so.
abbrev pub cancels : Cancel → Reading
cancels what = Says (line.K ground what)

-- The centre's message at this place is brought to the aircraft.
abbrev pub brings : ℕ → Reading
brings place = Says (line.B ground place)

-- The downlink at this place is brought to the centre.
abbrev pub receives : ℕ → Reading
receives place = Says (line.R ground place)

-- A text of the address with these octets for this aircraft, which are read as this uplink.
abbrev pub sends : Who → ArrayVec ℕ → Uplink → List ℕ → Reading
sends who octets uplink address =
    Brings (text.Ads (record { address = address; registration = who.registration; octets = octets; asked = Ok uplink }))

-- ---- runs

-- The script of these lines. It isn't over the limit.
abbrev pub script_of : List Reading → Script
script_of readings = record { readings = readings; over = false }

-- The script that begins with a head of the one address and goes on with these lines.
abbrev pub flight_of : Who → FlightSample → List Reading → Script
flight_of who sample readings = script_of (head who (ground ∷ []) sample ++ readings)

-- The aircraft of such a script.
abbrev pub aircraft_of : Who → FlightSample → Setting
aircraft_of who sample = setting_with who (ground ∷ []) None sample

-- Under the order the script has a run of which this holds.
abbrev pub RunsTo : Script → List ℕ → (Run → Type 0) → Type 0
RunsTo script order Holds = (run : Run) × ScriptRun script order run × Holds run
