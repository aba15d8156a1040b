-- The ranges of what is drawn: each column is in the range of its sample, the time isn't too great, the address is one of the five, and the
-- payload has octets and no limit of 0 (this project's profile).
use Rattle.std.specs.Prelude.{◌<◌, ◌≤◌, ◌^◌}
use Rattle.flight_samples.specs.Columns.{IsIn, altitudes, cross_tracks, latitudes, longitudes, vertical_rates}
use Rattle.net_script.specs.declared.limits.TheConstants.{MAX_TIME}
use Rattle.generated_scripts.specs.declared.line.MadeLine.{MadeLine}
use Rattle.generated_scripts.specs.declared.line.MadeLine.TheVariants.{Sample, Time, Crew, Uplink}
use Rattle.generated_scripts.specs.declared.line.MadePayload.{MadePayload}
use Rattle.generated_scripts.specs.declared.line.MadePayload.TheVariants.{Demand, Periodic, Event, Emergency, Cancel, CancelAll, Malformed}
use Rattle.generated_scripts.specs.declared.line.MadeSample.{MadeSample}

-- The columns that are drawn are in their ranges.
pub record IsSampleWithin (s : MadeSample) : Type 0 where
  pub lat : IsIn latitudes s.lat
  pub lon : IsIn longitudes s.lon
  pub alt : IsIn altitudes s.alt
  pub xtk : IsIn cross_tracks s.xtk
  pub wlat : IsIn latitudes s.wlat
  pub vr : IsIn vertical_rates s.vr

-- What a payload has is octets, and a lateral limit isn't 0.
abbrev pub IsPayloadWithin : MadePayload → Type 0
IsPayloadWithin (Demand number) = number < 2 ^ 8
IsPayloadWithin (Periodic number interval) = (number < 2 ^ 8) × (interval < 2 ^ 8)
IsPayloadWithin (Event number lateral) = (number < 2 ^ 8) × (1 ≤ lateral) × (lateral < 2 ^ 8)
IsPayloadWithin (Emergency number interval) = (number < 2 ^ 8) × (interval < 2 ^ 8)
IsPayloadWithin (Cancel number) = number < 2 ^ 8
IsPayloadWithin CancelAll = Unit {0}
IsPayloadWithin (Malformed number) = number < 2 ^ 8

-- What a line says is in its ranges.
abbrev pub IsWithin : MadeLine → Type 0
IsWithin (Sample sample) = IsSampleWithin sample
IsWithin (Time moment) = moment ≤ MAX_TIME
IsWithin (Crew on) = Unit {0}
IsWithin (Uplink place payload) = (place < 5) × IsPayloadWithin payload
