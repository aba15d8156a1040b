-- What the head of each generated script says (this project's profile).
use Rattle.std.specs.Prelude.{◌≡◌, None, pos, List, ◌∷◌, codes}
use Rattle.acars_envelope.specs.Names.{with_dots}
use Rattle.aircraft_core.specs.declared.who.Who.{Who}
use Rattle.due_event.specs.declared.profile.Profile.TheVariants.{One}
use Rattle.flight_samples.specs.Samples.{values_of}
use Rattle.flight_samples.specs.declared.sample.Sample.{Sample as FlightSample}
use Rattle.net_script.specs.declared.line.ScriptLine.TheVariants as line
use Rattle.run_rules.specs.declared.reading.Reading.{Reading}
use Rattle.run_rules.specs.declared.reading.Reading.TheVariants.{Says}
use Rattle.generated_scripts.specs.Texts.{made_addresses, made_mark, sample_columns}
use Rattle.generated_scripts.specs.declared.line.MadeSample.{MadeSample}

-- A sample of which each column is 0.
abbrev pub zero_sample : MadeSample
zero_sample = record { lat = pos 0; lon = pos 0; alt = pos 0; xtk = pos 0; wlat = pos 0; vr = pos 0 }

-- The aircraft of the first line.
pub record IsMadeAircraft (who : Who) : Type 0 where
  pub registration : who.registration ≡ with_dots made_mark
  pub flight : who.flight ≡ codes "ANZ1"
  pub airframe : who.airframe ≡ 0xC81234
  pub profile : who.profile ≡ One

-- What is read before these readings: the aircraft, its five ground addresses without a star, and a sample of zeros.
pub record BeginsWithHead (readings behind : List Reading) : Type 0 where
  pub who : Who
  pub sample : FlightSample
  pub is_who : IsMadeAircraft who
  pub zeros : values_of sample ≡ sample_columns zero_sample
  pub joined : readings ≡ Says (line.A who) ∷ Says (line.G (record { items = made_addresses }) None) ∷ Says (line.S sample) ∷ behind
