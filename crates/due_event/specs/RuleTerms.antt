-- A profile, the limits of an event request and a flight sample, in the terms of the contract rules.
use Rattle.std.specs.Prelude.{option_map}
use Rattle.adsc_requests.specs.declared.message.Limits.{Limits}
use Rattle.adsc_requests.specs.declared.message.Range.{Range}
use Rattle.contract_rules.specs.Acts.{Sample}
use Rattle.contract_rules.specs.Configuration.{Profile as RulesProfile, ProfileOne, ProfileTwo}
use Rattle.contract_rules.specs.Messages.{AltitudeRange, EventLimits}
use Rattle.due_event.specs.declared.profile.Profile.{Profile}
use Rattle.due_event.specs.declared.profile.Profile.TheVariants.{One, Two}
use Rattle.flight_samples.specs.declared.sample.Sample.{Sample as FlightSample}

-- A profile.
abbrev pub rules_profile : Profile → RulesProfile
rules_profile One = ProfileOne
rules_profile Two = ProfileTwo

-- The altitude range of an event request.
abbrev pub rules_range : Range → AltitudeRange
rules_range range = record { ceiling = range.ceiling; floor = range.floor }

-- The limits of an event request.
abbrev pub rules_limits : Limits → EventLimits
rules_limits limits =
    record {
      lateral = limits.lateral;
      vertical_rate = limits.vrate;
      range = option_map rules_range limits.range;
      waypoint = limits.waypoint;
    }

-- The columns of a flight sample that the rules read.
abbrev pub rules_sample : FlightSample → Sample
rules_sample sample =
    record {
      cross_track = sample.xtk;
      vertical_rate = sample.vr;
      altitude = sample.alt;
      waypoint_latitude = sample.wlat;
      waypoint_longitude = sample.wlon;
    }
