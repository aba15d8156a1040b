-- Events of an event contract. The four kinds follow RTCA DO-258A / EUROCAE ED-100A; how often each of the first three is
-- reported is this project's profile.
use Rattle.std.specs.Prelude.{ℕ, Bool, true, false, cond, not, ◌&&◌, ◌||◌, nat_lt, List, [], ◌∷◌, filter_map, Option, Some, None, ℤ, pos, negsuc, ◌*ℤ◌, int_lt, nat_abs}
use Rattle.std.specs.List.{list_any}
use Rattle.std.specs.Ordering.{int_eq}
use Rattle.contract_rules.specs.Configuration.{Profile, ProfileTwo}
use Rattle.contract_rules.specs.Messages.{EventLimits, AltitudeRange, Event}
use Rattle.contract_rules.specs.Acts.{Sample, sample_of}
use Rattle.contract_rules.specs.LookingBack.{after_last}
use Rattle.contract_rules.specs.LiveLinks.{Noted}
use Rattle.contract_rules.specs.InForce.{accepts}

-- Whether a cross-track distance is, to either side, more than a threshold, if there is one.
abbrev pub is_beyond : Option ℕ → ℤ → Bool
is_beyond None cross_track = false
is_beyond (Some threshold) cross_track = nat_lt threshold (nat_abs cross_track)

-- Whether a vertical rate is more than four times a positive threshold, or less than four times a negative one, if there
-- is one. A threshold's unit is four units of a sample's rate.
abbrev pub is_steeper : Option ℤ → ℤ → Bool
is_steeper None rate = false
is_steeper (Some (pos threshold)) rate = int_lt (pos 4 *ℤ pos threshold) rate
is_steeper (Some (negsuc threshold)) rate = int_lt rate (pos 4 *ℤ negsuc threshold)

-- Whether an altitude is above the ceiling or below the floor of a range, if there is one.
abbrev pub is_outside : Option AltitudeRange → ℤ → Bool
is_outside None altitude = false
is_outside (Some range) altitude = int_lt range.ceiling altitude || int_lt altitude range.floor

-- The three limits of an event contract.
pub data Limit : Type 0 where
  Lateral : Limit
  VerticalRate : Limit
  Range : Limit

-- A sample exceeds the lateral limit where its cross-track distance, to either side, is more than the threshold; the
-- vertical rate limit where it climbs faster than a positive threshold, or descends faster than a negative one; and the
-- altitude range where it is above the ceiling or below the floor.
abbrev pub exceeds : Limit → EventLimits → Sample → Bool
exceeds Lateral limits sample = is_beyond limits.lateral sample.cross_track
exceeds VerticalRate limits sample = is_steeper limits.vertical_rate sample.vertical_rate
exceeds Range limits sample = is_outside limits.range sample.altitude

-- Whether the event of a limit arms again: in profile 2 the lateral and the altitude range event do. Every other one
-- comes once per contract.
abbrev pub arms_again : Profile → Limit → Bool
arms_again ProfileTwo Lateral = true
arms_again ProfileTwo Range = true
arms_again _ _ = false

-- Whether the last of these samples, the newest of which stands first, exceeds a limit.
abbrev pub last_exceeds : Limit → EventLimits → List Sample → Bool
last_exceeds limit limits [] = false
last_exceeds limit limits (last ∷ earlier) = exceeds limit limits last

-- Whether the event of a limit is spent after the samples since acceptance: where it arms again, the last of them exceeds
-- the limit; where it comes once, one of them does.
abbrev pub is_spent : Profile → Limit → EventLimits → List Sample → Bool
is_spent profile limit limits samples =
    cond (arms_again profile limit) (last_exceeds limit limits samples) (list_any (exceeds limit limits) samples)

-- The event of a limit falls due at a sample that exceeds the limit, where it is not spent after the samples since
-- acceptance, the newest of which stands first.
abbrev pub is_event_due : Profile → Limit → EventLimits → List Sample → Sample → Bool
is_event_due profile limit limits samples now = exceeds limit limits now && not (is_spent profile limit limits samples)

-- The active waypoint changed where its latitude or its longitude differs from that of the sample before.
abbrev pub is_waypoint_change : Sample → Sample → Bool
is_waypoint_change before now =
    not (int_eq before.waypoint_latitude now.waypoint_latitude && int_eq before.waypoint_longitude now.waypoint_longitude)

-- The waypoint event falls due at each sample with another active waypoint than the sample before it, if it is asked for.
abbrev pub is_waypoint_due : EventLimits → Sample → Sample → Bool
is_waypoint_due limits before now = limits.waypoint && is_waypoint_change before now

-- The samples after the last accepted event request, the newest first.
abbrev pub samples_since_acceptance : List Noted → List Sample
samples_since_acceptance heard =
    filter_map (λ noted. sample_of noted.act) (after_last (λ noted _. accepts Event noted) heard)
