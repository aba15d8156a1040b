-- Samples with the same values are equal.
use Rattle.std.proofs.Common.{◌≡◌, ℕ, ℤ, pos, List, get_or, ap, subst}
use Rattle.std.proofs.Props.{props}
use Rattle.flight_samples.specs.Columns.{Range, IsIn, accuracies, altitudes, angles, cross_tracks, flags, latitudes, longitudes, speeds, temperatures, times_past_hour, times_to_go, vertical_rates, wind_directions, wind_speeds}
use Rattle.flight_samples.specs.Samples.{values_of}
use Rattle.flight_samples.specs.declared.sample.Sample.{Sample}

-- The value at the place is in the range.
abbrev IsInAt : List ℤ → ℕ → Range → Type 0
IsInAt vs place range = IsIn range (get_or vs place (pos 0))

-- The values are in the ranges of their columns.
abbrev AreInRange : List ℤ → Type 0
AreInRange vs =
    IsInAt vs 0 latitudes
    × IsInAt vs 1 longitudes
    × IsInAt vs 2 altitudes
    × IsInAt vs 3 times_past_hour
    × IsInAt vs 4 flags
    × IsInAt vs 5 accuracies
    × IsInAt vs 6 flags
    × IsInAt vs 7 latitudes
    × IsInAt vs 8 longitudes
    × IsInAt vs 9 altitudes
    × IsInAt vs 10 times_to_go
    × IsInAt vs 11 latitudes
    × IsInAt vs 12 longitudes
    × IsInAt vs 13 altitudes
    × IsInAt vs 14 flags
    × IsInAt vs 15 angles
    × IsInAt vs 16 speeds
    × IsInAt vs 17 vertical_rates
    × IsInAt vs 18 flags
    × IsInAt vs 19 angles
    × IsInAt vs 20 speeds
    × IsInAt vs 21 wind_speeds
    × IsInAt vs 22 flags
    × IsInAt vs 23 wind_directions
    × IsInAt vs 24 temperatures
    × IsInAt vs 25 cross_tracks

-- A sample of its values.
make_sample : (vs : List ℤ) → AreInRange vs → Sample
make_sample vs within = record {
  lat = get_or vs 0 (pos 0);
  lon = get_or vs 1 (pos 0);
  alt = get_or vs 2 (pos 0);
  sec = get_or vs 3 (pos 0);
  tcas = get_or vs 4 (pos 0);
  acc = get_or vs 5 (pos 0);
  red = get_or vs 6 (pos 0);
  wlat = get_or vs 7 (pos 0);
  wlon = get_or vs 8 (pos 0);
  walt = get_or vs 9 (pos 0);
  eta = get_or vs 10 (pos 0);
  nlat = get_or vs 11 (pos 0);
  nlon = get_or vs 12 (pos 0);
  nalt = get_or vs 13 (pos 0);
  tinv = get_or vs 14 (pos 0);
  track = get_or vs 15 (pos 0);
  gs = get_or vs 16 (pos 0);
  vr = get_or vs 17 (pos 0);
  hinv = get_or vs 18 (pos 0);
  heading = get_or vs 19 (pos 0);
  mach = get_or vs 20 (pos 0);
  wind = get_or vs 21 (pos 0);
  winv = get_or vs 22 (pos 0);
  wdir = get_or vs 23 (pos 0);
  temp = get_or vs 24 (pos 0);
  xtk = get_or vs 25 (pos 0);
  lat_range = within.0;
  lon_range = within.1;
  alt_range = within.2;
  sec_range = within.3;
  tcas_range = within.4;
  acc_range = within.5;
  red_range = within.6;
  wlat_range = within.7;
  wlon_range = within.8;
  walt_range = within.9;
  eta_range = within.10;
  nlat_range = within.11;
  nlon_range = within.12;
  nalt_range = within.13;
  tinv_range = within.14;
  track_range = within.15;
  gs_range = within.16;
  vr_range = within.17;
  hinv_range = within.18;
  heading_range = within.19;
  mach_range = within.20;
  wind_range = within.21;
  winv_range = within.22;
  wdir_range = within.23;
  temp_range = within.24;
  xtk_range = within.25;
}

-- What is known of the values of a sample.
ranges_of : (s : Sample) → AreInRange (values_of s)
ranges_of s = (
  s.lat_range,
  s.lon_range,
  s.alt_range,
  s.sec_range,
  s.tcas_range,
  s.acc_range,
  s.red_range,
  s.wlat_range,
  s.wlon_range,
  s.walt_range,
  s.eta_range,
  s.nlat_range,
  s.nlon_range,
  s.nalt_range,
  s.tinv_range,
  s.track_range,
  s.gs_range,
  s.vr_range,
  s.hinv_range,
  s.heading_range,
  s.mach_range,
  s.wind_range,
  s.winv_range,
  s.wdir_range,
  s.temp_range,
  s.xtk_range,
)

-- Samples with the same values are equal.
pub same_sample : (a b : Sample) → values_of a ≡ values_of b → a ≡ b
unfolding make_sample ranges_of
same_sample a b same =
    subst (λ vs. (within : AreInRange vs) → a ≡ make_sample vs within) same
    (λ within. ap (make_sample (values_of a)) (one (ranges_of a) within)) (ranges_of b)
  where
    one : IsProp (AreInRange (values_of a))
    one = hlevel props
