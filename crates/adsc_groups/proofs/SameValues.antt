-- Values that are seen alike are one: a type holds its numbers and proofs that they fit, of which there is one each.
use Rattle.std.proofs.Common.{◌≡◌, ℕ, zero, suc, ◌^◌, ◌<◌, ◌==◌, List, length, map, get_or, Bool, true, false, cond, ℤ, pos, unsigned_abs, refl, sym, ap, ◌∙◌, subst, arith}
use Rattle.std.proofs.Props.{props}
use Rattle.std.proofs.lemmas.List.{ext_get_or}
use Rattle.bit_terms.specs.Signed.{FitsSigned}
use Rattle.adsc_groups.specs.BasicView.{basic_data, values_of}
use Rattle.adsc_groups.specs.Basic.{basic_values}
use Rattle.adsc_groups.specs.Groups.{GroupData}
use Rattle.adsc_groups.specs.GroupView.{group_data, flight_id_values}
use Rattle.adsc_groups.specs.declared.basic.Basic.{Basic}
use Rattle.adsc_groups.specs.declared.kinds.FlightId.{FlightId}
use Rattle.adsc_groups.specs.declared.kinds.Route.{Route}
use Rattle.adsc_groups.specs.declared.kinds.Motion.{Motion}
use Rattle.adsc_groups.specs.declared.kinds.Weather.{Weather}
use Rattle.adsc_groups.specs.declared.kinds.Airframe.{Airframe}
use Rattle.adsc_groups.specs.declared.kinds.Intermediate.{Intermediate}
use Rattle.adsc_groups.specs.declared.kinds.Fixed.{Fixed}
use Rattle.adsc_groups.specs.declared.group.Group.{Group}
use Rattle.adsc_groups.specs.declared.group.Group.TheVariants as groups

-- The value at a place, as a signed number and as one from 0 up.
abbrev int_at : List ℤ → ℕ → ℤ
int_at vs place = get_or vs place (pos 0)

abbrev nat_at : List ℤ → ℕ → ℕ
nat_at vs place = unsigned_abs (int_at vs place)

-- ---- the basic data

abbrev IsBasic : List ℤ → Type 0
IsBasic vs =
    FitsSigned 21 (int_at vs 0) × FitsSigned 21 (int_at vs 1) × FitsSigned 16 (int_at vs 2) × nat_at vs 3 < 2 ^ 15 × nat_at vs 4 < 2 × nat_at vs 5 < 8 × nat_at vs 6 < 2

make_basic : (vs : List ℤ) → IsBasic vs → Basic
make_basic vs fits = record {
  lat = int_at vs 0;
  lon = int_at vs 1;
  alt = int_at vs 2;
  sec = nat_at vs 3;
  tcas = nat_at vs 4;
  accuracy = nat_at vs 5;
  redundancy = nat_at vs 6;
  lat_fits = fits.0;
  lon_fits = fits.1;
  alt_fits = fits.2;
  sec_fits = fits.3;
  tcas_fits = fits.4;
  accuracy_fits = fits.5;
  redundancy_fits = fits.6;
}

-- Basic data with the same values is one.
pub same_values : (a b : Basic) → values_of a ≡ values_of b → a ≡ b
unfolding make_basic
same_values a b same =
    subst (λ vs. (fits : IsBasic vs) → a ≡ make_basic vs fits) same
    (λ fits. ap (make_basic (values_of a)) (one (a.lat_fits, a.lon_fits, a.alt_fits, a.sec_fits, a.tcas_fits, a.accuracy_fits, a.redundancy_fits) fits)) (b.lat_fits, b.lon_fits, b.alt_fits, b.sec_fits, b.tcas_fits, b.accuracy_fits, b.redundancy_fits)
  where
    one : IsProp (IsBasic (values_of a))
    one = hlevel props

pub same_basic : (a b : Basic) → basic_data a ≡ basic_data b → a ≡ b
same_basic a b same = same_values a b (ap basic_values same)

-- ---- the flight identification: its eight codes

abbrev HoldCodes : List ℕ → Type 0
HoldCodes codes = (length codes ≡ 8) × ((i : ℕ) → get_or codes i 0 < 64)

make_flight_id : (codes : List ℕ) → HoldCodes codes → FlightId
make_flight_id codes fits = record { codes = codes; eight = fits.0; six_bits = fits.1 }

same_flight_id : (a b : FlightId) → a.codes ≡ b.codes → a ≡ b
unfolding make_flight_id
same_flight_id a b same =
    subst (λ codes. (fits : HoldCodes codes) → a ≡ make_flight_id codes fits) same
    (λ fits. ap (make_flight_id a.codes) (one (a.eight, a.six_bits) fits)) (b.eight, b.six_bits)
  where
    one : IsProp (HoldCodes a.codes)
    one = hlevel props

codes_from : List ℤ → List ℕ
codes_from vs = map unsigned_abs vs

abbrev IsFlightId : List ℤ → Type 0
IsFlightId vs = HoldCodes (codes_from vs)

-- The values are those of the eight codes.
same_code : (id : FlightId) (k : ℕ) → k < 8 → get_or id.codes k 0 ≡ get_or (codes_from (flight_id_values id)) k 0
unfolding codes_from
same_code id zero below = refl
same_code id (suc zero) below = refl
same_code id (suc (suc zero)) below = refl
same_code id (suc (suc (suc zero))) below = refl
same_code id (suc (suc (suc (suc zero)))) below = refl
same_code id (suc (suc (suc (suc (suc zero))))) below = refl
same_code id (suc (suc (suc (suc (suc (suc zero)))))) below = refl
same_code id (suc (suc (suc (suc (suc (suc (suc zero))))))) below = refl
same_code id (suc (suc (suc (suc (suc (suc (suc (suc k)))))))) below = absurd (omega arith)

codes_again : (id : FlightId) → id.codes ≡ codes_from (flight_id_values id)
unfolding codes_from
codes_again id = ext_get_or 0 id.codes (codes_from (flight_id_values id)) id.eight (λ k below. same_code id k (omega (arith, id.eight)))

codes_hold : (id : FlightId) → IsFlightId (flight_id_values id)
codes_hold id = subst HoldCodes (codes_again id) (id.eight, id.six_bits)

-- ---- the other kinds, by their values

abbrev IsRoute : List ℤ → Type 0
IsRoute vs =
    FitsSigned 21 (int_at vs 0) × FitsSigned 21 (int_at vs 1) × FitsSigned 16 (int_at vs 2) × nat_at vs 3 < 2 ^ 14 × FitsSigned 21 (int_at vs 4) × FitsSigned 21 (int_at vs 5) × FitsSigned 16 (int_at vs 6)

make_route : (vs : List ℤ) → IsRoute vs → Route
make_route vs fits = record {
  lat = int_at vs 0;
  lon = int_at vs 1;
  alt = int_at vs 2;
  eta = nat_at vs 3;
  next_lat = int_at vs 4;
  next_lon = int_at vs 5;
  next_alt = int_at vs 6;
  lat_fits = fits.0;
  lon_fits = fits.1;
  alt_fits = fits.2;
  eta_fits = fits.3;
  next_lat_fits = fits.4;
  next_lon_fits = fits.5;
  next_alt_fits = fits.6;
}

abbrev IsMotion : List ℤ → Type 0
IsMotion vs = nat_at vs 0 < 2 × nat_at vs 1 < 2 ^ 12 × nat_at vs 2 < 2 ^ 13 × FitsSigned 12 (int_at vs 3)

make_motion : (vs : List ℤ) → IsMotion vs → Motion
make_motion vs fits = record {
  invalid = nat_at vs 0;
  angle = nat_at vs 1;
  speed = nat_at vs 2;
  vrate = int_at vs 3;
  invalid_fits = fits.0;
  angle_fits = fits.1;
  speed_fits = fits.2;
  vrate_fits = fits.3;
}

abbrev IsWeather : List ℤ → Type 0
IsWeather vs = nat_at vs 0 < 2 ^ 9 × nat_at vs 1 < 2 × nat_at vs 2 < 2 ^ 9 × FitsSigned 12 (int_at vs 3)

make_weather : (vs : List ℤ) → IsWeather vs → Weather
make_weather vs fits = record {
  wind = nat_at vs 0;
  invalid = nat_at vs 1;
  from = nat_at vs 2;
  temp = int_at vs 3;
  wind_fits = fits.0;
  invalid_fits = fits.1;
  from_fits = fits.2;
  temp_fits = fits.3;
}

abbrev IsAirframe : List ℤ → Type 0
IsAirframe vs = nat_at vs 0 < 2 ^ 24

make_airframe : (vs : List ℤ) → IsAirframe vs → Airframe
make_airframe vs fits = record {
  address = nat_at vs 0;
  address_fits = fits;
}

abbrev IsIntermediate : List ℤ → Type 0
IsIntermediate vs = nat_at vs 0 < 2 ^ 16 × nat_at vs 1 < 2 × nat_at vs 2 < 2 ^ 12 × FitsSigned 16 (int_at vs 3) × nat_at vs 4 < 2 ^ 14

make_intermediate : (vs : List ℤ) → IsIntermediate vs → Intermediate
make_intermediate vs fits = record {
  distance = nat_at vs 0;
  invalid = nat_at vs 1;
  angle = nat_at vs 2;
  alt = int_at vs 3;
  eta = nat_at vs 4;
  distance_fits = fits.0;
  invalid_fits = fits.1;
  angle_fits = fits.2;
  alt_fits = fits.3;
  eta_fits = fits.4;
}

abbrev IsFixed : List ℤ → Type 0
IsFixed vs = FitsSigned 21 (int_at vs 0) × FitsSigned 21 (int_at vs 1) × FitsSigned 16 (int_at vs 2) × nat_at vs 3 < 2 ^ 14

make_fixed : (vs : List ℤ) → IsFixed vs → Fixed
make_fixed vs fits = record {
  lat = int_at vs 0;
  lon = int_at vs 1;
  alt = int_at vs 2;
  eta = nat_at vs 3;
  lat_fits = fits.0;
  lon_fits = fits.1;
  alt_fits = fits.2;
  eta_fits = fits.3;
}

-- ---- a group, by its tag

-- What the values of a group must be.
abbrev Fits : GroupData → Type 0
Fits group =
    cond (group.tag == 12) (IsFlightId group.values)
    (cond (group.tag == 13) (IsRoute group.values)
    (cond (group.tag == 14) (IsMotion group.values)
    (cond (group.tag == 15) (IsMotion group.values)
    (cond (group.tag == 16) (IsWeather group.values)
    (cond (group.tag == 17) (IsAirframe group.values)
    (cond (group.tag == 22) (IsIntermediate group.values) (IsFixed group.values)))))))

chosen : (test : Bool) (P Q : Type 0) → (P → Group) → (Q → Group) → cond test P Q → Group
chosen true P Q one other fits = one fits
chosen false P Q one other fits = other fits

make_group : (group : GroupData) → Fits group → Group
make_group group =
    chosen (group.tag == 12) _ _ (λ fits. groups.FlightId (make_flight_id (codes_from group.values) fits))
    (chosen (group.tag == 13) _ _ (λ fits. groups.Route (make_route group.values fits))
    (chosen (group.tag == 14) _ _ (λ fits. groups.Earth (make_motion group.values fits))
    (chosen (group.tag == 15) _ _ (λ fits. groups.Air (make_motion group.values fits))
    (chosen (group.tag == 16) _ _ (λ fits. groups.Weather (make_weather group.values fits))
    (chosen (group.tag == 17) _ _ (λ fits. groups.Airframe (make_airframe group.values fits))
    (chosen (group.tag == 22) _ _ (λ fits. groups.Intermediate (make_intermediate group.values fits))
    (λ fits. groups.Fixed (make_fixed group.values fits))))))))

fits_of : (group : Group) → Fits (group_data group)
fits_of (groups.FlightId id) = codes_hold id
fits_of (groups.Route x) = (x.lat_fits, x.lon_fits, x.alt_fits, x.eta_fits, x.next_lat_fits, x.next_lon_fits, x.next_alt_fits)
fits_of (groups.Earth x) = (x.invalid_fits, x.angle_fits, x.speed_fits, x.vrate_fits)
fits_of (groups.Air x) = (x.invalid_fits, x.angle_fits, x.speed_fits, x.vrate_fits)
fits_of (groups.Weather x) = (x.wind_fits, x.invalid_fits, x.from_fits, x.temp_fits)
fits_of (groups.Airframe x) = x.address_fits
fits_of (groups.Intermediate x) = (x.distance_fits, x.invalid_fits, x.angle_fits, x.alt_fits, x.eta_fits)
fits_of (groups.Fixed x) = (x.lat_fits, x.lon_fits, x.alt_fits, x.eta_fits)

made_again : (group : Group) → make_group (group_data group) (fits_of group) ≡ group
unfolding make_group chosen make_flight_id fits_of make_route make_motion make_weather make_airframe make_intermediate make_fixed
made_again (groups.FlightId id) =
    ap (λ x. groups.FlightId x) (same_flight_id (make_flight_id (codes_from (flight_id_values id)) (codes_hold id)) id (sym (codes_again id)))
made_again (groups.Route x) = refl
made_again (groups.Earth x) = refl
made_again (groups.Air x) = refl
made_again (groups.Weather x) = refl
made_again (groups.Airframe x) = refl
made_again (groups.Intermediate x) = refl
made_again (groups.Fixed x) = refl

one_proof : (group : Group) → IsProp (Fits (group_data group))
one_proof (groups.FlightId x) = hlevel props
one_proof (groups.Route x) = hlevel props
one_proof (groups.Earth x) = hlevel props
one_proof (groups.Air x) = hlevel props
one_proof (groups.Weather x) = hlevel props
one_proof (groups.Airframe x) = hlevel props
one_proof (groups.Intermediate x) = hlevel props
one_proof (groups.Fixed x) = hlevel props

pub same_group : (a b : Group) → group_data a ≡ group_data b → a ≡ b
same_group a b same =
    sym (made_again a)
    ∙ subst (λ group. (fits : Fits group) → make_group (group_data a) (fits_of a) ≡ make_group group fits) same
    (λ fits. ap (make_group (group_data a)) (one_proof a (fits_of a) fits)) (fits_of b)
    ∙ made_again b
