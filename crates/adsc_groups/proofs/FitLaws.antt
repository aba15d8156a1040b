-- The types hold only values that fit.
use Rattle.std.proofs.Common.{ℕ, zero, suc, ◌<◌, [], ◌∷◌, get_or, refl, arith}
use Rattle.adsc_groups.specs.Fields.{FitFields}
use Rattle.adsc_groups.specs.Basic.{basic_fields, basic_values}
use Rattle.adsc_groups.specs.BasicView.{basic_data}
use Rattle.adsc_groups.specs.Groups.{FitsGroup}
use Rattle.adsc_groups.specs.GroupView.{group_data}
use Rattle.adsc_groups.specs.declared.basic.Basic.{Basic}
use Rattle.adsc_groups.specs.declared.group.Group.{Group}
use Rattle.adsc_groups.specs.declared.group.Group.TheVariants as groups

pub basic_fits : (basic : Basic) → FitFields basic_fields (basic_values (basic_data basic))
basic_fits b =
    (_, _, b.lat_fits, refl, (_, _, b.lon_fits, refl, (_, _, b.alt_fits, refl, (_, _, b.sec_fits, refl, (_, _, b.tcas_fits, refl, (_, _, b.accuracy_fits, refl, (_, _, b.redundancy_fits, refl, refl)))))))

pub group_fits : (group : Group) → FitsGroup (group_data group)
group_fits (groups.FlightId id) = (
  refl,
  (
    _,
    _,
    id.six_bits 0,
    refl,
    (
      _,
      _,
      id.six_bits 1,
      refl,
      (
        _,
        _,
        id.six_bits 2,
        refl,
        (
          _,
          _,
          id.six_bits 3,
          refl,
          (_, _, id.six_bits 4, refl, (_, _, id.six_bits 5, refl, (_, _, id.six_bits 6, refl, (_, _, id.six_bits 7, refl, refl)))),
        ),
      ),
    ),
  ),
)
group_fits (groups.Route r) = (
  refl,
  (
    _,
    _,
    r.lat_fits,
    refl,
    (
      _,
      _,
      r.lon_fits,
      refl,
      (
        _,
        _,
        r.alt_fits,
        refl,
        (
          _,
          _,
          r.eta_fits,
          refl,
          (_, _, r.next_lat_fits, refl, (_, _, r.next_lon_fits, refl, (_, _, r.next_alt_fits, refl, refl))),
        ),
      ),
    ),
  ),
)
group_fits (groups.Earth m) = (refl, (_, _, m.invalid_fits, refl, (_, _, m.angle_fits, refl, (_, _, m.speed_fits, refl, (_, _, m.vrate_fits, refl, refl)))))
group_fits (groups.Air m) = (refl, (_, _, m.invalid_fits, refl, (_, _, m.angle_fits, refl, (_, _, m.speed_fits, refl, (_, _, m.vrate_fits, refl, refl)))))
group_fits (groups.Weather w) = (refl, (_, _, w.wind_fits, refl, (_, _, w.invalid_fits, refl, (_, _, w.from_fits, refl, (_, _, w.temp_fits, refl, refl)))))
group_fits (groups.Airframe a) = (refl, (_, _, a.address_fits, refl, refl))
group_fits (groups.Intermediate i) =
    (refl, (_, _, i.distance_fits, refl, (_, _, i.invalid_fits, refl, (_, _, i.angle_fits, refl, (_, _, i.alt_fits, refl, (_, _, i.eta_fits, refl, refl))))))
group_fits (groups.Fixed f) = (refl, (_, _, f.lat_fits, refl, (_, _, f.lon_fits, refl, (_, _, f.alt_fits, refl, (_, _, f.eta_fits, refl, refl)))))

-- Each of eight numbers is below a limit, and so is the number 0 behind them.
pub eight_below : (limit a b c d e f g h : ℕ) → a < limit → b < limit → c < limit → d < limit → e < limit → f < limit → g < limit → h < limit
    → (i : ℕ) → get_or (a ∷ b ∷ c ∷ d ∷ e ∷ f ∷ g ∷ h ∷ []) i 0 < limit
eight_below limit a b c d e f g h la lb lc ld le lf lg lh zero = la
eight_below limit a b c d e f g h la lb lc ld le lf lg lh (suc zero) = lb
eight_below limit a b c d e f g h la lb lc ld le lf lg lh (suc (suc zero)) = lc
eight_below limit a b c d e f g h la lb lc ld le lf lg lh (suc (suc (suc zero))) = ld
eight_below limit a b c d e f g h la lb lc ld le lf lg lh (suc (suc (suc (suc zero)))) = le
eight_below limit a b c d e f g h la lb lc ld le lf lg lh (suc (suc (suc (suc (suc zero))))) = lf
eight_below limit a b c d e f g h la lb lc ld le lf lg lh (suc (suc (suc (suc (suc (suc zero)))))) = lg
eight_below limit a b c d e f g h la lb lc ld le lf lg lh (suc (suc (suc (suc (suc (suc (suc zero))))))) = lh
eight_below limit a b c d e f g h la lb lc ld le lf lg lh (suc (suc (suc (suc (suc (suc (suc (suc i)))))))) = omega (arith, la)
