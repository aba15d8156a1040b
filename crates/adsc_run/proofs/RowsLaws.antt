-- The laws of the rows of an outcome.
use Rattle.std.proofs.Common.{◌≡◌, ℕ, suc, ◌+◌, Bool, true, false, cond, List, [], ◌∷◌, ◌++◌, length, slice_get, Some, refl, subst, arith}
use Rattle.std.specs.Prelude.{flat_map}
use Rattle.aircraft_core.specs.Setting.{Setting}
use Rattle.run_rules.specs.Happenings.{Happening, is_centre}
use Rattle.adsc_run.specs.Outcomes.{AreRowsOf, centre_links}
use Rattle.adsc_run.specs.Stations.{StationStands, is_centre_role, rows_of}
use Rattle.adsc_run.specs.declared.outcome.CentreRow.{CentreRow}
use Rattle.adsc_run.specs.declared.station.Station.{Station}

-- the row of a station first, if it is a centre's
row_first : (setting : Setting) (log : List Happening) (link : ℕ) (station : Station) (links : List ℕ) (rows : List CentreRow) → StationStands setting link log station
    → AreRowsOf setting log links rows → AreRowsOf setting log (cond (is_centre link log) (link ∷ []) [] ++ links) (rows_of station ++ rows)
row_first setting log link station links rows here behind =
    subst (λ b. AreRowsOf setting log (cond b (link ∷ []) [] ++ links) (rows_of station ++ rows)) here.centre (at (is_centre_role station.role))
  where
    at : (used : Bool) → AreRowsOf setting log (cond used (link ∷ []) [] ++ links)
        (cond used (record { address = station.address; centre = station.centre } ∷ []) [] ++ rows)
    at true = (record { address = here.listed; own = here.address; registration = here.registration; stands = here.stands }, behind)
    at false = behind

-- the rows of stations from this link on are those of the centres among their links
pub rows_are : (setting : Setting) (log : List Happening) (link : ℕ) (addresses : List (List ℕ)) (stations : List Station) → length stations ≡ length addresses
    → ((place : ℕ) (station : Station) → slice_get stations place ≡ Some station → StationStands setting (link + place) log station)
    → AreRowsOf setting log (centre_links log link addresses) (flat_map rows_of stations)
rows_are setting log link [] [] same each = refl
rows_are setting log link [] (station ∷ stations) same each = absurd (omega (arith, same))
rows_are setting log link (address ∷ addresses) [] same each = absurd (omega (arith, same))
rows_are setting log link (address ∷ addresses) (station ∷ stations) same each =
    row_first setting log link station (centre_links log (link + 1) addresses) (flat_map rows_of stations)
    (let first : link + 0 ≡ link = omega arith in subst (λ n. StationStands setting n log station) first (each 0 station refl))
    (rows_are setting log (link + 1) addresses stations (omega (arith, same))
    (λ place found there. let next : link + suc place ≡ link + 1 + place = omega arith in subst (λ n. StationStands setting n log found) next (each (suc place) found there)))
