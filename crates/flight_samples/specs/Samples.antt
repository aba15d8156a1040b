-- A sample as the list of its values.
use Rattle.std.specs.Prelude.{ℤ, List, [], ◌∷◌}
use Rattle.flight_samples.specs.declared.sample.Sample.{Sample}

-- The values of a sample, in the order of the columns.
abbrev pub values_of : Sample → List ℤ
values_of s =
    s.lat ∷ s.lon ∷ s.alt ∷ s.sec ∷ s.tcas ∷ s.acc ∷ s.red
    ∷ s.wlat ∷ s.wlon ∷ s.walt ∷ s.eta ∷ s.nlat ∷ s.nlon ∷ s.nalt
    ∷ s.tinv ∷ s.track ∷ s.gs ∷ s.vr ∷ s.hinv ∷ s.heading ∷ s.mach
    ∷ s.wind ∷ s.winv ∷ s.wdir ∷ s.temp ∷ s.xtk ∷ []
