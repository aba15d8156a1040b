-- The basic data of a report: 80 bits in the order of RTCA DO-258A / EUROCAE ED-100A and ARINC 745. The units are this project's profile.
use Rattle.std.specs.Prelude.{ℕ, ℤ, pos, Bool, List, [], ◌∷◌}
use Rattle.adsc_groups.specs.Fields.{Field, fields_bits}
use Rattle.adsc_groups.specs.Fields.Field.{number, signed, padding}

-- The basic data as plain numbers: latitude and longitude in 180 / 2^20 degree, altitude in 4 ft, time in 1/8 s past the hour,
-- whether TCAS works, the figure of accuracy, whether navigation is redundant.
pub record BasicData : Type 0 where
  pub lat : ℤ
  pub lon : ℤ
  pub alt : ℤ
  pub sec : ℕ
  pub tcas : ℕ
  pub accuracy : ℕ
  pub redundancy : ℕ

-- The fields of the basic data, ten octets: latitude, longitude, altitude, time, two bits of padding, TCAS, accuracy, redundancy.
abbrev pub basic_fields : List Field
basic_fields = signed 21 ∷ signed 21 ∷ signed 16 ∷ number 15 ∷ padding 2 ∷ number 1 ∷ number 3 ∷ number 1 ∷ []

-- The values of these fields.
abbrev pub basic_values : BasicData → List ℤ
basic_values basic = basic.lat ∷ basic.lon ∷ basic.alt ∷ pos basic.sec ∷ pos basic.tcas ∷ pos basic.accuracy ∷ pos basic.redundancy ∷ []

-- The canonical encoding of the basic data: padding is zeros.
unfoldable pub basic_bits : BasicData → List Bool
basic_bits basic = fields_bits basic_fields (basic_values basic)
