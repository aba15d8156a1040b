-- The contact that an aircraft sends, and the answer that a centre gives (this project's profile).
use Rattle.std.specs.Prelude.{ℕ, ◌*◌, ◌/◌, ◌%◌, ℤ, pos, negsuc, unsigned_abs, Bool, true, false, List, [], ◌∷◌, codes, map, Some}
use Rattle.afn_logon.specs.Contents.{PositionData, ApplicationData, ContactData, AnswerData}

-- Whether a signed number is below 0.
abbrev pub is_below_0 : ℤ → Bool
is_below_0 (pos n) = false
is_below_0 (negsuc n) = true

-- An angle in 180/2^20 degree as whole tenths of a minute, its sign left aside and rounded down.
abbrev pub tenths_of_angle : ℤ → ℕ
tenths_of_angle angle = unsigned_abs angle * 108000 / 1048576

-- The position with this latitude and this longitude in 180/2^20 degree: south and west are below 0.
abbrev pub position_at : ℤ → ℤ → PositionData
position_at lat lon = record {
  south = is_below_0 lat;
  lat = tenths_of_angle lat;
  west = is_below_0 lon;
  lon = tenths_of_angle lon;
}

-- The contact of an aircraft at this time in seconds and at this position: it tells its airframe's address and the time of day,
-- and offers the one application ADS with number 1.
abbrev pub aircraft_contact : List ℕ → List ℕ → ℕ → ℕ → PositionData → Bool → ContactData
aircraft_contact flight registration airframe time position active = record {
  flight = flight;
  registration = registration;
  airframe = Some airframe;
  clock = time % 86400;
  position = position;
  active = active;
  applications = record { name = codes "ADS"; number = 1 } ∷ [];
}

-- The application with number 0, as an answer accepts it.
abbrev pub accepted_application : ApplicationData → ApplicationData
accepted_application a = record { name = a.name; number = 0 }

-- The answer that accepts a contact: its flight and registration, code 0, and each of its applications with 0.
abbrev pub answer_to : ContactData → AnswerData
answer_to c = record {
  flight = c.flight;
  registration = c.registration;
  code = 0;
  applications = map accepted_application c.applications;
}
