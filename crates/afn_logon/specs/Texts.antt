-- The two texts of the facilities notification, field by field (this project's profile).
use Rattle.std.specs.Prelude.{ℕ, ◌+◌, ◌/◌, ◌%◌, Bool, true, false, List, [], ◌∷◌, ◌++◌, codes, flat_map, Option, Some, None}
use Rattle.acars_envelope.specs.Texts.{six_digits}
use Rattle.afn_logon.specs.Contents.{PositionData, ApplicationData, ContactData, AnswerData}

-- A number below 10 as a decimal digit.
abbrev pub one_digit : ℕ → List ℕ
one_digit n = (48 + n) ∷ []

-- A number below 100 as two decimal digits.
abbrev pub two_digits : ℕ → List ℕ
two_digits n = one_digit (n / 10) ++ one_digit (n % 10)

-- A number below 1,000 as three decimal digits.
abbrev pub three_digits : ℕ → List ℕ
three_digits n = one_digit (n / 100) ++ two_digits (n % 100)

-- An airframe's address as six hexadecimal digits, and nothing where there is none.
abbrev pub airframe_text : Option ℕ → List ℕ
airframe_text None = []
airframe_text (Some address) = six_digits address

-- A time of day in seconds: hours, minutes and seconds.
abbrev pub clock_text : ℕ → List ℕ
clock_text seconds = two_digits (seconds / 3600) ++ two_digits (seconds / 60 % 60) ++ two_digits (seconds % 60)

-- The minutes beyond the whole degrees of an angle in tenths of a minute, and the tenth.
abbrev pub minutes_text : ℕ → List ℕ
minutes_text tenths = two_digits (tenths / 10 % 60) ++ one_digit (tenths % 10)

-- One of two characters: the first where the test fails, the second where it holds.
abbrev pub either_text : ℕ → ℕ → Bool → List ℕ
either_text first second false = first ∷ []
either_text first second true = second ∷ []

-- A latitude: N or S, two digits of degrees, and the minutes.
abbrev pub latitude_text : Bool → ℕ → List ℕ
latitude_text south lat = either_text 78 83 south ++ two_digits (lat / 600) ++ minutes_text lat

-- A longitude: E or W, three digits of degrees, and the minutes.
abbrev pub longitude_text : Bool → ℕ → List ℕ
longitude_text west lon = either_text 69 87 west ++ three_digits (lon / 600) ++ minutes_text lon

-- A position: its latitude and its longitude.
abbrev pub position_text : PositionData → List ℕ
position_text p = latitude_text p.south p.lat ++ longitude_text p.west p.lon

-- An application of a contact: its name, and its number in two digits.
abbrev pub offered_text : ApplicationData → List ℕ
offered_text a = codes "/FCO" ++ a.name ++ codes "," ++ two_digits a.number

-- An application of an answer: its name, and its number in one digit.
abbrev pub answered_text : ApplicationData → List ℕ
answered_text a = codes "/FAR" ++ a.name ++ codes "," ++ one_digit a.number

-- The contact text, FN_CON: flight, registration, airframe, time, position, 1 or 0 for active or not, and the applications.
unfoldable pub contact_text : ContactData → List ℕ
contact_text c =
    codes "/FMH" ++ c.flight ++ codes "," ++ c.registration ++ codes "," ++ airframe_text c.airframe ++ codes "," ++ clock_text c.clock
    ++ codes "/FPO" ++ position_text c.position ++ codes "," ++ either_text 48 49 c.active
    ++ flat_map offered_text c.applications

-- The answer text, FN_AK: flight, registration, code, and the applications.
unfoldable pub answer_text : AnswerData → List ℕ
answer_text a =
    codes "/FMH" ++ a.flight ++ codes "," ++ a.registration ++ codes "/FAK" ++ one_digit a.code
    ++ flat_map answered_text a.applications
