-- What the two texts of the facilities notification (AFN) of FANS 1/A say, and in which ranges: the contact that an aircraft
-- sends and the answer of a centre (RTCA DO-258A / EUROCAE ED-100A; the fields and their ranges are this project's profile).
use Rattle.std.specs.Prelude.{◌≡◌, ℕ, ◌^◌, ◌<◌, ◌≤◌, Bool, List, length, map, All, Option}
use Rattle.std.specs.List.{AllPass}
use Rattle.std.specs.Option.{ForSome}
use Rattle.acars_envelope.specs.Names.{IsFlight, IsRegistration, is_letter}
use Rattle.afn_logon.specs.declared.position.Position.{Position}
use Rattle.afn_logon.specs.declared.application.Application.{Application}
use Rattle.afn_logon.specs.declared.contact.Contact.{Contact}
use Rattle.afn_logon.specs.declared.answer.Answer.{Answer}

-- A position: latitude and longitude in tenths of a minute, and whether they count to the south and to the west.
pub record PositionData : Type 0 where
  pub south : Bool
  pub lat : ℕ
  pub west : Bool
  pub lon : ℕ

-- An application: the three letters of its name, and its number.
pub record ApplicationData : Type 0 where
  pub name : List ℕ
  pub number : ℕ

-- A contact: who sends it, the airframe's address where it is told, the time of day in seconds, where the aircraft is, whether
-- its contracts are active, and its applications.
pub record ContactData : Type 0 where
  pub flight : List ℕ
  pub registration : List ℕ
  pub airframe : Option ℕ
  pub clock : ℕ
  pub position : PositionData
  pub active : Bool
  pub applications : List ApplicationData

-- An answer: whom it is for, its code, and the applications that it speaks of.
pub record AnswerData : Type 0 where
  pub flight : List ℕ
  pub registration : List ℕ
  pub code : ℕ
  pub applications : List ApplicationData

-- What the types of the code say, without the proofs that they carry.

-- What a position says.
abbrev pub position_data : Position → PositionData
position_data p = record { south = p.south; lat = p.lat; west = p.west; lon = p.lon }

-- What an application says.
abbrev pub application_data : Application → ApplicationData
application_data a = record { name = a.name; number = a.number }

-- What a contact says.
abbrev pub contact_data : Contact → ContactData
contact_data c = record {
  flight = c.flight;
  registration = c.registration;
  airframe = c.airframe;
  clock = c.clock;
  position = position_data c.position;
  active = c.active;
  applications = map application_data c.applications.items;
}

-- What an answer says.
abbrev pub answer_data : Answer → AnswerData
answer_data a = record {
  flight = a.flight;
  registration = a.registration;
  code = a.code;
  applications = map application_data a.applications.items;
}

-- The ranges.

-- The latitude is at most 90 degrees, and the longitude at most 180.
pub record IsPosition (p : PositionData) : Type 0 where
  pub lat : p.lat ≤ 54000
  pub lon : p.lon ≤ 108000

-- An application has a name of three letters, and a number up to the greatest of its text.
pub record IsApplication (greatest : ℕ) (a : ApplicationData) : Type 0 where
  pub three : length a.name ≡ 3
  pub letters : AllPass is_letter a.name
  pub number : a.number ≤ greatest

-- There are one to four applications.
pub record AreApplications (greatest : ℕ) (applications : List ApplicationData) : Type 0 where
  pub some : 1 ≤ length applications
  pub few : length applications ≤ 4
  pub each : All (IsApplication greatest) applications

-- A contact has a flight identifier and a registration, an airframe's address of 24 bits where it has one, a time within the
-- day, a position, and applications with numbers of two digits.
pub record IsContact (c : ContactData) : Type 0 where
  pub flight : IsFlight c.flight
  pub registration : IsRegistration c.registration
  pub airframe : ForSome c.airframe (λ address. address < 2 ^ 24)
  pub clock : c.clock < 86400
  pub position : IsPosition c.position
  pub applications : AreApplications 99 c.applications

-- An answer has a flight identifier and a registration, a code of one digit, and applications with numbers of one digit.
pub record IsAnswer (a : AnswerData) : Type 0 where
  pub flight : IsFlight a.flight
  pub registration : IsRegistration a.registration
  pub code : a.code ≤ 9
  pub applications : AreApplications 9 a.applications
