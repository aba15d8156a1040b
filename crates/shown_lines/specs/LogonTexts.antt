-- How an AFN text is shown: a line for the contact or the answer, and behind it a line for each application. The words are this
-- project's profile; the fields are those of the text itself (RTCA DO-258A / EUROCAE ED-100A).
use Rattle.std.specs.Prelude.{ℕ, Bool, Option, List, ◌++◌, codes, flat_map}
use Rattle.adsc_io.specs.Lines.{ended}
use Rattle.afn_logon.specs.Contents.{AnswerData, ApplicationData, ContactData, PositionData}
use Rattle.afn_logon.specs.Texts.{airframe_text, clock_text, either_text, one_digit, position_text, two_digits}

-- An application of a contact, with its number in two digits.
unfoldable pub offered_line : ApplicationData → List ℕ
offered_line a = ended (codes "application," ++ a.name ++ codes "," ++ two_digits a.number)

-- An application of an answer, with its number in one digit.
unfoldable pub answered_line : ApplicationData → List ℕ
answered_line a = ended (codes "application," ++ a.name ++ codes "," ++ one_digit a.number)

-- The flight and the registration, each behind a comma.
abbrev pub name_fields : List ℕ → List ℕ → List ℕ
name_fields flight registration = codes "," ++ flight ++ codes "," ++ registration

-- The airframe, which is empty where it is not told, and the time of day, each behind a comma.
unfoldable pub time_fields : Option ℕ → ℕ → List ℕ
time_fields airframe clock = codes "," ++ airframe_text airframe ++ codes "," ++ clock_text clock

-- The position, and 1 or 0 for active or not, each behind a comma.
unfoldable pub place_fields : PositionData → Bool → List ℕ
place_fields position active = codes "," ++ position_text position ++ codes "," ++ either_text 48 49 active

-- The line of a contact: flight, registration, airframe, time, position, active or not.
unfoldable pub contact_line : ContactData → List ℕ
contact_line c =
    ended (codes "contact" ++ name_fields c.flight c.registration ++ time_fields c.airframe c.clock ++ place_fields c.position c.active)

-- The line of an answer: flight, registration and code.
unfoldable pub answer_line : AnswerData → List ℕ
answer_line a = ended (codes "answer" ++ name_fields a.flight a.registration ++ codes "," ++ one_digit a.code)

-- The lines of a contact.
abbrev pub contact_lines : ContactData → List ℕ
contact_lines c = contact_line c ++ flat_map offered_line c.applications

-- The lines of an answer.
abbrev pub answer_lines : AnswerData → List ℕ
answer_lines a = answer_line a ++ flat_map answered_line a.applications
