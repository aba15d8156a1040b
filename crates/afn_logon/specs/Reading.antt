-- Reading the two texts from left to right, as functions on the characters that are left. They serve the exact clauses of the
-- readers' private functions; which texts are of a form, and where another one first differs, stand in Forms and Mismatch.
-- A reading answers a value and what is left behind it, or how many characters are left from the first mismatch on.
use Rattle.std.specs.Prelude.{◌≡◌, ℕ, zero, suc, ◌+◌, ◌-◌, ◌*◌, nat_lt, nat_le, ◌==◌, ◌&&◌, if◌then◌else◌, Bool, true, false, List, [], ◌∷◌, length, take, drop, codes, Option, Some, None, Result, Ok, Err}
use Rattle.std.specs.List.{prefix_len}
use Rattle.bit_terms.specs.Reading.{◌>>=◌}
use Rattle.acars_envelope.specs.Names.{is_digit, is_letter, is_name_character, is_mark_character, with_dots}
use Rattle.afn_logon.specs.declared.characters.Class.{Class}
use Rattle.afn_logon.specs.declared.characters.Class.TheVariants.{Dot, Name, Mark, Letter}
use Rattle.afn_logon.specs.declared.unread.Mismatch.{Mismatch}
use Rattle.afn_logon.specs.declared.numbers.Digit.{Digit}
use Rattle.afn_logon.specs.declared.numbers.TheConstants.{AIRFRAME, CLOCK, LATITUDE, LONGITUDE, TWO_DIGITS, ONE_DIGIT}
use Rattle.afn_logon.specs.declared.kind.Kind.{Kind}
use Rattle.afn_logon.specs.declared.kind.Kind.TheVariants.{Offered, Answered}
use Rattle.afn_logon.specs.Contents.{PositionData, ApplicationData, ContactData, AnswerData}

-- A call did what the reading says, its value seen by `view`, and left this.
abbrev pub Gives : {X Y : Type 0} → (X → Y) → Result X Mismatch → List ℕ → Result (Y × List ℕ) ℕ → Type 0
Gives view (Ok x) left reading = reading ≡ Ok (view x, left)
Gives view (Err mismatch) left reading = reading ≡ Err mismatch.left

-- A call that reads to the end did what the reading says, its value seen by `view`.
abbrev pub GivesWhole : {X Y : Type 0} → (X → Y) → Result X Mismatch → Result Y ℕ → Type 0
GivesWhole view (Ok x) reading = reading ≡ Ok (view x)
GivesWhole view (Err mismatch) reading = reading ≡ Err mismatch.left

-- One reading behind another: the pair of their values.
infixr 4 ◌followed_by◌
abbrev pub ◌followed_by◌ : {A B : Type 0} → (List ℕ → Result (A × List ℕ) ℕ) → (List ℕ → Result (B × List ℕ) ℕ)
    → List ℕ → Result ((A × B) × List ℕ) ℕ
(first followed_by second) text = do
  a ← first text
  b ← second a.1
  Ok ((a.0, b.0), b.1)

-- A reading and behind it one to the end: the pair of their values.
infixr 4 ◌ended_by◌
abbrev pub ◌ended_by◌ : {A B : Type 0} → (List ℕ → Result (A × List ℕ) ℕ) → (List ℕ → Result B ℕ) → List ℕ → Result (A × B) ℕ
(first ended_by last) text = do
  a ← first text
  b ← last a.1
  Ok (a.0, b)

-- A reading whose value is told in another way.
abbrev pub told_as : {A B : Type 0} → (A → B) → (List ℕ → Result (A × List ℕ) ℕ) → List ℕ → Result (B × List ℕ) ℕ
told_as tell reading text = do
  a ← reading text
  Ok (tell a.0, a.1)

-- The same of a reading to the end.
abbrev pub whole_as : {A B : Type 0} → (A → B) → (List ℕ → Result A ℕ) → List ℕ → Result B ℕ
whole_as tell reading text = do
  a ← reading text
  Ok (tell a)

-- Passing these characters.
unfoldable pub passing : List ℕ → List ℕ → Result (Unit × List ℕ) ℕ
passing [] text = Ok (tt, text)
passing (c ∷ others) [] = Err 0
passing (c ∷ others) (d ∷ text) = if c == d then passing others text else Err (suc (length text))

-- These characters, and a reading behind them.
infixr 6 ◌before◌
abbrev pub ◌before◌ : {A : Type 0} → List ℕ → (List ℕ → Result (A × List ℕ) ℕ) → List ℕ → Result (A × List ℕ) ℕ
these before reading = told_as (λ both. both.1) (passing these followed_by reading)

-- A reading, and these characters behind it.
infixl 5 ◌closed_by◌
abbrev pub ◌closed_by◌ : {A : Type 0} → (List ℕ → Result (A × List ℕ) ℕ) → List ℕ → List ℕ → Result (A × List ℕ) ℕ
reading closed_by these = told_as (λ both. both.0) (reading followed_by passing these)

-- The characters of a class.
abbrev pub is_in : Class → ℕ → Bool
is_in Dot = λ c. c == 46
is_in Name = is_name_character
is_in Mark = is_mark_character
is_in Letter = is_letter

-- How many of the first characters, up to this number, are of the class before one that isn't.
abbrev pub leading : ℕ → Class → List ℕ → ℕ
leading most class text = prefix_len (is_in class) (take most text)

-- This number of characters of the class.
unfoldable pub several : ℕ → Class → List ℕ → Result (List ℕ × List ℕ) ℕ
several count class text =
    if nat_lt (leading count class text) count then Err (length text - leading count class text)
    else Ok (take count text, drop count text)

-- A name of this many characters, and the comma behind it; none where it has no character.
abbrev pub name_reading : ℕ → List ℕ → Result (List ℕ × List ℕ) ℕ
name_reading zero text = Err (length text)
name_reading (suc count) text = do
  comma ← passing (codes ",") (drop (suc count) text)
  Ok (take (suc count) text, comma.1)

-- A flight identifier, and the comma behind it.
unfoldable pub flight_reading : List ℕ → Result (List ℕ × List ℕ) ℕ
flight_reading text = name_reading (leading 8 Name text) text

-- A registration: up to six dots, and the mark that fills it up.
unfoldable pub registration_reading : List ℕ → Result (List ℕ × List ℕ) ℕ
registration_reading text =
    told_as with_dots (several (7 - leading 6 Dot text) Mark) (drop (leading 6 Dot text) text)

-- One of two characters: false for the first, true for the second.
unfoldable pub choice : ℕ → ℕ → List ℕ → Result (Bool × List ℕ) ℕ
choice first second [] = Err 0
choice first second (c ∷ text) =
    if c == first then Ok (false, text)
    else if c == second then Ok (true, text)
    else Err (suc (length text))

-- The value of a digit, 0 to 9 and A to F.
abbrev pub value_of : ℕ → Option ℕ
value_of c =
    if is_digit c then Some (c - 48)
    else if nat_le 65 c && nat_le c 70 then Some (c - 55)
    else None

-- A digit of this value, where the digits before it count this much: it goes on where it isn't above the greatest of its place
-- and the number isn't above its limit.
abbrev pub counted : Digit → ℕ → ℕ → Option ℕ → List ℕ → Result (ℕ × List ℕ) ℕ
counted digit limit so_far None text = Err (suc (length text))
counted digit limit so_far (Some value) text =
    if nat_le value digit.greatest && nat_le (so_far + value * digit.weight) limit then Ok (so_far + value * digit.weight, text)
    else Err (suc (length text))

-- The next digit of a number.
unfoldable pub digit_reading : Digit → ℕ → ℕ → List ℕ → Result (ℕ × List ℕ) ℕ
digit_reading digit limit so_far [] = Err 0
digit_reading digit limit so_far (c ∷ text) = counted digit limit so_far (value_of c) text

-- The digits of a number that are left, where those before them count this much.
unfoldable pub digits_reading : List Digit → ℕ → ℕ → List ℕ → Result (ℕ × List ℕ) ℕ
digits_reading [] limit so_far text = Ok (so_far, text)
digits_reading (digit ∷ digits) limit so_far text = do
  number ← digit_reading digit limit so_far text
  digits_reading digits limit number.0 number.1

-- Whether the character stands first.
abbrev pub begins_with : ℕ → List ℕ → Bool
begins_with c [] = false
begins_with c (d ∷ text) = d == c

-- An airframe's address or nothing, and the comma behind it.
unfoldable pub airframe_reading : List ℕ → Result (Option ℕ × List ℕ) ℕ
airframe_reading text =
    if begins_with 44 text then told_as (λ comma. None) (passing (codes ",")) text
    else told_as Some (digits_reading AIRFRAME 16777215 0 closed_by codes ",") text

-- A position.
unfoldable pub position_reading : List ℕ → Result (PositionData × List ℕ) ℕ
position_reading =
    told_as (λ p. record { south = p.0; lat = p.1.0; west = p.1.1.0; lon = p.1.1.1 })
    (choice 78 83 followed_by digits_reading LATITUDE 54000 0 followed_by choice 69 87 followed_by digits_reading LONGITUDE 108000 0)

-- An application of a contact or of an answer: its letters, its name and its number.
abbrev pub application_parts : Kind → List ℕ → Result ((List ℕ × ℕ) × List ℕ) ℕ
application_parts Offered = codes "/FCO" before several 3 Letter closed_by codes "," followed_by digits_reading TWO_DIGITS 99 0
application_parts Answered = codes "/FAR" before several 3 Letter closed_by codes "," followed_by digits_reading ONE_DIGIT 9 0

unfoldable pub application_reading : Kind → List ℕ → Result (ApplicationData × List ℕ) ℕ
application_reading kind = told_as (λ a. record { name = a.0; number = a.1 }) (application_parts kind)

-- Up to this number of applications more, to the end.
unfoldable pub others_reading : Kind → ℕ → List ℕ → Result (List ApplicationData) ℕ
others_reading kind most [] = Ok []
others_reading kind zero (c ∷ text) = Err (suc (length text))
others_reading kind (suc most) (c ∷ text) = do
  a ← application_reading kind (c ∷ text)
  others ← others_reading kind most a.1
  Ok (a.0 ∷ others)

-- One to four applications, to the end.
unfoldable pub applications_reading : Kind → List ℕ → Result (List ApplicationData) ℕ
applications_reading kind = whole_as (λ a. a.0 ∷ a.1) (application_reading kind ended_by others_reading kind 3)

-- A contact text, to the end.
unfoldable pub contact_reading : List ℕ → Result ContactData ℕ
contact_reading =
    whole_as (λ c. record {
      flight = c.0;
      registration = c.1.0;
      airframe = c.1.1.0;
      clock = c.1.1.1.0;
      position = c.1.1.1.1.0;
      active = c.1.1.1.1.1.0;
      applications = c.1.1.1.1.1.1;
    })
    (codes "/FMH" before flight_reading ended_by registration_reading closed_by codes "," ended_by airframe_reading
    ended_by digits_reading CLOCK 86399 0 ended_by codes "/FPO" before position_reading ended_by codes "," before choice 48 49
    ended_by applications_reading Offered)

-- An answer text, to the end.
unfoldable pub answer_reading : List ℕ → Result AnswerData ℕ
answer_reading =
    whole_as (λ a. record { flight = a.0; registration = a.1.0; code = a.1.1.0; applications = a.1.1.1 })
    (codes "/FMH" before flight_reading ended_by registration_reading closed_by codes "/FAK" ended_by digits_reading ONE_DIGIT 9 0
    ended_by applications_reading Answered)
