-- Contacts and answers that say the same are equal, and what they say is in the ranges.
use Rattle.std.proofs.Common.{◌≡◌, ℕ, ◌^◌, ◌≤◌, ◌<◌, Bool, true, List, [], ◌∷◌, ◌++◌, length, map, Option, IsTrue, refl, ap, subst, arith}
use Rattle.std.specs.Prelude.{nat_le, All}
use Rattle.std.specs.Option.{ForSome}
use Rattle.std.specs.List.{list_all}
use Rattle.std.proofs.Props.{props}
use Rattle.std.proofs.lemmas.Bool.{and_from, and_parts, le-leb, leb-true}
use Rattle.std.proofs.lemmas.List.{length-map}
use Rattle.std.proofs.lemmas.List.Elements.{All-cons, All-nil}
use Rattle.std.proofs.lemmas.List.Sums.{AllPass-from_list_all}
use Rattle.arrayvec.specs.ArrayVec.{ArrayVec}
use Rattle.acars_envelope.specs.Names.{IsFlight, IsRegistration, is_letter}
use Rattle.afn_logon.specs.Applications.{are_up_to}
use Rattle.afn_logon.specs.Contents.{PositionData, ApplicationData, ContactData, AnswerData, IsApplication, AreApplications, IsContact, IsAnswer, position_data, application_data, contact_data, answer_data}
use Rattle.afn_logon.specs.declared.position.Position.{Position}
use Rattle.afn_logon.specs.declared.application.Application.{Application}
use Rattle.afn_logon.specs.declared.contact.Contact.{Contact}
use Rattle.afn_logon.specs.declared.answer.Answer.{Answer}

make_position : (south : Bool) (lat : ℕ) (west : Bool) (lon : ℕ) → lat ≤ 54000 → lon ≤ 108000 → Position
make_position south lat west lon lat_in_range lon_in_range =
    record { south = south; lat = lat; west = west; lon = lon; lat_in_range = lat_in_range; lon_in_range = lon_in_range }

pub same_position : (a b : Position) → position_data a ≡ position_data b → a ≡ b
unfolding make_position
same_position a b same =
    subst (λ (x : PositionData). (p : x.lat ≤ 54000) (q : x.lon ≤ 108000) → a ≡ make_position x.south x.lat x.west x.lon p q) same
    (λ p q i. make_position a.south a.lat a.west a.lon (lat_prop a.lat_in_range p i) (lon_prop a.lon_in_range q i))
    b.lat_in_range b.lon_in_range
  where
    lat_prop : IsProp (a.lat ≤ 54000)
    lat_prop = hlevel props

    lon_prop : IsProp (a.lon ≤ 108000)
    lon_prop = hlevel props

make_application : (name : List ℕ) (number : ℕ) → length name ≡ 3 → IsTrue (list_all is_letter name) → Application
make_application name number three letters = record { name = name; number = number; three = three; letters = letters }

pub same_application : (a b : Application) → application_data a ≡ application_data b → a ≡ b
unfolding make_application
same_application a b same =
    subst (λ (x : ApplicationData). (p : length x.name ≡ 3) (q : IsTrue (list_all is_letter x.name)) → a ≡ make_application x.name x.number p q) same
    (λ p q i. make_application a.name a.number (three_prop a.three p i) (letters_prop a.letters q i))
    b.three b.letters
  where
    three_prop : IsProp (length a.name ≡ 3)
    three_prop = hlevel props

    letters_prop : IsProp (IsTrue (list_all is_letter a.name))
    letters_prop = hlevel props

pub same_applications : (a b : List Application) → map application_data a ≡ map application_data b → a ≡ b
same_applications [] [] same = refl
same_applications [] (y ∷ ys) same = absurd (cc)
same_applications (x ∷ xs) [] same = absurd (cc)
same_applications (x ∷ xs) (y ∷ ys) same =
    let first : application_data x ≡ application_data y = cc in
    let others : map application_data xs ≡ map application_data ys = cc in
    let one : x ≡ y = same_application x y first in
    let all : xs ≡ ys = same_applications xs ys others in
    cc

make_contact : (flight registration : List ℕ) (airframe : Option ℕ) (clock : ℕ) (position : Position) (active : Bool) (applications : ArrayVec Application)
    → ForSome airframe (λ address. address < 2 ^ 24) → clock < 86400 → 1 ≤ length applications.items → length applications.items ≤ 4
    → IsTrue (are_up_to 99 applications.items) → Contact
make_contact flight registration airframe clock position active applications airframe_fits within_the_day some few numbers = record {
  flight = flight;
  registration = registration;
  airframe = airframe;
  clock = clock;
  position = position;
  active = active;
  applications = applications;
  airframe_fits = airframe_fits;
  within_the_day = within_the_day;
  some = some;
  few = few;
  numbers = numbers;
}

pub same_contact : (a b : Contact) → contact_data a ≡ contact_data b → a ≡ b
unfolding make_contact
same_contact a b same =
    let positions : a.position ≡ b.position = same_position a.position b.position (ap (λ (c : ContactData). c.position) same) in
    let lists : a.applications.items ≡ b.applications.items =
    same_applications a.applications.items b.applications.items (ap (λ (c : ContactData). c.applications) same) in
    subst (λ (x : ContactData × Position × List Application).
    (p : ForSome x.0.airframe (λ address. address < 2 ^ 24)) (q : x.0.clock < 86400) (r : 1 ≤ length x.2) (s : length x.2 ≤ 4) (t : IsTrue (are_up_to 99 x.2))
    → a ≡ make_contact x.0.flight x.0.registration x.0.airframe x.0.clock x.1 x.0.active (record { items = x.2 }) p q r s t)
    (λ i. (same i, positions i, lists i))
    (λ p q r s t i. make_contact a.flight a.registration a.airframe a.clock a.position a.active a.applications
    (airframe_prop a.airframe_fits p i) (clock_prop a.within_the_day q i) (some_prop a.some r i) (few_prop a.few s i) (numbers_prop a.numbers t i))
    b.airframe_fits b.within_the_day b.some b.few b.numbers
  where
    airframe_prop : IsProp (ForSome a.airframe (λ address. address < 2 ^ 24))
    airframe_prop = hlevel props

    clock_prop : IsProp (a.clock < 86400)
    clock_prop = hlevel props

    some_prop : IsProp (1 ≤ length a.applications.items)
    some_prop = hlevel props

    few_prop : IsProp (length a.applications.items ≤ 4)
    few_prop = hlevel props

    numbers_prop : IsProp (IsTrue (are_up_to 99 a.applications.items))
    numbers_prop = hlevel props

make_answer : (flight registration : List ℕ) (code : ℕ) (applications : ArrayVec Application)
    → code ≤ 9 → 1 ≤ length applications.items → length applications.items ≤ 4 → IsTrue (are_up_to 9 applications.items) → Answer
make_answer flight registration code applications one_digit some few numbers = record {
  flight = flight;
  registration = registration;
  code = code;
  applications = applications;
  one_digit = one_digit;
  some = some;
  few = few;
  numbers = numbers;
}

pub same_answer : (a b : Answer) → answer_data a ≡ answer_data b → a ≡ b
unfolding make_answer
same_answer a b same =
    let lists : a.applications.items ≡ b.applications.items =
    same_applications a.applications.items b.applications.items (ap (λ (d : AnswerData). d.applications) same) in
    subst (λ (x : AnswerData × List Application).
    (p : x.0.code ≤ 9) (q : 1 ≤ length x.1) (r : length x.1 ≤ 4) (s : IsTrue (are_up_to 9 x.1))
    → a ≡ make_answer x.0.flight x.0.registration x.0.code (record { items = x.1 }) p q r s)
    (λ i. (same i, lists i))
    (λ p q r s i. make_answer a.flight a.registration a.code a.applications
    (code_prop a.one_digit p i) (some_prop a.some q i) (few_prop a.few r i) (numbers_prop a.numbers s i))
    b.one_digit b.some b.few b.numbers
  where
    code_prop : IsProp (a.code ≤ 9)
    code_prop = hlevel props

    some_prop : IsProp (1 ≤ length a.applications.items)
    some_prop = hlevel props

    few_prop : IsProp (length a.applications.items ≤ 4)
    few_prop = hlevel props

    numbers_prop : IsProp (IsTrue (are_up_to 9 a.applications.items))
    numbers_prop = hlevel props

-- ---- what the types hold

-- the applications of a value are in the range of its text
are_applications : (greatest : ℕ) (list : List Application) → 1 ≤ length list → length list ≤ 4 → IsTrue (are_up_to greatest list)
    → AreApplications greatest (map application_data list)
are_applications greatest list some few numbers = record {
  some = omega (arith, length-map list application_data);
  few = omega (arith, length-map list application_data);
  each = each_is list numbers;
}
  where
    each_is : (xs : List Application) → IsTrue (are_up_to greatest xs) → All (IsApplication greatest) (map application_data xs)
    each_is [] numbers = All-nil (IsApplication greatest)
    each_is (x ∷ xs) numbers =
        let parts = and_parts (nat_le x.number greatest) (are_up_to greatest xs) numbers in
        All-cons (IsApplication greatest) (application_data x) (map application_data xs)
        (record { three = x.three; letters = AllPass-from_list_all is_letter x.name x.letters; number = leb-true x.number greatest parts.0 })
        (each_is xs parts.1)

-- one more application with such a number
pub one_more : (greatest : ℕ) (list more : List Application) (a : Application) → more ≡ list ++ a ∷ [] → IsTrue (are_up_to greatest list)
    → a.number ≤ greatest → IsTrue (are_up_to greatest more)
one_more greatest list more a is numbers number = rw is (behind list numbers)
  where
    behind : (xs : List Application) → IsTrue (are_up_to greatest xs) → IsTrue (are_up_to greatest (xs ++ a ∷ []))
    behind [] numbers = and_from (nat_le a.number greatest) true (le-leb a.number greatest number) refl
    behind (x ∷ xs) numbers =
        let parts = and_parts (nat_le x.number greatest) (are_up_to greatest xs) numbers in
        and_from (nat_le x.number greatest) (are_up_to greatest (xs ++ a ∷ [])) parts.0 (behind xs parts.1)

-- What a contact says is in the ranges.
pub contact_is : (c : Contact) → IsFlight c.flight → IsRegistration c.registration → IsContact (contact_data c)
contact_is c flight registration = record {
  flight = flight;
  registration = registration;
  airframe = c.airframe_fits;
  clock = c.within_the_day;
  position = record { lat = c.position.lat_in_range; lon = c.position.lon_in_range };
  applications = are_applications 99 c.applications.items c.some c.few c.numbers;
}

-- What an answer says is in the ranges.
pub answer_is : (a : Answer) → IsFlight a.flight → IsRegistration a.registration → IsAnswer (answer_data a)
answer_is a flight registration = record {
  flight = flight;
  registration = registration;
  code = a.one_digit;
  applications = are_applications 9 a.applications.items a.some a.few a.numbers;
}
