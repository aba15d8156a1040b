-- The numbers, the airframe's address, the position and the applications of a text are read as they are written.
use Rattle.std.proofs.Common.{◌≡◌, ℕ, ◌+◌, ◌*◌, ◌/◌, ◌%◌, ◌^◌, ◌≤◌, ◌<◌, ◌==◌, Bool, true, false, List, [], ◌∷◌, ◌++◌, codes, Option, Some, None, Ok, Err, ◌⊎◌, inl, inr, refl, sym, ap, ◌∙◌, arith, append_assoc}
use Rattle.std.specs.Prelude.{nat_lt, ◌&&◌, slice_index}
use Rattle.std.specs.Option.{ForSome}
use Rattle.std.proofs.Math.Nat.{div-add-mod, mul-add-mod_self_right, mul_assoc, mul_comm}
use Rattle.std.proofs.lemmas.Bool.{agree_below_at, and_parts, cases_Bool, eqb-true, ltb-true}
use Rattle.std.proofs.lemmas.Bool.Decides.{nat_tests}
use Rattle.hex.specs.Hex.{encode_with, upper_digits}
use Rattle.bit_terms.proofs.ReadingLaws.{ok_is_no_err}
use Rattle.acars_envelope.specs.Texts.{six_digits}
use Rattle.afn_logon.specs.Contents.{IsPosition, IsApplication}
use Rattle.afn_logon.specs.Texts.{airframe_text, clock_text, minutes_text, one_digit, position_text, three_digits, two_digits}
use Rattle.afn_logon.specs.Kinds.{application_text, greatest_number}
use Rattle.afn_logon.specs.Reading.{told_as, passing, ◌closed_by◌, begins_with, digit_reading, digits_reading, airframe_reading, position_reading, application_reading}
use Rattle.afn_logon.specs.declared.numbers.Digit.{Digit}
use Rattle.afn_logon.specs.declared.numbers.TheConstants.{AIRFRAME, CLOCK, LATITUDE, LONGITUDE, TWO_DIGITS, ONE_DIGIT}
use Rattle.afn_logon.specs.declared.kind.Kind.{Kind}
use Rattle.afn_logon.specs.declared.kind.Kind.TheVariants.{Offered, Answered}
use Rattle.afn_logon.specs.declared.characters.Class.TheVariants.{Letter}
use Rattle.afn_logon.proofs.Readers.{Stops, IsReader, followed, told, preceded, closed, respelled}
use Rattle.afn_logon.proofs.PassingLaws.{passes, chooses}
use Rattle.afn_logon.proofs.RunLaws.{takes_several}
use Rattle.afn_logon.proofs.NumberLaws.{IsRadix, span, digit_character, digits_text, reads_number}

-- ---- the tables of digits

-- whether each digit counts as much as those behind it have values together
abbrev is_radix : List Digit → Bool
is_radix [] = true
is_radix (digit ∷ digits) = (digit.weight == span digits) && (nat_lt digit.greatest 16 && is_radix digits)

radix_of : (digits : List Digit) → is_radix digits ≡ true → IsRadix digits
radix_of [] test = tt
radix_of (digit ∷ digits) test =
    let first = and_parts (digit.weight == span digits) (nat_lt digit.greatest 16 && is_radix digits) test in
    let second = and_parts (nat_lt digit.greatest 16) (is_radix digits) first.1 in
    (eqb-true _ _ first.0, ltb-true _ _ second.0, radix_of digits second.1)

-- a decimal digit, and a hexadecimal one, as a character
decimal : (a b : ℕ) → a ≡ b → b < 10 → digit_character a ≡ 48 + b
decimal a b same below = rw same (grind (arith, nat_tests))

hexadecimal : (a b : ℕ) → a ≡ b → b < 16 → digit_character a ≡ slice_index upper_digits b
hexadecimal a b same below =
    rw same (eqb-true _ _ (agree_below_at (λ k. digit_character k == slice_index upper_digits k) (λ _. true) 16 b refl below))

-- what is left of what is left by a multiple
mod_down : (v k n : ℕ) → v % (k * n) % n ≡ v % n
mod_down v k n =
    let whole : v / (k * n) * k * n + v % (k * n) ≡ v =
    ap (λ (m : ℕ). m + v % (k * n)) (mul_assoc (v / (k * n)) k n ∙ mul_comm (v / (k * n)) (k * n)) ∙ div-add-mod v (k * n) in
    sym (mul-add-mod_self_right (v / (k * n) * k) n (v % (k * n))) ∙ ap (λ (m : ℕ). m % n) whole

clock_digits : (v : ℕ) → v < 86400 → digits_text CLOCK v ≡ clock_text v
clock_digits v below =
    let a = decimal (v / 36000) (v / 3600 / 10) (omega arith) (omega arith) in
    let b = decimal (v % 36000 / 3600) (v / 3600 % 10) (omega arith) (omega arith) in
    let c = decimal (v % 3600 / 600) (v / 60 % 60 / 10) (omega arith) (omega arith) in
    let d = decimal (v % 600 / 60) (v / 60 % 60 % 10) (omega arith) (omega arith) in
    let e = decimal (v % 60 / 10) (v % 60 / 10) refl (omega arith) in
    let f = decimal (v % 10 / 1) (v % 10) (omega arith) (omega arith) in
    rw (mod_down v 10 3600, mod_down v 6 600, mod_down v 10 60, mod_down v 6 10, a, b, c, d, e, f) refl

-- A time of day is read as it is written.
pub reads_clock : IsReader (λ v. v < 86400) clock_text (digits_reading CLOCK 86399 0)
reads_clock =
    respelled (λ v. v < 86400) clock_text (reads_number CLOCK 86399 (radix_of CLOCK refl))
    (λ v fits. omega (arith, fits.limited))
    (λ v below. record { spanned = omega arith; limited = omega arith })
    (λ v fits. clock_digits v (omega (arith, fits.limited)))

-- the degrees and minutes of a latitude, and of a longitude
abbrev pub latitude_digits : ℕ → List ℕ
latitude_digits v = two_digits (v / 600) ++ minutes_text v

abbrev pub longitude_digits : ℕ → List ℕ
longitude_digits v = three_digits (v / 600) ++ minutes_text v

same_latitude : (v : ℕ) → v ≤ 54000 → digits_text LATITUDE v ≡ latitude_digits v
same_latitude v most =
    let a = decimal (v / 6000) (v / 600 / 10) (omega arith) (omega arith) in
    let b = decimal (v % 6000 / 600) (v / 600 % 10) (omega arith) (omega arith) in
    let c = decimal (v % 600 / 100) (v / 10 % 60 / 10) (omega arith) (omega arith) in
    let d = decimal (v % 100 / 10) (v / 10 % 60 % 10) (omega arith) (omega arith) in
    let e = decimal (v % 10 / 1) (v % 10) (omega arith) (omega arith) in
    rw (mod_down v 10 600, mod_down v 6 100, mod_down v 10 10, a, b, c, d, e) refl

pub reads_latitude : IsReader (λ v. v ≤ 54000) latitude_digits (digits_reading LATITUDE 54000 0)
reads_latitude =
    respelled (λ v. v ≤ 54000) latitude_digits (reads_number LATITUDE 54000 (radix_of LATITUDE refl))
    (λ v fits. fits.limited)
    (λ v most. record { spanned = omega arith; limited = most })
    (λ v fits. same_latitude v fits.limited)

same_longitude : (v : ℕ) → v ≤ 108000 → digits_text LONGITUDE v ≡ longitude_digits v
same_longitude v most =
    let a = decimal (v / 60000) (v / 600 / 100) (omega arith) (omega arith) in
    let b = decimal (v % 60000 / 6000) (v / 600 % 100 / 10) (omega arith) (omega arith) in
    let c = decimal (v % 6000 / 600) (v / 600 % 100 % 10) (omega arith) (omega arith) in
    let d = decimal (v % 600 / 100) (v / 10 % 60 / 10) (omega arith) (omega arith) in
    let e = decimal (v % 100 / 10) (v / 10 % 60 % 10) (omega arith) (omega arith) in
    let f = decimal (v % 10 / 1) (v % 10) (omega arith) (omega arith) in
    rw (mod_down v 10 6000, mod_down v 10 600, mod_down v 6 100, mod_down v 10 10, a, b, c, d, e, f) refl

pub reads_longitude : IsReader (λ v. v ≤ 108000) longitude_digits (digits_reading LONGITUDE 108000 0)
reads_longitude =
    respelled (λ v. v ≤ 108000) longitude_digits (reads_number LONGITUDE 108000 (radix_of LONGITUDE refl))
    (λ v fits. fits.limited)
    (λ v most. record { spanned = omega arith; limited = most })
    (λ v fits. same_longitude v fits.limited)

same_two : (v : ℕ) → v ≤ 99 → digits_text TWO_DIGITS v ≡ two_digits v
same_two v most =
    let a = decimal (v / 10) (v / 10) refl (omega arith) in
    let b = decimal (v % 10 / 1) (v % 10) (omega arith) (omega arith) in
    rw (a, b) refl

pub reads_two : IsReader (λ v. v ≤ 99) two_digits (digits_reading TWO_DIGITS 99 0)
reads_two =
    respelled (λ v. v ≤ 99) two_digits (reads_number TWO_DIGITS 99 (radix_of TWO_DIGITS refl))
    (λ v fits. fits.limited)
    (λ v most. record { spanned = omega arith; limited = most })
    (λ v fits. same_two v fits.limited)

same_one : (v : ℕ) → v ≤ 9 → digits_text ONE_DIGIT v ≡ one_digit v
same_one v most = let a = decimal (v / 1) v (omega arith) (omega arith) in rw a refl

pub reads_one : IsReader (λ v. v ≤ 9) one_digit (digits_reading ONE_DIGIT 9 0)
reads_one =
    respelled (λ v. v ≤ 9) one_digit (reads_number ONE_DIGIT 9 (radix_of ONE_DIGIT refl))
    (λ v fits. fits.limited)
    (λ v most. record { spanned = omega arith; limited = most })
    (λ v fits. same_one v fits.limited)

same_address : (v : ℕ) → v < 2 ^ 24 → digits_text AIRFRAME v ≡ six_digits v
unfolding encode_with
same_address v below =
    let a = hexadecimal (v / 1048576) (v / 256 ^ 2 % 256 / 16) (omega arith) (omega arith) in
    let b = hexadecimal (v % 1048576 / 65536) (v / 256 ^ 2 % 256 % 16) (omega arith) (omega arith) in
    let c = hexadecimal (v % 65536 / 4096) (v / 256 ^ 1 % 256 / 16) (omega arith) (omega arith) in
    let d = hexadecimal (v % 4096 / 256) (v / 256 ^ 1 % 256 % 16) (omega arith) (omega arith) in
    let e = hexadecimal (v % 256 / 16) (v % 256 / 16) refl (omega arith) in
    let f = hexadecimal (v % 16 / 1) (v % 16) (omega arith) (omega arith) in
    rw (mod_down v 16 65536, mod_down v 16 4096, mod_down v 16 256, mod_down v 16 16, a, b, c, d, e, f) refl

pub reads_address : IsReader (λ v. v < 2 ^ 24) six_digits (digits_reading AIRFRAME 16777215 0)
reads_address =
    respelled (λ v. v < 2 ^ 24) six_digits (reads_number AIRFRAME 16777215 (radix_of AIRFRAME refl))
    (λ v fits. omega (arith, fits.limited))
    (λ v below. record { spanned = omega arith; limited = omega arith })
    (λ v fits. same_address v (omega (arith, fits.limited)))

-- ---- an airframe's address or nothing, and the comma behind it

-- an airframe's address fits 24 bits
abbrev pub FitsAirframe : Option ℕ → Type 0
FitsAirframe o = ForSome o (λ address. address < 2 ^ 24)

-- an airframe with the comma behind it
abbrev pub closed_airframe : Option ℕ → List ℕ
closed_airframe o = airframe_text o ++ codes ","

-- the two cases: there is none, or one that fits
abbrev Without : Option ℕ → Type 0
Without None = Unit {0}
Without (Some address) = ⊥

abbrev With : Option ℕ → Type 0
With None = ⊥
With (Some address) = address < 2 ^ 24

-- the address, or 0 where there is none
abbrev address_in : Option ℕ → ℕ
address_in None = 0
address_in (Some address) = address

without_fits : (o : Option ℕ) → Without o → FitsAirframe o
without_fits None fits = λ x is. absurd (cc)
without_fits (Some address) fits = absurd fits

with_fits : (o : Option ℕ) → With o → FitsAirframe o
with_fits None fits = absurd fits
with_fits (Some address) fits = λ x is. let same : address ≡ x = cc in rw (← same) fits

reads_comma : IsReader Without closed_airframe (told_as (λ comma. None) (passing (codes ",")))
reads_comma = told (passes (codes ",")) (record {
  back = λ o. tt;
  told = is_none;
  back_fits = λ o fits. tt;
  fits = λ u fits. tt;
  written = λ u fits. refl;
})
  where
    is_none : (o : Option ℕ) → Without o → None ≡ o
    is_none None fits = refl
    is_none (Some address) fits = absurd fits

reads_closed_address : IsReader With closed_airframe (told_as Some (digits_reading AIRFRAME 16777215 0 closed_by codes ","))
reads_closed_address = told (closed reads_address (passes (codes ","))) (record {
  back = address_in;
  told = is_some;
  back_fits = some_fits;
  fits = λ address fits. fits;
  written = λ address fits. refl;
})
  where
    is_some : (o : Option ℕ) → With o → Some (address_in o) ≡ o
    is_some None fits = absurd fits
    is_some (Some address) fits = refl

    some_fits : (o : Option ℕ) → With o → address_in o < 2 ^ 24
    some_fits None fits = absurd fits
    some_fits (Some address) fits = fits

-- no address begins with a comma
comma_refused : (t : List ℕ) (address : Option ℕ) (rest : List ℕ) → begins_with 44 t ≡ true
    → told_as Some (digits_reading AIRFRAME 16777215 0 closed_by codes ",") t ≡ Ok (address, rest) → ⊥
unfolding digits_reading digit_reading
comma_refused [] address rest begins ok = cc
comma_refused (c ∷ t) address rest begins ok =
    let comma : c ≡ 44 = eqb-true c 44 begins in
    ok_is_no_err _ _ (sym (rw comma at ok))

-- a comma where there is one is passed
comma_passed : (t : List ℕ) (left : ℕ) → begins_with 44 t ≡ true → told_as {B = Option ℕ} (λ comma. None) (passing (codes ",")) t ≡ Err left → ⊥
unfolding passing
comma_passed [] left begins err = cc
comma_passed (c ∷ t) left begins err =
    let comma : c ≡ 44 = eqb-true c 44 begins in
    ok_is_no_err _ _ (rw comma at err)

-- whether a comma stands first depends on the first character alone
begins_alike : (front rest : List ℕ) (c : ℕ) (after other : List ℕ) → rest ≡ c ∷ after → begins_with 44 (front ++ c ∷ other) ≡ begins_with 44 (front ++ rest)
begins_alike [] rest c after other is = rw is refl
begins_alike (x ∷ front) rest c after other is = refl

airframe-again : (o : Option ℕ) (rest : List ℕ) → FitsAirframe o → airframe_reading (closed_airframe o ++ rest) ≡ Ok (o, rest)
unfolding airframe_reading
airframe-again None rest fits = reads_comma.again None rest tt
airframe-again (Some address) rest fits =
    let below : address < 2 ^ 24 = fits address refl in
    let read = reads_closed_address.again (Some address) rest below in
    not_comma (cases_Bool (begins_with 44 (closed_airframe (Some address) ++ rest))) read
  where
    not_comma : (begins_with 44 (closed_airframe (Some address) ++ rest) ≡ true) ⊎ (begins_with 44 (closed_airframe (Some address) ++ rest) ≡ false)
        → told_as Some (digits_reading AIRFRAME 16777215 0 closed_by codes ",") (closed_airframe (Some address) ++ rest) ≡ Ok (Some address, rest)
        → airframe_reading (closed_airframe (Some address) ++ rest) ≡ Ok (Some address, rest)
    not_comma (inl begins) read = absurd (comma_refused _ _ _ begins read)
    not_comma (inr other) read = rw other read

airframe-sound : (t rest : List ℕ) (o : Option ℕ) → airframe_reading t ≡ Ok (o, rest) → FitsAirframe o × (t ≡ closed_airframe o ++ rest)
unfolding airframe_reading
airframe-sound t rest o ok = tested (cases_Bool (begins_with 44 t))
  where
    tested : (begins_with 44 t ≡ true) ⊎ (begins_with 44 t ≡ false) → FitsAirframe o × (t ≡ closed_airframe o ++ rest)
    tested (inl begins) = let read = reads_comma.sound t rest o (rw begins at ok) in (without_fits o read.0, read.1)
    tested (inr other) = let read = reads_closed_address.sound t rest o (rw other at ok) in (with_fits o read.0, read.1)

airframe-stops : (t : List ℕ) (left : ℕ) → airframe_reading t ≡ Err left → Stops FitsAirframe closed_airframe airframe_reading t left
unfolding airframe_reading
airframe-stops t left err = tested (cases_Bool (begins_with 44 t))
  where
    at_address : begins_with 44 t ≡ false → Stops With closed_airframe (told_as Some (digits_reading AIRFRAME 16777215 0 closed_by codes ",")) t left
        → Stops FitsAirframe closed_airframe airframe_reading t left
    at_address begins s = record {
      front = s.front;
      rest = s.rest;
      value = s.value;
      more = s.more;
      cut = s.cut;
      size = s.size;
      fits = with_fits s.value s.fits;
      begins = s.begins;
      alike = λ c after other is.
          let stop = s.alike c after other is in
          let still : begins_with 44 (s.front ++ c ∷ other) ≡ false =
          begins_alike s.front s.rest c after other is ∙ ap (begins_with 44) (sym s.cut) ∙ begins in
          (stop.0, rw still stop.1);
    }

    tested : (begins_with 44 t ≡ true) ⊎ (begins_with 44 t ≡ false) → Stops FitsAirframe closed_airframe airframe_reading t left
    tested (inl begins) = absurd (comma_passed t left begins (rw begins at err))
    tested (inr other) = at_address other (reads_closed_address.stops t left (rw other at err))

-- An airframe's address or nothing and the comma behind it are read as they are written.
pub reads_airframe : IsReader FitsAirframe closed_airframe airframe_reading
reads_airframe = record {
  sample = None;
  sample_fits = λ x is. absurd (cc);
  again = λ o rest fits. airframe-again o rest fits;
  sound = λ t rest o ok. airframe-sound t rest o ok;
  stops = airframe-stops;
}

-- ---- a position

pub reads_position : IsReader IsPosition position_text position_reading
unfolding position_reading
reads_position =
    told (followed (chooses 78 83 (omega arith)) (followed reads_latitude (followed (chooses 69 87 (omega arith)) reads_longitude)))
    (record {
      back = λ p. (p.south, (p.lat, (p.west, p.lon)));
      told = λ p fits. refl;
      back_fits = λ p fits. (tt, (fits.lat, (tt, fits.lon)));
      fits = λ x fits. record { lat = fits.1.0; lon = fits.1.1.1 };
      written = λ x fits. simp append_assoc;
    })

-- ---- an application

pub reads_application : (kind : Kind) → IsReader (IsApplication (greatest_number kind)) (application_text kind) (application_reading kind)
unfolding application_reading
reads_application Offered =
    told (followed (closed (preceded (passes (codes "/FCO")) (takes_several 3 Letter)) (passes (codes ","))) reads_two)
    (record {
      back = λ a. (a.name, a.number);
      told = λ a fits. refl;
      back_fits = λ a fits. (record { size = fits.three; each = fits.letters }, fits.number);
      fits = λ x fits. record { three = fits.0.size; letters = fits.0.each; number = fits.1 };
      written = λ x fits. refl;
    })
reads_application Answered =
    told (followed (closed (preceded (passes (codes "/FAR")) (takes_several 3 Letter)) (passes (codes ","))) reads_one)
    (record {
      back = λ a. (a.name, a.number);
      told = λ a fits. refl;
      back_fits = λ a fits. (record { size = fits.three; each = fits.letters }, fits.number);
      fits = λ x fits. record { three = fits.0.size; letters = fits.0.each; number = fits.1 };
      written = λ x fits. refl;
    })
