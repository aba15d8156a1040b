-- A line that says something holds no barred byte, but for the text of a `U` line.
use Rattle.std.proofs.Common.{◌≡◌, ◌≢◌, ◌==◌, ◌+◌, ◌-◌, ◌<◌, ◌≤◌, ℕ, ℤ, zero, suc, pos, negsuc, Bool, true, false, List, [], ◌∷◌, All, length, drop, get_or, refl, sym, subst, arith, inl, inr}
use Rattle.std.specs.List.{AllPass, onto_first, slice_split}
use Rattle.std.specs.Int.{to_be_bytes, w32}
use Rattle.std.proofs.lemmas.Str.Parse.{digit_at}
use Rattle.std.proofs.lemmas.Bool.{cases_Bool, eqb-true, le-ltb, ne_eqb}
use Rattle.std.proofs.lemmas.Bool.Decides.{nat_tests}
use Rattle.std.proofs.lemmas.List.Elements.{All-append, All-cons, All-from_get_or, All-head, All-nil, All-tail}
use Rattle.std.proofs.lemmas.List.Splits.{slice_split-cons_no, slice_split-cons_yes}
use Rattle.hex.specs.Hex.{IsBytes, encode_upper}
use Rattle.acars_envelope.specs.Faults.{is_capital_digit}
use Rattle.acars_envelope.specs.Names.{IsAddress, is_mark_character, is_name_character}
use Rattle.acars_envelope.proofs.CapitalDigits.{digits_are_capital}
use Rattle.adsc_requests.specs.declared.kind.Kind.TheVariants.{Demand, Periodic, Event, Emergency}
use Rattle.due_event.specs.declared.profile.Profile.{Profile}
use Rattle.due_event.specs.declared.profile.Profile.TheVariants.{One, Two}
use Rattle.flight_samples.specs.Decimals.{IsIntegerText, IsNaturalText}
use Rattle.net_script.specs.Addresses.{IsListed}
use Rattle.net_script.specs.Bytes.{AreClean, is_barred}
use Rattle.net_script.specs.Fields.{comma, field_at, fields_of}
use Rattle.net_script.specs.Forms.{AreRightBefore, Form, HasForm, IsCancelText, IsProfileText, IsRight, aircraft_form, behind_address, a_mark, a_flight, an_airframe, a_profile, an_address, a_column, a_time, a_switch, a_request, a_cancel, a_place}
use Rattle.net_script.specs.Letters.{letter_code, letter_text}
use Rattle.net_script.specs.declared.letter.Letter.{Letter}
use Rattle.net_script.specs.declared.letter.Letter.TheVariants.{Aircraft, Ground, Sample, Time, Emergency as Urgent, Logon, Uplink, Request, Cancel as Abandon, Bring, Receive}
use Rattle.net_script.specs.declared.line.Cancel.{Cancel}
use Rattle.net_script.specs.declared.line.Cancel.TheVariants.{Of, EmergencyMode, All as Every}

-- ---- bytes

-- A byte that isn't barred.
abbrev pub Clean : ℕ → Type 0
Clean byte = is_barred byte ≡ false

-- The bytes between the quote and the delete character.
clean_between : (c : ℕ) → 35 ≤ c → c ≤ 0x7E → Clean c
clean_between c low high = rw (ne_eqb c 34 (omega arith), ne_eqb c 13 (omega arith), le-ltb 0x7E c high) refl

clean_mark : (c : ℕ) → is_mark_character c ≡ true → Clean c
clean_mark c passes =
    let low : 45 ≤ c = grind (arith, nat_tests) in
    let high : c ≤ 90 = grind (arith, nat_tests) in
    clean_between c (omega arith) (omega arith)

clean_name : (c : ℕ) → is_name_character c ≡ true → Clean c
clean_name c passes =
    let low : 48 ≤ c = grind (arith, nat_tests) in
    let high : c ≤ 90 = grind (arith, nat_tests) in
    clean_between c (omega arith) (omega arith)

clean_capital_digit : (c : ℕ) → is_capital_digit c ≡ true → Clean c
clean_capital_digit c passes =
    let low : 48 ≤ c = grind (arith, nat_tests) in
    let high : c ≤ 70 = grind (arith, nat_tests) in
    clean_between c (omega arith) (omega arith)

-- ---- fields

-- The lower three octets of a number.
pub three_octets : (n : ℕ) → IsBytes (drop 1 (to_be_bytes w32 n))
three_octets n zero = omega arith
three_octets n (suc zero) = omega arith
three_octets n (suc (suc zero)) = omega arith
three_octets n (suc (suc (suc i))) = omega arith

-- Each byte of the text is clean.
abbrev pub CleanText : List ℕ → Type 0
CleanText text = All Clean text

clean_passing : (test : ℕ → Bool) (text : List ℕ) → ((c : ℕ) → test c ≡ true → Clean c) → AllPass test text → CleanText text
clean_passing test text clean passes k d inside = clean (get_or text k d) (passes k d inside)

clean_hexadecimal : (octets : List ℕ) → IsBytes octets → CleanText (encode_upper octets)
clean_hexadecimal octets bytes = clean_passing is_capital_digit (encode_upper octets) clean_capital_digit (digits_are_capital octets bytes)

clean_natural : (n : ℕ) (text : List ℕ) → IsNaturalText n text → CleanText text
clean_natural n text is =
    All-from_get_or Clean text 0 (λ i inside.
    let digit = digit_at text i is.form.numeral.1 inside in
    clean_between (get_or text i 0) (omega (arith, digit.0)) (omega (arith, digit.1)))

clean_integer : (z : ℤ) (text : List ℕ) → IsIntegerText z text → CleanText text
clean_integer (pos n) text is = clean_natural n text is
clean_integer (negsuc n) text (digits, spelled, is) = subst CleanText (sym spelled) (All-cons Clean 45 digits refl (clean_natural (n + 1) digits is))

clean_one : (c : ℕ) → Clean c → CleanText (c ∷ [])
clean_one c clean = All-cons Clean c [] clean (All-nil Clean)

clean_cancel : (cancel : Cancel) (text : List ℕ) → IsCancelText cancel text → CleanText text
clean_cancel (Of Demand) text is = absurd is
clean_cancel (Of Periodic) text is = subst CleanText (sym is) (clean_one 80 refl)
clean_cancel (Of Event) text is = subst CleanText (sym is) (clean_one 86 refl)
clean_cancel (Of Emergency) text is = subst CleanText (sym is) (clean_one 77 refl)
clean_cancel EmergencyMode text is = subst CleanText (sym is) (clean_one 88 refl)
clean_cancel Every text is = subst CleanText (sym is) (clean_one 65 refl)

clean_profile : (profile : Profile) (text : List ℕ) → IsProfileText profile text → CleanText text
clean_profile One text is = subst CleanText (sym is) (clean_one 49 refl)
clean_profile Two text is = subst CleanText (sym is) (clean_one 50 refl)

clean_address : (text : List ℕ) → IsAddress text → CleanText text
clean_address text is = clean_passing is_name_character text clean_name is.characters

-- A text of one of the forms is clean.
clean_form : (form : Form) (text : List ℕ) → HasForm form text → CleanText text
clean_form a_mark text is = clean_passing is_mark_character text clean_mark is.characters
clean_form a_flight text is = clean_passing is_name_character text clean_name is.characters
clean_form an_airframe text (airframe, small, spelled) = subst CleanText (sym spelled) (clean_hexadecimal (drop 1 (to_be_bytes w32 airframe)) (three_octets airframe))
clean_form a_profile text (profile, is) = clean_profile profile text is
clean_form an_address text is = clean_address text is
clean_form (a_column place) text (z, written, within) = clean_integer z text written.written
clean_form a_time text (n, is) = clean_natural n text is.written
clean_form a_switch text (inl is) = subst CleanText (sym is) (clean_one 49 refl)
clean_form a_switch text (inr is) = subst CleanText (sym is) (clean_one 48 refl)
clean_form a_request text (asked, is) = subst CleanText (sym is.digits) (clean_hexadecimal is.octets is.bytes)
clean_form a_cancel text (cancel, is) = clean_cancel cancel text is
clean_form a_place text (n, is) = clean_natural n text is.written

-- So is one that lists an address.
clean_listed : (fields : List (List ℕ)) (place : ℕ) → IsListed fields place → CleanText (field_at fields place)
clean_listed fields place (inl is) = clean_address (field_at fields place) is
clean_listed fields place (inr (starred, first)) =
    subst CleanText (sym starred.spelled)
    (All-append Clean starred.address (42 ∷ []) (clean_address starred.address starred.is_address) (clean_one 42 refl))

clean_letter : (letter : Letter) → CleanText (letter_text letter)
clean_letter letter = clean_one (letter_code letter) (code letter)
  where
    code : (letter : Letter) → Clean (letter_code letter)
    code Aircraft = refl
    code Ground = refl
    code Sample = refl
    code Time = refl
    code Urgent = refl
    code Logon = refl
    code Uplink = refl
    code Request = refl
    code Abandon = refl
    code Bring = refl
    code Receive = refl

-- ---- lines

-- A right field of a line of another letter than `U` is clean.
clean_field : (letter : Letter) (fields : List (List ℕ)) (place : ℕ) → letter ≢ Uplink → IsRight letter fields place → CleanText (field_at fields place)
clean_field Aircraft fields place other is = clean_form (aircraft_form place) (field_at fields place) is
clean_field Ground fields place other is = clean_listed fields place is
clean_field Sample fields place other is = clean_form (a_column (place - 1)) (field_at fields place) is
clean_field Time fields place other is = clean_form a_time (field_at fields place) is
clean_field Urgent fields place other is = clean_form a_switch (field_at fields place) is
clean_field Logon fields place other is = clean_form an_address (field_at fields place) is
clean_field Uplink fields place other is = absurd (other refl)
clean_field Request fields place other is = clean_form (behind_address a_request place) (field_at fields place) is
clean_field Abandon fields place other is = clean_form (behind_address a_cancel place) (field_at fields place) is
clean_field Bring fields place other is = clean_form (behind_address a_place place) (field_at fields place) is
clean_field Receive fields place other is = clean_form (behind_address a_place place) (field_at fields place) is

-- Bytes that are put before the first field.
clean_onto : (byte : ℕ) (fields : List (List ℕ)) → All CleanText (onto_first byte fields) → Clean byte × All CleanText fields
clean_onto byte [] clean = (All-head Clean byte [] (All-head CleanText (byte ∷ []) [] clean), All-nil CleanText)
clean_onto byte (part ∷ parts) clean =
    let first = All-head CleanText (byte ∷ part) parts clean in
    (All-head Clean byte part first, All-cons CleanText part parts (All-tail Clean byte part first) (All-tail CleanText (byte ∷ part) parts clean))

-- A line is clean where its fields are.
clean_joined : (line : List ℕ) → All CleanText (slice_split (λ b. b == comma) line) → CleanText line
clean_joined [] clean = All-nil Clean
clean_joined (byte ∷ line) clean = elim (cases_Bool (byte == comma)) [
  | inl at ↦
      let fields = subst (All CleanText) (slice_split-cons_yes (λ b. b == comma) byte line at) clean in
      All-cons Clean byte line (subst Clean (sym (eqb-true byte comma at)) refl) (clean_joined line (All-tail CleanText [] (slice_split (λ b. b == comma) line) fields))
  | inr other ↦
      let parts = clean_onto byte (slice_split (λ b. b == comma) line) (subst (All CleanText) (slice_split-cons_no (λ b. b == comma) byte line other) clean) in
      All-cons Clean byte line parts.0 (clean_joined line parts.1)
]

pub clean_line : (line : List ℕ) → All CleanText (fields_of line) → AreClean line
unfolding fields_of
clean_line line clean k inside = clean_joined line clean k 0 inside

-- The fields of a line of another letter than `U` are clean where they are right.
pub clean_fields : (letter : Letter) (fields : List (List ℕ)) → letter ≢ Uplink → field_at fields 0 ≡ letter_text letter
    → AreRightBefore letter fields (length fields) → All CleanText fields
clean_fields letter fields other has right = All-from_get_or CleanText fields [] each
  where
    each : (k : ℕ) → k < length fields → CleanText (field_at fields k)
    each zero inside = subst CleanText (sym has) (clean_letter letter)
    each (suc k) inside = clean_field letter fields (suc k) other (right (suc k) (omega arith) inside)
