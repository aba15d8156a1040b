-- Each text has a form or hasn't.
use Rattle.std.proofs.Common.{◌≡◌, ◌≢◌, ◌⊎◌, ◌+◌, ◌-◌, ◌%◌, ◌^◌, ◌<◌, ◌≤◌, ◌≤ℤ◌, ℕ, ℤ, zero, suc, pos, negsuc, List, [], ◌∷◌, drop, get_or, length, refl, sym, ap, ◌∙◌, subst, arith, inl, inr}
use Rattle.std.specs.Prelude.{codes}
use Rattle.std.specs.Char.{digit_value}
use Rattle.std.specs.Int.{from_be_bytes, to_be_bytes, w32}
use Rattle.std.specs.List.{AllPass}
use Rattle.std.specs.Str.Parse.{AllDigits, IsNumeral, digits_value}
use Rattle.std.proofs.lemmas.Bool.{cases_eq}
use Rattle.std.proofs.lemmas.Int.{ints}
use Rattle.std.proofs.lemmas.Nat.{be_bytes_4}
use Rattle.hex.specs.Hex.{IsBytes, encode_upper, upper_digits}
use Rattle.hex.proofs.HexLemmas.{length-encode_with}
use Rattle.acars_envelope.specs.Faults.{is_capital_digit}
use Rattle.acars_envelope.specs.Names.{IsAddress, IsFlight, IsMark, is_mark_character, is_name_character}
use Rattle.acars_envelope.proofs.CapitalDigits.{Octets, octets_of, spelled_digits}
use Rattle.adsc_requests.specs.declared.kind.Kind.TheVariants.{Demand, Periodic, Event, Emergency}
use Rattle.due_event.specs.declared.profile.Profile.{Profile}
use Rattle.due_event.specs.declared.profile.Profile.TheVariants.{One, Two}
use Rattle.flight_samples.specs.Columns.{IsIn, Range}
use Rattle.flight_samples.specs.Decimals.{IsIntegerText, IsNaturalForm, IsNaturalText, IsNumberText}
use Rattle.flight_samples.specs.SampleText.{range_at}
use Rattle.flight_samples.proofs.DecimalLemmas.{integer_text_same, no_integer}
use Rattle.net_script.specs.Forms.{Form, HasForm, IsCancelText, IsNumberOf, IsProfileText, a_mark, a_flight, an_airframe, a_profile, an_address, a_column, a_time, a_switch, a_request, a_cancel, a_place}
use Rattle.net_script.specs.declared.limits.TheConstants.{MAX_TIME, MAX_PLACE}
use Rattle.net_script.specs.declared.line.Cancel.{Cancel}
use Rattle.net_script.specs.declared.line.Cancel.TheVariants.{Of, EmergencyMode, All}
use Rattle.net_script.proofs.CleanLaws.{three_octets}
use Rattle.net_script.proofs.EachRequest.{each_request}
use Rattle.net_script.proofs.Deciding.{IsDecided, decided_and, decided_as, decided_if, decided_le, decided_le_z, decided_or, decided_pass, decided_text}

-- ---- names

pub each_address : (text : List ℕ) → IsDecided (IsAddress text)
each_address text =
    decided_as ((length text ≡ 7) × AllPass is_name_character text) (IsAddress text)
    (λ is. record { size = is.0; characters = is.1 }) (λ is. (is.size, is.characters))
    (decided_and (length text ≡ 7) (AllPass is_name_character text) (cases_eq (length text) 7) (decided_pass is_name_character text))

each_mark : (text : List ℕ) → IsDecided (IsMark text)
each_mark text =
    decided_as ((1 ≤ length text) × ((length text ≤ 7) × AllPass is_mark_character text)) (IsMark text)
    (λ is. record { some = is.0; few = is.1.0; characters = is.1.1 }) (λ is. (is.some, (is.few, is.characters)))
    (decided_and (1 ≤ length text) ((length text ≤ 7) × AllPass is_mark_character text) (decided_le 1 (length text))
    (decided_and (length text ≤ 7) (AllPass is_mark_character text) (decided_le (length text) 7)
    (decided_pass is_mark_character text)))

each_flight : (text : List ℕ) → IsDecided (IsFlight text)
each_flight text =
    decided_as ((1 ≤ length text) × ((length text ≤ 8) × AllPass is_name_character text)) (IsFlight text)
    (λ is. record { some = is.0; few = is.1.0; characters = is.1.1 }) (λ is. (is.some, (is.few, is.characters)))
    (decided_and (1 ≤ length text) ((length text ≤ 8) × AllPass is_name_character text) (decided_le 1 (length text))
    (decided_and (length text ≤ 8) (AllPass is_name_character text) (decided_le (length text) 8)
    (decided_pass is_name_character text)))

-- ---- an airframe

-- The number of three octets.
airframe_of : (text octets : List ℕ) → IsBytes octets → length octets ≡ 3 → text ≡ encode_upper octets → HasForm an_airframe text
airframe_of text [] bytes size spelled = absurd (omega arith)
airframe_of text (a ∷ []) bytes size spelled = absurd (omega arith)
airframe_of text (a ∷ b ∷ []) bytes size spelled = absurd (omega arith)
airframe_of text (a ∷ b ∷ c ∷ []) bytes size spelled =
    let first : a < 256 = bytes 0 in
    let second : b < 256 = bytes 1 in
    let third : c < 256 = bytes 2 in
    let number = from_be_bytes w32 (0 ∷ a ∷ b ∷ c ∷ []) in
    let small : number < 2 ^ 24 = omega arith in
    let same : to_be_bytes w32 number ≡ 0 ∷ a ∷ b ∷ c ∷ [] = be_bytes_4 (0 ∷ a ∷ b ∷ c ∷ []) number refl four refl in
    (number, small, spelled ∙ ap (λ bs. encode_upper (drop 1 bs)) (sym same))
  where
    four : (i : ℕ) → get_or (0 ∷ a ∷ b ∷ c ∷ []) i 0 < 256
    four zero = omega arith
    four (suc i) = bytes i
airframe_of text (a ∷ b ∷ c ∷ d ∷ octets) bytes size spelled = absurd (omega arith)

each_airframe : (text : List ℕ) → IsDecided (HasForm an_airframe text)
each_airframe text =
    decided_as ((length text ≡ 6) × AllPass is_capital_digit text) (HasForm an_airframe text)
    (λ is. made is.0 (octets_of 0 text (ap (λ n. n % 2) is.0) is.1)) digits
    (decided_and (length text ≡ 6) (AllPass is_capital_digit text) (cases_eq (length text) 6) (decided_pass is_capital_digit text))
  where
    made : length text ≡ 6 → Octets 0 text → HasForm an_airframe text
    made size read =
        let three : length read.octets ≡ 3 = omega (arith, ap length read.written, length-encode_with upper_digits read.octets) in
        airframe_of text read.octets read.bytes three (sym read.written)

    digits : HasForm an_airframe text → (length text ≡ 6) × AllPass is_capital_digit text
    digits (airframe, small, spelled) =
        let octets = drop 1 (to_be_bytes w32 airframe) in
        let parts = spelled_digits text octets (three_octets airframe) spelled in
        let three : length octets ≡ 3 = refl in
        (omega (arith, parts.1, three), parts.0)

-- ---- numbers

each_digits : (text : List ℕ) → IsDecided (AllDigits 10 text)
each_digits [] = inl tt
each_digits (c ∷ text) = decided_and (digit_value c < 10) (AllDigits 10 text) (decided_le (suc (digit_value c)) 10) (each_digits text)

each_natural : (text : List ℕ) → IsDecided (IsNaturalForm text)
each_natural text =
    decided_as (IsNumeral 10 text × (get_or text 0 0 ≡ 48 → length text ≡ 1)) (IsNaturalForm text)
    (λ is. record { numeral = is.0; no_leading_zero = is.1 }) (λ is. (is.numeral, is.no_leading_zero))
    (decided_and (IsNumeral 10 text) (get_or text 0 0 ≡ 48 → length text ≡ 1) numeral
    (decided_if (get_or text 0 0 ≡ 48) (length text ≡ 1) (cases_eq (get_or text 0 0) 48) (cases_eq (length text) 1)))
  where
    numeral : IsDecided (IsNumeral 10 text)
    numeral = decided_and (0 < length text) (AllDigits 10 text) (decided_le 1 (length text)) (each_digits text)

-- A natural number of a range.
each_number : (low high : ℕ) (text : List ℕ) → IsDecided ((n : ℕ) × IsNumberOf low high n text)
each_number low high text =
    decided_as (IsNaturalForm text × ((low ≤ value) × (value ≤ high))) ((n : ℕ) × IsNumberOf low high n text)
    (λ is. (value, record { written = record { form = is.0; value = refl }; least = is.1.0; most = is.1.1 }))
    (λ is. (is.1.written.form, (omega (arith, is.1.written.value, is.1.least), omega (arith, is.1.written.value, is.1.most))))
    (decided_and (IsNaturalForm text) ((low ≤ value) × (value ≤ high)) (each_natural text)
    (decided_and (low ≤ value) (value ≤ high) (decided_le low value) (decided_le value high)))
  where
    value : ℕ
    value = digits_value 10 text

-- Some integer has the text.
abbrev IsSomeInteger : List ℕ → Type 0
IsSomeInteger text = (z : ℤ) × IsIntegerText z text

-- A text that begins with the sign.
negative : (digits : List ℕ) → IsDecided (IsSomeInteger (45 ∷ digits))
negative digits = signed (each_natural digits) (decided_le 1 (digits_value 10 digits))
  where
    none : ((n : ℕ) → ¬ IsNaturalText (n + 1) digits) → ¬ IsSomeInteger (45 ∷ digits)
    none lacks is = no_integer (45 ∷ digits) digits refl lacks is.0 is.1

    signed : IsDecided (IsNaturalForm digits) → IsDecided (1 ≤ digits_value 10 digits) → IsDecided (IsSomeInteger (45 ∷ digits))
    signed (inl form) (inl some) =
        inl (negsuc (digits_value 10 digits - 1), (digits, refl, record { form = form; value = omega arith }))
    signed (inl form) (inr zeroed) = inr (none (λ n is. zeroed (omega (arith, is.value))))
    signed (inr lacks) some = inr (none (λ n is. lacks is.form))

-- A text that doesn't.
unsigned : (text : List ℕ) → ((digits : List ℕ) → text ≢ 45 ∷ digits) → IsDecided (IsSomeInteger text)
unsigned text other = natural (each_natural text)
  where
    none : ¬ IsNaturalForm text → (z : ℤ) → ¬ IsIntegerText z text
    none lacks (pos n) is = lacks is.form
    none lacks (negsuc n) (digits, spelled, is) = other digits spelled

    natural : IsDecided (IsNaturalForm text) → IsDecided (IsSomeInteger text)
    natural (inl form) = inl (pos (digits_value 10 text), record { form = form; value = refl })
    natural (inr lacks) = inr (λ is. none lacks is.0 is.1)

each_integer : (text : List ℕ) → IsDecided (IsSomeInteger text)
each_integer [] = unsigned [] (λ digits is. absurd (cc))
each_integer (c ∷ text) = elim (cases_eq c 45) [
  | inl sign ↦ subst (λ b. IsDecided (IsSomeInteger (b ∷ text))) (sym sign) (negative text)
  | inr other ↦ unsigned (c ∷ text) (λ digits is. other (ap (λ bytes. get_or bytes 0 0) is))
]

-- An integer of a range.
pub each_column : (range : Range) (text : List ℕ) → IsDecided ((z : ℤ) × IsNumberText range.low z text × IsIn range z)
each_column range text = within (each_integer text)
  where
    signed : (z : ℤ) → range.low ≤ℤ z → pos 0 ≤ℤ range.low → pos 0 ≤ℤ z
    signed z above low = omega (arith, ints)

    of : (z : ℤ) → IsIntegerText z text → IsDecided (IsIn range z) → IsDecided ((z : ℤ) × IsNumberText range.low z text × IsIn range z)
    of z written (inl inside) = inl (z, record { written = written; sign = signed z inside.0 }, inside)
    of z written (inr outside) =
        inr (λ is. outside (subst (IsIn range) (integer_text_same is.0 z text is.1.written written) is.2))

    within : IsDecided (IsSomeInteger text) → IsDecided ((z : ℤ) × IsNumberText range.low z text × IsIn range z)
    within (inr lacks) = inr (λ is. lacks (is.0, is.1.written))
    within (inl (z, written)) =
        of z written (decided_and (range.low ≤ℤ z) (z ≤ℤ range.high) (decided_le_z range.low z) (decided_le_z z range.high))

-- ---- one of a few texts

each_profile : (text : List ℕ) → IsDecided (HasForm a_profile text)
each_profile text =
    decided_as ((text ≡ codes "1") ⊎ (text ≡ codes "2")) (HasForm a_profile text) to (λ is. back is.0 is.1)
    (decided_or (text ≡ codes "1") (text ≡ codes "2") (decided_text text (codes "1")) (decided_text text (codes "2")))
  where
    to : (text ≡ codes "1") ⊎ (text ≡ codes "2") → HasForm a_profile text
    to (inl is) = (One, is)
    to (inr is) = (Two, is)

    back : (profile : Profile) → IsProfileText profile text → (text ≡ codes "1") ⊎ (text ≡ codes "2")
    back One is = inl is
    back Two is = inr is

-- The text is that of some cancel.
abbrev IsAnyCancel : List ℕ → Type 0
IsAnyCancel text = (text ≡ codes "P") ⊎ ((text ≡ codes "V") ⊎ ((text ≡ codes "M") ⊎ ((text ≡ codes "X") ⊎ (text ≡ codes "A"))))

each_any_cancel : (text : List ℕ) → IsDecided (IsAnyCancel text)
each_any_cancel text =
    decided_or (text ≡ codes "P") _ (decided_text text (codes "P"))
    (decided_or (text ≡ codes "V") _ (decided_text text (codes "V"))
    (decided_or (text ≡ codes "M") _ (decided_text text (codes "M"))
    (decided_or (text ≡ codes "X") (text ≡ codes "A") (decided_text text (codes "X")) (decided_text text (codes "A")))))

each_cancel : (text : List ℕ) → IsDecided (HasForm a_cancel text)
each_cancel text = decided_as (IsAnyCancel text) (HasForm a_cancel text) to (λ is. back is.0 is.1) (each_any_cancel text)
  where
    to : IsAnyCancel text → HasForm a_cancel text
    to (inl is) = (Of Periodic, is)
    to (inr (inl is)) = (Of Event, is)
    to (inr (inr (inl is))) = (Of Emergency, is)
    to (inr (inr (inr (inl is)))) = (EmergencyMode, is)
    to (inr (inr (inr (inr is)))) = (All, is)

    back : (cancel : Cancel) → IsCancelText cancel text → IsAnyCancel text
    back (Of Demand) is = absurd is
    back (Of Periodic) is = inl is
    back (Of Event) is = inr (inl is)
    back (Of Emergency) is = inr (inr (inl is))
    back EmergencyMode is = inr (inr (inr (inl is)))
    back All is = inr (inr (inr (inr is)))

-- ---- all forms

-- Each text has the form or hasn't.
pub each_form : (form : Form) (text : List ℕ) → IsDecided (HasForm form text)
each_form a_mark text = each_mark text
each_form a_flight text = each_flight text
each_form an_airframe text = each_airframe text
each_form a_profile text = each_profile text
each_form an_address text = each_address text
each_form (a_column place) text = each_column (range_at place) text
each_form a_time text = each_number 0 MAX_TIME text
each_form a_switch text =
    decided_or (text ≡ codes "1") (text ≡ codes "0") (decided_text text (codes "1")) (decided_text text (codes "0"))
each_form a_request text = each_request text
each_form a_cancel text = each_cancel text
each_form a_place text = each_number 1 MAX_PLACE text
