-- The text of an envelope has only printable characters, so no newline.
use Rattle.std.proofs.Common.{◌≡◌, ◌≢◌, ℕ, ◌-◌, Bool, true, List, ◌++◌, length, get_or, replicate, refl, arith}
use Rattle.std.specs.Prelude.{codes}
use Rattle.std.specs.List.{All, AllPass}
use Rattle.std.specs.Int.{to_be_bytes, w16}
use Rattle.std.proofs.lemmas.Bool.{and_parts}
use Rattle.std.proofs.lemmas.Bool.Decides.{nat_tests}
use Rattle.std.proofs.lemmas.List.{get_or-replicate, length-replicate}
use Rattle.std.proofs.lemmas.List.Elements.{All-append}
use Rattle.std.proofs.lemmas.List.Sums.{AllPass-from_list_all}
use Rattle.hex.specs.Hex.{IsBytes, encode_upper}
use Rattle.acars_envelope.specs.declared.texts.Body.{Body}
use Rattle.acars_envelope.specs.declared.texts.Body.TheVariants.{Ads, Afn}
use Rattle.acars_envelope.specs.declared.texts.Envelope.{Envelope}
use Rattle.acars_envelope.specs.Bodies.{HasItsForms, covered_octets, is_text_character, is_well_formed, written_body}
use Rattle.acars_envelope.specs.Check.{check_of}
use Rattle.acars_envelope.specs.Faults.{is_capital_digit}
use Rattle.acars_envelope.specs.Names.{IsAddress, IsRegistration, is_mark_character, is_name_character}
use Rattle.acars_envelope.specs.Texts.{IsEnvelopeText, four_digits, sealed_text}
use Rattle.acars_envelope.proofs.CapitalDigits.{digits_are_capital}
use Rattle.acars_envelope.proofs.PassingLaws.{code_bytes}
use Rattle.acars_envelope.proofs.SealedLaws.{check_of-lt}

-- characters of a kind that is within printable ones
pub within : (test : ℕ → Bool) → ((c : ℕ) → test c ≡ true → is_text_character c ≡ true) → (xs : List ℕ) → AllPass test xs
    → AllPass is_text_character xs
within test wider xs pass k d below = wider (get_or xs k d) (pass k d below)

pub name_is_printable : (c : ℕ) → is_name_character c ≡ true → is_text_character c ≡ true
name_is_printable c name = grind (arith, nat_tests)

mark_is_printable : (c : ℕ) → is_mark_character c ≡ true → is_text_character c ≡ true
mark_is_printable c mark = grind (arith, nat_tests)

digit_is_printable : (c : ℕ) → is_capital_digit c ≡ true → is_text_character c ≡ true
digit_is_printable c digit = grind (arith, nat_tests)

joined : (a b : List ℕ) → AllPass is_text_character a → AllPass is_text_character b → AllPass is_text_character (a ++ b)
joined a b first second = let passes : ℕ → Type 0 = λ c. is_text_character c ≡ true in All-append passes a b first second

dots_are_printable : (n : ℕ) → AllPass is_text_character (replicate n 46)
dots_are_printable n k d below =
    rw (get_or-replicate n k 46 d (omega (arith, length-replicate {A = ℕ} n 46))) refl

pub registration_is_printable : (registration : List ℕ) → IsRegistration registration → AllPass is_text_character registration
registration_is_printable registration is =
    rw is.dotted (joined (replicate (7 - length is.mark) 46) is.mark (dots_are_printable (7 - length is.mark))
    (within is_mark_character mark_is_printable is.mark is.is_mark.characters))

pub digits_are_printable : (octets : List ℕ) → IsBytes octets → AllPass is_text_character (encode_upper octets)
digits_are_printable octets bytes = within is_capital_digit digit_is_printable (encode_upper octets) (digits_are_capital octets bytes)

body_is_printable : (body : Body) → HasItsForms body → is_well_formed body ≡ true → AllPass is_text_character (written_body body)
body_is_printable (Ads registration payload) forms sized =
    joined (codes "ADS" ++ registration) (encode_upper payload.items)
    (joined (codes "ADS") registration (AllPass-from_list_all is_text_character (codes "ADS") refl) (registration_is_printable registration forms.0))
    (digits_are_printable payload.items forms.1)
body_is_printable (Afn text) forms sized =
    joined (codes "AFN") text.items (AllPass-from_list_all is_text_character (codes "AFN") refl)
    (AllPass-from_list_all is_text_character text.items (and_parts _ _ sized).1)

-- each character of the text of an address and a body is from 20 to 7E hexadecimal
pub sealed_text_is_printable : (address : List ℕ) (body : Body) → IsAddress address → HasItsForms body → is_well_formed body ≡ true
    → AllPass is_text_character (sealed_text address body)
sealed_text_is_printable address body named forms sized =
    let slash = AllPass-from_list_all is_text_character (codes "/") refl in
    let dot = AllPass-from_list_all is_text_character (codes ".") refl in
    let due = check_of (covered_octets body) in
    let name = within is_name_character name_is_printable address named.characters in
    joined (codes "/" ++ address ++ codes "." ++ written_body body) (four_digits due)
    (joined (codes "/" ++ address ++ codes ".") (written_body body)
    (joined (codes "/" ++ address) (codes ".") (joined (codes "/") address slash name) dot) (body_is_printable body forms sized))
    (digits_are_printable (to_be_bytes w16 due) (code_bytes due (check_of-lt (covered_octets body))))

-- so none is a newline
pub sealed_text_has_no_newline : (address : List ℕ) (body : Body) → IsAddress address → HasItsForms body → is_well_formed body ≡ true
    → All (λ c. c ≢ 10) (sealed_text address body)
sealed_text_has_no_newline address body named forms sized k d below newline =
    no_newline (get_or (sealed_text address body) k d) (sealed_text_is_printable address body named forms sized k d below) newline
  where
    no_newline : (c : ℕ) → is_text_character c ≡ true → c ≢ 10
    no_newline c printable is = grind (arith, nat_tests)

-- the same of an envelope's text
pub envelope_text_has_no_newline : (e : Envelope) (text : List ℕ) → IsEnvelopeText e text → All (λ c. c ≢ 10) text
envelope_text_has_no_newline e text is = rw is.spelled (sealed_text_has_no_newline e.address e.body is.address is.body e.well_formed)
