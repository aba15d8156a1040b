-- The first bad place of a text that is no envelope's (this project's profile): the rules by which a
-- reader finds it on the text, each by itself, and the order in which they are tried.
-- Places are counted from 0, so the place behind the last character is the text's length.
use Rattle.std.specs.Prelude.{◌≡◌, ◌≢◌, ℕ, ◌-◌, ◌%◌, ◌^◌, ◌<◌, ◌≤◌, min, nat_le, ◌==◌, ◌&&◌, ◌||◌, if◌then◌else◌, Bool, true, false, ◌⊎◌, List, ◌++◌, length, drop, codes, slice_index}
use Rattle.std.specs.List.{slice_range}
use Rattle.hex.specs.Hex.{IsBytes, encode_upper}
use Rattle.acars_envelope.specs.declared.refusal.EnvelopeRefusal.{EnvelopeRefusal}
use Rattle.acars_envelope.specs.declared.refusal.EnvelopeWhy.{EnvelopeWhy}
use Rattle.acars_envelope.specs.declared.refusal.EnvelopeWhy.TheVariants.{Slash, Address, Dot, Imi, Registration, Hex, Character, TooShort, TooLong, Check}
use Rattle.acars_envelope.specs.Names.{is_digit, is_name_character, is_mark_character}
use Rattle.acars_envelope.specs.Bodies.{is_text_character}
use Rattle.acars_envelope.specs.Check.{check_of}
use Rattle.acars_envelope.specs.Texts.{four_digits}

-- The refusal of a text at this place for this cause.
abbrev pub refused : ℕ → EnvelopeWhy → EnvelopeRefusal
refused place why = record { place = place; why = why }

-- Each place from one place up to another is right.
abbrev pub AreRight : (ℕ → Bool) → ℕ → ℕ → Type 0
AreRight is_right from to = (place : ℕ) → from ≤ place → place < to → is_right place ≡ true

-- The refusal is that of the first place which isn't right, from one place up to another.
pub record IsFirstWrong (is_right : ℕ → Bool) (why : EnvelopeWhy) (from to : ℕ) (r : EnvelopeRefusal) : Type 0 where
  pub place : ℕ
  pub from_on : from ≤ place
  pub within : place < to
  pub before : AreRight is_right from place
  pub wrong : is_right place ≡ false
  pub refusal : r ≡ refused place why

-- Places are read from the left, from one place up to another. The refusal is that of the first which
-- isn't right: too short where the text ends before it, else for the place's cause.
pub record IsFirstBad (text : List ℕ) (is_right : ℕ → Bool) (why : ℕ → EnvelopeWhy) (from to : ℕ)
    (r : EnvelopeRefusal) : Type 0 where
  pub place : ℕ
  pub from_on : from ≤ place
  pub within : place < to
  pub before : AreRight is_right from place
  pub bad : ((place ≡ length text) × (r ≡ refused place TooShort))
      ⊎ ((place < length text) × (is_right place ≡ false) × (r ≡ refused place (why place)))

-- The first rule where it applies, and the next one where the first doesn't.
infixr 5 ◌OrElse◌
abbrev pub ◌OrElse◌ : (List ℕ → EnvelopeRefusal → Type 0) → (List ℕ → EnvelopeRefusal → Type 0)
    → List ℕ → EnvelopeRefusal → Type 0
(First OrElse Next) text r = First text r ⊎ (((s : EnvelopeRefusal) → First text s → ⊥) × Next text r)

-- The head: a slash at 0, an address at 1 to 7, a dot at 8.

-- The character may stand at this place of the head.
abbrev pub is_head_character : ℕ → ℕ → Bool
is_head_character place c = if place == 0 then c == 47 else if place == 8 then c == 46 else is_name_character c

-- The text has such a character at this place.
abbrev pub is_right_in_head : List ℕ → ℕ → Bool
is_right_in_head text place = is_head_character place (slice_index text place)

-- The cause of a wrong character at this place of the head.
abbrev pub why_in_head : ℕ → EnvelopeWhy
why_in_head place = if place == 0 then Slash else if place == 8 then Dot else Address

-- The refusal is that of the first bad place of the head, 0 to 8 from the left.
abbrev pub IsHeadFault : List ℕ → EnvelopeRefusal → Type 0
IsHeadFault text r = IsFirstBad text (is_right_in_head text) why_in_head 0 9 r

-- The application's letters at 9 to 11: ADS or AFN.

-- The text is for the application with these letters.
abbrev pub IsFor : List ℕ → List ℕ → Type 0
IsFor imi text = slice_range text 9 12 ≡ imi

-- The text ends before its twelfth character, or its letters are those of no application.
abbrev pub IsImiFault : List ℕ → EnvelopeRefusal → Type 0
IsImiFault text r =
    ((length text < 12) × (r ≡ refused (length text) TooShort))
    ⊎ ((12 ≤ length text) × (IsFor (codes "ADS") text → ⊥) × (IsFor (codes "AFN") text → ⊥) × (r ≡ refused 9 Imi))

-- The registration at 12 to 18: a letter, digit or dash may stand at each place, and a dot at the first
-- and behind a dot, as if one stood before the first; seven dots are none.

-- The second character may stand behind the first in a registration.
abbrev pub may_follow : ℕ → ℕ → Bool
may_follow before c = is_mark_character c || ((c == 46) && (before == 46))

-- The text has a character at this place that may stand behind the one before it.
abbrev pub is_right_in_registration : List ℕ → ℕ → Bool
is_right_in_registration text place =
    may_follow (if place == 12 then 46 else slice_index text (place - 1)) (slice_index text place)

-- The cause of a wrong character at this place of the registration.
abbrev pub why_in_registration : ℕ → EnvelopeWhy
why_in_registration place = Registration

-- The refusal is that of the first bad place of the registration, from the left, or of seven dots.
abbrev pub IsRegistrationFault : List ℕ → EnvelopeRefusal → Type 0
IsRegistrationFault text r =
    IsFirstBad text (is_right_in_registration text) why_in_registration 12 19 r
    ⊎ ((slice_range text 12 19 ≡ codes ".......") × (r ≡ refused 18 Registration))

-- Hexadecimal digits: those of the payload from 19 on, and the last four.

-- A hexadecimal digit: 0 to 9, or a capital letter from A to F.
abbrev pub is_capital_digit : ℕ → Bool
is_capital_digit c = is_digit c || (nat_le 65 c && nat_le c 70)

-- The text has such a digit at this place.
abbrev pub is_right_digit : List ℕ → ℕ → Bool
is_right_digit text place = is_capital_digit (slice_index text place)

-- The refusal is that of the first wrong digit at the places 19 to 532, as far as they are there.
abbrev pub IsPayloadDigitFault : List ℕ → EnvelopeRefusal → Type 0
IsPayloadDigitFault text r = IsFirstWrong (is_right_digit text) Hex 19 (min 533 (length text)) r

-- An ADS text has 25 to 533 characters, and from 19 on an even number of them; the refusal says which of these it breaks.
abbrev pub IsPayloadSizeFault : List ℕ → EnvelopeRefusal → Type 0
IsPayloadSizeFault text r =
    ((533 < length text) × (r ≡ refused 533 TooLong))
    ⊎ (((length text < 25) × (r ≡ refused (length text) TooShort))
    ⊎ ((25 ≤ length text) × (length text ≤ 533) × ((length text - 19) % 2 ≡ 1) × (r ≡ refused (length text) Hex)))

-- An AFN text has 17 to 271 characters; the refusal says which end it misses.
abbrev pub IsTextSizeFault : List ℕ → EnvelopeRefusal → Type 0
IsTextSizeFault text r =
    ((length text < 17) × (r ≡ refused (length text) TooShort))
    ⊎ ((271 < length text) × (r ≡ refused 271 TooLong))

-- The refusal is that of the first wrong character from 12 on, up to the last four.
abbrev pub IsTextCharacterFault : List ℕ → EnvelopeRefusal → Type 0
IsTextCharacterFault text r =
    IsFirstWrong (λ place. is_text_character (slice_index text place)) Character 12 (length text - 4) r

-- The refusal is that of the first wrong digit among the last four.
abbrev pub IsTextDigitFault : List ℕ → EnvelopeRefusal → Type 0
IsTextDigitFault text r = IsFirstWrong (is_right_digit text) Hex (length text - 4) (length text) r

-- The last four digits are those of another code than the due one, and the refusal carries both.
pub record IsWrongCheck (text : List ℕ) (due : ℕ) (r : EnvelopeRefusal) : Type 0 where
  pub found : ℕ
  pub fits : found < 2 ^ 16
  pub digits : drop (length text - 4) text ≡ four_digits found
  pub other : found ≢ due
  pub refusal : r ≡ refused (length text - 4) (Check found due)

-- For ADS the check covers the letters, the registration and the octets whose digits stand before it.
abbrev pub IsPayloadCheckFault : List ℕ → EnvelopeRefusal → Type 0
IsPayloadCheckFault text r =
    (payload : List ℕ) × IsBytes payload × (slice_range text 19 (length text - 4) ≡ encode_upper payload)
    × IsWrongCheck text (check_of (codes "ADS" ++ slice_range text 12 19 ++ payload)) r

-- For AFN the check covers the letters and the characters that stand before it.
abbrev pub IsTextCheckFault : List ℕ → EnvelopeRefusal → Type 0
IsTextCheckFault text r = IsWrongCheck text (check_of (codes "AFN" ++ slice_range text 12 (length text - 4))) r

-- The rules for a text of the application ADS, in their order.
abbrev pub IsAdsFault : List ℕ → EnvelopeRefusal → Type 0
IsAdsFault text r =
    (IsRegistrationFault OrElse IsPayloadDigitFault OrElse IsPayloadSizeFault OrElse IsPayloadCheckFault) text r

-- The rules for a text of the application AFN, in their order.
abbrev pub IsAfnFault : List ℕ → EnvelopeRefusal → Type 0
IsAfnFault text r =
    (IsTextSizeFault OrElse IsTextCharacterFault OrElse IsTextDigitFault OrElse IsTextCheckFault) text r

-- The fault behind the letters, by the application.
abbrev pub IsBodyFault : List ℕ → EnvelopeRefusal → Type 0
IsBodyFault text r = (IsFor (codes "ADS") text × IsAdsFault text r) ⊎ (IsFor (codes "AFN") text × IsAfnFault text r)

-- The first bad place of a text: the head's, or else the letters', or else the body's.
abbrev pub IsFirstEnvelopeFault : List ℕ → EnvelopeRefusal → Type 0
IsFirstEnvelopeFault text r = (IsHeadFault OrElse IsImiFault OrElse IsBodyFault) text r
