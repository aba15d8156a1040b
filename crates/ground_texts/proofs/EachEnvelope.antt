-- Each text is an envelope's or has a first bad place: the rules, tried in their order, leave nothing out.
use Rattle.std.proofs.Common.{◌≡◌, ◌≢◌, ℕ, zero, suc, ◌+◌, ◌-◌, ◌*◌, ◌%◌, ◌^◌, ◌<◌, ◌≤◌, min, Bool, true, false, List, ◌∷◌, ◌++◌, length, drop, slice_index, ◌⊎◌, inl, inr, refl, sym, ap, ◌∙◌, arith}
use Rattle.std.specs.Prelude.{codes}
use Rattle.std.specs.Str.{bytes_eq}
use Rattle.std.specs.List.{AllPass, slice_range}
use Rattle.std.specs.Int.{from_be_bytes, w16}
use Rattle.std.proofs.lemmas.Bool.{cases_Bool, cases_eq, cases_lt, eqb-true, le-leb, ne_eqb}
use Rattle.std.proofs.lemmas.Bool.Decides.{not_from_Decides}
use Rattle.std.proofs.lemmas.List.{append_assoc, drop_more, length-drop, length-take, take_all}
use Rattle.std.proofs.lemmas.Nat.{be_bytes_2}
use Rattle.std.proofs.lemmas.Slice.Eq.{bytes_eq-Decides}
use Rattle.hex.specs.Hex.{IsBytes, encode_upper, upper_digits}
use Rattle.hex.proofs.HexLemmas.{length-encode_with}
use Rattle.acars_envelope.specs.declared.refusal.EnvelopeRefusal.{EnvelopeRefusal}
use Rattle.acars_envelope.specs.declared.refusal.EnvelopeWhy.{EnvelopeWhy}
use Rattle.acars_envelope.specs.declared.refusal.EnvelopeWhy.TheVariants.{Hex, Character, Imi, Registration, TooLong, TooShort, Check}
use Rattle.acars_envelope.specs.declared.texts.Body.{Body}
use Rattle.acars_envelope.specs.declared.texts.Body.TheVariants.{Ads, Afn}
use Rattle.acars_envelope.specs.declared.texts.Envelope.{Envelope}
use Rattle.acars_envelope.specs.Bodies.{HasItsForms, covered_octets, is_body_size, is_text_character, is_well_formed, written_body}
use Rattle.acars_envelope.specs.Check.{check_of}
use Rattle.acars_envelope.specs.Faults.{AreRight, IsAdsFault, IsAfnFault, IsBodyFault, IsFirstBad, IsFirstEnvelopeFault, IsFirstWrong, IsFor, IsHeadFault, IsImiFault, IsPayloadCheckFault, IsPayloadDigitFault, IsPayloadSizeFault, IsRegistrationFault, IsTextCharacterFault, IsTextCheckFault, IsTextDigitFault, IsTextSizeFault, IsWrongCheck, is_capital_digit, is_head_character, is_right_digit, is_right_in_head, is_right_in_registration, refused, why_in_head, why_in_registration, ◌OrElse◌}
use Rattle.acars_envelope.specs.Names.{IsAddress, IsRegistration, is_name_character}
use Rattle.acars_envelope.specs.Texts.{IsEnvelopeText, four_digits}
use Rattle.acars_envelope.proofs.CapitalDigits.{Octets, octets_of}
use Rattle.acars_envelope.proofs.RegistrationLaws.{AreRight-more, no_first_bad, no_first_wrong, no_registration_fault, registration_right}
use Rattle.acars_envelope.proofs.TextLaws.{AllPass-piece, ads_pieces, afn_pieces, characters_pass, cut}

-- ---- rules, one after the other

-- A rule names some refusal of the text.
abbrev Refuses : (List ℕ → EnvelopeRefusal → Type 0) → List ℕ → Type 0
Refuses Rule text = (r : EnvelopeRefusal) × Rule text r

-- A rule names no refusal of the text, of which this is known then.
abbrev Passes : (List ℕ → EnvelopeRefusal → Type 0) → List ℕ → Type 0 → Type 0
Passes Rule text Known = ((r : EnvelopeRefusal) → Rule text r → ⊥) × Known

-- What the next rule says is said behind the first.
go_on : {Known Found : Type 0} (First Next : List ℕ → EnvelopeRefusal → Type 0) (text : List ℕ) → Passes First text Known ⊎ Refuses First text
    → (Known → Found ⊎ Refuses Next text) → Found ⊎ Refuses (First OrElse Next) text
go_on First Next text (inr (r, fault)) next = inr (r, inl fault)
go_on First Next text (inl (none, known)) next =
    elim (next known) [
      | inl found ↦ inl found
      | inr fault ↦ inr (fault.0, inr (none, fault.1))
    ]

-- ---- the first place that isn't right

record Wrong (is_right : ℕ → Bool) (from to : ℕ) : Type 0 where
  place : ℕ
  from_on : from ≤ place
  within : place < to
  before : AreRight is_right from place
  wrong : is_right place ≡ false

-- All places are right, or there is a first that isn't.
right_or_wrong : (is_right : ℕ → Bool) (from to : ℕ) → AreRight is_right from to ⊎ Wrong is_right from to
right_or_wrong is_right from zero = inl (λ place from_on below. absurd (omega (arith, below)))
right_or_wrong is_right from (suc to) = one_more (right_or_wrong is_right from to)
  where
    one_more : AreRight is_right from to ⊎ Wrong is_right from to → AreRight is_right from (suc to) ⊎ Wrong is_right from (suc to)
    one_more (inr w) =
        inr (record { place = w.place; from_on = w.from_on; within = omega (arith, w.within); before = w.before; wrong = w.wrong })
    one_more (inl right) =
        elim (cases_lt to from) [
          | inl none ↦ inl (λ place from_on below. absurd (omega (arith, from_on, below, none)))
          | inr there ↦
              elim (cases_Bool (is_right to)) [
                | inl here ↦ inl (λ place from_on below. AreRight-more is_right from to right here place from_on (omega (arith, below)))
                | inr wrong ↦ inr (record { place = to; from_on = there; within = omega arith; before = right; wrong = wrong })
              ]
        ]

right_or_first_wrong : (is_right : ℕ → Bool) (why : EnvelopeWhy) (from to : ℕ)
    → (((r : EnvelopeRefusal) → IsFirstWrong is_right why from to r → ⊥) × AreRight is_right from to)
    ⊎ ((r : EnvelopeRefusal) × IsFirstWrong is_right why from to r)
right_or_first_wrong is_right why from to =
    elim (right_or_wrong is_right from to) [
      | inl right ↦ inl (no_first_wrong is_right why from to right, right)
      | inr w ↦
          inr (refused w.place why, record { place = w.place; from_on = w.from_on; within = w.within; before = w.before; wrong = w.wrong; refusal = refl })
    ]

-- The places are there and right, or there is a first bad one.
right_or_first_bad : (text : List ℕ) (is_right : ℕ → Bool) (why : ℕ → EnvelopeWhy) (from to : ℕ) → from ≤ length text
    → ((to ≤ length text) × AreRight is_right from to) ⊎ ((r : EnvelopeRefusal) × IsFirstBad text is_right why from to r)
right_or_first_bad text is_right why from to begun =
    elim (cases_lt (length text) to) [
      | inr there ↦
          elim (right_or_wrong is_right from to) [
            | inl right ↦ inl (there, right)
            | inr w ↦ inr (bad to w (omega (arith, w.within, there)) w.within)
          ]
      | inl short ↦
          elim (right_or_wrong is_right from (length text)) [
            | inl right ↦
                inr (refused (length text) TooShort, record { place = length text; from_on = begun; within = short; before = right; bad = inl (refl, refl) })
            | inr w ↦ inr (bad (length text) w w.within (omega (arith, w.within, short)))
          ]
    ]
  where
    bad : (end : ℕ) (w : Wrong is_right from end) → w.place < length text → w.place < to → (r : EnvelopeRefusal) × IsFirstBad text is_right why from to r
    bad end w there within = (
      refused w.place (why w.place),
      record { place = w.place; from_on = w.from_on; within = within; before = w.before; bad = inr (there, w.wrong, refl) },
    )

-- ---- the head

head : (text : List ℕ) → Passes IsHeadFault text ((9 ≤ length text) × AreRight (is_right_in_head text) 0 9) ⊎ Refuses IsHeadFault text
head text =
    elim (right_or_first_bad text (is_right_in_head text) why_in_head 0 9 (omega arith)) [
      | inl right ↦ inl (no_first_bad text (is_right_in_head text) why_in_head 0 9 right.0 right.1, right)
      | inr bad ↦ inr bad
    ]

name_in_head : (place c : ℕ) → 1 ≤ place → place < 8 → is_head_character place c ≡ true → is_name_character c ≡ true
name_in_head place c some below right = rw (ne_eqb place 0 (omega arith), ne_eqb place 8 (omega arith)) at right

-- The seven characters at 1 to 7 are an address.
address_in_head : (text : List ℕ) → 9 ≤ length text → AreRight (is_right_in_head text) 0 9 → IsAddress (slice_range text 1 8)
address_in_head text there right = record {
  size = omega (arith, length-take 7 (drop 1 text), length-drop 1 text, there);
  characters = AllPass-piece is_name_character text 1 8 (omega arith) (omega (arith, there))
      (λ place from_on below. name_in_head place (slice_index text place) from_on below (right place (omega arith) (omega (arith, below))));
}

-- The text is a slash, the address, a dot and the rest.
joined_head : (text : List ℕ) → 9 ≤ length text → AreRight (is_right_in_head text) 0 9
    → text ≡ codes "/" ++ slice_range text 1 8 ++ codes "." ++ drop 9 text
joined_head text there right =
    let slash : slice_index text 0 ≡ 47 = eqb-true (slice_index text 0) 47 (right 0 (omega arith) (omega arith)) in
    let dot : slice_index text 8 ≡ 46 = eqb-true (slice_index text 8) 46 (right 8 (omega arith) (omega arith)) in
    let first : text ≡ 47 ∷ drop 1 text = drop_more text 0 0 (omega (arith, there)) ∙ ap (λ (c : ℕ). c ∷ drop 1 text) slash in
    let last : drop 8 text ≡ 46 ∷ drop 9 text = drop_more text 8 0 there ∙ ap (λ (c : ℕ). c ∷ drop 9 text) dot in
    first ∙ ap (λ (xs : List ℕ). 47 ∷ xs)
    (cut text 1 8 (omega arith) ∙ ap (λ (xs : List ℕ). slice_range text 1 8 ++ xs) last
    ∙ sym (append_assoc (slice_range text 1 8) (codes ".") (drop 9 text)))

-- ---- the letters

same_or_other : (xs ys : List ℕ) → (xs ≡ ys) ⊎ (xs ≢ ys)
same_or_other xs ys =
    elim (cases_Bool (bytes_eq xs ys)) [
      | inl same ↦ inl ((bytes_eq-Decides xs ys).0 same)
      | inr other ↦ inr (not_from_Decides (bytes_eq xs ys) (bytes_eq-Decides xs ys) other)
    ]

-- The text is for one of the two applications.
abbrev IsForSome : List ℕ → Type 0
IsForSome text = IsFor (codes "ADS") text ⊎ IsFor (codes "AFN") text

no_imi_fault : (text : List ℕ) → 12 ≤ length text → IsForSome text → (r : EnvelopeRefusal) → IsImiFault text r → ⊥
no_imi_fault text long known r (inl short) = omega (arith, long, short.0)
no_imi_fault text long (inl ads) r (inr other) = other.1 ads
no_imi_fault text long (inr afn) r (inr other) = other.2 afn

letters : (text : List ℕ) → Passes IsImiFault text ((12 ≤ length text) × IsForSome text) ⊎ Refuses IsImiFault text
letters text =
    elim (cases_lt (length text) 12) [
      | inl short ↦ inr (refused (length text) TooShort, inl (short, refl))
      | inr long ↦
          elim (same_or_other (slice_range text 9 12) (codes "ADS")) [
            | inl ads ↦ inl (no_imi_fault text long (inl ads), (long, inl ads))
            | inr no_ads ↦
                elim (same_or_other (slice_range text 9 12) (codes "AFN")) [
                  | inl afn ↦ inl (no_imi_fault text long (inr afn), (long, inr afn))
                  | inr no_afn ↦ inr (refused 9 Imi, inr (long, no_ads, no_afn, refl))
                ]
          ]
    ]

-- ---- the last four digits

-- The code that four digits spell.
record Code (digits : List ℕ) : Type 0 where
  code : ℕ
  fits : code < 2 ^ 16
  spelled : digits ≡ four_digits code

code_of : (digits : List ℕ) → length digits ≡ 4 → AllPass is_capital_digit digits → Code digits
code_of digits four capital =
    let read = octets_of 0 digits (omega (arith, four)) capital in
    let two : length read.octets ≡ 2 =
    omega (arith, ap length read.written, length-encode_with upper_digits read.octets, four) in
    record {
      code = from_be_bytes w16 read.octets;
      fits = omega (arith, read.bytes 0, read.bytes 1);
      spelled = sym read.written ∙ ap encode_upper (sym (be_bytes_2 read.octets (from_be_bytes w16 read.octets) two read.bytes refl));
    }

last_digits : (text : List ℕ) → 4 ≤ length text → AreRight (is_right_digit text) (length text - 4) (length text) → Code (drop (length text - 4) text)
last_digits text long right =
    let size : length (drop (length text - 4) text) ≡ 4 = omega (arith, length-drop (length text - 4) text, long) in
    let whole : slice_range text (length text - 4) (length text) ≡ drop (length text - 4) text =
    take_all (length text - (length text - 4)) (drop (length text - 4) text) (omega (arith, size, long)) in
    code_of (drop (length text - 4) text) size
    (rw whole at (AllPass-piece is_capital_digit text (length text - 4) (length text) (omega arith) (omega arith) right))

due_or_other : (text : List ℕ) (due : ℕ) → Code (drop (length text - 4) text)
    → (drop (length text - 4) text ≡ four_digits due) ⊎ ((r : EnvelopeRefusal) × IsWrongCheck text due r)
due_or_other text due c =
    elim (cases_eq c.code due) [
      | inl same ↦ inl (c.spelled ∙ ap four_digits same)
      | inr other ↦
          inr (refused (length text - 4) (Check c.code due), record { found = c.code; fits = c.fits; digits = c.spelled; other = other; refusal = refl })
    ]

-- ---- ADS

-- The text goes on behind its head as some body is written.
abbrev HasBody : List ℕ → Type 0
HasBody text = (b : Body) × HasItsForms b × (is_well_formed b ≡ true) × (drop 9 text ≡ written_body b ++ four_digits (check_of (covered_octets b)))

registration : (text : List ℕ) → 12 ≤ length text
    → Passes IsRegistrationFault text ((19 ≤ length text) × IsRegistration (slice_range text 12 19)) ⊎ Refuses IsRegistrationFault text
registration text long =
    elim (right_or_first_bad text (is_right_in_registration text) why_in_registration 12 19 long) [
      | inr bad ↦ inr (bad.0, inl bad.1)
      | inl right ↦
          elim (same_or_other (slice_range text 12 19) (codes ".......")) [
            | inl dots ↦ inr (refused 18 Registration, inr (dots, refl))
            | inr some ↦ inl (no_registration_fault text right.0 right.1 some, (right.0, registration_right text right.0 right.1 some))
          ]
    ]

-- A payload's size can be that of a text of this length.
abbrev IsPayloadSize : List ℕ → Type 0
IsPayloadSize text = (25 ≤ length text) × (length text ≤ 533) × ((length text - 19) % 2 ≡ 0)

no_payload_size_fault : (text : List ℕ) → IsPayloadSize text → (r : EnvelopeRefusal) → IsPayloadSizeFault text r → ⊥
no_payload_size_fault text size r (inl long) = omega (arith, size.1, long.0)
no_payload_size_fault text size r (inr (inl short)) = omega (arith, size.0, short.0)
no_payload_size_fault text size r (inr (inr odd)) = omega (arith, size.2, odd.2)

payload_size : (text : List ℕ) → Passes IsPayloadSizeFault text (IsPayloadSize text) ⊎ Refuses IsPayloadSizeFault text
payload_size text =
    elim (cases_lt 533 (length text)) [
      | inl long ↦ inr (refused 533 TooLong, inl (long, refl))
      | inr few ↦
          elim (cases_lt (length text) 25) [
            | inl short ↦ inr (refused (length text) TooShort, inr (inl (short, refl)))
            | inr some ↦
                elim (cases_eq ((length text - 19) % 2) 0) [
                  | inl even ↦ inl (no_payload_size_fault text (some, few, even), (some, few, even))
                  | inr odd ↦ inr (refused (length text) Hex, inr (inr (some, few, omega (arith, odd), refl)))
                ]
          ]
    ]

body_size : (count : ℕ) → 1 ≤ count → count ≤ 255 → is_body_size count ≡ true
body_size count some few = rw (le-leb 1 count some, le-leb count 255 few) refl

-- The octets whose digits stand from 19 on up to the check.
record Payload (text : List ℕ) : Type 0 where
  octets : List ℕ
  bytes : IsBytes octets
  spelled : slice_range text 19 (length text - 4) ≡ encode_upper octets
  size : length text ≡ 23 + 2 * length octets

payload_of : (text : List ℕ) → 25 ≤ length text → Octets 0 (slice_range text 19 (length text - 4)) → Payload text
payload_of text some read = record {
  octets = read.octets;
  bytes = read.bytes;
  spelled = sym read.written;
  size = omega (arith, some, ap length read.written, length-encode_with upper_digits read.octets, length-take (length text - 4 - 19) (drop 19 text), length-drop 19 text);
}

read_payload : (text : List ℕ) → AreRight (is_right_digit text) 19 (min 533 (length text)) → IsPayloadSize text → Payload text
read_payload text digits size =
    payload_of text size.0
    (octets_of 0 (slice_range text 19 (length text - 4))
    (omega (arith, size.0, size.2, length-take (length text - 4 - 19) (drop 19 text), length-drop 19 text))
    (AllPass-piece is_capital_digit text 19 (length text - 4) (omega (arith, size.0)) (omega arith)
    (λ place from_on below. digits place from_on (omega (arith, below, size.1)))))

payload_body : (text : List ℕ) → IsFor (codes "ADS") text → IsRegistration (slice_range text 12 19) → Code (drop (length text - 4) text)
    → IsPayloadSize text → Payload text → HasBody text ⊎ Refuses IsPayloadCheckFault text
payload_body text is_for registered last size p =
    let due = check_of (codes "ADS" ++ slice_range text 12 19 ++ p.octets) in
    elim (due_or_other text due last) [
      | inl is_due ↦
          inl (
            Ads (slice_range text 12 19) (record { items = p.octets }),
            (registered, p.bytes),
            body_size (length p.octets) (omega (arith, p.size, size.0)) (omega (arith, p.size, size.1)),
            ads_pieces text (slice_range text 12 19) (encode_upper p.octets) (four_digits due) (omega (arith, size.0)) is_for refl p.spelled is_due,
          )
      | inr other ↦ inr (other.0, (p.octets, p.bytes, p.spelled, other.1))
    ]

ads_body : (text : List ℕ) → 12 ≤ length text → IsFor (codes "ADS") text → HasBody text ⊎ Refuses IsAdsFault text
ads_body text long is_for =
    go_on IsRegistrationFault (IsPayloadDigitFault OrElse IsPayloadSizeFault OrElse IsPayloadCheckFault) text (registration text long) (λ registered.
    go_on IsPayloadDigitFault (IsPayloadSizeFault OrElse IsPayloadCheckFault) text
    (right_or_first_wrong (is_right_digit text) Hex 19 (min 533 (length text))) (λ digits.
    go_on IsPayloadSizeFault IsPayloadCheckFault text (payload_size text) (λ size.
    payload_body text is_for registered.1
    (last_digits text (omega (arith, size.0)) (λ place from_on below. digits place (omega (arith, from_on, size.0)) (omega (arith, below, size.1))))
    size (read_payload text digits size))))

-- ---- AFN

no_text_size_fault : (text : List ℕ) → 17 ≤ length text → length text ≤ 271 → (r : EnvelopeRefusal) → IsTextSizeFault text r → ⊥
no_text_size_fault text some few r (inl short) = omega (arith, some, short.0)
no_text_size_fault text some few r (inr long) = omega (arith, few, long.0)

text_size : (text : List ℕ) → Passes IsTextSizeFault text ((17 ≤ length text) × (length text ≤ 271)) ⊎ Refuses IsTextSizeFault text
text_size text =
    elim (cases_lt (length text) 17) [
      | inl short ↦ inr (refused (length text) TooShort, inl (short, refl))
      | inr some ↦
          elim (cases_lt 271 (length text)) [
            | inl long ↦ inr (refused 271 TooLong, inr (long, refl))
            | inr few ↦ inl (no_text_size_fault text some few, (some, few))
          ]
    ]

text_body : (text : List ℕ) → IsFor (codes "AFN") text → 17 ≤ length text → length text ≤ 271
    → AreRight (λ place. is_text_character (slice_index text place)) 12 (length text - 4)
    → AreRight (is_right_digit text) (length text - 4) (length text) → HasBody text ⊎ Refuses IsTextCheckFault text
text_body text is_for some few characters digits =
    let piece = slice_range text 12 (length text - 4) in
    let due = check_of (codes "AFN" ++ slice_range text 12 (length text - 4)) in
    elim (due_or_other text due (last_digits text (omega (arith, some)) digits)) [
      | inl is_due ↦
          inl (Afn (record { items = piece }), tt, characters_pass text some few characters, afn_pieces text (four_digits due) (omega (arith, some)) is_for is_due)
      | inr other ↦ inr other
    ]

afn_body : (text : List ℕ) → IsFor (codes "AFN") text → HasBody text ⊎ Refuses IsAfnFault text
afn_body text is_for =
    go_on IsTextSizeFault (IsTextCharacterFault OrElse IsTextDigitFault OrElse IsTextCheckFault) text (text_size text) (λ size.
    go_on IsTextCharacterFault (IsTextDigitFault OrElse IsTextCheckFault) text
    (right_or_first_wrong (λ place. is_text_character (slice_index text place)) Character 12 (length text - 4)) (λ characters.
    go_on IsTextDigitFault IsTextCheckFault text (right_or_first_wrong (is_right_digit text) Hex (length text - 4) (length text)) (λ digits.
    text_body text is_for size.0 size.1 characters digits)))

-- ---- the whole

body_or_fault : (text : List ℕ) → 12 ≤ length text → IsForSome text → HasBody text ⊎ Refuses IsBodyFault text
body_or_fault text long (inl ads) =
    elim (ads_body text long ads) [
      | inl found ↦ inl found
      | inr fault ↦ inr (fault.0, inl (ads, fault.1))
    ]
body_or_fault text long (inr afn) =
    elim (afn_body text afn) [
      | inl found ↦ inl found
      | inr fault ↦ inr (fault.0, inr (afn, fault.1))
    ]

envelope_of : (text : List ℕ) → 9 ≤ length text → AreRight (is_right_in_head text) 0 9 → HasBody text → (e : Envelope) × IsEnvelopeText e text
envelope_of text there right (b, forms, sized, spelled) =
    let address = slice_range text 1 8 in
    let check = four_digits (check_of (covered_octets b)) in (
      record { address = address; body = b; well_formed = sized },
      record {
        address = address_in_head text there right;
        body = forms;
        spelled = joined_head text there right ∙ ap (λ (rest : List ℕ). codes "/" ++ address ++ codes "." ++ rest) spelled
            ∙ sym (append_assoc (codes "/" ++ address ++ codes ".") (written_body b) check);
      },
    )

-- Each text is an envelope's or has a first bad place.
pub envelope_or_fault : (text : List ℕ) → ((e : Envelope) × IsEnvelopeText e text) ⊎ ((r : EnvelopeRefusal) × IsFirstEnvelopeFault text r)
envelope_or_fault text =
    go_on IsHeadFault (IsImiFault OrElse IsBodyFault) text (head text) (λ right.
    elim (go_on IsImiFault IsBodyFault text (letters text) (λ known. body_or_fault text known.0 known.1)) [
      | inl found ↦ inl (envelope_of text right.0 right.1 found)
      | inr fault ↦ inr fault
    ])
