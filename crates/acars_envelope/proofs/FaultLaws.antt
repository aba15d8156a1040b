-- A text has one first bad place at most.
use Rattle.std.proofs.Common.{◌≡◌, ℕ, ◌-◌, ◌<◌, ◌≤◌, min, Bool, true, List, [], ◌++◌, length, drop, slice_index, inl, inr, refl, sym, ap, ◌∙◌, arith}
use Rattle.std.specs.Prelude.{codes}
use Rattle.std.specs.List.{slice_range}
use Rattle.std.proofs.lemmas.Bool.{cases_lt}
use Rattle.std.proofs.lemmas.List.{length-drop, length-take}
use Rattle.std.proofs.lemmas.List.Elements.{All-nil}
use Rattle.acars_envelope.specs.declared.refusal.EnvelopeRefusal.{EnvelopeRefusal}
use Rattle.acars_envelope.specs.declared.refusal.EnvelopeWhy.{EnvelopeWhy}
use Rattle.acars_envelope.specs.declared.refusal.EnvelopeWhy.TheVariants.{Hex, Character}
use Rattle.acars_envelope.specs.Bodies.{is_text_character}
use Rattle.acars_envelope.specs.Check.{check_of}
use Rattle.acars_envelope.specs.Faults.{IsAdsFault, IsAfnFault, IsBodyFault, IsFirstBad, IsFirstEnvelopeFault, IsFirstWrong, IsHeadFault, IsImiFault, IsPayloadCheckFault, IsPayloadDigitFault, IsPayloadSizeFault, IsRegistrationFault, IsTextCharacterFault, IsTextCheckFault, IsTextDigitFault, IsTextSizeFault, IsWrongCheck, is_right_digit, is_right_in_head, is_right_in_registration, why_in_head, why_in_registration, ◌OrElse◌}
use Rattle.acars_envelope.specs.Names.{is_mark_character}
use Rattle.acars_envelope.proofs.CapitalDigits.{same_octets}
use Rattle.acars_envelope.proofs.PassingLaws.{same_code, seven_places}
use Rattle.acars_envelope.proofs.RegistrationLaws.{no_first_bad}
use Rattle.acars_envelope.proofs.SealedLaws.{not_both}
use Rattle.acars_envelope.proofs.TextLaws.{cut}

-- a rule that names one refusal at most
abbrev IsOne : (List ℕ → EnvelopeRefusal → Type 0) → List ℕ → Type 0
IsOne Rule text = (r s : EnvelopeRefusal) → Rule text r → Rule text s → r ≡ s

one_or_else : (First Next : List ℕ → EnvelopeRefusal → Type 0) (text : List ℕ) → IsOne First text → IsOne Next text
    → IsOne (First OrElse Next) text
one_or_else First Next text first next r s (inl a) (inl b) = first r s a b
one_or_else First Next text first next r s (inl a) (inr (none, b)) = absurd (none r a)
one_or_else First Next text first next r s (inr (none, a)) (inl b) = absurd (none s b)
one_or_else First Next text first next r s (inr (_, a)) (inr (_, b)) = next r s a b

-- the first bad place isn't before another
bad_not_before : (text : List ℕ) (is_right : ℕ → Bool) (why : ℕ → EnvelopeWhy) (from to : ℕ) (r s : EnvelopeRefusal)
    (a : IsFirstBad text is_right why from to r) (b : IsFirstBad text is_right why from to s) → a.place < b.place → ⊥
bad_not_before text is_right why from to r s a b below =
    elim a.bad [
      | inl short ↦ elim b.bad [ inl other ↦ omega (arith, short.0, other.0, below) | inr other ↦ omega (arith, short.0, other.0, below) ]
      | inr wrong ↦ absurd (cc (b.before a.place a.from_on below, wrong.1))
    ]

one_first_bad : (text : List ℕ) (is_right : ℕ → Bool) (why : ℕ → EnvelopeWhy) (from to : ℕ) (r s : EnvelopeRefusal)
    → IsFirstBad text is_right why from to r → IsFirstBad text is_right why from to s → r ≡ s
one_first_bad text is_right why from to r s a b =
    elim (cases_lt a.place b.place) [
      | inl below ↦ absurd (bad_not_before text is_right why from to r s a b below)
      | inr above ↦
          elim (cases_lt b.place a.place) [
            | inl below ↦ absurd (bad_not_before text is_right why from to s r b a below)
            | inr under ↦
                let same : a.place ≡ b.place = omega (arith, above, under) in
                elim a.bad [
                  | inl short ↦ elim b.bad [ inl other ↦ cc (short.1, other.1, same) | inr other ↦ absurd (omega (arith, short.0, other.0, same)) ]
                  | inr wrong ↦ elim b.bad [ inl other ↦ absurd (omega (arith, wrong.0, other.0, same)) | inr other ↦ cc (wrong.2, other.2, same) ]
                ]
          ]
    ]

one_first_wrong : (is_right : ℕ → Bool) (why : EnvelopeWhy) (from to : ℕ) (r s : EnvelopeRefusal)
    → IsFirstWrong is_right why from to r → IsFirstWrong is_right why from to s → r ≡ s
one_first_wrong is_right why from to r s a b =
    elim (cases_lt a.place b.place) [
      | inl below ↦ absurd (cc (b.before a.place a.from_on below, a.wrong))
      | inr above ↦
          elim (cases_lt b.place a.place) [
            | inl below ↦ absurd (cc (a.before b.place b.from_on below, b.wrong))
            | inr under ↦
                let same : a.place ≡ b.place = omega (arith, above, under) in
                cc (a.refusal, b.refusal, same)
          ]
    ]

one_head : (text : List ℕ) → IsOne IsHeadFault text
one_head text r s a b = one_first_bad text (is_right_in_head text) why_in_head 0 9 r s a b

one_imi : (text : List ℕ) → IsOne IsImiFault text
one_imi text r s (inl a) (inl b) = a.1 ∙ sym b.1
one_imi text r s (inl a) (inr b) = absurd (omega (arith, a.0, b.0))
one_imi text r s (inr a) (inl b) = absurd (omega (arith, a.0, b.0))
one_imi text r s (inr a) (inr b) = a.3 ∙ sym b.3

-- seven dots have no bad place
dots_are_right : (text : List ℕ) (r : EnvelopeRefusal) → slice_range text 12 19 ≡ codes "......."
    → IsFirstBad text (is_right_in_registration text) why_in_registration 12 19 r → ⊥
dots_are_right text r dots bad =
    let passes : ℕ → Type 0 = λ c. is_mark_character c ≡ true in
    let there : 19 ≤ length text = omega (arith, ap length dots, length-take 7 (drop 12 text), length-drop 12 text) in
    let behind : drop 12 text ≡ codes "......." ++ drop 19 text = cut text 12 19 (omega arith) ∙ ap (λ (piece : List ℕ). piece ++ drop 19 text) dots in
    no_first_bad text (is_right_in_registration text) why_in_registration 12 19 there
    (seven_places text (codes ".......") (drop 19 text) 7 [] behind refl (All-nil passes) refl) r bad

one_registration : (text : List ℕ) → IsOne IsRegistrationFault text
one_registration text r s (inl a) (inl b) = one_first_bad text (is_right_in_registration text) why_in_registration 12 19 r s a b
one_registration text r s (inl a) (inr b) = absurd (dots_are_right text r b.0 a)
one_registration text r s (inr a) (inl b) = absurd (dots_are_right text s a.0 b)
one_registration text r s (inr a) (inr b) = a.1 ∙ sym b.1

one_payload_digit : (text : List ℕ) → IsOne IsPayloadDigitFault text
one_payload_digit text r s a b = one_first_wrong (is_right_digit text) Hex 19 (min 533 (length text)) r s a b

one_payload_size : (text : List ℕ) → IsOne IsPayloadSizeFault text
one_payload_size text r s (inl a) (inl b) = a.1 ∙ sym b.1
one_payload_size text r s (inl a) (inr (inl b)) = absurd (omega (arith, a.0, b.0))
one_payload_size text r s (inl a) (inr (inr b)) = absurd (omega (arith, a.0, b.1))
one_payload_size text r s (inr (inl a)) (inl b) = absurd (omega (arith, a.0, b.0))
one_payload_size text r s (inr (inl a)) (inr (inl b)) = a.1 ∙ sym b.1
one_payload_size text r s (inr (inl a)) (inr (inr b)) = absurd (omega (arith, a.0, b.0))
one_payload_size text r s (inr (inr a)) (inl b) = absurd (omega (arith, a.1, b.0))
one_payload_size text r s (inr (inr a)) (inr (inl b)) = absurd (omega (arith, a.0, b.0))
one_payload_size text r s (inr (inr a)) (inr (inr b)) = a.3 ∙ sym b.3

one_check : (text : List ℕ) (due : ℕ) (r s : EnvelopeRefusal) → IsWrongCheck text due r → IsWrongCheck text due s → r ≡ s
one_check text due r s a b =
    let found : a.found ≡ b.found = same_code a.found b.found a.fits b.fits (sym a.digits ∙ b.digits) in
    cc (a.refusal, b.refusal, found)

one_payload_check : (text : List ℕ) → IsOne IsPayloadCheckFault text
one_payload_check text r s (p, bytes_p, digits_p, a) (q, bytes_q, digits_q, b) =
    let same : p ≡ q = same_octets p q bytes_p bytes_q (sym digits_p ∙ digits_q) in
    one_check text (check_of (codes "ADS" ++ slice_range text 12 19 ++ q)) r s (rw same at a) b

one_ads : (text : List ℕ) → IsOne IsAdsFault text
one_ads text =
    one_or_else IsRegistrationFault (IsPayloadDigitFault OrElse IsPayloadSizeFault OrElse IsPayloadCheckFault) text (one_registration text)
    (one_or_else IsPayloadDigitFault (IsPayloadSizeFault OrElse IsPayloadCheckFault) text (one_payload_digit text)
    (one_or_else IsPayloadSizeFault IsPayloadCheckFault text (one_payload_size text) (one_payload_check text)))

one_text_size : (text : List ℕ) → IsOne IsTextSizeFault text
one_text_size text r s (inl a) (inl b) = a.1 ∙ sym b.1
one_text_size text r s (inl a) (inr b) = absurd (omega (arith, a.0, b.0))
one_text_size text r s (inr a) (inl b) = absurd (omega (arith, a.0, b.0))
one_text_size text r s (inr a) (inr b) = a.1 ∙ sym b.1

one_afn : (text : List ℕ) → IsOne IsAfnFault text
one_afn text =
    one_or_else IsTextSizeFault (IsTextCharacterFault OrElse IsTextDigitFault OrElse IsTextCheckFault) text (one_text_size text)
    (one_or_else IsTextCharacterFault (IsTextDigitFault OrElse IsTextCheckFault) text
    (one_first_wrong (λ place. is_text_character (slice_index text place)) Character 12 (length text - 4))
    (one_or_else IsTextDigitFault IsTextCheckFault text (one_first_wrong (is_right_digit text) Hex (length text - 4) (length text))
    (one_check text (check_of (codes "AFN" ++ slice_range text 12 (length text - 4))))))

one_body : (text : List ℕ) → IsOne IsBodyFault text
one_body text r s (inl a) (inl b) = one_ads text r s a.1 b.1
one_body text r s (inl a) (inr b) = absurd (not_both text a.0 b.0)
one_body text r s (inr a) (inl b) = absurd (not_both text b.0 a.0)
one_body text r s (inr a) (inr b) = one_afn text r s a.1 b.1

-- A text has one first bad place at most.
pub one_first_fault : (text : List ℕ) (r s : EnvelopeRefusal) → IsFirstEnvelopeFault text r → IsFirstEnvelopeFault text s → r ≡ s
one_first_fault text =
    one_or_else IsHeadFault (IsImiFault OrElse IsBodyFault) text (one_head text)
    (one_or_else IsImiFault IsBodyFault text (one_imi text) (one_body text))
