-- The text of an envelope has no bad place.
use Rattle.std.proofs.Common.{◌≡◌, ℕ, ◌+◌, ◌-◌, ◌*◌, ◌^◌, ◌<◌, ◌≤◌, min, Bool, true, false, not, List, [], ◌++◌, length, drop, slice_index, replicate, map, inl, inr, refl, sym, ap, ◌∙◌, arith}
use Rattle.std.specs.Prelude.{codes}
use Rattle.std.specs.List.{AllPass, slice_range}
use Rattle.std.specs.Int.{to_be_bytes, w16}
use Rattle.std.proofs.lemmas.Bool.{and_parts, leb-true}
use Rattle.std.proofs.lemmas.List.{append-nil, append_assoc, length-append, length-drop, length-map, length-replicate}
use Rattle.std.proofs.lemmas.List.Elements.{All-append}
use Rattle.std.proofs.lemmas.List.Sums.{AllPass-from_list_all}
use Rattle.bit_terms.specs.Octets.{octets_bits}
use Rattle.bit_terms.proofs.OctetsLaws.{number_spelled-lt}
use Rattle.hex.specs.Hex.{IsBytes, encode_upper, upper_digits}
use Rattle.hex.proofs.HexLemmas.{length-encode_with}
use Rattle.acars_envelope.specs.declared.refusal.EnvelopeRefusal.{EnvelopeRefusal}
use Rattle.acars_envelope.specs.declared.refusal.EnvelopeWhy.TheVariants.{Hex, Character}
use Rattle.acars_envelope.specs.declared.texts.Body.{Body}
use Rattle.acars_envelope.specs.declared.texts.Body.TheVariants.{Ads, Afn}
use Rattle.acars_envelope.specs.Bodies.{HasItsForms, is_text_character, is_well_formed, written_body, covered_octets}
use Rattle.acars_envelope.specs.Check.{check_of, dividend, divided}
use Rattle.acars_envelope.specs.Faults.{AreRight, IsAdsFault, IsAfnFault, IsBodyFault, IsFirstEnvelopeFault, IsFor, IsImiFault, IsPayloadCheckFault, IsPayloadSizeFault, IsWrongCheck, is_capital_digit, is_right_digit, why_in_head, is_right_in_head, ◌OrElse◌}
use Rattle.acars_envelope.specs.Names.{IsAddress, IsRegistration}
use Rattle.acars_envelope.specs.Texts.{four_digits, sealed_text}
use Rattle.acars_envelope.proofs.DivisionLaws.{divided_leaves, length-add}
use Rattle.acars_envelope.proofs.CapitalDigits.{digits_are_capital, same_octets}
use Rattle.acars_envelope.proofs.PassingLaws.{AreRight-piece, behind_head, behind_piece, code_bytes, head_places, length-four_digits, length-registration, piece_at, registration_has_mark, registration_places, same_code}
use Rattle.acars_envelope.proofs.RegistrationLaws.{no_first_bad, no_first_wrong, no_registration_fault}

-- a check code has sixteen bits
pub check_of-lt : (octets : List ℕ) → check_of octets < 2 ^ 16
check_of-lt octets =
    let message = octets_bits octets in
    let size : length (dividend message) ≡ length message + 16 =
    length-add (message ++ replicate 16 false) (replicate 16 true)
    ∙ omega (arith, length-append message (replicate 16 false), length-replicate {A = Bool} 16 false) in
    let left = divided_leaves (length message) (dividend message) size in
    let bits : length (map not (divided (length message) (dividend message))) ≡ 16 =
    length-map (divided (length message) (dividend message)) not ∙ left.below in
    rw bits at (number_spelled-lt (map not (divided (length message) (dividend message))))

-- a text whose last four digits are those of the due code has no wrong check
no_wrong_check : (text : List ℕ) (due : ℕ) → due < 2 ^ 16 → drop (length text - 4) text ≡ four_digits due
    → (r : EnvelopeRefusal) → IsWrongCheck text due r → ⊥
no_wrong_check text due fits right r fault =
    fault.other (same_code fault.found due fault.fits fits (sym fault.digits ∙ right))

-- a text isn't for two applications
pub not_both : (text : List ℕ) → IsFor (codes "ADS") text → IsFor (codes "AFN") text → ⊥
not_both text ads afn =
    let second : 68 ≡ 70 = ap (λ (xs : List ℕ). slice_index xs 1) (sym ads ∙ afn) in
    omega (arith, second)

-- ---- ADS

-- what is known of an ADS text by its pieces
pub record AdsText (text registration payload : List ℕ) : Type 0 where
  pub registered : IsRegistration registration
  pub bytes : IsBytes payload
  pub some : 1 ≤ length payload
  pub few : length payload ≤ 255
  pub long : length text ≡ 23 + 2 * length payload
  pub letters : IsFor (codes "ADS") text
  pub twelve : drop 12 text ≡ registration ++ (encode_upper payload ++ four_digits (check_of (codes "ADS" ++ registration ++ payload)))
  pub seven : slice_range text 12 19 ≡ registration
  pub nineteen : drop 19 text ≡ encode_upper payload ++ four_digits (check_of (codes "ADS" ++ registration ++ payload))
  pub digits : slice_range text 19 (length text - 4) ≡ encode_upper payload
  pub last : drop (length text - 4) text ≡ four_digits (check_of (codes "ADS" ++ registration ++ payload))

pub ads_text : (text registration payload : List ℕ) → IsRegistration registration → IsBytes payload
    → 1 ≤ length payload → length payload ≤ 255
    → drop 9 text ≡ codes "ADS" ++ registration ++ encode_upper payload ++ four_digits (check_of (codes "ADS" ++ registration ++ payload))
    → AdsText text registration payload
ads_text text registration payload registered bytes some few spelled =
    let check = four_digits (check_of (codes "ADS" ++ registration ++ payload)) in
    let behind : drop 9 text ≡ codes "ADS" ++ (registration ++ (encode_upper payload ++ check)) =
    spelled ∙ append_assoc (codes "ADS" ++ registration) (encode_upper payload) check in
    let seven = length-registration registration registered in
    let twice : length (encode_upper payload) ≡ 2 * length payload = length-encode_with upper_digits payload in
    let four : length check ≡ 4 = length-four_digits (check_of (codes "ADS" ++ registration ++ payload)) in
    let long : length text ≡ 23 + 2 * length payload =
    omega (arith, length-drop 9 text, ap length behind, length-append registration (encode_upper payload ++ check), length-append (encode_upper payload) check, seven, twice, four) in
    let twelve = behind_piece text (codes "ADS") (registration ++ (encode_upper payload ++ check)) 9 12 (omega arith) behind refl in
    let nineteen = behind_piece text registration (encode_upper payload ++ check) 12 19 (omega arith) twelve seven in
    let room : length (encode_upper payload) ≡ length text - 4 - 19 = omega (arith, twice, long) in
    record {
      registered = registered;
      bytes = bytes;
      some = some;
      few = few;
      long = long;
      letters = piece_at text (codes "ADS") (registration ++ (encode_upper payload ++ check)) 9 12 behind refl;
      twelve = twelve;
      seven = piece_at text registration (encode_upper payload ++ check) 12 19 twelve seven;
      nineteen = nineteen;
      digits = piece_at text (encode_upper payload) check 19 (length text - 4) nineteen room;
      last = behind_piece text (encode_upper payload) check 19 (length text - 4) (omega (arith, long)) nineteen room;
    }

-- from place 19 on it has digits alone
ads_digits : (text registration payload : List ℕ) → AdsText text registration payload
    → AreRight (is_right_digit text) 19 (min 533 (length text))
ads_digits text registration payload is =
    let check = four_digits (check_of (codes "ADS" ++ registration ++ payload)) in
    let passes : ℕ → Type 0 = λ c. is_capital_digit c ≡ true in
    let whole : min 533 (length text) ≡ length text = omega (arith, is.long, is.few) in
    let size : length (encode_upper payload ++ check) ≡ length text - 19 = ap length (sym is.nineteen) ∙ length-drop 19 text in
    let all = AreRight-piece is_capital_digit text (encode_upper payload ++ check) [] 19 (length text)
    (is.nineteen ∙ sym (append-nil (encode_upper payload ++ check))) size
    (All-append passes (encode_upper payload) check (digits_are_capital payload is.bytes)
    (digits_are_capital (to_be_bytes w16 (check_of (codes "ADS" ++ registration ++ payload)))
    (code_bytes (check_of (codes "ADS" ++ registration ++ payload)) (check_of-lt (codes "ADS" ++ registration ++ payload))))) in
    rw whole all

-- and its size is right
ads_size : (text registration payload : List ℕ) → AdsText text registration payload
    → (r : EnvelopeRefusal) → IsPayloadSizeFault text r → ⊥
ads_size text registration payload is r (inl long) = omega (arith, is.long, is.few, long.0)
ads_size text registration payload is r (inr (inl short)) = omega (arith, is.long, is.some, short.0)
ads_size text registration payload is r (inr (inr odd)) = omega (arith, is.long, odd.2)

-- and its check
ads_check : (text registration payload : List ℕ) → AdsText text registration payload
    → (r : EnvelopeRefusal) → IsPayloadCheckFault text r → ⊥
ads_check text registration payload is r (octets, bytes, digits, wrong) =
    let same : octets ≡ payload = same_octets octets payload bytes is.bytes (sym digits ∙ is.digits) in
    no_wrong_check text (check_of (codes "ADS" ++ registration ++ payload)) (check_of-lt (codes "ADS" ++ registration ++ payload)) is.last r
    (rw (is.seven, same) at wrong)

ads_none : (text registration payload : List ℕ) → AdsText text registration payload → (r : EnvelopeRefusal) → IsAdsFault text r → ⊥
ads_none text registration payload is r (inl registered) =
    no_registration_fault text (omega (arith, is.long)) (registration_places text registration _ is.twelve is.registered)
    (rw is.seven (registration_has_mark registration is.registered)) r registered
ads_none text registration payload is r (inr (_, inl digit)) =
    no_first_wrong (is_right_digit text) Hex 19 (min 533 (length text)) (ads_digits text registration payload is) r digit
ads_none text registration payload is r (inr (_, inr (_, inl size))) = ads_size text registration payload is r size
ads_none text registration payload is r (inr (_, inr (_, inr (_, check)))) = ads_check text registration payload is r check

-- ---- AFN

-- what is known of an AFN text by its pieces
pub record AfnText (text characters : List ℕ) : Type 0 where
  pub passes : AllPass is_text_character characters
  pub some : 1 ≤ length characters
  pub few : length characters ≤ 255
  pub long : length text ≡ 16 + length characters
  pub letters : IsFor (codes "AFN") text
  pub twelve : drop 12 text ≡ characters ++ four_digits (check_of (codes "AFN" ++ characters))
  pub piece : slice_range text 12 (length text - 4) ≡ characters
  pub last : drop (length text - 4) text ≡ four_digits (check_of (codes "AFN" ++ characters))

pub afn_text : (text characters : List ℕ) → AllPass is_text_character characters → 1 ≤ length characters → length characters ≤ 255
    → drop 9 text ≡ codes "AFN" ++ characters ++ four_digits (check_of (codes "AFN" ++ characters))
    → AfnText text characters
afn_text text characters passes some few spelled =
    let check = four_digits (check_of (codes "AFN" ++ characters)) in
    let four : length check ≡ 4 = length-four_digits (check_of (codes "AFN" ++ characters)) in
    let long : length text ≡ 16 + length characters =
    omega (arith, length-drop 9 text, ap length spelled, length-append characters check, four) in
    let twelve = behind_piece text (codes "AFN") (characters ++ check) 9 12 (omega arith) spelled refl in
    let room : length characters ≡ length text - 4 - 12 = omega (arith, long) in
    record {
      passes = passes;
      some = some;
      few = few;
      long = long;
      letters = piece_at text (codes "AFN") (characters ++ check) 9 12 spelled refl;
      twelve = twelve;
      piece = piece_at text characters check 12 (length text - 4) twelve room;
      last = behind_piece text characters check 12 (length text - 4) (omega (arith, long)) twelve room;
    }

-- its last four characters are digits
afn_digits : (text characters : List ℕ) → AfnText text characters
    → AreRight (is_right_digit text) (length text - 4) (length text)
afn_digits text characters is =
    let due = check_of (codes "AFN" ++ characters) in
    let size : length (four_digits due) ≡ length text - (length text - 4) = omega (arith, length-four_digits due, is.long) in
    AreRight-piece is_capital_digit text (four_digits due) [] (length text - 4) (length text)
    (is.last ∙ sym (append-nil (four_digits due))) size
    (digits_are_capital (to_be_bytes w16 due) (code_bytes due (check_of-lt (codes "AFN" ++ characters))))

afn_none : (text characters : List ℕ) → AfnText text characters → (r : EnvelopeRefusal) → IsAfnFault text r → ⊥
afn_none text characters is r (inl (inl short)) = omega (arith, is.long, is.some, short.0)
afn_none text characters is r (inl (inr long)) = omega (arith, is.long, is.few, long.0)
afn_none text characters is r (inr (_, inl character)) =
    no_first_wrong (λ place. is_text_character (slice_index text place)) Character 12 (length text - 4)
    (AreRight-piece is_text_character text characters _ 12 (length text - 4) is.twelve (omega (arith, is.long)) is.passes) r character
afn_none text characters is r (inr (_, inr (_, inl digit))) =
    no_first_wrong (is_right_digit text) Hex (length text - 4) (length text) (afn_digits text characters is) r digit
afn_none text characters is r (inr (_, inr (_, inr (_, check)))) =
    no_wrong_check text (check_of (codes "AFN" ++ characters)) (check_of-lt (codes "AFN" ++ characters)) is.last r (rw is.piece at check)

-- ---- the whole

-- the letters and the body of a text that goes on behind the head as this body is written
body_none : (text : List ℕ) (body : Body) → HasItsForms body → is_well_formed body ≡ true
    → drop 9 text ≡ written_body body ++ four_digits (check_of (covered_octets body))
    → (r : EnvelopeRefusal) → (IsImiFault OrElse IsBodyFault) text r → ⊥
body_none text (Ads registration payload) forms sized spelled r fault =
    let parts = and_parts _ _ sized in
    let is = ads_text text registration payload.items forms.0 forms.1 (leb-true _ _ parts.0) (leb-true _ _ parts.1) spelled in
    elim fault [
      | inl (inl short) ↦ omega (arith, is.long, short.0)
      | inl (inr other) ↦ other.1 is.letters
      | inr (_, inl ads) ↦ ads_none text registration payload.items is r ads.1
      | inr (_, inr afn) ↦ not_both text is.letters afn.0
    ]
body_none text (Afn characters) forms sized spelled r fault =
    let parts = and_parts _ _ sized in
    let sizes = and_parts _ _ parts.0 in
    let is = afn_text text characters.items (AllPass-from_list_all is_text_character characters.items parts.1) (leb-true _ _ sizes.0) (leb-true _ _ sizes.1) spelled in
    elim fault [
      | inl (inl short) ↦ omega (arith, is.long, short.0)
      | inl (inr other) ↦ other.2 is.letters
      | inr (_, inl ads) ↦ not_both text ads.0 is.letters
      | inr (_, inr afn) ↦ afn_none text characters.items is r afn.1
    ]

-- the head is there
head_there : (text address : List ℕ) → IsAddress address → (rest : List ℕ) → text ≡ codes "/" ++ address ++ codes "." ++ rest → 9 ≤ length text
head_there text address named rest joined =
    omega (arith, ap length joined, length-append (address ++ codes ".") rest, length-append address (codes "."), named.size)

-- The text of an address and a body has no first bad place.
pub sealed_has_no_fault : (text address : List ℕ) (body : Body) → IsAddress address → HasItsForms body → is_well_formed body ≡ true
    → text ≡ sealed_text address body → (r : EnvelopeRefusal) → IsFirstEnvelopeFault text r → ⊥
sealed_has_no_fault text address body named forms sized spelled r fault =
    let joined : text ≡ codes "/" ++ address ++ codes "." ++ (written_body body ++ four_digits (check_of (covered_octets body))) =
    spelled ∙ append_assoc (codes "/" ++ address ++ codes ".") (written_body body) (four_digits (check_of (covered_octets body))) in
    let behind = behind_head text address _ named joined in
    elim fault [
      | inl head ↦
          no_first_bad text (is_right_in_head text) why_in_head 0 9 (head_there text address named _ joined) (head_places text address _ named joined) r head
      | inr (_, later) ↦ body_none text body forms sized behind r later
    ]
