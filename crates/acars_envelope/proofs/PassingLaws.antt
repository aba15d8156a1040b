-- An envelope's text passes each rule by which a first bad place is found.
use Rattle.std.proofs.Common.{◌≡◌, ◌≢◌, ℕ, zero, suc, ◌+◌, ◌-◌, ◌^◌, ◌<◌, ◌≤◌, ◌==◌, Bool, true, false, List, [], ◌∷◌, ◌++◌, length, drop, get_or, slice_index, replicate, inl, inr, refl, sym, ap, ◌∙◌, arith}
use Rattle.std.specs.Prelude.{codes}
use Rattle.std.specs.List.{AllPass, slice_range}
use Rattle.std.specs.Int.{from_be_bytes, to_be_bytes, w16}
use Rattle.std.proofs.lemmas.Nat.{from_be_bytes-to_be_bytes_2}
use Rattle.std.proofs.lemmas.Bool.{cases_lt, ne_eqb}
use Rattle.std.proofs.lemmas.List.{append_assoc, drop_at, drop-drop, get_or-drop, get_or-replicate, get_or_append_left, get_or_at, length-append, length-replicate, take_at}
use Rattle.hex.specs.Hex.{IsBytes, upper_digits}
use Rattle.hex.proofs.HexLemmas.{length-encode_with}
use Rattle.acars_envelope.specs.Faults.{AreRight, is_head_character, is_right_in_head, is_right_in_registration, may_follow}
use Rattle.acars_envelope.specs.Names.{IsAddress, IsMark, IsRegistration, is_mark_character, is_name_character, with_dots}
use Rattle.acars_envelope.specs.Texts.{four_digits}
use Rattle.acars_envelope.proofs.CapitalDigits.{same_octets}
use Rattle.acars_envelope.proofs.RegistrationLaws.{no_dot}

-- ---- the head

head_name : (place c : ℕ) → 1 ≤ place → place < 8 → is_name_character c ≡ true → is_head_character place c ≡ true
head_name place c some below name = rw (ne_eqb place 0 (omega arith), ne_eqb place 8 (omega arith)) name

-- the characters of an address and of the dot behind it
address_places : (address rest : List ℕ) (k : ℕ) → IsAddress address → k < 8
    → is_head_character (suc k) (slice_index (address ++ 46 ∷ rest) k) ≡ true
address_places address rest k is below =
    elim (cases_lt k 7) [
      | inl name ↦
          rw (get_or_append_left address (46 ∷ rest) 0 k (omega (arith, is.size)))
          (head_name (suc k) (slice_index address k) (omega arith) (omega arith) (is.characters k 0 (omega (arith, is.size))))
      | inr dot ↦
          let last : k ≡ 7 = omega arith in
          rw (last, get_or_at address 46 rest 0 7 is.size) refl
    ]

-- each place of the head of a text that begins with a slash, an address and a dot is right
pub head_places : (text address rest : List ℕ) → IsAddress address → text ≡ codes "/" ++ address ++ codes "." ++ rest
    → AreRight (is_right_in_head text) 0 9
head_places text address rest is spelled place from_on below =
    let joined : text ≡ 47 ∷ (address ++ 46 ∷ rest) =
    spelled ∙ ap (λ (xs : List ℕ). 47 ∷ xs) (append_assoc address (codes ".") rest) in
    rw joined (at place below)
  where
    at : (k : ℕ) → k < 9 → is_right_in_head (47 ∷ (address ++ 46 ∷ rest)) k ≡ true
    at zero near = refl
    at (suc k) near = address_places address rest k is (omega arith)

-- the text from place 9 on
pub behind_head : (text address rest : List ℕ) → IsAddress address → text ≡ codes "/" ++ address ++ codes "." ++ rest
    → drop 9 text ≡ rest
behind_head text address rest is spelled =
    rw spelled (drop_at (codes "/" ++ address ++ codes ".") rest 9 (omega (arith, is.size, length-append address (codes "."))))

-- ---- pieces

-- the piece of a text from a place on, where what stands from there on begins with it
pub piece_at : (text piece rest : List ℕ) (from to : ℕ) → drop from text ≡ piece ++ rest → length piece ≡ to - from
    → slice_range text from to ≡ piece
piece_at text piece rest from to behind size = rw behind (take_at piece rest (to - from) size)

-- and the text behind it
pub behind_piece : (text piece rest : List ℕ) (from to : ℕ) → from ≤ to → drop from text ≡ piece ++ rest → length piece ≡ to - from
    → drop to text ≡ rest
behind_piece text piece rest from to ordered behind size =
    let reached : from + (to - from) ≡ to = omega arith in
    ap (λ (n : ℕ). drop n text) (sym reached) ∙ sym (drop-drop (to - from) from text) ∙ ap (drop (to - from)) behind
    ∙ drop_at piece rest (to - from) size

-- a character of the piece
character_in : (text piece rest : List ℕ) (from k : ℕ) → drop from text ≡ piece ++ rest → k < length piece
    → slice_index text (from + k) ≡ slice_index piece k
character_in text piece rest from k behind near =
    sym (get_or-drop from text k 0) ∙ ap (λ (xs : List ℕ). slice_index xs k) behind ∙ get_or_append_left piece rest 0 k near

-- what each character of a piece passes is right at its places
pub AreRight-piece : (test : ℕ → Bool) (text piece rest : List ℕ) (from to : ℕ) → drop from text ≡ piece ++ rest
    → length piece ≡ to - from → AllPass test piece → AreRight (λ place. test (slice_index text place)) from to
AreRight-piece test text piece rest from to behind size pass place from_on below =
    let reached : place ≡ from + (place - from) = omega arith in
    let near : place - from < length piece = omega (arith, size) in
    rw (ap (slice_index text) reached, character_in text piece rest from (place - from) behind near) (pass (place - from) 0 near)

-- the address at places 1 to 7
pub address_at : (text address rest : List ℕ) → IsAddress address → text ≡ codes "/" ++ address ++ codes "." ++ rest
    → slice_range text 1 8 ≡ address
address_at text address rest is spelled =
    piece_at text address (codes "." ++ rest) 1 8 (ap (drop 1) spelled ∙ append_assoc address (codes ".") rest) is.size

-- ---- digits

-- the two octets of a code
pub code_bytes : (n : ℕ) → n < 2 ^ 16 → IsBytes (to_be_bytes w16 n)
code_bytes n fits zero = omega arith
code_bytes n fits (suc zero) = omega arith
code_bytes n fits (suc (suc i)) = omega arith

pub length-four_digits : (n : ℕ) → length (four_digits n) ≡ 4
length-four_digits n = length-encode_with upper_digits (to_be_bytes w16 n)

-- a code is told by its four digits
pub same_code : (m n : ℕ) → m < 2 ^ 16 → n < 2 ^ 16 → four_digits m ≡ four_digits n → m ≡ n
same_code m n fits_m fits_n same =
    sym (from_be_bytes-to_be_bytes_2 m fits_m)
    ∙ ap (from_be_bytes w16) (same_octets (to_be_bytes w16 m) (to_be_bytes w16 n) (code_bytes m fits_m) (code_bytes n fits_n) same)
    ∙ from_be_bytes-to_be_bytes_2 n fits_n

-- ---- the registration

-- each character of dots and a mark may follow the one before, a dot standing before the first
dots_then_mark : (dots before : ℕ) (mark : List ℕ) → AllPass is_mark_character mark → before ≡ 46
    → (k : ℕ) → k < length (replicate dots 46 ++ mark)
    → may_follow (get_or (before ∷ (replicate dots 46 ++ mark)) k 0) (get_or (replicate dots 46 ++ mark) k 0) ≡ true
dots_then_mark zero before mark pass dot k below = rw (pass k 0 below) refl
dots_then_mark (suc dots) before mark pass dot zero below = rw dot refl
dots_then_mark (suc dots) before mark pass dot (suc k) below = dots_then_mark dots 46 mark pass refl k (omega arith)

-- a place of the registration is right where its character may follow the one before
registration_place : (text registration rest : List ℕ) (k : ℕ) → drop 12 text ≡ registration ++ rest → k < length registration
    → may_follow (get_or (46 ∷ registration) k 0) (get_or registration k 0) ≡ true
    → is_right_in_registration text (12 + k) ≡ true
registration_place text registration rest zero behind near follows =
    rw (character_in text registration rest 12 0 behind near) follows
registration_place text registration rest (suc k) behind near follows =
    let other : (12 + suc k == 12) ≡ false = ne_eqb (12 + suc k) 12 (omega arith) in
    let back : 12 + suc k - 1 ≡ 12 + k = omega arith in
    rw (other, back, character_in text registration rest 12 (suc k) behind near, character_in text registration rest 12 k behind (omega arith)) follows

-- a registration has seven characters
pub length-registration : (registration : List ℕ) → IsRegistration registration → length registration ≡ 7
length-registration registration is =
    omega (arith, is.is_mark.few, ap length is.dotted, length-append (replicate (7 - length is.mark) 46) is.mark, length-replicate {A = ℕ} (7 - length is.mark) 46)

-- the places of seven characters, dots and then a mark's, are right
pub seven_places : (text seven rest : List ℕ) (dots : ℕ) (mark : List ℕ) → drop 12 text ≡ seven ++ rest → length seven ≡ 7
    → AllPass is_mark_character mark → seven ≡ replicate dots 46 ++ mark
    → AreRight (is_right_in_registration text) 12 19
seven_places text seven rest dots mark behind size pass joined place from_on below =
    let reached : place ≡ 12 + (place - 12) = omega arith in
    let follows : (k : ℕ) → k < length seven → may_follow (get_or (46 ∷ seven) k 0) (get_or seven k 0) ≡ true =
    rw joined (dots_then_mark dots 46 mark pass refl) in
    rw reached (registration_place text seven rest (place - 12) behind (omega (arith, size)) (follows (place - 12) (omega (arith, size))))

-- the places of a registration are right
pub registration_places : (text registration rest : List ℕ) → drop 12 text ≡ registration ++ rest → IsRegistration registration
    → AreRight (is_right_in_registration text) 12 19
registration_places text registration rest behind is =
    seven_places text registration rest (7 - length is.mark) is.mark behind (length-registration registration is) is.is_mark.characters is.dotted

-- and they aren't all dots
pub registration_has_mark : (registration : List ℕ) → IsRegistration registration → registration ≢ codes "......."
registration_has_mark registration is dots = marked is.mark is.is_mark (sym is.dotted ∙ dots)
  where
    marked : (mark : List ℕ) → IsMark mark → with_dots mark ≢ codes "......."
    marked [] good all = absurd (omega (arith, good.some))
    marked (x ∷ mark) good all =
        let passes : ℕ → Type 0 = λ c. is_mark_character c ≡ true in
        let first : get_or (with_dots (x ∷ mark)) (7 - length (x ∷ mark)) 0 ≡ x =
        get_or_at (replicate (7 - length (x ∷ mark)) 46) x mark 0 (7 - length (x ∷ mark)) (length-replicate {A = ℕ} (7 - length (x ∷ mark)) 46) in
        let dot : get_or (codes ".......") (7 - length (x ∷ mark)) 0 ≡ 46 =
        get_or-replicate 7 (7 - length (x ∷ mark)) 46 0 (omega (arith, good.few)) in
        no_dot x (good.characters 0 0 (omega arith)) (sym first ∙ ap (λ (xs : List ℕ). get_or xs (7 - length (x ∷ mark)) 0) all ∙ dot)
