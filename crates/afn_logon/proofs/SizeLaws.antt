-- A contact text and an answer text are short and printable, so that an envelope carries them.
use Rattle.std.proofs.Common.{◌≡◌, ℕ, zero, suc, ◌+◌, ◌-◌, ◌*◌, ◌/◌, ◌%◌, ◌≤◌, ◌<◌, Bool, true, false, List, [], ◌∷◌, ◌++◌, length, drop, flat_map, replicate, codes, Option, Some, None, refl, ap, arith, lit≤, length-append}
use Rattle.std.specs.Prelude.{nat_le, All}
use Rattle.std.specs.List.{AllPass, list_all}
use Rattle.std.specs.Int.{to_be_bytes, w32}
use Rattle.std.proofs.Math.Nat.{mul-le-mul_right}
use Rattle.std.proofs.lemmas.Bool.{and_from, le-leb}
use Rattle.std.proofs.lemmas.Bool.Decides.{nat_tests}
use Rattle.std.proofs.lemmas.List.{length-replicate}
use Rattle.std.proofs.lemmas.List.Elements.{All-append, All-cons, All-head, All-nil, All-tail}
use Rattle.std.proofs.lemmas.List.Sums.{AllPass-from_list_all, list_all-from_AllPass}
use Rattle.hex.specs.Hex.{IsBytes, upper_digits}
use Rattle.hex.proofs.HexLemmas.{length-encode_with}
use Rattle.acars_envelope.specs.Bodies.{is_body_size, is_text_character, is_well_formed}
use Rattle.acars_envelope.specs.Names.{IsFlight, IsRegistration, is_letter, is_name_character}
use Rattle.acars_envelope.specs.declared.texts.Body.TheVariants.{Afn}
use Rattle.acars_envelope.proofs.PrintableLaws.{within, name_is_printable, registration_is_printable, digits_are_printable}
use Rattle.afn_logon.specs.Contents.{PositionData, ApplicationData, ContactData, AnswerData, IsPosition, IsApplication, AreApplications, IsContact, IsAnswer}
use Rattle.afn_logon.specs.Texts.{airframe_text, answer_text, answered_text, clock_text, contact_text, either_text, minutes_text, offered_text, one_digit, position_text, three_digits, two_digits}

-- a piece of at most so many characters, all of them printable
pub record Piece (most : ℕ) (w : List ℕ) : Type 0 where
  pub few : length w ≤ most
  pub each : AllPass is_text_character w

joined : {n m : ℕ} {a b : List ℕ} → Piece n a → Piece m b → Piece (n + m) (a ++ b)
joined {a = a} {b = b} first second = record {
  few = omega (arith, length-append a b, first.few, second.few);
  each = All-append (λ c. is_text_character c ≡ true) a b first.each second.each;
}

written : (w : List ℕ) → list_all is_text_character w ≡ true → Piece (length w) w
written w printable = record { few = omega arith; each = AllPass-from_list_all is_text_character w printable }

one_character : (c : ℕ) → is_text_character c ≡ true → Piece 1 (c ∷ [])
one_character c printable = record {
  few = lit≤ tt;
  each = All-cons (λ c. is_text_character c ≡ true) c [] printable (All-nil (λ c. is_text_character c ≡ true));
}

one_piece : (n : ℕ) → n < 10 → Piece 1 (one_digit n)
one_piece n below = one_character (48 + n) (grind (arith, nat_tests))

two_piece : (n : ℕ) → n < 100 → Piece 2 (two_digits n)
two_piece n below = joined (one_piece (n / 10) (omega arith)) (one_piece (n % 10) (omega arith))

three_piece : (n : ℕ) → n < 1000 → Piece 3 (three_digits n)
three_piece n below = joined (one_piece (n / 100) (omega arith)) (two_piece (n % 100) (omega arith))

minutes_piece : (n : ℕ) → Piece 3 (minutes_text n)
minutes_piece n = joined (two_piece (n / 10 % 60) (omega arith)) (one_piece (n % 10) (omega arith))

either_piece : (a b : ℕ) (test : Bool) → is_text_character a ≡ true → is_text_character b ≡ true → Piece 1 (either_text a b test)
either_piece a b false first second = one_character a first
either_piece a b true first second = one_character b second

clock_piece : (v : ℕ) → v < 86400 → Piece 6 (clock_text v)
clock_piece v below =
    joined (joined (two_piece (v / 3600) (omega arith)) (two_piece (v / 60 % 60) (omega arith))) (two_piece (v % 60) (omega arith))

position_piece : (p : PositionData) → IsPosition p → Piece 13 (position_text p)
position_piece p is =
    joined
    (joined (joined (either_piece 78 83 p.south refl refl) (two_piece (p.lat / 600) (omega (arith, is.lat)))) (minutes_piece p.lat))
    (joined (joined (either_piece 69 87 p.west refl refl) (three_piece (p.lon / 600) (omega (arith, is.lon)))) (minutes_piece p.lon))

-- the octets of an address
address_bytes : (a : ℕ) → IsBytes (drop 1 (to_be_bytes w32 a))
address_bytes a zero = omega arith
address_bytes a (suc zero) = omega arith
address_bytes a (suc (suc zero)) = omega arith
address_bytes a (suc (suc (suc i))) = omega arith

airframe_piece : (o : Option ℕ) → Piece 6 (airframe_text o)
airframe_piece None = record { few = omega arith; each = All-nil (λ c. is_text_character c ≡ true) }
airframe_piece (Some a) = record {
  few = omega (arith, length-encode_with upper_digits (drop 1 (to_be_bytes w32 a)));
  each = digits_are_printable (drop 1 (to_be_bytes w32 a)) (address_bytes a);
}

flight_piece : (w : List ℕ) → IsFlight w → Piece 8 w
flight_piece w is = record { few = is.few; each = within is_name_character name_is_printable w is.characters }

length-registration : (w : List ℕ) → IsRegistration w → length w ≡ 7
length-registration w is =
    omega (arith, ap length is.dotted, length-append (replicate (7 - length is.mark) 46) is.mark, length-replicate {A = ℕ} (7 - length is.mark) 46, is.is_mark.few)

registration_piece : (w : List ℕ) → IsRegistration w → Piece 7 w
registration_piece w is = record { few = omega (arith, length-registration w is); each = registration_is_printable w is }

letter_is_printable : (c : ℕ) → is_letter c ≡ true → is_text_character c ≡ true
letter_is_printable c letter = grind (arith, nat_tests)

name_piece : {greatest : ℕ} (a : ApplicationData) → IsApplication greatest a → Piece 3 a.name
name_piece a is = record { few = omega (arith, is.three); each = within is_letter letter_is_printable a.name is.letters }

offered_piece : (a : ApplicationData) → IsApplication 99 a → Piece 10 (offered_text a)
offered_piece a is =
    joined (joined (joined (written (codes "/FCO") refl) (name_piece a is)) (written (codes ",") refl)) (two_piece a.number (omega (arith, is.number)))

answered_piece : (a : ApplicationData) → IsApplication 9 a → Piece 9 (answered_text a)
answered_piece a is =
    joined (joined (joined (written (codes "/FAR") refl) (name_piece a is)) (written (codes ",") refl)) (one_piece a.number (omega (arith, is.number)))

applications_piece : {greatest size : ℕ} (text : ApplicationData → List ℕ) → ((a : ApplicationData) → IsApplication greatest a → Piece size (text a))
    → (list : List ApplicationData) → All (IsApplication greatest) list → Piece (length list * size) (flat_map text list)
applications_piece text piece [] each = record { few = omega arith; each = All-nil (λ c. is_text_character c ≡ true) }
applications_piece {greatest} {size} text piece (a ∷ list) each =
    let first = piece a (All-head (IsApplication greatest) a list each) in
    let others = applications_piece text piece list (All-tail (IsApplication greatest) a list each) in
    let both = joined first others in
    let sum : length (a ∷ list) * size ≡ size + length list * size = grind arith in
    record { few = omega (arith, both.few, sum); each = both.each }

-- at most four applications
four : {greatest size : ℕ} (text : ApplicationData → List ℕ) → ((a : ApplicationData) → IsApplication greatest a → Piece size (text a))
    → (list : List ApplicationData) → AreApplications greatest list → Piece (4 * size) (flat_map text list)
four {greatest} {size} text piece list are =
    let all = applications_piece text piece list are.each in
    let most : length list * size ≤ 4 * size = mul-le-mul_right size are.few in
    record { few = omega (arith, all.few, most); each = all.each }

pub contact_piece : (c : ContactData) → IsContact c → Piece 93 (contact_text c)
unfolding contact_text
contact_piece c is =
    joined
    (joined
    (joined
    (joined
    (joined
    (joined
    (joined
    (joined
    (joined
    (joined
    (joined
    (joined (written (codes "/FMH") refl) (flight_piece c.flight is.flight))
    (written (codes ",") refl))
    (registration_piece c.registration is.registration))
    (written (codes ",") refl))
    (airframe_piece c.airframe))
    (written (codes ",") refl))
    (clock_piece c.clock is.clock))
    (written (codes "/FPO") refl))
    (position_piece c.position is.position))
    (written (codes ",") refl))
    (either_piece 48 49 c.active refl refl))
    (four offered_text offered_piece c.applications is.applications)

pub answer_piece : (a : AnswerData) → IsAnswer a → Piece 61 (answer_text a)
unfolding answer_text
answer_piece a is =
    joined
    (joined
    (joined
    (joined
    (joined
    (joined (written (codes "/FMH") refl) (flight_piece a.flight is.flight))
    (written (codes ",") refl))
    (registration_piece a.registration is.registration))
    (written (codes "/FAK") refl))
    (one_piece a.code (omega (arith, is.code))))
    (four answered_text answered_piece a.applications is.applications)

-- a piece with a character in it is the body of an envelope
carried : (w : List ℕ) (most : ℕ) → Piece most w → 1 ≤ length w → most ≤ 255 → is_well_formed (Afn (record { items = w })) ≡ true
carried w most piece some few =
    and_from (is_body_size (length w)) (list_all is_text_character w)
    (and_from (nat_le 1 (length w)) (nat_le (length w) 255) (le-leb 1 (length w) some) (le-leb (length w) 255 (omega (arith, piece.few))))
    (list_all-from_AllPass is_text_character w piece.each)

-- An envelope carries each contact text.
pub contact_is_carried : (c : ContactData) → IsContact c → is_well_formed (Afn (record { items = contact_text c })) ≡ true
unfolding contact_text
contact_is_carried c is = carried (contact_text c) 93 (contact_piece c is) (omega arith) (lit≤ tt)

-- An envelope carries each answer text.
pub answer_is_carried : (a : AnswerData) → IsAnswer a → is_well_formed (Afn (record { items = answer_text a })) ≡ true
unfolding answer_text
answer_is_carried a is = carried (answer_text a) 61 (answer_piece a is) (omega arith) (lit≤ tt)
