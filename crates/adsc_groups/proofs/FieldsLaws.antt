-- The laws of tables of fields: what reading gives is what is encoded, and a refusal is the first cut.
use Rattle.std.proofs.Common.{◌≡◌, ℕ, ◌+◌, ◌-◌, ◌^◌, ◌<◌, ◌≤◌, ℤ, pos, Bool, List, [], ◌∷◌, ◌++◌, length, take, drop, Ok, Err, refl, sym, ap, ap₂, ◌∙◌, subst, ⊎_elim, arith, append_assoc, length-append, length-drop}
use Rattle.bit_terms.specs.Bits.{unsigned_bits}
use Rattle.bit_terms.specs.Octets.{number_spelled}
use Rattle.bit_terms.specs.Signed.{signed_bits, FitsSigned, signed_of}
use Rattle.bit_terms.specs.Reading.{Unread, after, taken, taken_signed, ◌>>=◌}
use Rattle.bit_terms.proofs.BitsLaws.{length-unsigned_bits}
use Rattle.bit_terms.proofs.OctetsLaws.{number_spelled-lt, unsigned_bits-number_spelled}
use Rattle.bit_terms.proofs.SignedLaws.{length-signed_bits}
use Rattle.bit_terms.proofs.ReadingLaws.{bind_ok, bind_err, ok_same, ok_is_no_err, taken_whole, taken_short, taken_takes, taken_again, taken_refused, taken_signed_takes, taken_signed_again, taken_signed_refused}
use Rattle.adsc_groups.specs.Fields.{Field, width_of, size_of, EncodesField, Encodes, FitFields, fields_bits, IsFirstCut, field_at, fields_at}
use Rattle.adsc_groups.specs.Fields.Field.{number, signed, padding}

-- Each field has at least one bit.
abbrev pub AllWide : List Field → Type 0
AllWide [] = Unit {0}
AllWide (field ∷ fields) = (1 ≤ width_of field) × AllWide fields

-- ---- one field

-- What reading one field took.
record TakesField (field : Field) (values : List ℤ) (old new : Unread) : Type 0 where
  front : List Bool
  encoded : EncodesField field values front
  bits : old.left ≡ front ++ new.left
  place : new.at ≡ old.at + width_of field

field_takes : (field : Field) (values : List ℤ) (old new : Unread) → 1 ≤ width_of field → field_at field old ≡ Ok (values, new) → TakesField field values old new
field_takes (number width) values old new wide given =
    let p = bind_ok (taken width old) (λ n. Ok (pos n.0 ∷ [], n.1)) (values, new) given in
    let same = ok_same {F = ℕ} (pos p.0.0 ∷ [], p.0.1) (values, new) p.2 in
    let took = taken_takes width p.0.0 old p.0.1 p.1 in
    record {
      front = unsigned_bits width p.0.0;
      encoded = (p.0.0, took.fits, sym (ap (λ x. x.0) same), refl);
      bits = took.bits ∙ ap (λ x. unsigned_bits width p.0.0 ++ x.1.left) same;
      place = sym (ap (λ x. x.1.at) same) ∙ took.place;
    }
field_takes (signed width) values old new wide given =
    let p = bind_ok (taken_signed width old) (λ z. Ok (z.0 ∷ [], z.1)) (values, new) given in
    let same = ok_same {F = ℕ} (p.0.0 ∷ [], p.0.1) (values, new) p.2 in
    let took = taken_signed_takes width p.0.0 old p.0.1 wide p.1 in
    record {
      front = signed_bits width p.0.0;
      encoded = (p.0.0, took.fits, sym (ap (λ x. x.0) same), refl);
      bits = took.bits ∙ ap (λ x. signed_bits width p.0.0 ++ x.1.left) same;
      place = sym (ap (λ x. x.1.at) same) ∙ took.place;
    }
field_takes (padding width) values old new wide given =
    let p = bind_ok (taken width old) (λ n. Ok ([], n.1)) (values, new) given in
    let same = ok_same {F = ℕ} ([], p.0.1) (values, new) p.2 in
    let took = taken_takes width p.0.0 old p.0.1 p.1 in
    record {
      front = unsigned_bits width p.0.0;
      encoded = (sym (ap (λ x. x.0) same), length-unsigned_bits width p.0.0);
      bits = took.bits ∙ ap (λ x. unsigned_bits width p.0.0 ++ x.1.left) same;
      place = sym (ap (λ x. x.1.at) same) ∙ took.place;
    }

-- An encoded field is read again.
field_again : (field : Field) (values : List ℤ) (front rest : List Bool) (at : ℕ) → 1 ≤ width_of field → EncodesField field values front
    → field_at field (record { left = front ++ rest; at = at }) ≡ Ok (values, record { left = rest; at = at + width_of field })
field_again (number width) values front rest at wide encoded =
    ap (λ bits. field_at (number width) (record { left = bits ++ rest; at = at })) encoded.3
    ∙ ap (λ reading. reading >>= λ n. Ok (pos n.0 ∷ [], n.1)) (taken_again width encoded.0 at rest encoded.1)
    ∙ ap (λ xs. Ok (xs, record { left = rest; at = at + width })) (sym encoded.2)
field_again (signed width) values front rest at wide encoded =
    ap (λ bits. field_at (signed width) (record { left = bits ++ rest; at = at })) encoded.3
    ∙ ap (λ reading. reading >>= λ z. Ok (z.0 ∷ [], z.1)) (taken_signed_again width encoded.0 at rest wide encoded.1)
    ∙ ap (λ xs. Ok (xs, record { left = rest; at = at + width })) (sym encoded.2)
field_again (padding width) values front rest at wide encoded =
    let spelled : front ≡ unsigned_bits width (number_spelled front) = sym (unsigned_bits-number_spelled front) ∙ ap (λ w. unsigned_bits w (number_spelled front)) encoded.1 in
    let fits : number_spelled front < 2 ^ width = subst (λ w. number_spelled front < 2 ^ w) encoded.1 (number_spelled-lt front) in
    ap (λ bits. field_at (padding width) (record { left = bits ++ rest; at = at })) spelled
    ∙ ap (λ reading. reading >>= λ n. Ok ([], n.1)) (taken_again width (number_spelled front) at rest fits)
    ∙ ap (λ xs. Ok (xs, record { left = rest; at = at + width })) (sym encoded.0)

-- A field is refused only where it is cut, at its first bit.
field_refused : (field : Field) (old : Unread) (bit : ℕ) → field_at field old ≡ Err bit → (bit ≡ old.at) × (length old.left < width_of field)
field_refused (number width) old bit given = ⊎_elim (λ e. taken_refused width bit old e) (λ p. absurd (ok_is_no_err (pos p.0.0 ∷ [], p.0.1) bit p.2))
    (bind_err (taken width old) (λ n. Ok (pos n.0 ∷ [], n.1)) bit given)
field_refused (signed width) old bit given = ⊎_elim (λ e. taken_signed_refused width bit old e) (λ p. absurd (ok_is_no_err (p.0.0 ∷ [], p.0.1) bit p.2))
    (bind_err (taken_signed width old) (λ z. Ok (z.0 ∷ [], z.1)) bit given)
field_refused (padding width) old bit given = ⊎_elim (λ e. taken_refused width bit old e) (λ p. absurd (ok_is_no_err ([], p.0.1) bit p.2))
    (bind_err (taken width old) (λ n. Ok ([], n.1)) bit given)

-- A field that is cut is refused.
field_cut : (field : Field) (old : Unread) → length old.left < width_of field → field_at field old ≡ Err old.at
field_cut (number width) old few = rw (taken_short width old few) refl
field_cut (signed width) old few = rw (taken_short width old few) refl
field_cut (padding width) old few = rw (taken_short width old few) refl

-- A field that is wholly there is read.
field_whole : (field : Field) (old : Unread) → width_of field ≤ length old.left → (value : List ℤ) × (field_at field old ≡ Ok (value, after (width_of field) old))
field_whole (number width) old enough = (pos (number_spelled (take width old.left)) ∷ [], rw (taken_whole width old enough) refl)
field_whole (signed width) old enough = (signed_of width (number_spelled (take width old.left)) ∷ [], rw (taken_whole width old enough) refl)
field_whole (padding width) old enough = ([], rw (taken_whole width old enough) refl)

-- ---- a table of fields

-- An encoding is as long as the field, and as the fields together.
length-field : (field : Field) (value : List ℤ) (front : List Bool) → EncodesField field value front → length front ≡ width_of field
length-field (number width) value front p = ap length p.3 ∙ length-unsigned_bits width p.0
length-field (signed width) value front p = ap length p.3 ∙ length-signed_bits width p.0
length-field (padding width) value front p = p.1

pub length-encoding : (fields : List Field) (values : List ℤ) (bits : List Bool) → Encodes fields values bits → length bits ≡ size_of fields
length-encoding [] values bits encoded = ap length encoded.1
length-encoding (field ∷ fields) values bits encoded =
    let others = length-encoding fields encoded.1 encoded.3 encoded.7 in
    omega (arith, ap length encoded.5, length-append encoded.2 encoded.3, others, length-field field encoded.0 encoded.2 encoded.6)

-- What reading the fields took.
pub record TakesFields (fields : List Field) (values : List ℤ) (old new : Unread) : Type 0 where
  pub front : List Bool
  pub encoded : Encodes fields values front
  pub bits : old.left ≡ front ++ new.left
  pub place : new.at ≡ old.at + size_of fields

pub fields_take : (fields : List Field) (values : List ℤ) (old new : Unread) → AllWide fields → fields_at fields old ≡ Ok (values, new) → TakesFields fields values old new
unfolding fields_at
fields_take [] values old new wide given =
    let same = ok_same {F = ℕ} ([], old) (values, new) given in
    record {
      front = [];
      encoded = (sym (ap (λ x. x.0) same), refl);
      bits = ap (λ x. x.1.left) same;
      place = omega (arith, ap (λ x. x.1.at) same);
    }
fields_take (field ∷ fields) values old new wide given =
    let p = bind_ok (field_at field old) (λ value. fields_at fields value.1 >>= λ others. Ok (value.0 ++ others.0, others.1)) (values, new) given in
    let q = bind_ok (fields_at fields p.0.1) (λ others. Ok (p.0.0 ++ others.0, others.1)) (values, new) p.2 in
    let same = ok_same {F = ℕ} (p.0.0 ++ q.0.0, q.0.1) (values, new) q.2 in
    let first = field_takes field p.0.0 old p.0.1 wide.0 p.1 in
    let later = fields_take fields q.0.0 p.0.1 q.0.1 wide.1 q.1 in
    record {
      front = first.front ++ later.front;
      encoded = (p.0.0, q.0.0, first.front, later.front, sym (ap (λ x. x.0) same), refl, first.encoded, later.encoded);
      bits = first.bits ∙ ap (λ bits. first.front ++ bits) (later.bits ∙ ap (λ x. later.front ++ x.1.left) same) ∙ sym (append_assoc first.front later.front new.left);
      place = omega (arith, ap (λ x. x.1.at) same, first.place, later.place);
    }

-- Encoded fields are read again.
pub fields_again : (fields : List Field) (values : List ℤ) (bits rest : List Bool) (at : ℕ) → AllWide fields → Encodes fields values bits
    → fields_at fields (record { left = bits ++ rest; at = at }) ≡ Ok (values, record { left = rest; at = at + size_of fields })
unfolding fields_at
fields_again [] values bits rest at wide encoded =
    let none : [] ++ rest ≡ bits ++ rest = ap (λ front. front ++ rest) (sym encoded.1) in
    ap₂ (λ xs left. Ok (xs, record { left = left; at = at })) (sym encoded.0) (sym none)
    ∙ ap (λ place. Ok (values, record { left = rest; at = place })) (let e : at ≡ at + 0 = omega arith in e)
fields_again (field ∷ fields) values bits rest at wide encoded =
    let value : List ℤ = encoded.0 in
    let others : List ℤ = encoded.1 in
    let front : List Bool = encoded.2 in
    let back : List Bool = encoded.3 in
    let regrouped : bits ++ rest ≡ front ++ (back ++ rest) = ap (λ x. x ++ rest) encoded.5 ∙ append_assoc front back rest in
    let first = field_again field value front (back ++ rest) at wide.0 encoded.6 in
    let later = fields_again fields others back rest (at + width_of field) wide.1 encoded.7 in
    ap (λ left. fields_at (field ∷ fields) (record { left = left; at = at })) regrouped
    ∙ ap (λ reading. reading >>= λ v. fields_at fields v.1 >>= λ vs. Ok (v.0 ++ vs.0, vs.1)) first
    ∙ ap (λ reading. reading >>= λ vs. Ok (value ++ vs.0, vs.1)) later
    ∙ ap₂ (λ xs place. Ok (xs, record { left = rest; at = place })) (sym encoded.4) (let e : at + width_of field + size_of fields ≡ at + (width_of field + size_of fields) = omega arith in e)

-- A cut behind a field that was read is the first cut from that field on.
cut_behind : (field : Field) (fields : List Field) (value : List ℤ) (old new : Unread) (bit : ℕ) → 1 ≤ width_of field → field_at field old ≡ Ok (value, new)
    → IsFirstCut fields new bit → IsFirstCut (field ∷ fields) old bit
cut_behind field fields value old new bit wide one cut =
    let first = field_takes field value old new wide one in
    let size : length old.left ≡ length first.front + length new.left = ap length first.bits ∙ length-append first.front new.left in
    let front : length first.front ≡ width_of field = length-field field value first.front first.encoded in
    (field ∷ cut.0, cut.1, cut.2, ap (λ xs. field ∷ xs) cut.3, omega (arith, cut.4, first.place), omega (arith, cut.5, size, front), omega (arith, cut.6, size, front))

-- A refusal comes at the first cut.
pub fields_refused : (fields : List Field) (old : Unread) (bit : ℕ) → AllWide fields → fields_at fields old ≡ Err bit → IsFirstCut fields old bit
unfolding fields_at
fields_refused [] old bit wide given = absurd (ok_is_no_err ([], old) bit given)
fields_refused (field ∷ fields) old bit wide given =
    ⊎_elim (λ e. let p = field_refused field old bit e in ([], field, fields, refl, omega (arith, p.0), omega arith, omega (arith, p.1)))
    (λ p. ⊎_elim (λ e. cut_behind field fields p.0.0 old p.0.1 bit wide.0 p.1 (fields_refused fields p.0.1 bit wide.1 e))
    (λ q. absurd (ok_is_no_err (p.0.0 ++ q.0.0, q.0.1) bit q.2))
    (bind_err (fields_at fields p.0.1) (λ others. Ok (p.0.0 ++ others.0, others.1)) bit p.2))
    (bind_err (field_at field old) (λ value. fields_at fields value.1 >>= λ others. Ok (value.0 ++ others.0, others.1)) bit given)

-- At the first cut reading is refused.
cut_refused : (before : List Field) (field : Field) (behind : List Field) (old : Unread) → size_of before ≤ length old.left → length old.left < size_of before + width_of field
    → fields_at (before ++ field ∷ behind) old ≡ Err (old.at + size_of before)
unfolding fields_at
cut_refused [] field behind old enough few =
    rw (field_cut field old (omega arith)) (ap (λ bit. Err bit) (let e : old.at ≡ old.at + 0 = omega arith in e))
cut_refused (first ∷ before) field behind old enough few =
    let whole = field_whole first old (omega arith) in
    let left : length (drop (width_of first) old.left) ≡ length old.left - width_of first = length-drop (width_of first) old.left in
    let later = cut_refused before field behind (after (width_of first) old) (omega (arith, left)) (omega (arith, left)) in
    rw (whole.1, later) (ap (λ bit. Err bit) (let e : old.at + width_of first + size_of before ≡ old.at + (width_of first + size_of before) = omega arith in e))

pub first_cut_refused : (fields : List Field) (old : Unread) (bit : ℕ) → IsFirstCut fields old bit → fields_at fields old ≡ Err bit
first_cut_refused fields old bit cut =
    ap (λ xs. fields_at xs old) cut.3 ∙ cut_refused cut.0 cut.1 cut.2 old cut.5 cut.6 ∙ ap (λ place. Err place) (sym cut.4)

-- ---- the canonical encoding

-- The canonical encoding is an encoding.
pub canonical_encodes : (fields : List Field) (values : List ℤ) → FitFields fields values → Encodes fields values (fields_bits fields values)
canonical_encodes [] values fits = (fits, refl)
canonical_encodes (padding width ∷ fields) values fits =
    ([], values, unsigned_bits width 0, fields_bits fields values, refl, refl, (refl, length-unsigned_bits width 0), canonical_encodes fields values fits)
canonical_encodes (number width ∷ fields) values fits = canonical_number width fields values fits.0 fits.1 fits.2 fits.3 (canonical_encodes fields fits.1 fits.4)
  where
    canonical_number : (w : ℕ) (others : List Field) (all : List ℤ) (n : ℕ) (later : List ℤ) → n < 2 ^ w → all ≡ pos n ∷ later
        → Encodes others later (fields_bits others later) → Encodes (number w ∷ others) all (fields_bits (number w ∷ others) all)
    canonical_number w others all n later below same rest =
        (pos n ∷ [], later, unsigned_bits w n, fields_bits others later, same, ap (fields_bits (number w ∷ others)) same, (n, below, refl, refl), rest)
canonical_encodes (signed width ∷ fields) values fits = canonical_signed width fields values fits.0 fits.1 fits.2 fits.3 (canonical_encodes fields fits.1 fits.4)
  where
    canonical_signed : (w : ℕ) (others : List Field) (all : List ℤ) (z : ℤ) (later : List ℤ) → FitsSigned w z → all ≡ z ∷ later
        → Encodes others later (fields_bits others later) → Encodes (signed w ∷ others) all (fields_bits (signed w ∷ others) all)
    canonical_signed w others all z later within same rest =
        (z ∷ [], later, signed_bits w z, fields_bits others later, same, ap (fields_bits (signed w ∷ others)) same, (z, within, refl, refl), rest)

-- It is as long as the fields together.
pub length-fields_bits : (fields : List Field) (values : List ℤ) → FitFields fields values → length (fields_bits fields values) ≡ size_of fields
length-fields_bits fields values fits = length-encoding fields values (fields_bits fields values) (canonical_encodes fields values fits)
