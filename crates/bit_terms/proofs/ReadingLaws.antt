-- The laws of reading.
use Rattle.std.proofs.Common.{◌≡◌, ℕ, ◌+◌, ◌^◌, ◌<◌, ◌≤◌, List, ◌++◌, length, take, Bool, ℤ, Result, Ok, Err, refl, sym, ap, ap₂, ◌∙◌, subst, subst₂, inl, inr, ⊎_elim, ◌⊎◌, arith, lt-ltb, le-ltb, length-append, take-append-drop, length-take-le}
use Rattle.std.proofs.lemmas.List.{take_at, drop_at}
use Rattle.std.proofs.lemmas.Bool.{cases_lt}
use Rattle.bit_terms.specs.Bits.{unsigned_bits}
use Rattle.bit_terms.specs.Octets.{number_spelled}
use Rattle.bit_terms.specs.Signed.{twos_complement, signed_bits, FitsSigned, signed_of}
use Rattle.bit_terms.specs.Reading.{Unread, Takes, TakesSigned, after, taken, taken_signed, ◌>>=◌}
use Rattle.bit_terms.proofs.BitsLaws.{length-unsigned_bits}
use Rattle.bit_terms.proofs.OctetsLaws.{number_spelled-lt, number_spelled-unsigned_bits, unsigned_bits-number_spelled}
use Rattle.bit_terms.proofs.SignedLaws.{twos_complement-lt, FitsSigned-signed_of, signed_of-twos_complement, twos_complement-signed_of}

-- ---- joining

-- What two joined readings gave, each of the two gave.
pub bind_ok : {A B F : Type 0} (reading : Result A F) (next : A → Result B F) (y : B) → (reading >>= next) ≡ Ok y → (x : A) × (reading ≡ Ok x) × (next x ≡ Ok y)
bind_ok (Ok x) next y given = (x, refl, given)
bind_ok (Err refusal) next y given = cc

-- What two joined readings refused, the first refused, or the second after the first's value.
pub bind_err : {A B F : Type 0} (reading : Result A F) (next : A → Result B F) (refusal : F) → (reading >>= next) ≡ Err refusal
    → (reading ≡ Err refusal) ⊎ ((x : A) × (reading ≡ Ok x) × (next x ≡ Err refusal))
bind_err (Ok x) next refusal given = inr (x, refl, given)
bind_err (Err other) next refusal given = inl (cc)

-- Two answers that are one have one value.
pub ok_same : {A F : Type 0} (x y : A) → ◌≡◌ {A = Result A F} (Ok x) (Ok y) → x ≡ y
ok_same x y same = cc

-- Two answers that are one have one refusal.
pub err_same : {A F : Type 0} (x y : F) → ◌≡◌ {A = Result A F} (Err x) (Err y) → x ≡ y
err_same x y same = cc

-- A value is no refusal.
pub ok_is_no_err : {A F : Type 0} (x : A) (refusal : F) → Ok x ≡ Err refusal → ⊥
ok_is_no_err x refusal same = cc

-- ---- one field

-- What a field gives when enough bits are left, and when too few are.
pub taken_whole : (width : ℕ) (unread : Unread) → width ≤ length unread.left → taken width unread ≡ Ok (number_spelled (take width unread.left), after width unread)
unfolding taken
taken_whole width unread enough = rw (le-ltb (length unread.left) width enough) refl

pub taken_short : (width : ℕ) (unread : Unread) → length unread.left < width → taken width unread ≡ Err unread.at
unfolding taken
taken_short width unread few = rw (lt-ltb (length unread.left) width few) refl

-- A field that is there is taken.
pub taken_again : (width value at : ℕ) (rest : List Bool) → value < 2 ^ width
    → taken width (record { left = unsigned_bits width value ++ rest; at = at }) ≡ Ok (value, record { left = rest; at = at + width })
taken_again width value at rest fits =
    let size = length-unsigned_bits width value in
    let enough : width ≤ length (unsigned_bits width value ++ rest) = omega (arith, length-append (unsigned_bits width value) rest, size) in
    taken_whole width (record { left = unsigned_bits width value ++ rest; at = at }) enough
    ∙ ap₂ (λ front back. Ok (number_spelled front, record { left = back; at = at + width })) (take_at (unsigned_bits width value) rest width size) (drop_at (unsigned_bits width value) rest width size)
    ∙ ap (λ number. Ok (number, record { left = rest; at = at + width })) (number_spelled-unsigned_bits width value fits)

-- A field that was taken was there.
pub taken_takes : (width value : ℕ) (before now : Unread) → taken width before ≡ Ok (value, now) → Takes width value before now
taken_takes width value before now given = ⊎_elim short whole (cases_lt (length before.left) width)
  where
    short : length before.left < width → Takes width value before now
    short few = absurd (ok_is_no_err (value, now) before.at (sym given ∙ taken_short width before few))

    whole : width ≤ length before.left → Takes width value before now
    whole enough =
        let same = ok_same {F = ℕ} (number_spelled (take width before.left), after width before) (value, now) (sym (taken_whole width before enough) ∙ given) in
        let number : number_spelled (take width before.left) ≡ value = ap (λ x. x.0) same in
        let rest : after width before ≡ now = ap (λ x. x.1) same in
        let size : length (take width before.left) ≡ width = length-take-le width before.left enough in
        let front : unsigned_bits width value ≡ take width before.left =
        ap₂ unsigned_bits (sym size) (sym number) ∙ unsigned_bits-number_spelled (take width before.left) in
        record {
          fits = subst₂ (λ n w. n < 2 ^ w) number size (number_spelled-lt (take width before.left));
          bits = sym (take-append-drop width before.left) ∙ ap₂ (λ x y. x ++ y) (sym front) (ap (λ u. u.left) rest);
          place = sym (ap (λ u. u.at) rest);
        }

-- A refusal comes only where too few bits are left, and has the place of the field's first bit.
pub taken_refused : (width bit : ℕ) (before : Unread) → taken width before ≡ Err bit → (bit ≡ before.at) × (length before.left < width)
taken_refused width bit before given = ⊎_elim short whole (cases_lt (length before.left) width)
  where
    short : length before.left < width → (bit ≡ before.at) × (length before.left < width)
    short few = let same : Err before.at ≡ Err bit = sym (taken_short width before few) ∙ given in (cc, few)

    whole : width ≤ length before.left → (bit ≡ before.at) × (length before.left < width)
    whole enough = absurd (ok_is_no_err (number_spelled (take width before.left), after width before) bit (sym (taken_whole width before enough) ∙ given))

-- ---- one signed field

pub taken_signed_again : (width : ℕ) (value : ℤ) (at : ℕ) (rest : List Bool) → 1 ≤ width → FitsSigned width value
    → taken_signed width (record { left = signed_bits width value ++ rest; at = at }) ≡ Ok (value, record { left = rest; at = at + width })
taken_signed_again width value at rest some fits =
    rw (taken_again width (twos_complement width value) at rest (twos_complement-lt width value some fits))
    (ap (λ z. Ok (z, record { left = rest; at = at + width })) (signed_of-twos_complement width value some fits))

pub taken_signed_takes : (width : ℕ) (value : ℤ) (before now : Unread) → 1 ≤ width → taken_signed width before ≡ Ok (value, now) → TakesSigned width value before now
taken_signed_takes width value before now some given =
    let p = bind_ok (taken width before) (λ number. Ok (signed_of width number.0, number.1)) (value, now) given in
    let took = taken_takes width p.0.0 before p.0.1 p.1 in
    let same = ok_same {F = ℕ} (signed_of width p.0.0, p.0.1) (value, now) p.2 in
    let number : signed_of width p.0.0 ≡ value = ap (λ x. x.0) same in
    let rest : p.0.1 ≡ now = ap (λ x. x.1) same in
    record {
      fits = subst (FitsSigned width) number (FitsSigned-signed_of width p.0.0 some took.fits);
      bits = took.bits ∙ ap₂ (λ n u. unsigned_bits width n ++ u.left) (sym (twos_complement-signed_of width p.0.0 some took.fits) ∙ ap (twos_complement width) number) rest;
      place = sym (ap (λ u. u.at) rest) ∙ took.place;
    }

pub taken_signed_refused : (width bit : ℕ) (before : Unread) → taken_signed width before ≡ Err bit → (bit ≡ before.at) × (length before.left < width)
taken_signed_refused width bit before given = ⊎_elim first second (bind_err (taken width before) (λ number. Ok (signed_of width number.0, number.1)) bit given)
  where
    first : taken width before ≡ Err bit → (bit ≡ before.at) × (length before.left < width)
    first e = taken_refused width bit before e

    second : (x : ℕ × Unread) × (taken width before ≡ Ok x) × (◌≡◌ {A = Result (ℤ × Unread) ℕ} (Ok (signed_of width x.0, x.1)) (Err bit)) → (bit ≡ before.at) × (length before.left < width)
    second p = absurd (ok_is_no_err (signed_of width p.0.0, p.0.1) bit p.2)
