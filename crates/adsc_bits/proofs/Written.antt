-- What the writer's steps do to the bits that are written: octets that are whole, and `count` more bits.
use Rattle.std.proofs.Common.{◌≡◌, ℕ, ◌+◌, ◌-◌, ◌*◌, ◌/◌, ◌%◌, ◌^◌, ◌<◌, ◌≤◌, List, [], ◌∷◌, ◌++◌, length, Bool, sym, ap, ap₂, ◌∙◌, arith, length-append, append_assoc, append-nil}
use Rattle.std.proofs.lemmas.List.{nil_from_length}
use Rattle.std.proofs.lemmas.Nat.{mul-add-lt, shr_below, pow-add, mod_below, pow_pos}
use Rattle.bit_terms.specs.Bits.{unsigned_bits}
use Rattle.bit_terms.specs.Octets.{octets_bits}
use Rattle.bit_terms.proofs.BitsLaws.{length-unsigned_bits, unsigned_bits-split, unsigned_bits-join, unsigned_bits-mod}
use Rattle.bit_terms.proofs.OctetsLaws.{length-octets_bits, octets_bits-append}

-- The length of what is written.
pub length_written : (items : List ℕ) (count pending : ℕ) (whole : List Bool) → octets_bits items ++ unsigned_bits count pending ≡ whole
    → length whole ≡ 8 * length items + count
length_written items count pending whole same =
    omega (arith, ap length same, length-append (octets_bits items) (unsigned_bits count pending), length-octets_bits items, length-unsigned_bits count pending)

-- A field joined to the bits after the last whole octet.
pub written_joined : (items : List ℕ) (filled partial value width : ℕ) (before : List Bool) → octets_bits items ++ unsigned_bits filled partial ≡ before
    → value < 2 ^ width → octets_bits items ++ unsigned_bits (filled + width) (partial * 2 ^ width + value) ≡ before ++ unsigned_bits width value
written_joined items filled partial value width before same fits =
    ap (λ bits. octets_bits items ++ bits) (unsigned_bits-join filled width partial value fits)
    ∙ sym (append_assoc (octets_bits items) (unsigned_bits filled partial) (unsigned_bits width value))
    ∙ ap (λ bits. bits ++ unsigned_bits width value) same

-- The first eight of the pending bits moved into an octet.
pub written_moved : (items : List ℕ) (count pending : ℕ) → 8 ≤ count
    → octets_bits (items ++ pending / 2 ^ (count - 8) ∷ []) ++ unsigned_bits (count - 8) (pending % 2 ^ (count - 8)) ≡ octets_bits items ++ unsigned_bits count pending
written_moved items count pending enough =
    let rest : ℕ = count - 8 in
    let octet : List ℕ = pending / 2 ^ rest ∷ [] in
    let split : unsigned_bits 8 (pending / 2 ^ rest) ++ unsigned_bits rest pending ≡ unsigned_bits count pending =
    sym (unsigned_bits-split 8 rest pending) ∙ ap (λ n. unsigned_bits n pending) (omega arith) in
    ap₂ (λ front back. front ++ back) (octets_bits-append items octet) (unsigned_bits-mod rest pending)
    ∙ append_assoc (octets_bits items) (octets_bits octet) (unsigned_bits rest pending)
    ∙ ap (λ bits. octets_bits items ++ bits) (ap (λ bits. bits ++ unsigned_bits rest pending) (append-nil (unsigned_bits 8 (pending / 2 ^ rest))) ∙ split)

-- Where whole octets are written, no bits are left over.
pub written_whole : (items : List ℕ) (filled partial : ℕ) (whole : List Bool) → octets_bits items ++ unsigned_bits filled partial ≡ whole
    → filled < 8 → length whole % 8 ≡ 0 → octets_bits items ≡ whole
written_whole items filled partial whole same few even =
    let none : filled ≡ 0 = omega (arith, length_written items filled partial whole same) in
    let empty : unsigned_bits filled partial ≡ [] = nil_from_length (unsigned_bits filled partial) (length-unsigned_bits filled partial ∙ none) in
    sym (append-nil (octets_bits items)) ∙ ap (λ bits. octets_bits items ++ bits) (sym empty) ∙ same

-- The joined number fits the joined field.
pub joined_below : (filled partial value width : ℕ) → partial < 2 ^ filled → value < 2 ^ width → partial * 2 ^ width + value < 2 ^ (filled + width)
joined_below filled partial value width below fits = omega (arith, mul-add-lt partial (2 ^ width) value (2 ^ filled) below fits, pow-add 2 filled width)

-- The first eight of the pending bits fit an octet.
pub moved_below : (count pending : ℕ) → 8 ≤ count → pending < 2 ^ count → pending / 2 ^ (count - 8) < 2 ^ 8
moved_below count pending enough below =
    let size : 2 ^ count ≡ 2 ^ (8 + (count - 8)) = ap (λ n. 2 ^ n) (omega arith) in
    shr_below pending 8 (count - 8) (omega (arith, size))

-- What is left of the pending bits fits the bits that are left.
pub rest_below : (rest pending : ℕ) → pending % 2 ^ rest < 2 ^ rest
rest_below rest pending = mod_below pending (2 ^ rest) (pow_pos rest)

-- A field of no bits writes nothing.
pub written_none : (before : List Bool) (count : ℕ) → count ≡ 0 → before ≡ before ++ unsigned_bits count 0
written_none before count none =
    sym (append-nil before) ∙ ap (λ bits. before ++ bits) (sym (nil_from_length (unsigned_bits count 0) (length-unsigned_bits count 0 ∙ none)))

-- The length after one more field.
pub length_with_field : (before after : List Bool) (width value : ℕ) → after ≡ before ++ unsigned_bits width value → length after ≡ length before + width
length_with_field before after width value same =
    ap length same ∙ length-append before (unsigned_bits width value) ∙ ap (λ n. length before + n) (length-unsigned_bits width value)
