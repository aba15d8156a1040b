-- The rows of the table of faults, each by what stands at its place.
use Rattle.std.proofs.Common.{◌≡◌, ℕ, ◌+◌, ◌≤◌, List, [], ◌∷◌, ◌++◌, length, take, drop, Bool, true, false, ◌==◌, nat_lt, Option, Some, None, refl, arith, cond}
use Rattle.std.proofs.lemmas.Bool.Decides.{nat_tests}
use Rattle.std.specs.Prelude.{slice_index, int_lt}
use Rattle.adsc_requests.specs.Tables.{is_message_tag, signed_16, allows, data_size, field_size, value_reason, repeat_reason}
use Rattle.adsc_requests.specs.Contents.{Content, has_tag}
use Rattle.adsc_requests.specs.Grammar.{asks_nothing}
use Rattle.adsc_requests.specs.Faults.{Next, FirstMessage, Number, GroupOrMessage, Field, reason_at}

module _ (begun : ℕ) (m : Content) (t : ℕ) (octets : List ℕ) where
  pub row_repeat : allows m.tag t ≡ true → has_tag t m.groups ≡ true → reason_at (GroupOrMessage begun m) (t ∷ octets) ≡ Some (repeat_reason t)
  unfolding reason_at
  row_repeat allowed has = rw (allowed, has) refl

  pub row_group : allows m.tag t ≡ true → has_tag t m.groups ≡ false → reason_at (GroupOrMessage begun m) (t ∷ octets) ≡ None
  unfolding reason_at
  row_group allowed new = rw (allowed, new) refl

  pub row_nothing : allows m.tag t ≡ false → is_message_tag t ≡ true → asks_nothing m ≡ true → reason_at (GroupOrMessage begun m) (t ∷ octets) ≡ Some 3
  unfolding reason_at
  row_nothing no_group known nothing = rw (no_group, known, nothing) refl

  pub row_fifth : allows m.tag t ≡ false → is_message_tag t ≡ true → asks_nothing m ≡ false → (begun == 4) ≡ true → reason_at (GroupOrMessage begun m) (t ∷ octets) ≡ Some 8
  unfolding reason_at
  row_fifth no_group known asks four = rw (no_group, known, asks, four) refl

  pub row_message : allows m.tag t ≡ false → is_message_tag t ≡ true → asks_nothing m ≡ false → (begun == 4) ≡ false → reason_at (GroupOrMessage begun m) (t ∷ octets) ≡ None
  unfolding reason_at
  row_message no_group known asks not_four = rw (no_group, known, asks, not_four) refl

  pub row_stranger : allows m.tag t ≡ false → is_message_tag t ≡ false → reason_at (GroupOrMessage begun m) (t ∷ octets) ≡ Some 7
  unfolding reason_at
  row_stranger no_group other = rw (no_group, other) refl

module _ (begun : ℕ) (m : Content) where
  pub row_end_nothing : asks_nothing m ≡ true → reason_at (GroupOrMessage begun m) [] ≡ Some 3
  unfolding reason_at
  row_end_nothing nothing = rw nothing refl

  pub row_end : asks_nothing m ≡ false → reason_at (GroupOrMessage begun m) [] ≡ None
  unfolding reason_at
  row_end asks = rw asks refl

module _ (m : Content) (t : ℕ) (fields rest : List ℕ) where
  pub row_cut : nat_lt (length rest) (field_size t) ≡ true → reason_at (Field m t fields) rest ≡ Some 9
  unfolding reason_at
  row_cut cut = rw cut refl

  pub row_value : nat_lt (length rest) (field_size t) ≡ false → (length fields + field_size t == data_size t) ≡ true
      → reason_at (Field m t fields) rest ≡ value_reason t (fields ++ take (field_size t) rest)
  unfolding reason_at
  row_value there last = rw (there, last) refl

  pub row_field : nat_lt (length rest) (field_size t) ≡ false → (length fields + field_size t == data_size t) ≡ false
      → reason_at (Field m t fields) rest ≡ None
  unfolding reason_at
  row_field there more = rw (there, more) refl

pub number_row : (t : ℕ) → reason_at (Number t) [] ≡ Some 9
unfolding reason_at
number_row t = refl

-- ---- the reasons that the table gives

record InRange (o : Option ℕ) : Type 0 where
  in_range : (r : ℕ) → o ≡ Some r → (1 ≤ r) × (r ≤ 13)

none : InRange None
none = record { in_range = λ r e. cc }

same_some : (a b : ℕ) → Some a ≡ Some b → a ≡ b
same_some a b e = cc

some : (r : ℕ) → 1 ≤ r → r ≤ 13 → InRange (Some r)
some r low high = record { in_range = λ s e. let same : r ≡ s = same_some r s e in (omega arith, omega arith) }

when : (b : Bool) {x y : Option ℕ} → InRange x → InRange y → InRange (cond b x y)
when true p q = p
when false p q = q

value_range : (t : ℕ) (octets : List ℕ) → InRange (value_reason t octets)
unfolding value_reason
value_range t octets =
    when (t == 10) (when (slice_index octets 0 == 0) (some 13 (omega arith) (omega arith)) none)
    (when (t == 18) (when (slice_index octets 0 == 0) (some 11 (omega arith) (omega arith)) none)
    (when (t == 19) (when (int_lt (signed_16 (drop 2 octets)) (signed_16 (take 2 octets))) none (some 10 (omega arith) (omega arith)))
    (when (t == 21) (when (slice_index octets 1 == 0) (some 12 (omega arith) (omega arith)) none) none)))

repeat_range : (t : ℕ) → InRange (Some (repeat_reason t))
unfolding repeat_reason
repeat_range t = some _ (grind (arith, nat_tests)) (grind (arith, nat_tests))

nine : InRange (Some 9)
nine = some 9 (omega arith) (omega arith)

seven : InRange (Some 7)
seven = some 7 (omega arith) (omega arith)

table_range : (next : Next) (rest : List ℕ) → InRange (reason_at next rest)
unfolding reason_at
table_range FirstMessage [] = nine
table_range FirstMessage (t ∷ rest) = when (is_message_tag t) none seven
table_range (Number tag) [] = nine
table_range (Number tag) (n ∷ rest) = none
table_range (GroupOrMessage begun m) [] = when (asks_nothing m) (some 3 (omega arith) (omega arith)) none
table_range (GroupOrMessage begun m) (t ∷ rest) =
    when (allows m.tag t) (when (has_tag t m.groups) (repeat_range t) none)
    (when (is_message_tag t)
    (when (asks_nothing m) (some 3 (omega arith) (omega arith)) (when (begun == 4) (some 8 (omega arith) (omega arith)) none)) seven)
table_range (Field m tag fields) rest =
    when (nat_lt (length rest) (field_size tag)) nine
    (when (length fields + field_size tag == data_size tag) (value_range tag (fields ++ take (field_size tag) rest)) none)

pub reason_range : (next : Next) (rest : List ℕ) (reason : ℕ) → reason_at next rest ≡ Some reason → (1 ≤ reason) × (reason ≤ 13)
reason_range next rest reason is = (table_range next rest).in_range reason is
