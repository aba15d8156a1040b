-- Reading as a function: it takes what is left to read, and answers the value with what is then left, or the first refusal (this project's profile).
-- Each function stands for one field or one message. `do` joins them, and the first refusal ends the reading.
use Rattle.std.specs.Prelude.{◌≡◌, ℕ, ◌+◌, ◌^◌, ◌<◌, ℤ, Bool, List, ◌++◌, length, take, drop, Result, Ok, Err, nat_lt, if◌then◌else◌}
use Rattle.bit_terms.specs.Bits.{unsigned_bits}
use Rattle.bit_terms.specs.Octets.{octets_bits, number_spelled}
use Rattle.bit_terms.specs.Signed.{signed_bits, FitsSigned, signed_of}

-- What is left to read: the bits that are left, and the place of the first of them, counted from 0 at the first bit of all.
pub record Unread : Type 0 where
  pub left : List Bool
  pub at : ℕ

-- All bits of these octets, unread.
abbrev pub all_unread : List ℕ → Unread
all_unread octets = record { left = octets_bits octets; at = 0 }

-- A number was taken from a field of this width: its bits stood next, and what is now left begins just past them.
pub record Takes (width value : ℕ) (old new : Unread) : Type 0 where
  pub fits : value < 2 ^ width
  pub bits : old.left ≡ unsigned_bits width value ++ new.left
  pub place : new.at ≡ old.at + width

-- The same of a signed number.
pub record TakesSigned (width : ℕ) (value : ℤ) (old new : Unread) : Type 0 where
  pub fits : FitsSigned width value
  pub bits : old.left ≡ signed_bits width value ++ new.left
  pub place : new.at ≡ old.at + width

-- Go on with what was read; a refusal ends the reading.
infixl 10 ◌>>=◌
abbrev pub ◌>>=◌ : {A B F : Type 0} → Result A F → (A → Result B F) → Result B F
(Ok x) >>= next = next x
(Err refusal) >>= next = Err refusal

-- The same reading, with its refusal told in the terms of the layer above.
abbrev pub refused_as : {A E F : Type 0} → (E → F) → Result A E → Result A F
refused_as tell (Ok x) = Ok x
refused_as tell (Err refusal) = Err (tell refusal)

-- What is left after `width` bits.
abbrev pub after : ℕ → Unread → Unread
after width unread = record { left = drop width unread.left; at = unread.at + width }

-- Taking a field of `width` bits: its number and what is left; where fewer bits are left, the place where the field begins.
unfoldable pub taken : ℕ → Unread → Result (ℕ × Unread) ℕ
taken width unread = if nat_lt (length unread.left) width then Err unread.at else Ok (number_spelled (take width unread.left), after width unread)

-- Taking a signed field of `width` bits.
abbrev pub taken_signed : ℕ → Unread → Result (ℤ × Unread) ℕ
taken_signed width unread = do
  number ← taken width unread
  Ok (signed_of width number.0, number.1)

-- A call of a reader did what this reading says. Where the call answered a value, the reading gives that value, seen by `view`, and what is then left;
-- where the call refused, the reading gives that refusal, told by `tell`.
abbrev pub Gives : {X Y E F : Type 0} → (X → Y) → (E → F) → Result X E → Unread → Result (Y × Unread) F → Type 0
Gives view tell (Ok x) left reading = reading ≡ Ok (view x, left)
Gives view tell (Err refusal) left reading = reading ≡ Err (tell refusal)
