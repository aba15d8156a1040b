-- The bytes that only a `U` line may have. This project's profile.
use Rattle.std.specs.Prelude.{◌≡◌, ℕ, ◌<◌, Bool, true, false, ◌==◌, ◌||◌, nat_lt, List, length, slice_index}

-- A quote, a carriage return, or a byte above 7E hexadecimal.
abbrev pub is_barred : ℕ → Bool
is_barred byte = (byte == 34) || (byte == 13) || nat_lt 0x7E byte

-- None of the bytes before the place is barred.
abbrev pub AreCleanBefore : List ℕ → ℕ → Type 0
AreCleanBefore line place = (k : ℕ) → k < place → is_barred (slice_index line k) ≡ false

-- No byte of the line is barred.
abbrev pub AreClean : List ℕ → Type 0
AreClean line = AreCleanBefore line (length line)

-- The first barred byte stands at the place.
pub record IsFirstBarred (line : List ℕ) (place : ℕ) : Type 0 where
  pub inside : place < length line
  pub barred : is_barred (slice_index line place) ≡ true
  pub before : AreCleanBefore line place
