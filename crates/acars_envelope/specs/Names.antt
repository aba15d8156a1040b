-- The names that a text bears: which characters an address, a registration and a flight identifier
-- are written in. The texts are those of ARINC 622; the lengths and the alphabets are this project's
-- profile.
use Rattle.std.specs.Prelude.{◌≡◌, ℕ, ◌-◌, ◌≤◌, nat_le, ◌==◌, ◌&&◌, ◌||◌, Bool, List, ◌++◌, length, replicate}
use Rattle.std.specs.List.{AllPass}

-- A capital letter, A to Z.
abbrev pub is_letter : ℕ → Bool
is_letter c = nat_le 65 c && nat_le c 90

-- A decimal digit, 0 to 9.
abbrev pub is_digit : ℕ → Bool
is_digit c = nat_le 48 c && nat_le c 57

-- A character of an address or of a flight identifier: a capital letter or a digit.
abbrev pub is_name_character : ℕ → Bool
is_name_character c = is_letter c || is_digit c

-- A character of a registration, the dots before it left aside: a capital letter, a digit or a dash.
abbrev pub is_mark_character : ℕ → Bool
is_mark_character c = is_name_character c || (c == 45)

-- An address is seven capital letters or digits.
pub record IsAddress (seven : List ℕ) : Type 0 where
  pub size : length seven ≡ 7
  pub characters : AllPass is_name_character seven

-- An aircraft's own mark, before it is filled up with dots: one to seven letters, digits or dashes.
pub record IsMark (mark : List ℕ) : Type 0 where
  pub some : 1 ≤ length mark
  pub few : length mark ≤ 7
  pub characters : AllPass is_mark_character mark

-- The mark with dots before it, seven characters in all.
abbrev pub with_dots : List ℕ → List ℕ
with_dots mark = replicate (7 - length mark) 46 ++ mark

-- A registration is some mark with dots before it.
pub record IsRegistration (seven : List ℕ) : Type 0 where
  pub mark : List ℕ
  pub is_mark : IsMark mark
  pub dotted : seven ≡ with_dots mark

-- A flight identifier is one to eight capital letters or digits.
pub record IsFlight (text : List ℕ) : Type 0 where
  pub some : 1 ≤ length text
  pub few : length text ≤ 8
  pub characters : AllPass is_name_character text
