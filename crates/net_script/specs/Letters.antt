-- The letters that begin the lines of a script. This project's profile.
use Rattle.std.specs.Prelude.{◌≡◌, ℕ, List, [], ◌∷◌}
use Rattle.net_script.specs.Fields.{field_at, fields_of}
use Rattle.net_script.specs.declared.letter.Letter.{Letter}
use Rattle.net_script.specs.declared.letter.Letter.TheVariants.{Aircraft, Ground, Sample, Time, Emergency, Logon, Uplink, Request, Cancel, Bring, Receive}

-- The letter's byte: A, G, S, T, E, L, U, C, K, B, R.
abbrev pub letter_code : Letter → ℕ
letter_code Aircraft = 65
letter_code Ground = 71
letter_code Sample = 83
letter_code Time = 84
letter_code Emergency = 69
letter_code Logon = 76
letter_code Uplink = 85
letter_code Request = 67
letter_code Cancel = 75
letter_code Bring = 66
letter_code Receive = 82

-- The letter as a field.
abbrev pub letter_text : Letter → List ℕ
letter_text letter = letter_code letter ∷ []

-- The line has this letter: it is field 0.
abbrev pub HasLetter : List ℕ → Letter → Type 0
HasLetter line letter = field_at (fields_of line) 0 ≡ letter_text letter
