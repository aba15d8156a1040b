-- Each line is read in some way.
use Rattle.std.proofs.Common.{◌⊎◌, ℕ, ◌≤◌, List, length, drop, Option, Some, None, refl, inl, inr, arith}
use Rattle.adsc_io.specs.Limits.{max_line_bytes}
use Rattle.ground_texts.proofs.EachText.{each_text}
use Rattle.net_script.specs.Faults.{IsFirstLineFault}
use Rattle.net_script.specs.Fields.{field_at, fields_of}
use Rattle.net_script.specs.Letters.{HasLetter, letter_text}
use Rattle.net_script.specs.declared.letter.Letter.{Letter}
use Rattle.net_script.specs.declared.letter.Letter.TheVariants.{Aircraft, Ground}
use Rattle.net_script.specs.declared.line.ScriptLine.{ScriptLine}
use Rattle.net_script.specs.declared.line.ScriptLine.TheVariants as line
use Rattle.net_script.specs.declared.refusal.Code.{Code}
use Rattle.net_script.specs.declared.refusal.Code.TheVariants as code
use Rattle.net_script.proofs.Deciding.{IsDecided, decided_le, decided_or, decided_text}
use Rattle.net_script.proofs.EachLine.{each_line}
use Rattle.run_rules.specs.Places.{IsInPlace, IsMisplaced, IsMisplacedBy, head_letter}
use Rattle.run_rules.specs.Readings.{IsGoodLine, ReadsLine}
use Rattle.run_rules.specs.declared.reading.Reading.{Reading}
use Rattle.run_rules.specs.declared.reading.Reading.TheVariants.{Bad, Says, Brings}

-- ---- the place of a line

each_letter : (bytes : List ℕ) (letter : Letter) → IsDecided (HasLetter bytes letter)
each_letter bytes letter = decided_text (field_at (fields_of bytes) 0) (letter_text letter)

placed_in_head : (bytes : List ℕ) (letter : Letter) → HasLetter bytes letter → (found : Code) → IsMisplacedBy (Some letter) bytes found → ⊥
placed_in_head bytes letter has code.Head misplaced = misplaced has
placed_in_head bytes letter has found misplaced = misplaced

placed_behind : (bytes : List ℕ) → ¬ (HasLetter bytes Aircraft ⊎ HasLetter bytes Ground) → (found : Code) → IsMisplacedBy None bytes found → ⊥
placed_behind bytes neither code.Kind misplaced = neither misplaced
placed_behind bytes neither found misplaced = misplaced

-- A line is misplaced, or stands where it may.
each_place : (due : Option Letter) (bytes : List ℕ)
    → ((found : Code) × IsMisplacedBy due bytes found) ⊎ ((found : Code) → IsMisplacedBy due bytes found → ⊥)
each_place (Some letter) bytes = elim (each_letter bytes letter) [
  | inl has ↦ inr (placed_in_head bytes letter has)
  | inr none ↦ inl (code.Head, none)
]
each_place None bytes =
    elim (decided_or (HasLetter bytes Aircraft) (HasLetter bytes Ground) (each_letter bytes Aircraft) (each_letter bytes Ground)) [
      | inl either ↦ inl (code.Kind, either)
      | inr neither ↦ inr (placed_behind bytes neither)
    ]

-- ---- what a line is read as

-- The line is read in some way.
abbrev IsRead : ℕ → List ℕ → Type 0
IsRead number bytes = (reading : Reading) × ReadsLine number bytes reading

misplaced_read : (number : ℕ) (bytes : List ℕ) (found : Code) → length bytes ≤ max_line_bytes → IsMisplaced number bytes found → IsRead number bytes
misplaced_read number bytes found fits misplaced = at found misplaced
  where
    no_long : (due : Option Letter) → IsMisplacedBy due bytes code.Long → ⊥
    no_long (Some letter) misplaced = misplaced
    no_long None misplaced = misplaced

    at : (found : Code) → IsMisplaced number bytes found → IsRead number bytes
    at code.Long misplaced = absurd (no_long (head_letter number) misplaced)
    at found misplaced = (Bad found 0, (fits, inl (misplaced, refl)))

faulty_read : (number : ℕ) (bytes : List ℕ) (found : Code) (value : ℕ) → length bytes ≤ max_line_bytes → IsInPlace number bytes
    → IsFirstLineFault bytes found value → IsRead number bytes
faulty_read number bytes code.Long value fits placed fault = absurd fault.fault
faulty_read number bytes found value fits placed fault = (Bad found value, (fits, inr (placed, fault)))

good_read : (number : ℕ) (bytes : List ℕ) (value : ScriptLine) → IsGoodLine number bytes value → IsRead number bytes
good_read number bytes (line.U from) good = let text = each_text (drop from bytes) in (Brings text.0, (from, good, text.1))
good_read number bytes value good = (Says value, (good, tt))

placed_read : (number : ℕ) (bytes : List ℕ) → length bytes ≤ max_line_bytes → IsInPlace number bytes → IsRead number bytes
placed_read number bytes fits placed = elim (each_line bytes) [
  | inl says ↦ good_read number bytes says.0 (record { fits = fits; placed = placed; says = says.1 })
  | inr fault ↦ faulty_read number bytes fault.0 fault.1 fits placed fault.2
]

-- Each line is read in some way at its place.
pub each_reading : (number : ℕ) (bytes : List ℕ) → (reading : Reading) × ReadsLine number bytes reading
each_reading number bytes = elim (decided_le (length bytes) max_line_bytes) [
  | inl fits ↦ elim (each_place (head_letter number) bytes) [
    | inl misplaced ↦ misplaced_read number bytes misplaced.0 fits misplaced.1
    | inr placed ↦ placed_read number bytes fits placed
  ]
  | inr long ↦ (Bad code.Long max_line_bytes, (omega (arith, long), refl))
]
