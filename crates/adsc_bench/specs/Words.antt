-- The words of the command line (this project's profile).
use Rattle.std.specs.Prelude.{◌≡◌, ◌⊎◌, ◌≤◌, ◌<◌, ℕ, ◌+◌, ◌^◌, List, [], ◌∷◌, codes, decimal}

-- the character of a digit
abbrev pub digit : ℕ → ℕ
digit value = 48 + value

-- `run N`, where N is one digit, 1 to 5: run a script on so many workers
abbrev pub AskForRun : ℕ → List (List ℕ) → Type 0
AskForRun workers words = (1 ≤ workers) × (workers ≤ 5) × (words ≡ codes "run" ∷ (digit workers ∷ []) ∷ [])

-- `show`: read texts and write what they say
abbrev pub AskForShow : List (List ℕ) → Type 0
AskForShow words = words ≡ codes "show" ∷ []

-- these two words are NUMBER, 0 to 4,294,967,295, and LINES, 3 to 200,000, both in decimal without a leading zero
pub record AreScript (number lines : ℕ) (first second : List ℕ) : Type 0 where
  pub inside : number < 2 ^ 32
  pub least : 3 ≤ lines
  pub most : lines ≤ 200000
  pub number_spelled : first ≡ decimal number
  pub lines_spelled : second ≡ decimal lines

-- `make NUMBER LINES`: make the script of this number with so many lines, and run it
abbrev pub AskForMake : ℕ → ℕ → List (List ℕ) → Type 0
AskForMake number lines words = (first : List ℕ) × (second : List ℕ) × AreScript number lines first second
    × (words ≡ codes "make" ∷ first ∷ second ∷ [])

-- the words are those of some command
abbrev pub IsListed : List (List ℕ) → Type 0
IsListed words = (((workers : ℕ) × AskForRun workers words) ⊎ AskForShow words) ⊎ ((number : ℕ) × (lines : ℕ) × AskForMake number lines words)
