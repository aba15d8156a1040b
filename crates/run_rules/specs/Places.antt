-- Where which lines may stand in a script (this project's profile).
use Rattle.std.specs.Prelude.{◌⊎◌, ℕ, ◌==◌, List, Option, Some, None, if◌then◌else◌}
use Rattle.net_script.specs.Letters.{HasLetter}
use Rattle.net_script.specs.declared.letter.Letter.{Letter}
use Rattle.net_script.specs.declared.letter.Letter.TheVariants.{Aircraft, Ground, Sample}
use Rattle.net_script.specs.declared.refusal.Code.{Code}
use Rattle.net_script.specs.declared.refusal.Code.TheVariants as code

-- The letter that the line of this number has to have: the three lines of the head say who the aircraft is, its ground addresses,
-- and its first sample. Behind them each line may have any letter but those of the first two.
abbrev pub head_letter : ℕ → Option Letter
head_letter number = if number == 1 then Some Aircraft else if number == 2 then Some Ground else if number == 3 then Some Sample else None

-- The line doesn't have the letter that it has to have, which is a fault of the head; or it has one that stands in the head alone,
-- which is a fault of its kind.
abbrev pub IsMisplacedBy : Option Letter → List ℕ → Code → Type 0
IsMisplacedBy (Some letter) line code.Head = HasLetter line letter → ⊥
IsMisplacedBy None line code.Kind = HasLetter line Aircraft ⊎ HasLetter line Ground
IsMisplacedBy due line found = ⊥

-- the line of this number is misplaced, with this fault
abbrev pub IsMisplaced : ℕ → List ℕ → Code → Type 0
IsMisplaced number line found = IsMisplacedBy (head_letter number) line found

-- the line of this number stands where it may
abbrev pub IsInPlace : ℕ → List ℕ → Type 0
IsInPlace number line = (found : Code) → IsMisplaced number line found → ⊥
