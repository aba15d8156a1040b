-- What the command `show` promises (this project's profile).
use Rattle.std.specs.Prelude.{◌≡◌, ◌⊎◌, ℕ, ◌<◌, List, IfSome}
use Rattle.std.specs.Io.KnownBytes.{Appends, IsAtEnd}
use Rattle.adsc_io.specs.Causes.{Rose}
use Rattle.adsc_io.specs.Inputs.{IsOverLimit, whole_lines}
use Rattle.adsc_io.specs.Lines.{script_lines}
use Rattle.adsc_io.specs.Writes.{AppendsPrefix}
use Rattle.shown_lines.specs.Meanings.{HasRefused}
use Rattle.shown_lines.specs.Shown.{AreShown, IsShownWhole, IsShownCut, IsShownFront}
use Rattle.adsc_bench.specs.Seen.{Seen, Faultless, WereRead}
use Rattle.adsc_bench.specs.declared.status.Status.{Status}
use Rattle.adsc_bench.specs.declared.status.Status.TheVariants.{Done, Refused, Words, ReadFault, WriteFault, BadLine, NoMemory, Limit}

-- The text is the shown text of these bytes: within the limit with the line that ends it, and over the limit without.
abbrev pub IsShownText : List ℕ → List ℕ → Type 0
IsShownText bytes text = ((refused : ℕ) × IsShownWhole bytes text refused) ⊎ IsShownCut bytes text

-- The text shows the first lines of these bytes, or all of them with the line that ends it.
abbrev pub IsShownSoFar : List ℕ → List ℕ → Type 0
IsShownSoFar bytes text = ((refused : ℕ) × IsShownWhole bytes text refused) ⊎ IsShownFront bytes text

-- What each status promises, where `untouched` says that the source and the sink are as they were.
abbrev pub Promises : Seen → Seen → Type 0 → Status → Type 0
-- Done: no fault came, the input was read to its end, its shown text was written, and no line is refused.
Promises before after untouched Done = Faultless before after
    × IfSome before.left (λ bytes. IsAtEnd after.left × ((text : List ℕ) × IsShownWhole bytes text 0 × Appends before.written after.written text))
-- Refused: the same, and some line is refused.
Promises before after untouched Refused = Faultless before after
    × IfSome before.left (λ bytes. IsAtEnd after.left
    × ((text : List ℕ) × (refused : ℕ) × (0 < refused) × IsShownWhole bytes text refused × Appends before.written after.written text))
-- Words: never.
Promises before after untouched Words = ⊥
-- ReadFault: a read failed and no write did, and the shown text of the lines wholly read before was written.
Promises before after untouched ReadFault = (after.write_faults ≡ before.write_faults)
    × ((bytes : List ℕ) × WereRead before after bytes
    × ((text : List ℕ) × (refused : ℕ) × AreShown (whole_lines bytes) text refused × Appends before.written after.written text))
-- WriteFault: a write failed and no read did, and of the shown text, as far as it was due, a beginning was written that isn't all.
Promises before after untouched WriteFault = Rose before.write_faults after.write_faults × (after.read_faults ≡ before.read_faults)
    × IfSome before.left (λ bytes. (text : List ℕ) × IsShownSoFar bytes text × AppendsPrefix before.written after.written text)
-- BadLine: never.
Promises before after untouched BadLine = ⊥
-- NoMemory: nothing was read or written.
Promises before after untouched NoMemory = untouched
-- Limit: no fault came, the limit is met, and the shown text of the lines before was written.
Promises before after untouched Limit = Faultless before after
    × IfSome before.left (λ bytes. (text : List ℕ) × IsShownCut bytes text × Appends before.written after.written text)

-- The status is the one that the lines of the input say, or want of memory.
pub record IsDueStatus (bytes : List ℕ) (status : Status) : Type 0 where
  pub over : IsOverLimit bytes → (status ≡ Limit) ⊎ (status ≡ NoMemory)
  pub refused : (IsOverLimit bytes → ⊥) → HasRefused (script_lines bytes) → (status ≡ Refused) ⊎ (status ≡ NoMemory)
  pub done : (IsOverLimit bytes → ⊥) → (HasRefused (script_lines bytes) → ⊥) → (status ≡ Done) ⊎ (status ≡ NoMemory)

-- What `show` promises: what its status promises, and where no fault comes, the status that is due.
pub record Shows (before after : Seen) (untouched : Type 0) (status : Status) : Type 0 where
  pub promised : Promises before after untouched status
  pub due : (Rose before.read_faults after.read_faults → ⊥) → (Rose before.write_faults after.write_faults → ⊥)
      → IfSome before.left (λ bytes. IsDueStatus bytes status)
