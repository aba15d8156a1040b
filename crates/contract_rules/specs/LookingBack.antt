-- The words to look back with. A past is a list of acts, the newest first; what came before an act is the rest of the
-- list behind it. A test of an act sees the acts before it too.
use Rattle.std.specs.Prelude.{ℕ, ◌+◌, Bool, true, cond, not, ◌&&◌, List, [], ◌∷◌, Option, Some, None}
use Rattle.std.specs.Option.{option_or}

-- A test of an act, over the acts before it.
abbrev pub Test : Type 0 → Type 0
Test A = A → List A → Bool

-- The last act that passes the test.
abbrev pub last_such : {A : Type 0} → Test A → List A → Option A
last_such test [] = None
last_such test (act ∷ past) = cond (test act past) (Some act) (last_such test past)

-- The acts from the last one that passes the test on; all of them, where none passes.
abbrev pub from_last : {A : Type 0} → Test A → List A → List A
from_last test [] = []
from_last test (act ∷ past) = act ∷ cond (test act past) [] (from_last test past)

-- The acts after the last one that passes the test; all of them, where none passes.
abbrev pub after_last : {A : Type 0} → Test A → List A → List A
after_last test [] = []
after_last test (act ∷ past) = cond (test act past) [] (act ∷ after_last test past)

-- Whether no act of the past passes the test.
abbrev pub none_such : {A : Type 0} → Test A → List A → Bool
none_such test [] = true
none_such test (act ∷ past) = not (test act past) && none_such test past

-- How many acts count, from the last act that starts the count on, that act included.
abbrev pub count_from : {A : Type 0} → Test A → Test A → List A → ℕ
count_from starts counts [] = 0
count_from starts counts (act ∷ past) =
    cond (starts act past) 0 (count_from starts counts past) + cond (counts act past) 1 0

-- What is left of something that stood, where some of it may have been ended.
abbrev pub unless : {B : Type 0} → (B → Bool) → Option B → Option B
unless ended None = None
unless ended (Some b) = cond (ended b) None (Some b)

-- What the last act that begins something began, unless an act that ends it came after.
abbrev pub standing : {A B : Type 0} → (A → Option B) → (B → A → Bool) → List A → Option B
standing begins ends [] = None
standing begins ends (act ∷ past) = option_or (begins act) (unless (λ b. ends b act) (standing begins ends past))
