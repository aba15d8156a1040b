-- What stands, after one act more.
use Rattle.std.proofs.Common.{◌≡◌, Bool, true, false, cond, List, ◌∷◌, Option, Some, None, refl, ap}
use Rattle.contract_rules.specs.LookingBack.{standing, unless}

-- what no act ends is left, and what one ends isn't
unless_not : {B : Type 0} (ended : B → Bool) (s : Option B) → ((b : B) → ended b ≡ false) → unless ended s ≡ s
unless_not ended None never = refl
unless_not ended (Some b) never = ap (λ (e : Bool). cond e None (Some b)) (never b)

unless_ended : {B : Type 0} (ended : B → Bool) (s : Option B) → ((b : B) → ended b ≡ true) → unless ended s ≡ None
unless_ended ended None always = refl
unless_ended ended (Some b) always = ap (λ (e : Bool). cond e None (Some b)) (always b)

-- what stood stands behind an act that begins and ends nothing
pub standing_kept : {A B : Type 0} (begins : A → Option B) (ends : B → A → Bool) (act : A) (past : List A) → begins act ≡ None
    → ((b : B) → ends b act ≡ false) → standing begins ends (act ∷ past) ≡ standing begins ends past
standing_kept begins ends act past none never = rw none (unless_not (λ b. ends b act) (standing begins ends past) never)

-- what an act begins stands behind it
pub standing_begun : {A B : Type 0} (begins : A → Option B) (ends : B → A → Bool) (act : A) (past : List A) (b : B) → begins act ≡ Some b
    → standing begins ends (act ∷ past) ≡ Some b
standing_begun begins ends act past b some = rw some refl

-- nothing stands behind an act that ends it
pub standing_ended : {A B : Type 0} (begins : A → Option B) (ends : B → A → Bool) (act : A) (past : List A) → begins act ≡ None
    → ((b : B) → ends b act ≡ true) → standing begins ends (act ∷ past) ≡ None
standing_ended begins ends act past none always = rw none (unless_ended (λ b. ends b act) (standing begins ends past) always)
