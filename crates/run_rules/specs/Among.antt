-- Membership.
use Rattle.std.specs.Prelude.{◌≡◌, ◌⊎◌, List, [], ◌∷◌}

-- The item is one of the list.
abbrev pub IsAmong : {A : Type 0} → A → List A → Type 0
IsAmong item [] = ⊥
IsAmong item (other ∷ others) = (other ≡ item) ⊎ IsAmong item others
