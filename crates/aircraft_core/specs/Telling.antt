-- Which acts a table is told, and of which link. It serves private contracts.
use Rattle.std.specs.Prelude.{◌≡◌, ◌≤◌, ℕ}
use Rattle.contract_table.specs.declared.act.Act.{Act}
use Rattle.contract_table.specs.declared.act.Act.TheVariants.{Said, Malformed, Moved, Ticked, Crew}

-- The act is one of this link; a malformed one has one of the reasons.
abbrev pub IsActOf : ℕ → Act → Type 0
IsActOf link (Said other message) = other ≡ link
IsActOf link (Malformed other refusal) = (other ≡ link) × (1 ≤ refusal.reason) × (refusal.reason ≤ 13)
IsActOf link act = ⊥

-- The act is the flight's.
abbrev pub IsOfFlight : Act → Type 0
IsOfFlight (Moved before now) = Unit {0}
IsOfFlight (Ticked t) = Unit {0}
IsOfFlight (Crew on) = Unit {0}
IsOfFlight act = ⊥
