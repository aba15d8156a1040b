-- Reports in a series: the grid of their moments, and the groups of each by its number.
-- Grids, numbers and the rule of moduli are this project's profile.
use Rattle.std.specs.Prelude.{ℕ, ◌-◌, ◌/◌, ◌%◌, Bool, false, ◌&&◌, ◌==◌, nat_lt, nat_le, List, [], ◌∷◌, map, Option, Some, None}
use Rattle.contract_rules.specs.Messages.{Message, PeriodicRequest, EmergencyRequest}

-- Time that passes from t0 to t1 crosses a grid of this anchor and interval where more whole intervals lie between
-- the anchor and t1 than between the anchor and t0.
abbrev pub crosses : ℕ → ℕ → ℕ → ℕ → Bool
crosses anchor interval t0 t1 = nat_lt ((t0 - anchor) / interval) ((t1 - anchor) / interval)

-- A group of this modulus is in the report of number r in its series where the modulus is at least 1 and divides r.
abbrev pub is_modulus_due : ℕ → Option ℕ → Bool
is_modulus_due r None = false
is_modulus_due r (Some modulus) = nat_le 1 modulus && r % modulus == 0

-- The moduli of the groups that a request for reports asks for.
abbrev pub moduli_of : Message → List (Option ℕ)
moduli_of (PeriodicRequest asked) = asked.moduli
moduli_of (EmergencyRequest asked) = asked.moduli
moduli_of _ = []

-- The groups, of those with tags 12 to 17, that are in the report of number r that a request asks for.
abbrev pub report_groups : ℕ → Message → List Bool
report_groups r request = map (is_modulus_due r) (moduli_of request)

-- The groups of a report that has none.
abbrev pub no_groups : List Bool
no_groups = false ∷ false ∷ false ∷ false ∷ false ∷ false ∷ []

-- The groups of report number r that a request asks for; none where there is no request.
abbrev pub groups_of : ℕ → Option Message → List Bool
groups_of r None = no_groups
groups_of r (Some request) = report_groups r request
