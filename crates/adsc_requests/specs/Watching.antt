-- Tests that the types of messages keep. They name no type of messages, so that the types can cite them.
use Rattle.std.specs.Prelude.{Bool, not, ◌||◌, Option, is_some, ℤ, pos}
use Rattle.std.specs.Ordering.{int_eq}

-- An event request watches something: a limit, or the active waypoint.
abbrev pub is_watching : {A B C : Type 0} → Option A → Option B → Option C → Bool → Bool
is_watching lateral vrate range waypoint = is_some lateral || is_some vrate || is_some range || waypoint

abbrev pub is_not_zero : ℤ → Bool
is_not_zero z = not (int_eq z (pos 0))
