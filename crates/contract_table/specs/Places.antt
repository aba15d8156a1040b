-- Live links by rising number: where one stands among them, and what an act of one link makes of the list.
use Rattle.std.specs.Prelude.{◌≡◌, ℕ, ◌<◌, ◌≤◌, ◌==◌, true, cond, find, map, Option, None, nat_lt, List, [], ◌∷◌, length, slice_index_or}
use Rattle.std.specs.List.{AllByRecursion}
use Rattle.contract_rules.specs.Configuration.{max_live_links}
use Rattle.contract_rules.specs.LiveLinks.{has_room}
use Rattle.contract_table.specs.Connections.{Connection as Seen}
use Rattle.contract_table.specs.declared.connection.Connection.{Connection}

-- The link of a connection.
abbrev pub link_of : Seen → ℕ
link_of connection = connection.link

-- The link among the live ones.
abbrev pub connection_on : ℕ → List Seen → Option Seen
connection_on link connections = find (λ connection. link == connection.link) connections

-- Each number of a list is below all that follow.
abbrev pub IsRising : List ℕ → Type 0
IsRising [] = Unit {0}
IsRising (link ∷ links) = AllByRecursion (λ other. link < other) links × IsRising links

-- A list with one more element among those of rising number, or with it in place of the one of its number.
abbrev pub put : {X : Type 0} → (X → ℕ) → X → List X → List X
put number new [] = new ∷ []
put number new (old ∷ others) =
    cond (nat_lt (number old) (number new)) (old ∷ put number new others)
    (cond (number old == number new) (new ∷ others) (new ∷ old ∷ others))

-- The place of a link among others: all that stand before it have lower numbers.
pub record IsPlace (link : ℕ) (connections : List Connection) (place : ℕ) : Type 0 where
  pub within : place ≤ length connections
  pub before : (k : ℕ) (none : Connection) → k < place → (slice_index_or connections k none).link < link

-- At this place stands this link.
pub record StandsAt (link : ℕ) (connections : List Connection) (place : ℕ) : Type 0 where
  pub at : IsPlace link connections place
  pub inside : place < length connections
  pub here : (none : Connection) → (slice_index_or connections place none).link ≡ link

-- At this place it would stand; what stands there now has a higher number.
pub record WouldStandAt (link : ℕ) (connections : List Connection) (place : ℕ) : Type 0 where
  pub at : IsPlace link connections place
  pub above : (none : Connection) → place < length connections → link < (slice_index_or connections place none).link

-- Where a link isn't live and there is room for it, there is a place for one more link.
abbrev pub HasPlace : Option ℕ → ℕ → List Seen → Type 0
HasPlace kept link connections =
    connection_on link connections ≡ None → has_room kept link (map link_of connections) ≡ true → length connections < max_live_links
