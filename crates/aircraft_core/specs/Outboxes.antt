-- What an aircraft sent on its links, and for how much more there is room (this project's profile).
use Rattle.std.specs.Prelude.{ℕ, ◌/◌, ◌≤◌, List, [], ◌∷◌, min, slice_index_or}

-- An outbox: the bytes that were sent on a link, and for how many more bytes there is room.
pub record OutboxState : Type 0 where
  pub sent : List ℕ
  pub room : ℕ

-- The outbox of a link.
abbrev pub outbox_of : List OutboxState → ℕ → OutboxState
outbox_of outboxes link = slice_index_or outboxes link (record { sent = []; room = 0 })

-- There is room for one text and its newline.
abbrev pub HasRoom : OutboxState → Type 0
HasRoom outbox = 534 ≤ outbox.room

-- The bytes that one entry may add to an outbox at most.
abbrev pub entry_bytes : ℕ
entry_bytes = 600

-- For how many further entries each of the outboxes has room, and this number at most.
abbrev pub entries_with_room : ℕ → List OutboxState → ℕ
entries_with_room most [] = most
entries_with_room most (outbox ∷ outboxes) = min (outbox.room / entry_bytes) (entries_with_room most outboxes)
