-- For how many further entries there is room.
use Rattle.std.proofs.Common.{◌≡◌, ℕ, suc, ◌+◌, ◌<◌, ◌≤◌, List, [], ◌∷◌, ◌++◌, All, length, take, drop, append-nil, Result, Ok, Err, OnOk, ap, ◌∙◌, arith}
use Rattle.std.proofs.lemmas.List.{drop_all, take_all}
use Rattle.std.proofs.lemmas.List.Elements.{All-nil, All-cons, All-head, All-tail}
use Rattle.aircraft_core.specs.Outboxes.{OutboxState, HasRoom, entries_with_room, entry_bytes, outbox_of}

-- Where there is room for an entry, each outbox has room for a text.
pub spare_room : (most : ℕ) (outboxes : List OutboxState) → 0 < entries_with_room most outboxes → All HasRoom outboxes
spare_room most [] spare = All-nil HasRoom
spare_room most (outbox ∷ outboxes) spare = All-cons HasRoom outbox outboxes (omega (arith, spare)) (spare_room most outboxes (omega (arith, spare)))

-- And there is a place in the journal.
pub spare_place : (most : ℕ) (outboxes : List OutboxState) → 0 < entries_with_room most outboxes → 0 < most
spare_place most [] spare = spare
spare_place most (outbox ∷ outboxes) spare = spare_place most outboxes (omega (arith, spare))

-- An entry that adds one text to each outbox at most takes room for one entry.
pub spare_after : (most now_most : ℕ) (outboxes now_outboxes : List OutboxState) → most ≤ now_most + 1 → length now_outboxes ≡ length outboxes
    → ((link : ℕ) → (outbox_of outboxes link).room ≤ (outbox_of now_outboxes link).room + 534)
    → entries_with_room most outboxes ≤ entries_with_room now_most now_outboxes + 1
spare_after most now_most [] [] places same room = places
spare_after most now_most [] (now ∷ now_outboxes) places same room = absurd (omega (arith, same))
spare_after most now_most (outbox ∷ outboxes) [] places same room = absurd (omega (arith, same))
spare_after most now_most (outbox ∷ outboxes) (now ∷ now_outboxes) places same room =
    omega (arith, room 0, spare_after most now_most outboxes now_outboxes places (omega (arith, same)) (λ link. room (suc link)))

-- Where each outbox has room for an entry, and the journal a place, there is room for one.
pub some_spare : (most : ℕ) (outboxes : List OutboxState) → 0 < most → All (λ outbox. entry_bytes ≤ outbox.room) outboxes → 0 < entries_with_room most outboxes
some_spare most [] place room = place
some_spare most (outbox ∷ outboxes) place room =
    omega (
      arith,
      All-head (λ (o : OutboxState). entry_bytes ≤ o.room) outbox outboxes room,
      some_spare most outboxes place (All-tail (λ (o : OutboxState). entry_bytes ≤ o.room) outbox outboxes room),
    )

-- More room is room for as many entries.
pub spare_kept : (most now_most : ℕ) (outboxes now_outboxes : List OutboxState) → most ≤ now_most → length now_outboxes ≡ length outboxes
    → ((link : ℕ) → (outbox_of outboxes link).room ≤ (outbox_of now_outboxes link).room)
    → entries_with_room most outboxes ≤ entries_with_room now_most now_outboxes
spare_kept most now_most [] [] places same room = places
spare_kept most now_most [] (now ∷ now_outboxes) places same room = absurd (omega (arith, same))
spare_kept most now_most (outbox ∷ outboxes) [] places same room = absurd (omega (arith, same))
spare_kept most now_most (outbox ∷ outboxes) (now ∷ now_outboxes) places same room =
    omega (arith, room 0, spare_kept most now_most outboxes now_outboxes places (omega (arith, same)) (λ link. room (suc link)))

-- A list that was lent whole and came back changed.
pub whole_slice : {A : Type 0} (new old : List A) (len : ℕ) → len ≡ length old → length new ≡ length old → take len (new ++ drop (length new) old) ≡ new
whole_slice new old len all same =
    ap (λ behind. take len (new ++ behind)) (drop_all (length new) old (omega (arith, same)))
    ∙ ap (take len) (append-nil new)
    ∙ take_all len new (omega (arith, all, same))

-- What follows where a call is Ok.
pub on_ok : {T E P Q : Type 0} (result : Result T E) → (P → Q) → OnOk result P → OnOk result Q
on_ok (Ok value) then known = then known
on_ok (Err error) then known = tt
