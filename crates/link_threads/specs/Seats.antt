-- A seat at the shared table, between two steps. It serves private contracts.
use Rattle.std.specs.Prelude.{◌≡◌, ℕ, false, List, [], ◌∷◌, ◌++◌, length, map, All, Option, Some}
use Rattle.std.specs.List.{AllByRecursion}
use mathlib.Core.List.{IsPrefix}
use Rattle.atomic_table.specs.Seated.{TableId}
use Rattle.atomic_table.specs.declared.shared.Seat.{Seat}
use Rattle.aircraft_core.specs.declared.entry.Entry.{Entry}
use Rattle.aircraft_core.specs.Aircraft.{Aircraft}
use Rattle.link_threads.specs.declared.known.Held.{Held}
use Rattle.link_threads.specs.declared.known.Known.{Known}
use Rattle.link_threads.specs.declared.known.Opening.{Opening}
use Rattle.link_threads.specs.Interleavings.{Interleaves}
use Rattle.link_threads.specs.Passes.{Sharing, SharedState, PassState, NoteState}
use Rattle.link_threads.specs.Turns.{Seated, entries_held}

-- A seat at this table.
abbrev pub SharedSeat : Type 0
SharedSeat = Seat (Option Aircraft) Known

-- The seat is at this table, which has two words and one slot.
abbrev pub IsSeatAt : TableId → SharedSeat → Type 0
IsSeatAt table seat = (seat.table_id ≡ table) × (table.words ≡ 2) × (table.slots ≡ 1)

-- It is the same seat at the same table.
abbrev pub IsSameSeat : SharedSeat → SharedSeat → Type 0
IsSameSeat before after = (after.table_id ≡ before.table_id) × (after.id ≡ before.id)

-- The seat has nothing in hand and doesn't have the turn, and it knows with which aircraft the sharing began.
abbrev pub IsIdle : Opening → Seated → Type 0
IsIdle key me = (me.1 ≡ []) × (me.0.turn ≡ false) × (me.0.start ≡ Some key.craft.value)

-- The seat has the aircraft in hand, whose journal is what it has seen and whose setting is that of the start.
abbrev pub HasAircraft : Opening → Seated → Type 0
HasAircraft key me = (craft : Aircraft) × (me.1 ≡ (0, Some craft) ∷ []) × (craft.journal ≡ me.0.seen) × (craft.setting ≡ key.craft.value.setting)

-- What a pass has taken: the entries of its one list.
abbrev pub first_entries : List Held → List Entry
first_entries [] = []
first_entries (held ∷ lists) = held.entries

-- What a seat stands for, as a pass and as a note.
abbrev pub sharing_of : SharedSeat → Sharing
sharing_of seat = record { table = seat.table_id; opening = seat.me.0.start }

abbrev pub pass_of : SharedSeat → PassState
pass_of seat = record { sharing = sharing_of seat; mine = first_entries seat.me.0.lists; seen = seat.me.0.seen }

abbrev pub note_of : SharedSeat → NoteState
note_of seat = record { sharing = sharing_of seat; seen = seat.me.0.seen }

-- The seat of a pass has nothing in hand, doesn't have the turn, and has one list; that of a note has none.
abbrev pub IsPassSeat : SharedSeat → Type 0
IsPassSeat seat = (seat.me.1 ≡ []) × (seat.me.0.turn ≡ false) × (length seat.me.0.lists ≡ 1)

abbrev pub IsNoteSeat : SharedSeat → Type 0
IsNoteSeat seat = (seat.me.1 ≡ []) × (seat.me.0.turn ≡ false) × (seat.me.0.lists ≡ [])

-- What a table stands for, as a shared aircraft of so many passes.
abbrev pub shared_of : TableId → Opening → ℕ → SharedState
shared_of table key count = record {
  sharing = record { table = table; opening = Some key.craft.value };
  setting = key.craft.value.setting;
  start = key.craft.value.journal;
  passes = count;
}

-- The pass is one at this table.
abbrev pub IsPassAt : TableId → Opening → PassState → Type 0
IsPassAt table key pass = pass.sharing ≡ record { table = table; opening = Some key.craft.value }

-- The pass is one at this table, has taken nothing, and has seen the journal of the start.
abbrev pub IsNewPassAt : TableId → Opening → PassState → Type 0
IsNewPassAt table key pass = (pass.sharing ≡ record { table = table; opening = Some key.craft.value }) × (pass.mine ≡ []) × (pass.seen ≡ key.craft.value.journal)

-- This journal begins with what a seat has seen and was told of.
abbrev pub Begin : Known → List Entry → Type 0
Begin view journal = IsPrefix view.seen journal × AllByRecursion (λ heard. IsPrefix heard journal) view.heard

-- A seat has taken in a pass: its list stands before the others, and what begins what the seat has now seen and was told of also begins
-- what both had.
pub record HasTakenIn (before : Known) (pass : PassState) (after : Known) : Type 0 where
  pub lists : entries_held after.lists ≡ pass.mine ∷ entries_held before.lists
  pub seen : (journal : List Entry) → Begin after journal → IsPrefix pass.seen journal × Begin before journal

-- A seat has taken in these passes but for those that are left: it has the lists of the others, in their order, and what begins with all
-- that it has seen and was told of begins with what each of them has seen.
pub record HasGathered (passes left : List PassState) (view : Known) : Type 0 where
  pub lists : map (λ pass. pass.mine) passes ≡ map (λ pass. pass.mine) left ++ entries_held view.lists
  pub seen : (journal : List Entry) → Begin view journal → All (λ pass. IsPrefix pass.seen journal) left → All (λ pass. IsPrefix pass.seen journal) passes

-- The aircraft that a seat with all lists leaves.
pub record IsLeft (key : Opening) (view : Known) (craft : Aircraft) : Type 0 where
  pub setting : craft.setting ≡ key.craft.value.setting
  pub entered : List Entry
  pub journal : craft.journal ≡ key.craft.value.journal ++ entered
  pub interleaved : Interleaves (entries_held view.lists) entered
  pub begun : Begin view craft.journal
