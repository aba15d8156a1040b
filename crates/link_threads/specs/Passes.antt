-- A shared aircraft and its passes, and what each call says of them.
use Rattle.std.specs.Prelude.{◌≡◌, ◌⊎◌, ℕ, List, [], ◌∷◌, ◌++◌, drop, map, All, Option}
use mathlib.Core.List.{IsPrefix}
use Rattle.adsc_io.specs.Lines.{ended_lines}
use Rattle.aircraft_core.specs.declared.entry.Entry.{Entry}
use Rattle.aircraft_core.specs.Aircraft.{Aircraft}
use Rattle.aircraft_core.specs.Downlinks.{AreDownlinks}
use Rattle.aircraft_core.specs.Setting.{Setting}
use Rattle.atomic_table.specs.Seated.{TableId}
use Rattle.link_threads.specs.Interleavings.{Interleaves}

-- Which sharing it is: its table, and the aircraft with which it began.
pub record Sharing : Type 0 where
  pub table : TableId
  pub opening : Option Aircraft

-- A shared aircraft: which sharing it is, the aircraft's setting, the journal with which it began, and how many passes it has.
pub record SharedState : Type 0 where
  pub sharing : Sharing
  pub setting : Setting
  pub start : List Entry
  pub passes : ℕ

-- A pass: which sharing it belongs to, the entries that it took, in order, and the journal that it has seen.
pub record PassState : Type 0 where
  pub sharing : Sharing
  pub mine : List Entry
  pub seen : List Entry

-- A note: which sharing it belongs to, and the journal that its pass had seen.
pub record NoteState : Type 0 where
  pub sharing : Sharing
  pub seen : List Entry

-- The pass is one of this shared aircraft.
abbrev pub IsPassOf : SharedState → PassState → Type 0
IsPassOf shared pass = pass.sharing ≡ shared.sharing

-- The pass is one of this shared aircraft, has taken nothing, and has seen the journal with which it began.
abbrev pub IsNewPassOf : SharedState → PassState → Type 0
IsNewPassOf shared pass = (pass.sharing ≡ shared.sharing) × (pass.mine ≡ []) × (pass.seen ≡ shared.start)

-- The note is of a pass of this shared aircraft.
abbrev pub IsNoteOf : SharedState → NoteState → Type 0
IsNoteOf shared note = note.sharing ≡ shared.sharing

-- The pass has entered this entry: it stands at the end of a journal that extends what the pass had seen, and the pass has seen that journal.
pub record HasEntered (before : PassState) (entry : Entry) (after : PassState) : Type 0 where
  pub journal : List Entry
  pub extends : IsPrefix before.seen journal
  pub seen : after.seen ≡ journal ++ entry ∷ []
  pub mine : after.mine ≡ before.mine ++ entry ∷ []

-- The pass may have seen more of the journal, and nothing else has changed.
pub record HasLooked (before after : PassState) : Type 0 where
  pub extends : IsPrefix before.seen after.seen
  pub mine : after.mine ≡ before.mine

-- The bytes are those from a place on of the link's downlinks of this journal, each ended by a newline. Past the end there are none.
abbrev pub AreBytesFrom : Setting → List Entry → ℕ → ℕ → List ℕ → Type 0
AreBytesFrom setting journal link from bytes = (texts : List (List ℕ)) × AreDownlinks setting journal link texts × (bytes ≡ drop from (ended_lines texts))

-- Of two journals of which one begins the other, the last of these three is the longer.
pub record IsLonger {E : Type 0} (one other longer : List E) : Type 0 where
  pub either : (longer ≡ one) ⊎ (longer ≡ other)
  pub one_begins : IsPrefix one longer
  pub other_begins : IsPrefix other longer

-- The aircraft that these passes leave: its journal is the one with which they began and then an interleaving of the lists that they took,
-- and it begins with what each of them has seen.
pub record IsLeftBy (shared : SharedState) (passes : List PassState) (craft : Aircraft) : Type 0 where
  pub setting : craft.setting ≡ shared.setting
  pub entered : List Entry
  pub journal : craft.journal ≡ shared.start ++ entered
  pub interleaved : Interleaves (map (λ pass. pass.mine) passes) entered
  pub seen : All (λ pass. IsPrefix pass.seen craft.journal) passes
