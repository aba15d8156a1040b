-- The rule of the table that callers share: what its words, its slot and what each seat knows have to do with one journal. Nobody has to
-- believe it: it serves private contracts, and what passes say is proved from it.
--
-- Word 0 counts the entries of the journal. Word 1 is the turn: 1 while a seat has it, else 0. The slot has the aircraft.
use Rattle.std.specs.Prelude.{◌≡◌, ◌≢◌, ℕ, zero, suc, ◌+◌, ◌≤◌, true, false, cond, nat_le, List, [], ◌∷◌, ◌++◌, length, map, take, drop, Option, Some, None}
use Rattle.std.specs.List.{AllByRecursion}
use mathlib.Core.List.{IsPrefix}
use mathlib.Core.Option.{some}
use mathlib.Core.Option as maybe
use lib.ListN.{get_elem?}
use Rattle.atomic_table.specs.Table.{State, Me, Step, rest}
use Rattle.aircraft_core.specs.declared.entry.Entry.{Entry}
use Rattle.aircraft_core.specs.Aircraft.{Aircraft}
use Rattle.link_threads.specs.declared.known.Held.{Held}
use Rattle.link_threads.specs.declared.known.Known.{Known}
use Rattle.link_threads.specs.declared.known.Opening.{Opening}
use Rattle.link_threads.specs.Interleavings.{entries_of, with_number, entries_in, AreApart}

-- The numbers of these lists, and their entries.
abbrev pub numbers_of : List Held → List ℕ
numbers_of lists = map (λ held. held.number) lists

abbrev pub entries_held : List Held → List (List Entry)
entries_held lists = map (λ held. held.entries) lists

-- A list is the entries of the log that bear its number, and the number belongs to this seat.
abbrev pub IsOwned : List (ℕ × Entry) → (ℕ → ℕ) → ℕ → Held → Type 0
IsOwned log owner by held = (held.entries ≡ with_number held.number log) × (owner held.number ≡ by)

-- What a seat knows is right: the journal of the start begins what it has seen, unless it was taken in; what it has seen and what it was
-- told of begin the journal, its lists are those of its numbers, and if it has the turn, no other seat has it, and it has seen the whole
-- journal.
pub record Fits (start : List Entry) (log : List (ℕ × Entry)) (turn seat : ℕ) (owner : ℕ → ℕ) (by : ℕ) (view : Known) : Type 0 where
  pub begun : (opening : Aircraft) → view.start ≡ Some opening → IsPrefix start view.seen
  pub seen : IsPrefix view.seen (start ++ entries_of log)
  pub heard : AllByRecursion (λ journal. IsPrefix journal (start ++ entries_of log)) view.heard
  pub lists : AllByRecursion (IsOwned log owner by) view.lists
  pub apart : AreApart (numbers_of view.lists)
  pub holder : view.turn ≡ true → (turn ≡ 1) × (by ≡ seat) × (view.seen ≡ start ++ entries_of log) × (1 ≤ length view.lists)

-- A count, over all views.
abbrev pub total : (Known → ℕ) → List Known → ℕ
total count [] = 0
total count (view ∷ views) = count view + total count views

-- How many lists a view has, and how many entries these have.
abbrev pub lists_known : Known → ℕ
lists_known view = length view.lists

abbrev pub entries_known : Known → ℕ
entries_known view = entries_in (entries_held view.lists)

-- The aircraft is at home, with the whole journal.
abbrev pub IsAtHome : Opening → List Entry → List (maybe.Option (Option Aircraft)) → Type 0
IsAtHome key journal homes = (craft : Aircraft) × (get_elem? homes 0 ≡ some (some (Some craft))) × (craft.journal ≡ journal) × (craft.setting ≡ key.craft.value.setting)

-- Some seat with a list has seen this whole journal.
abbrev pub IsReached : List Entry → List Known → Type 0
IsReached journal views = (by : ℕ) × (view : Known) × (get_elem? views by ≡ some view) × (view.seen ≡ journal) × (1 ≤ length view.lists)

-- The rule: there is a log of numbered entries, the journal is the one at the start and these entries, and each view fits it. Some pass has
-- seen the whole journal, so the count of its entries is the length of the longest journal that a pass has seen. While nobody has the turn,
-- the aircraft is at home. The views have as many lists as there are passes, and these have all entries of the log.
pub record IsOneJournal (key : Opening) (s : State (Option Aircraft) Known) : Type 0 where
  pub log : List (ℕ × Entry)
  pub turn : ℕ
  pub seat : ℕ
  pub owner : ℕ → ℕ
  pub words : s.words ≡ (length key.craft.value.journal + length log) ∷ turn ∷ []
  pub each : (by : ℕ) (view : Known) → get_elem? s.views by ≡ some view → Fits key.craft.value.journal log turn seat owner by view
  pub reached : IsReached (key.craft.value.journal ++ entries_of log) s.views
  pub home : turn ≡ 0 → IsAtHome key (key.craft.value.journal ++ entries_of log) s.homes
  pub holder : turn ≢ 0 → (view : Known) × (get_elem? s.views seat ≡ some view) × (view.turn ≡ true)
  pub lists : total lists_known s.views ≡ key.count
  pub entries : total entries_known s.views ≡ length log

-- So many lists without entries, each with a number of its own.
abbrev pub empty_lists : ℕ → List Held
empty_lists zero = []
empty_lists (suc count) = record { number = count; entries = [] } ∷ empty_lists count

-- What the first seat knows: it has all lists.
abbrev pub first_view : Opening → Known
first_view key = record { start = Some key.craft.value; seen = key.craft.value.journal; heard = []; lists = empty_lists key.count; turn = false }

-- What a seat knows and has in hand.
abbrev pub Seated : Type 0
Seated = Me (Option Aircraft) Known

-- What a seat knows with the turn, and the whole journal; after an entry was counted; after the turn.
abbrev pub with_turn : Known → List Entry → Known
with_turn view journal = record { start = view.start; seen = journal; heard = view.heard; lists = view.lists; turn = true }

abbrev pub onto_first : List Entry → List Held → List Held
onto_first entries [] = []
onto_first entries (held ∷ lists) = record { number = held.number; entries = held.entries ++ entries } ∷ lists

abbrev pub counted : Known → List Entry → Known
counted view journal = record { start = view.start; seen = journal; heard = view.heard; lists = onto_first (drop (length view.seen) journal) view.lists; turn = view.turn }

abbrev pub freed : Known → Known
freed view = record { start = view.start; seen = view.seen; heard = view.heard; lists = view.lists; turn = false }

-- The journal of the aircraft in hand.
abbrev pub journal_in : List (ℕ × Option Aircraft) → List Entry
journal_in ((place, Some craft) ∷ others) = craft.journal
journal_in others = []

-- The seat has got the turn, and with it the slot of an aircraft whose journal extends what the seat had seen.
pub record HasTurn (before after : Seated) : Type 0 where
  pub craft : Aircraft
  pub setting : (opening : Aircraft) → before.0.start ≡ Some opening → craft.setting ≡ opening.setting
  pub extends : IsPrefix before.0.seen craft.journal
  pub now : after ≡ (with_turn before.0 craft.journal, (0, Some craft) ∷ [])

-- What each step tells: a try for the turn gets it where it was free and else changes nothing; a count takes in the journal in hand; the end
-- of the turn hands the slot back; a look compares what was heard with what was seen.
abbrev pub Tries : Step (Option Aircraft) → Seated → ℕ → Seated → Type 0
Tries step before found after = (found ≡ 0 → HasTurn before after) × (found ≢ 0 → after ≡ before)

abbrev pub Counts : Step (Option Aircraft) → Seated → ℕ → Seated → Type 0
Counts step before found after = after ≡ (counted before.0 (journal_in before.1), before.1)

abbrev pub Frees : Step (Option Aircraft) → Seated → ℕ → Seated → Type 0
Frees step before found after = after ≡ (freed before.0, rest before.1)

abbrev pub AreBegun : Known → Type 0
AreBegun view = AllByRecursion (λ journal. length journal ≤ length view.seen → IsPrefix journal view.seen) view.heard

abbrev pub Looks : Step (Option Aircraft) → Seated → ℕ → Seated → Type 0
Looks step before found after = (after ≡ before) × AreBegun before.0

-- A seat deals out its first list, with all that it has seen, and keeps the others.
abbrev pub dealt : Known → Known
dealt view = record { start = view.start; seen = view.seen; heard = []; lists = take 1 view.lists; turn = false }

abbrev pub left_over : Known → Known
left_over view = record { start = view.start; seen = view.seen; heard = view.heard; lists = drop 1 view.lists; turn = view.turn }

-- A note of what a seat has seen.
abbrev pub noted : Known → Known
noted view = record { start = view.start; seen = view.seen; heard = []; lists = []; turn = false }

-- The longer of two journals.
abbrev pub longer : List Entry → List Entry → List Entry
longer one other = cond (nat_le (length one) (length other)) other one

-- What a seat knows that has taken in another: the lists of both, the other's first, and all that either has seen or heard of.
abbrev pub joined : Known → Known → Known
joined view other = record {
  start = view.start;
  seen = longer view.seen other.seen;
  heard = view.seen ∷ other.seen ∷ (view.heard ++ other.heard);
  lists = other.lists ++ view.lists;
  turn = false;
}

-- What a seat knows that was taken in.
abbrev pub nobody : Known
nobody = record { start = None; seen = []; heard = []; lists = []; turn = false }
