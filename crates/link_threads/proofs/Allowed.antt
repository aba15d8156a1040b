-- The steps, for a seat at a call.
use Rattle.std.proofs.Common.{◌≡◌, ◌==◌, ℕ, ◌+◌, ◌%◌, ◌^◌, ◌≤◌, ◌<◌, List, [], ◌∷◌, ◌++◌, length, true, Option, Some, sym, subst}
use mathlib.Core.Option.{none}
use prog.Atomic.{either}
use Rattle.atomic_table.specs.Table.{step, Allows}
use Rattle.aircraft_core.specs.declared.entry.Entry.{Entry}
use Rattle.aircraft_core.specs.Aircraft.{Aircraft}
use Rattle.link_threads.specs.declared.known.Opening.{Opening}
use Rattle.link_threads.specs.Turns.{IsOneJournal, Seated, Tries, Counts, Frees, Looks}
use Rattle.link_threads.specs.Seats.{IsIdle, HasAircraft}
use Rattle.link_threads.proofs.TurnSteps.{try_moves, count_moves, free_moves, look_moves}

-- a table of one slot, and a seat with this in hand
with_hand : (P : ℕ → Seated → Type 0) (slots : ℕ) (me : Seated) (hand : List (ℕ × Option Aircraft)) → slots ≡ 1 → me.1 ≡ hand → P 1 (me.0, hand) → P slots me
with_hand P slots me hand one is h = subst (λ (x : ℕ × Seated). P x.0 x.1) (λ i. (sym one i, (me.0, sym is i))) h

pub try_allowed : (key : Opening) (slots id : ℕ) (me : Seated) → slots ≡ 1 → IsIdle key me → 1 ≤ length me.0.lists
    → Allows (IsOneJournal key) slots id me 1 (λ n. either (n == 0) 1 n) (Tries (step slots 1 0 1 none) me)
try_allowed key slots id me one idle listed =
    with_hand (λ n x. Allows (IsOneJournal key) n id x 1 (λ n. either (n == 0) 1 n) (Tries (step n 1 0 1 none) x)) slots me [] one idle.0 (try_moves key id me.0 idle.2 listed)

pub count_allowed : (key : Opening) (slots id : ℕ) (me : Seated) (craft : Aircraft) (entry : Entry) → slots ≡ 1 → me.1 ≡ (0, Some craft) ∷ [] → me.0.turn ≡ true → craft.journal ≡ me.0.seen ++ entry ∷ [] → length craft.journal < 2 ^ 64
    → Allows (IsOneJournal key) slots id me 0 (λ n. (n + 1) % 2 ^ 64) (Counts (step slots 0 1 0 none) me)
count_allowed key slots id me craft entry one hand on is fits =
    with_hand (λ n x. Allows (IsOneJournal key) n id x 0 (λ n. (n + 1) % 2 ^ 64) (Counts (step n 0 1 0 none) x)) slots me ((0, Some craft) ∷ []) one hand (count_moves key id me.0 craft entry on is fits)

pub free_allowed : (key : Opening) (slots id : ℕ) (me : Seated) → slots ≡ 1 → me.0.turn ≡ true → HasAircraft key me
    → Allows (IsOneJournal key) slots id me 1 (λ _. 0) (λ _. Frees (step slots 1 0 0 none) me 0)
free_allowed key slots id me one on has =
    with_hand (λ n x. Allows (IsOneJournal key) n id x 1 (λ _. 0) (λ _. Frees (step n 1 0 0 none) x 0)) slots me ((0, Some has.0) ∷ []) one has.1 (free_moves key id me.0 has.0 on has.2 has.3)

pub look_allowed : (key : Opening) (slots id : ℕ) (me : Seated) → slots ≡ 1 → me.1 ≡ [] → Allows (IsOneJournal key) slots id me 0 (λ n. n) (Looks (step slots 0 0 0 none) me)
look_allowed key slots id me one hand =
    with_hand (λ n x. Allows (IsOneJournal key) n id x 0 (λ n. n) (Looks (step n 0 0 0 none) x)) slots me [] one hand (look_moves key id me.0)
