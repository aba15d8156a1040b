-- What the workers of a burst leave.
use Rattle.std.proofs.Common.{◌≡◌, ◌<◌, ◌%◌, ◌==◌, ℕ, suc, All, List, [], ◌∷◌, ◌++◌, get_or, length, map, Result, Ok, Err, refl, sym, ap, ◌∙◌, subst, arith}
use Rattle.std.specs.Prelude.{IsOk, OnOk}
use Rattle.std.proofs.lemmas.List.Elements.{All-cons, All-filter, All-head, All-map, All-nil, All-tail}
use Rattle.std.proofs.lemmas.Option.{slice_get-get_or}
use Rattle.aircraft_core.specs.Aircraft.{Aircraft}
use Rattle.aircraft_core.specs.Entries.{IsTakenBy}
use Rattle.aircraft_core.specs.declared.entry.Entry.{Entry}
use Rattle.link_threads.specs.Interleavings.{Interleaves}
use Rattle.link_threads.specs.Passes.{IsLeftBy, IsNewPassOf, IsPassOf, SharedState}
use Rattle.run_rules.specs.EarlierLines.{text_link}
use Rattle.adsc_run.specs.Lists.{AreBusyLists, is_filled}
use Rattle.adsc_run.specs.Workers.{HasWorked, HaveEntered, IsReady, entries_of, passes_in}
use Rattle.adsc_run.specs.declared.workers.Worker.{Worker}
use Rattle.adsc_run.proofs.ListLaws.{interleaved_is_taken}

-- ---- before the work

-- What holds of each entry that waits holds of each that a worker takes.
pub busy_have : (P : Entry → Type 0) (workers : ℕ) (waiting : List Entry) (busy : List (List Entry)) → AreBusyLists workers waiting busy
    → All P waiting → All (All P) busy
busy_have P workers waiting busy are holds =
    subst (All (All P)) (sym are.filled) (All-filter is_filled (All P) are.lists each)
  where
    each : All (All P) are.lists
    each worker none inside =
        subst (All P) (sym (are.each.each worker (get_or are.lists worker none) (slice_get-get_or are.lists worker none inside)))
        (All-filter (λ entry. text_link entry % workers == worker) P waiting holds)

-- Workers with passes of a shared aircraft and entries that it takes are ready.
pub are_ready : (shared : SharedState) (crew : List Worker) → All (IsNewPassOf shared) (passes_in crew)
    → All (All (IsTakenBy shared.setting)) (map entries_of crew) → All (IsReady shared) crew
are_ready shared [] new taken = All-nil (IsReady shared)
are_ready shared (worker ∷ crew) new taken =
    All-cons (IsReady shared) worker crew
    ((All-head (IsNewPassOf shared) worker.pass (passes_in crew) new).0, All-head (All (IsTakenBy shared.setting)) (entries_of worker) (map entries_of crew) taken)
    (are_ready shared crew (All-tail (IsNewPassOf shared) worker.pass (passes_in crew) new)
    (All-tail (All (IsTakenBy shared.setting)) (entries_of worker) (map entries_of crew) taken))

-- ---- after it

-- what is said of Ok is so where it is Ok
so_of_ok : {T E : Type 0} (result : Result T E) (P : Type 0) → OnOk result P → IsOk result → P
so_of_ok (Ok value) P holds ok = holds
so_of_ok (Err fault) P holds ok = absurd (cc)

-- Each worker has worked.
abbrev pub EachWorked : SharedState → List Worker → List Worker → Type 0
EachWorked shared before after = (place : ℕ) (any : Worker) → place < length before → HasWorked shared (get_or before place any) (get_or after place any)

-- The passes are still those of the shared aircraft.
pub passes_are_own : (shared : SharedState) (before after : List Worker) → length after ≡ length before → EachWorked shared before after
    → All (IsPassOf shared) (passes_in after)
passes_are_own shared before after count worked =
    All-map (IsPassOf shared) (λ worker. worker.pass) after
    (λ place any inside. let within : place < length before = omega (arith, count) in (worked place any within).own)

-- Each pass took the entries of its worker.
took : (shared : SharedState) (before after : List Worker) → length after ≡ length before → EachWorked shared before after
    → All (IsNewPassOf shared) (passes_in before) → All (λ worker. IsOk worker.taken) after
    → map (λ pass. pass.mine) (passes_in after) ≡ map entries_of before
took shared [] [] count worked new taken = refl
took shared [] (other ∷ after) count worked new taken = absurd (omega (arith, count))
took shared (worker ∷ before) [] count worked new taken = absurd (omega (arith, count))
took shared (worker ∷ before) (other ∷ after) count worked new taken =
    λ i. first i ∷ took shared before after rest (λ place any inside. worked (suc place) any (omega (arith, inside)))
    (All-tail (IsNewPassOf shared) worker.pass (passes_in before) new) (All-tail (λ one. IsOk one.taken) other after taken) i
  where
    rest : length after ≡ length before
    rest = omega (arith, count)

    first : other.pass.mine ≡ entries_of worker
    first =
        so_of_ok other.taken _ (worked 0 worker (omega arith)).mine (All-head (λ one. IsOk one.taken) other after taken)
        ∙ ap (λ mine. mine ++ entries_of worker) (All-head (IsNewPassOf shared) worker.pass (passes_in before) new).1

-- The aircraft that passes leave behind has the journal of before, and the waiting entries as the workers took them.
pub all_entered : (workers : ℕ) (waiting : List Entry) (busy : List (List Entry)) (shared : SharedState) (craft after : Aircraft)
    (crew worked : List Worker) → AreBusyLists workers waiting busy → map entries_of crew ≡ busy → shared.setting ≡ craft.setting → shared.start ≡ craft.journal
    → length worked ≡ length crew → EachWorked shared crew worked → All (IsNewPassOf shared) (passes_in crew) → All (λ worker. IsOk worker.taken) worked
    → IsLeftBy shared (passes_in worked) after → HaveEntered workers waiting craft after
all_entered workers waiting busy shared craft after crew worked are lists setting start count each new taken left = record {
  woven = left.entered;
  taken = interleaved_is_taken workers waiting left.entered busy are
      (subst (λ lists. Interleaves lists left.entered) (took shared crew worked count each new taken ∙ lists) left.interleaved);
  journal = left.journal ∙ ap (λ journal. journal ++ left.entered) start;
  setting = left.setting ∙ setting;
}
