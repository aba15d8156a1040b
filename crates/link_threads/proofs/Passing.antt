-- What a seat's steps mean for its pass.
use Rattle.std.proofs.Common.{◌≡◌, ℕ, zero, suc, ◌-◌, ◌≤◌, ◌<◌, List, [], ◌∷◌, ◌++◌, length, take, drop, All, Some, refl, ap, sym, ◌∙◌, subst, arith}
use Rattle.std.proofs.lemmas.List.{drop_at}
use Rattle.std.proofs.lemmas.List.Elements.{All-push, All-pop}
use mathlib.Core.List.{IsPrefix}
use Rattle.atomic_table.specs.Seated.{TableId}
use Rattle.aircraft_core.specs.declared.entry.Entry.{Entry}
use Rattle.link_threads.specs.declared.known.Held.{Held}
use Rattle.link_threads.specs.declared.known.Known.{Known}
use Rattle.link_threads.specs.declared.known.Opening.{Opening}
use Rattle.link_threads.specs.Passes.{PassState, HasEntered, IsLonger}
use Rattle.link_threads.specs.Turns.{Seated, with_turn, onto_first, counted, freed, dealt, joined, AreBegun, empty_lists}
use Rattle.link_threads.specs.Seats.{SharedSeat, first_entries, pass_of, IsNewPassAt}
use Rattle.link_threads.proofs.Views.{length_onto_first}
use Rattle.link_threads.proofs.Ends.{longer_is}

first_onto : (entries : List Entry) (lists : List Held) → length lists ≡ 1 → first_entries (onto_first entries lists) ≡ first_entries lists ++ entries
first_onto entries [] one = absurd (omega arith)
first_onto entries (held ∷ lists) one = refl

-- A pass that enters has one list still.
pub one_list : (v : Known) (journal now : List Entry) → length v.lists ≡ 1 → length (freed (counted (with_turn v journal) now)).lists ≡ 1
one_list v journal now one = length_onto_first (drop (length journal) now) v.lists ∙ one

-- A pass enters an entry.
pub enters : (seat after : SharedSeat) (journal now : List Entry) (entry : Entry) → length seat.me.0.lists ≡ 1 → IsPrefix seat.me.0.seen journal → now ≡ journal ++ entry ∷ []
    → after.me ≡ (freed (counted (with_turn seat.me.0 journal) now), []) → HasEntered (pass_of seat) entry (pass_of after)
enters seat after journal now entry one extends is me =
    let new : drop (length journal) now ≡ entry ∷ [] = ap (λ l. drop (length journal) l) is ∙ drop_at journal (entry ∷ []) (length journal) refl in
    record {
      journal = journal;
      extends = extends;
      seen = ap (λ (m : Seated). m.0.seen) me ∙ is;
      mine = ap (λ (m : Seated). first_entries m.0.lists) me ∙ first_onto (drop (length journal) now) seat.me.0.lists one ∙ ap (λ l. first_entries seat.me.0.lists ++ l) new;
    }

-- A list that was dealt out.
pub one_dealt : (lists : List Held) → 1 ≤ length lists → length (take 1 lists) ≡ 1
one_dealt [] listed = absurd (omega arith)
one_dealt (held ∷ lists) listed = refl

first_empty : (n : ℕ) → first_entries (take 1 (empty_lists n)) ≡ []
first_empty zero = refl
first_empty (suc n) = refl

pub empty_rest : (n : ℕ) → 0 < n → drop 1 (empty_lists n) ≡ empty_lists (n - 1)
empty_rest zero left = absurd (omega arith)
empty_rest (suc n) left = ap empty_lists (let e : n ≡ suc n - 1 = omega arith in e)

-- A pass that was dealt out is new.
pub new_pass : (table : TableId) (key : Opening) (v : Known) (n : ℕ) (seat : SharedSeat) → seat.table_id ≡ table → seat.me ≡ (dealt v, []) → v.start ≡ Some key.craft.value → v.lists ≡ empty_lists n
    → v.seen ≡ key.craft.value.journal → IsNewPassAt table key (pass_of seat)
new_pass table key v n seat is me start lists seen = (
  (λ i. record { table = is i; opening = (ap (λ (m : Seated). m.0.start) me ∙ start) i }),
  ap (λ (m : Seated). first_entries m.0.lists) me ∙ ap (λ l. first_entries (take 1 l)) lists ∙ first_empty n,
  ap (λ (m : Seated). m.0.seen) me ∙ seen,
)

-- What holds of all passes holds of the last and of the others.
pub all_popped : (P : PassState → Type 0) (passes left : List PassState) (pass : PassState) → passes ≡ left ++ pass ∷ [] → All P passes → P pass × All P left
all_popped P passes left pass is all = let both = All-pop P passes left (Some pass) is all in (both.1, both.0)

pub all_pushed : (P : PassState → Type 0) (now passes : List PassState) (pass : PassState) → now ≡ passes ++ pass ∷ [] → All P passes → P pass → All P now
all_pushed P now passes pass is all new = subst (All P) (sym is) (All-push P passes pass all new)

-- A pass meets a note.
pub meets : (v w now : Known) (one other : List Entry) → v.seen ≡ one → w.seen ≡ other → now ≡ joined v w → AreBegun now → IsLonger one other now.seen
meets v w now one other mine theirs is begun =
    let met : IsLonger v.seen w.seen now.seen = subst (λ l. IsLonger v.seen w.seen l) (ap (λ (k : Known). k.seen) (sym is)) (longer_is v w (subst AreBegun is begun)) in
    subst (λ (x : List Entry × List Entry). IsLonger x.0 x.1 now.seen) (λ i. (mine i, theirs i)) met
