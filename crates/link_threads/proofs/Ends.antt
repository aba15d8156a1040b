-- The rule at the start, and what it gives at the end.
use Rattle.std.proofs.Common.{◌≡◌, ◌≢◌, inl, inr, ℕ, zero, suc, ◌+◌, ◌≤◌, List, [], ◌∷◌, length, Bool, true, false, cond, nat_le, Option, Some, true≢false, refl, ap, sym, ◌∙◌, subst, arith, append-nil, le_refl, leb-true, leb-false}
use Rattle.std.specs.List.{AllByRecursion}
use native.Mathlib.Decide.{ℕ_discrete}
use mathlib.Core.Logic.{dite}
use mathlib.Core.List.{IsPrefix}
use mathlib.Core.Option.{some, some-injective, some-ne-none}
use lib.ListN.{get_elem?}
use Rattle.atomic_table.specs.Table.{State, opening, Final, Seen}
use Rattle.aircraft_core.specs.declared.entry.Entry.{Entry}
use Rattle.aircraft_core.specs.Aircraft.{Aircraft}
use Rattle.link_threads.specs.declared.known.Held.{Held}
use Rattle.link_threads.specs.declared.known.Known.{Known}
use Rattle.link_threads.specs.declared.known.Opening.{Opening}
use Rattle.link_threads.specs.Interleavings.{Interleaves, entries_of, entries_in}
use Rattle.link_threads.specs.Passes.{IsLonger}
use Rattle.link_threads.specs.Turns.{numbers_of, entries_held, IsOwned, Fits, total, lists_known, entries_known, IsOneJournal, first_view, longer, joined, AreBegun}
use Rattle.link_threads.specs.Seats.{IsLeft}
use Rattle.link_threads.proofs.Beginnings.{prefix_same}
use Rattle.link_threads.proofs.Views.{empty_apart, empty_owned, empty_entries, empty_length, total_two, total_alone, no_entries}
use Rattle.link_threads.proofs.Mixing.{lists_of, mixed}

off : false ≡ true → ⊥
off e = true≢false (sym e)

first_fits : (key : Opening) → Fits key.craft.value.journal [] 0 0 (λ _. 0) 0 (first_view key)
first_fits key = record {
  begun = λ opening is. prefix_same key.craft.value.journal key.craft.value.journal refl;
  seen = ([], refl);
  heard = tt;
  lists = empty_owned key.count;
  apart = empty_apart key.count;
  holder = λ on. absurd (off on);
}

-- The rule at the start.
pub starts : (key : Opening) (craft : Aircraft) (count : ℕ) → 1 ≤ key.count → key.craft.value ≡ craft → count ≡ length craft.journal → IsOneJournal key (opening (count ∷ 0 ∷ []) (Some craft ∷ []) (first_view key))
starts key craft count at_least is long = record {
  log = [];
  turn = 0;
  seat = 0;
  owner = λ _. 0;
  words = let e : count ≡ length key.craft.value.journal + 0 = omega (arith, ap (λ (c : Aircraft). length c.journal) is) in ap (λ (n : ℕ). n ∷ 0 ∷ []) e;
  each = only;
  reached = (0, first_view key, refl, sym (append-nil key.craft.value.journal), omega (arith, at_least, empty_length key.count));
  home = λ _. (craft, refl, ap (λ (c : Aircraft). c.journal) (sym is) ∙ sym (append-nil key.craft.value.journal), ap (λ (c : Aircraft). c.setting) (sym is));
  holder = λ busy. absurd (busy refl);
  lists = omega (arith, empty_length key.count);
  entries = omega (arith, empty_entries key.count);
}
  where
    only : (by : ℕ) (view : Known) → get_elem? (first_view key ∷ []) by ≡ some view → Fits key.craft.value.journal [] 0 0 (λ _. 0) by view
    only zero view at = subst (Fits key.craft.value.journal [] 0 0 (λ _. 0) 0) (some-injective _ _ at) (first_fits key)
    only (suc by) view at = absurd (some-ne-none view (sym at))

-- The lists of a seat are those of its numbers.
owned_lists : (lists : List Held) (log : List (ℕ × Entry)) (owner : ℕ → ℕ) (by : ℕ) → AllByRecursion (IsOwned log owner by) lists → entries_held lists ≡ lists_of (numbers_of lists) log
owned_lists [] log owner by owned = refl
owned_lists (held ∷ lists) log owner by owned = λ i. owned.0.0 i ∷ owned_lists lists log owner by owned.1 i

-- A seat that has all lists and not the turn knows that nobody has it.
nobody_turns : (key : Opening) (id : ℕ) (v : Known) (s : State (Option Aircraft) Known) (h : IsOneJournal key s) → get_elem? s.views id ≡ some v → v.turn ≡ false → length v.lists ≡ key.count → h.turn ≡ 0
nobody_turns key id v s h at idle all = dite (ℕ_discrete h.turn 0) (λ free. free) (λ busy.
    let held = h.holder busy in
    let hold = (h.each h.seat held.0 held.1).holder held.2 in
    let apart : id ≢ h.seat = λ same. let e : v ≡ held.0 = some-injective _ _ (sym at ∙ ap (λ n. get_elem? s.views n) same ∙ held.1) in off (sym idle ∙ ap (λ (k : Known). k.turn) e ∙ held.2) in
    absurd (omega (arith, total_two lists_known s.views id h.seat v held.0 apart at held.1, h.lists, hold.3)))

-- What the rule gives at the end.
pub closing : (key : Opening) (id : ℕ) (v : Known) (words : List ℕ) (slots : List (Option Aircraft)) → Final (Seen (IsOneJournal key) id v) words slots → v.turn ≡ false → length v.lists ≡ key.count
    → (craft : Aircraft) × (get_elem? slots 0 ≡ some (Some craft)) × IsLeft key v craft
closing key id v words slots final idle all =
    let s : State (Option Aircraft) Known = final.0 in
    let h : IsOneJournal key s = final.1.0 in
    let at : get_elem? s.views id ≡ some v = final.1.1 in
    let home = h.home (nobody_turns key id v s h at idle all) in
    let craft : Aircraft = home.0 in
    let fits = h.each id v at in
    let lists : entries_held v.lists ≡ lists_of (numbers_of v.lists) h.log = owned_lists v.lists h.log h.owner id fits.lists in
    let alone : total entries_known s.views ≡ entries_known v = total_alone lists_known entries_known (λ view none. no_entries view none) s.views id v at (h.lists ∙ sym all) in
    let many : entries_in (lists_of (numbers_of v.lists) h.log) ≡ length h.log = ap entries_in (sym lists) ∙ sym alone ∙ h.entries in (
      craft,
      final.4 0 (Some craft) home.1,
      record {
        setting = home.3;
        entered = entries_of h.log;
        journal = home.2;
        interleaved = subst (λ l. Interleaves l (entries_of h.log)) (sym lists) (mixed (numbers_of v.lists) h.log fits.apart many);
        begun = subst (λ l. IsPrefix v.seen l × AllByRecursion (λ heard. IsPrefix heard l) v.heard) (sym home.2) (fits.seen, fits.heard);
      },
    )

-- What a seat sees that has taken in a note, once it has compared the two.
pub longer_is : (v w : Known) → AreBegun (joined v w) → IsLonger v.seen w.seen (longer v.seen w.seen)
longer_is v w begun = by_case (nat_le (length v.seen) (length w.seen)) refl begun.0 begun.1.0
  where
    by_case : (b : Bool) → nat_le (length v.seen) (length w.seen) ≡ b → (length v.seen ≤ length (cond b w.seen v.seen) → IsPrefix v.seen (cond b w.seen v.seen)) → (length w.seen ≤ length (cond b w.seen v.seen) → IsPrefix w.seen (cond b w.seen v.seen))
        → IsLonger v.seen w.seen (cond b w.seen v.seen)
    by_case true is one other = record { either = inr refl; one_begins = one (leb-true _ _ is); other_begins = other (le_refl _) }
    by_case false is one other = record { either = inl refl; one_begins = one (le_refl _); other_begins = other (let far = leb-false _ _ is in omega arith) }
