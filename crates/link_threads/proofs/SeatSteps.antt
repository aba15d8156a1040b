-- The steps on seats keep the rule: a list is dealt out, a note is made, a seat is taken in.
use Rattle.std.proofs.Common.{◌≡◌, ◌≢◌, ◌==◌, ◌⊎◌, inl, inr, ⊎_elim, ℕ, zero, suc, ◌≤◌, List, [], ◌∷◌, ◌++◌, length, take, drop, set, cond, Bool, true, false, true≢false, refl, ap, sym, ◌∙◌, subst, arith, eq-eqb, ne_eqb, leb-true, leb-false, length-append}
use Rattle.std.specs.Prelude.{nat_le}
use native.Mathlib.Decide.{ℕ_discrete}
use mathlib.Core.Logic.{dite}
use Rattle.std.specs.List.{AllByRecursion}
use mathlib.Core.List.{IsPrefix}
use mathlib.Core.Option.{some, some-injective}
use lib.ListN.{get_elem?}
use Rattle.atomic_table.specs.Table.{Splits, Joins}
use Rattle.atomic_table.proofs.Lists.{at_set, set_again, set_else, set_here, at_longer}
use Rattle.aircraft_core.specs.declared.entry.Entry.{Entry}
use Rattle.link_threads.specs.declared.known.Held.{Held}
use Rattle.link_threads.specs.declared.known.Known.{Known}
use Rattle.link_threads.specs.declared.known.Opening.{Opening}
use Rattle.link_threads.specs.Interleavings.{entries_in, entries_of, AreApart}
use Rattle.link_threads.specs.Turns.{numbers_of, entries_held, IsOwned, Fits, lists_known, entries_known, IsOneJournal, IsReached, dealt, left_over, noted, longer, joined, nobody}
use Rattle.link_threads.proofs.Beginnings.{prefix_same, prefix_shorter, prefix_trans, prefix_whole}
use Rattle.link_threads.proofs.Views.{within, all_append, at_end, total_set, total_append, not_theirs, number_apart, owned_by, owned_apart, apart_append, entries_held_append, entries_split, length_split, first_number, first_owned}
use Rattle.link_threads.proofs.Logs.{entries_in_append}
use Rattle.link_threads.proofs.TurnSteps.{each_set}

off : false ≡ true → ⊥
off e = true≢false (sym e)

-- A fact of each view, after one was set and one more came.
each_more : (P : ℕ → Known → Type 0) (views : List Known) (id : ℕ) (left right : Known) → ((j : ℕ) (u : Known) → j ≢ id → get_elem? views j ≡ some u → P j u) → P id left → P (length views) right
    → (j : ℕ) (u : Known) → get_elem? (set views id left ++ right ∷ []) j ≡ some u → P j u
each_more P views id left right others mine new j u at = ⊎_elim
    (λ (there : get_elem? (set views id left) j ≡ some u). each_set P views id left others mine j u there)
    (λ (last : (j ≡ length (set views id left)) × (right ≡ u)). subst (λ (x : ℕ × Known). P x.0 x.1) (λ i. (sym (last.0 ∙ length_set views id left) i, last.1 i)) new)
    (at_end (set views id left) right u j at)
  where
    length_set : (l : List Known) (i : ℕ) (a : Known) → length (set l i a) ≡ length l
    length_set [] i a = refl
    length_set (x ∷ l) zero a = refl
    length_set (x ∷ l) (suc i) a = ap suc (length_set l i a)

-- The holder of the turn is still there.
holder_more : (views : List Known) (id seat : ℕ) (v left right u : Known) → get_elem? views id ≡ some v → v.turn ≡ false → get_elem? views seat ≡ some u → u.turn ≡ true
    → get_elem? (set views id left ++ right ∷ []) seat ≡ some u
holder_more views id seat v left right u at idle there on =
    let apart : seat ≢ id = λ same. let e : u ≡ v = some-injective u v (sym there ∙ ap (λ n. get_elem? views n) same ∙ at) in off (sym idle ∙ ap (λ (k : Known). k.turn) (sym e) ∙ on) in
    at_longer (set views id left) (right ∷ []) seat u (set_else views id seat left apart ∙ there)

-- A note is made.
pub notes : (key : Opening) (id : ℕ) (v : Known) → v.turn ≡ false → Splits (IsOneJournal key) id v v (noted v)
notes key id v idle s h at =
    let start : List Entry = key.craft.value.journal in
    let mine = h.each id v at in
    record {
      log = h.log;
      turn = h.turn;
      seat = h.seat;
      owner = h.owner;
      words = h.words;
      each = each_more (Fits start h.log h.turn h.seat h.owner) s.views id v (noted v) (λ j u apart there. h.each j u there) mine
          (record { begun = mine.begun; seen = mine.seen; heard = tt; lists = tt; apart = tt; holder = λ on. absurd (off on) });
      reached = let r = h.reached in (r.0, r.1, at_longer (set s.views id v) (noted v ∷ []) r.0 r.1 (ap (λ views. get_elem? views r.0) (set_again s.views id v at) ∙ r.2), r.3, r.4);
      home = h.home;
      holder = λ busy. let held = h.holder busy in (held.0, holder_more s.views id h.seat v v (noted v) held.0 at idle held.1 held.2, held.2);
      lists = omega (arith, total_append lists_known (set s.views id v) (noted v), total_set lists_known s.views id v v at, h.lists);
      entries = omega (arith, total_append entries_known (set s.views id v) (noted v), total_set entries_known s.views id v v at, h.entries);
    }

-- Who owns a number, once this number has gone to another seat.
abbrev given : (ℕ → ℕ) → ℕ → ℕ → ℕ → ℕ
given owner number to n = cond (n == number) to (owner n)

given_here : (owner : ℕ → ℕ) (number to n : ℕ) → n ≡ number → given owner number to n ≡ to
given_here owner number to n same = ap (λ b. cond b to (owner n)) (eq-eqb n number same)

given_else : (owner : ℕ → ℕ) (number to n by : ℕ) → number ≢ n → owner n ≡ by → given owner number to n ≡ by
given_else owner number to n by apart is = ap (λ b. cond b to (owner n)) (ne_eqb n number (λ e. apart (sym e))) ∙ is

-- The lists that were dealt out, and those that are left.
dealt_owned : (lists : List Held) (log : List (ℕ × Entry)) (owner : ℕ → ℕ) (by to : ℕ) → AllByRecursion (IsOwned log owner by) lists
    → AllByRecursion (IsOwned log (given owner (first_number lists) to) to) (take 1 lists)
dealt_owned [] log owner by to owned = tt
dealt_owned (held ∷ lists) log owner by to owned = ((owned.0.0, given_here owner held.number to held.number refl), tt)

left_owned : (lists : List Held) (log : List (ℕ × Entry)) (owner : ℕ → ℕ) (by to : ℕ) → AreApart (numbers_of lists) → AllByRecursion (IsOwned log owner by) lists
    → AllByRecursion (IsOwned log (given owner (first_number lists) to) by) (drop 1 lists)
left_owned [] log owner by to apart owned = tt
left_owned (held ∷ lists) log owner by to apart owned =
    owned_apart lists log owner (given owner held.number to) by by held.number (λ n other is. given_else owner held.number to n by other is) (number_apart held.number lists apart.0) owned.1

dealt_apart : (lists : List Held) → AreApart (numbers_of (take 1 lists))
dealt_apart [] = tt
dealt_apart (held ∷ lists) = (tt, tt)

left_apart : (lists : List Held) → AreApart (numbers_of lists) → AreApart (numbers_of (drop 1 lists))
left_apart [] apart = tt
left_apart (held ∷ lists) apart = apart.1

-- Who had seen the whole journal still has, or the seat that was dealt the list.
reached_dealt : (views : List Known) (id : ℕ) (v : Known) (journal : List Entry) → get_elem? views id ≡ some v → 1 ≤ length v.lists → IsReached journal views
    → IsReached journal (set views id (left_over v) ++ dealt v ∷ [])
reached_dealt views id v journal at listed r = dite (ℕ_discrete r.0 id)
    (λ same.
    let whole : v.seen ≡ journal = ap (λ (k : Known). k.seen) (some-injective v r.1 (sym at ∙ ap (λ n. get_elem? views n) (sym same) ∙ r.2)) ∙ r.3 in
    (length (set views id (left_over v)), dealt v, last_there (set views id (left_over v)) (dealt v), whole, one_dealt v.lists listed))
    (λ apart. (r.0, r.1, at_longer (set views id (left_over v)) (dealt v ∷ []) r.0 r.1 (set_else views id r.0 (left_over v) apart ∙ r.2), r.3, r.4))
  where
    last_there : (l : List Known) (a : Known) → get_elem? (l ++ a ∷ []) (length l) ≡ some a
    last_there [] a = refl
    last_there (x ∷ l) a = last_there l a

    one_dealt : (lists : List Held) → 1 ≤ length lists → 1 ≤ length (take 1 lists)
    one_dealt [] one = absurd (omega arith)
    one_dealt (held ∷ lists) one = omega arith

-- A list is dealt out.
pub deals : (key : Opening) (id : ℕ) (v : Known) → v.turn ≡ false → 1 ≤ length v.lists → Splits (IsOneJournal key) id v (left_over v) (dealt v)
deals key id v idle listed s h at =
    let start : List Entry = key.craft.value.journal in
    let mine = h.each id v at in
    let number : ℕ = first_number v.lists in
    let to : ℕ = length s.views in
    let owner : ℕ → ℕ = given h.owner number to in
    record {
      log = h.log;
      turn = h.turn;
      seat = h.seat;
      owner = owner;
      words = h.words;
      each = each_more (Fits start h.log h.turn h.seat owner) s.views id (left_over v) (dealt v)
          (λ j u apart there. let fits = h.each j u there in record {
            begun = fits.begun;
            seen = fits.seen;
            heard = fits.heard;
            lists = owned_apart u.lists h.log h.owner owner j j number (λ n other is. given_else h.owner number to n j other is)
                (not_theirs u.lists h.log h.owner j id number (first_owned v.lists h.log h.owner id listed mine.lists) apart fits.lists) fits.lists;
            apart = fits.apart;
            holder = fits.holder;
          })
          (record { begun = mine.begun; seen = mine.seen; heard = mine.heard; lists = left_owned v.lists h.log h.owner id to mine.apart mine.lists; apart = left_apart v.lists mine.apart; holder = λ on. absurd (off (sym idle ∙ on)) })
          (record { begun = mine.begun; seen = mine.seen; heard = tt; lists = dealt_owned v.lists h.log h.owner id to mine.lists; apart = dealt_apart v.lists; holder = λ on. absurd (off on) });
      reached = reached_dealt s.views id v (start ++ entries_of h.log) at listed h.reached;
      home = h.home;
      holder = λ busy. let held = h.holder busy in (held.0, holder_more s.views id h.seat v (left_over v) (dealt v) held.0 at idle held.1 held.2, held.2);
      lists = omega (arith, total_append lists_known (set s.views id (left_over v)) (dealt v), total_set lists_known s.views id v (left_over v) at, length_split v.lists, h.lists);
      entries = omega (arith, total_append entries_known (set s.views id (left_over v)) (dealt v), total_set entries_known s.views id v (left_over v) at, entries_split v.lists, h.entries);
    }

-- Who owns a number, once all of one seat's have gone to another.
abbrev moved : (ℕ → ℕ) → ℕ → ℕ → ℕ → ℕ
moved owner from to n = cond (owner n == from) to (owner n)

moved_theirs : (owner : ℕ → ℕ) (from to n : ℕ) → owner n ≡ from → moved owner from to n ≡ to
moved_theirs owner from to n is = ap (λ b. cond b to (owner n)) (eq-eqb (owner n) from is)

moved_else : (owner : ℕ → ℕ) (from to n by : ℕ) → by ≢ from → owner n ≡ by → moved owner from to n ≡ by
moved_else owner from to n by apart is = ap (λ b. cond b to (owner n)) (ne_eqb (owner n) from (λ e. apart (sym is ∙ e))) ∙ is

longer_begins : (one other journal : List Entry) → IsPrefix one journal → IsPrefix other journal → IsPrefix (longer one other) journal
longer_begins one other journal p q = by_case (_)
  where
    by_case : (b : Bool) → IsPrefix (cond b other one) journal
    by_case true = q
    by_case false = p

-- The longer of two beginnings of a journal extends the one, and is the journal where either is.
longer_extends : (one other journal : List Entry) → IsPrefix one journal → IsPrefix other journal → IsPrefix one (longer one other)
longer_extends one other journal p q = by_case (nat_le (length one) (length other)) refl
  where
    by_case : (b : Bool) → nat_le (length one) (length other) ≡ b → IsPrefix one (cond b other one)
    by_case true is = prefix_shorter one other journal p q (leb-true _ _ is)
    by_case false is = prefix_same one one refl

longer_whole : (one other journal : List Entry) → IsPrefix one journal → IsPrefix other journal → (one ≡ journal) ⊎ (other ≡ journal) → longer one other ≡ journal
longer_whole one other journal p q either = by_case (nat_le (length one) (length other)) refl either
  where
    by_case : (b : Bool) → nat_le (length one) (length other) ≡ b → (one ≡ journal) ⊎ (other ≡ journal) → cond b other one ≡ journal
    by_case true is (inl e) = prefix_whole other journal q (omega (arith, leb-true _ _ is, ap length e))
    by_case true is (inr e) = e
    by_case false is (inl e) = e
    by_case false is (inr e) = let far = leb-false _ _ is in prefix_whole one journal p (omega (arith, far, ap length e))

-- Who had seen the whole journal still has, or the seat that has taken it in.
reached_joined : (views : List Known) (id other : ℕ) (v w : Known) (journal : List Entry) → id ≢ other → get_elem? views id ≡ some v → get_elem? views other ≡ some w
    → IsPrefix v.seen journal → IsPrefix w.seen journal → IsReached journal views → IsReached journal (set (set views id (joined v w)) other nobody)
reached_joined views id other v w journal apart at found p q r = dite (ℕ_discrete r.0 id)
    (λ same.
    let e : r.1 ≡ v = some-injective r.1 v (sym r.2 ∙ ap (λ n. get_elem? views n) same ∙ at) in
    here (inl (sym (ap (λ (k : Known). k.seen) e) ∙ r.3)) (omega (arith, length-append w.lists v.lists, ap (λ (k : Known). length k.lists) e, r.4)))
    (λ far. dite (ℕ_discrete r.0 other)
    (λ same.
    let e : r.1 ≡ w = some-injective r.1 w (sym r.2 ∙ ap (λ n. get_elem? views n) same ∙ found) in
    here (inr (sym (ap (λ (k : Known). k.seen) e) ∙ r.3)) (omega (arith, length-append w.lists v.lists, ap (λ (k : Known). length k.lists) e, r.4)))
    (λ too. (r.0, r.1, set_else (set views id (joined v w)) other r.0 nobody too ∙ set_else views id r.0 (joined v w) far ∙ r.2, r.3, r.4)))
  where
    here : (v.seen ≡ journal) ⊎ (w.seen ≡ journal) → 1 ≤ length (w.lists ++ v.lists) → IsReached journal (set (set views id (joined v w)) other nobody)
    here either listed = (
      id,
      joined v w,
      set_else (set views id (joined v w)) other id nobody apart ∙ set_here views id (joined v w) (within views id v at),
      longer_whole v.seen w.seen journal p q either,
      listed,
    )

-- A seat is taken in.
pub joins : (key : Opening) (id other : ℕ) (v w : Known) → v.turn ≡ false → w.turn ≡ false → Joins (IsOneJournal key) id v other w (joined v w) nobody
joins key id other v w idle other_idle s h at apart there =
    let start : List Entry = key.craft.value.journal in
    let mine = h.each id v at in
    let found : get_elem? s.views other ≡ some w = ⊎_elim (λ (e : (other ≡ id) × (joined v w ≡ w)). absurd (apart e.0)) (λ (e : (other ≢ id) × (get_elem? s.views other ≡ some w)). e.1) (at_set s.views id other (joined v w) w there) in
    let theirs = h.each other w found in
    let owner : ℕ → ℕ = moved h.owner other id in
    let kept : AllByRecursion (IsOwned h.log owner id) v.lists = owned_by v.lists h.log h.owner owner id id (λ n is. moved_else h.owner other id n id (λ e. apart (sym e)) is) mine.lists in
    let came : AllByRecursion (IsOwned h.log owner id) w.lists = owned_by w.lists h.log h.owner owner other id (λ n is. moved_theirs h.owner other id n is) theirs.lists in
    let both : Fits start h.log h.turn h.seat owner id (joined v w) = record {
      begun = λ opening is. prefix_trans start v.seen (longer v.seen w.seen) (mine.begun opening is) (longer_extends v.seen w.seen _ mine.seen theirs.seen);
      seen = longer_begins v.seen w.seen _ mine.seen theirs.seen;
      heard = (mine.seen, (theirs.seen, all_append _ v.heard w.heard mine.heard theirs.heard));
      lists = all_append (IsOwned h.log owner id) w.lists v.lists came kept;
      apart = apart_append w.lists v.lists h.log h.owner other id apart theirs.lists mine.lists theirs.apart mine.apart;
      holder = λ on. absurd (off on);
    } in
    let spent : Fits start h.log h.turn h.seat owner other nobody = record { begun = λ opening is. cc; seen = (_, refl); heard = tt; lists = tt; apart = tt; holder = λ on. absurd (off on) } in
    let one = total_set lists_known s.views id v (joined v w) at in
    let two = total_set lists_known (set s.views id (joined v w)) other w nobody there in
    let first = total_set entries_known s.views id v (joined v w) at in
    let second = total_set entries_known (set s.views id (joined v w)) other w nobody there in
    record {
      log = h.log;
      turn = h.turn;
      seat = h.seat;
      owner = owner;
      words = h.words;
      each = each_set (Fits start h.log h.turn h.seat owner) (set s.views id (joined v w)) other nobody
          (λ j u far at_j. each_set (λ i x. i ≢ other → Fits start h.log h.turn h.seat owner i x) s.views id (joined v w)
          (λ i x not_id at_i not_other. let fits = h.each i x at_i in record {
            begun = fits.begun;
            seen = fits.seen;
            heard = fits.heard;
            lists = owned_by x.lists h.log h.owner owner i i (λ n is. moved_else h.owner other id n i not_other is) fits.lists;
            apart = fits.apart;
            holder = fits.holder;
          })
          (λ _. both) j u at_j far)
          spent;
      reached = reached_joined s.views id other v w (start ++ entries_of h.log) (λ e. apart (sym e)) at found mine.seen theirs.seen h.reached;
      home = h.home;
      holder = λ busy. let held = h.holder busy in (
        held.0,
        let not_id : h.seat ≢ id = λ same. let e : held.0 ≡ v = some-injective _ _ (sym held.1 ∙ ap (λ n. get_elem? s.views n) same ∙ at) in off (sym idle ∙ ap (λ (k : Known). k.turn) (sym e) ∙ held.2) in
            let not_other : h.seat ≢ other = λ same. let e : held.0 ≡ w = some-injective _ _ (sym held.1 ∙ ap (λ n. get_elem? s.views n) same ∙ found) in off (sym other_idle ∙ ap (λ (k : Known). k.turn) (sym e) ∙ held.2) in
            set_else (set s.views id (joined v w)) other h.seat nobody not_other ∙ set_else s.views id h.seat (joined v w) not_id ∙ held.1,
        held.2,
      );
      lists = omega (arith, one, two, length-append w.lists v.lists, h.lists);
      entries = omega (arith, first, second, ap entries_in (entries_held_append w.lists v.lists), entries_in_append (entries_held w.lists) (entries_held v.lists), h.entries);
    }
