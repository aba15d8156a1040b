-- The steps on words keep the rule: a try for the turn, the count of an entry, the end of the turn, a look.
use Rattle.std.proofs.Common.{◌≡◌, ◌≢◌, ◌==◌, ⊎_elim, ℕ, ◌+◌, ◌%◌, ◌^◌, ◌≤◌, ◌<◌, List, [], ◌∷◌, ◌++◌, length, drop, set, true, false, Some, true≢false, refl, ap, sym, ◌∙◌, subst, arith, append_assoc, length-append}
use Rattle.std.specs.Prelude.{slice_index}
use Rattle.std.specs.List.{AllByRecursion}
use Rattle.std.proofs.lemmas.List.{drop_at}
use native.Mathlib.Decide.{ℕ_discrete}
use mathlib.Core.Logic.{dite}
use mathlib.Core.List.{IsPrefix}
use mathlib.Core.Option.{some, none}
use lib.ListN.{get_elem?}
use prog.Atomic.{either}
use Rattle.atomic_table.specs.Table.{step, Allows}
use Rattle.atomic_table.specs.Table.Act.{keeps, takes, gives}
use Rattle.atomic_table.proofs.Lists.{at_set, set_here, set_again}
use Rattle.aircraft_core.specs.declared.entry.Entry.{Entry}
use Rattle.aircraft_core.specs.Aircraft.{Aircraft}
use Rattle.link_threads.specs.declared.known.Known.{Known}
use Rattle.link_threads.specs.declared.known.Opening.{Opening}
use Rattle.link_threads.specs.Interleavings.{entries_of, AreApart}
use Rattle.link_threads.specs.Turns.{IsOwned, Fits, total, lists_known, entries_known, IsOneJournal, with_turn, onto_first, counted, freed, Tries, Counts, Frees, Looks}
use Rattle.link_threads.proofs.Beginnings.{prefix_same, prefix_more, prefix_shorter}
use Rattle.link_threads.proofs.Logs.{entries_of_push, length_entries_of}
use Rattle.link_threads.proofs.Views.{within, all_weaker, total_set, first_number, numbers_onto_first, length_onto_first, entries_onto_first, first_owned, owned_other, owned_first, not_theirs}
use Rattle.link_threads.proofs.Words.{turn_is, won_words, lost_words, same_words, counted_words, freed_words}

-- A fact of each view, after one of them was set.
pub each_set : (P : ℕ → Known → Type 0) (views : List Known) (id : ℕ) (now : Known) → ((j : ℕ) (u : Known) → j ≢ id → get_elem? views j ≡ some u → P j u) → P id now
    → (j : ℕ) (u : Known) → get_elem? (set views id now) j ≡ some u → P j u
each_set P views id now others mine j u at = ⊎_elim
    (λ (here : (j ≡ id) × (now ≡ u)). subst (λ (x : ℕ × Known). P x.0 x.1) (λ i. (sym here.0 i, here.1 i)) mine)
    (λ (there : (j ≢ id) × (get_elem? views j ≡ some u)). others j u there.0 there.1)
    (at_set views id j now u at)

-- a total that doesn't change
total_kept : (count : Known → ℕ) (views : List Known) (id : ℕ) (v w : Known) (n : ℕ) → get_elem? views id ≡ some v → count w ≡ count v → total count views ≡ n → total count (set views id w) ≡ n
total_kept count views id v w n at same e = omega (arith, total_set count views id v w at)

-- A view that fits while nobody has the turn fits whoever gets it.
idle_fits : (start : List Entry) (log : List (ℕ × Entry)) (turn seat now to : ℕ) (owner : ℕ → ℕ) (by : ℕ) (u : Known) → turn ≡ 0 → Fits start log turn seat owner by u → Fits start log now to owner by u
idle_fits start log turn seat now to owner by u free fits = record {
  begun = fits.begun;
  seen = fits.seen;
  heard = fits.heard;
  lists = fits.lists;
  apart = fits.apart;
  holder = λ on. absurd (omega (arith, (fits.holder on).0));
}

-- What a seat knows that has just got the turn.
won_fits : (key : Opening) (log : List (ℕ × Entry)) (turn seat : ℕ) (owner : ℕ → ℕ) (id : ℕ) (v : Known) (craft : Aircraft) → craft.journal ≡ key.craft.value.journal ++ entries_of log → 1 ≤ length v.lists
    → Fits key.craft.value.journal log turn seat owner id v → Fits key.craft.value.journal log 1 id owner id (with_turn v craft.journal)
won_fits key log turn seat owner id v craft whole listed fits = record {
  begun = λ opening is. (entries_of log, sym whole);
  seen = prefix_same craft.journal (key.craft.value.journal ++ entries_of log) whole;
  heard = fits.heard;
  lists = fits.lists;
  apart = fits.apart;
  holder = λ _. (refl, refl, whole, listed);
}

-- A try for the turn.
pub try_moves : (key : Opening) (id : ℕ) (v : Known) → v.start ≡ Some key.craft.value → 1 ≤ length v.lists
    → Allows (IsOneJournal key) 1 id (v, []) 1 (λ n. either (n == 0) 1 n) (Tries (step 1 1 0 1 none) (v, []))
try_moves key id v opened listed s h size at below = dite (ℕ_discrete (slice_index s.words 1) 0)
    (λ free.
    let start : List Entry = key.craft.value.journal in
    let open_turn : h.turn ≡ 0 = sym (turn_is s.words _ h.turn h.words) ∙ free in
    let home = h.home open_turn in
    let craft : Aircraft = home.0 in
    let w : Known = with_turn v craft.journal in
    let mine = h.each id v at in (
      w,
      takes 0 (Some craft),
      home.1,
      record {
        log = h.log;
        turn = 1;
        seat = id;
        owner = h.owner;
        words = won_words s.words _ h.turn h.words open_turn;
        each = each_set (Fits start h.log 1 id h.owner) s.views id w
            (λ j u apart there. idle_fits start h.log h.turn h.seat 1 id h.owner j u open_turn (h.each j u there))
            (won_fits key h.log h.turn h.seat h.owner id v craft home.2 listed mine);
        reached = (id, w, set_here s.views id w (within s.views id v at), home.2, listed);
        home = λ e. absurd (omega arith);
        holder = λ _. (w, set_here s.views id w (within s.views id v at), refl);
        lists = total_kept lists_known s.views id v w key.count at refl h.lists;
        entries = total_kept entries_known s.views id v w (length h.log) at refl h.entries;
      },
      (
        λ _. record {
          craft = craft;
          setting = λ opening is. let same : key.craft.value ≡ opening = cc (opened, is) in home.3 ∙ ap (λ (o : Aircraft). o.setting) same;
          extends = subst (λ l. IsPrefix v.seen l) (sym home.2) mine.seen;
          now = refl;
        },
        λ busy. absurd (busy free),
      ),
    ))
    (λ busy. (
      v,
      keeps,
      tt,
      subst (IsOneJournal key) (λ i. record { words = sym (lost_words s.words busy) i; homes = s.homes; views = sym (set_again s.views id v at) i }) h,
      ((λ free. absurd (busy free)), (λ _. refl)),
    ))

-- A view of another seat, after the seat that has the turn has counted an entry of its own.
others_count : (start : List Entry) (log : List (ℕ × Entry)) (turn seat : ℕ) (owner : ℕ → ℕ) (id number : ℕ) (entry : Entry) (j : ℕ) (u : Known) → seat ≡ id → owner number ≡ id → j ≢ id
    → Fits start log turn seat owner j u → Fits start (log ++ (number, entry) ∷ []) 1 id owner j u
others_count start log turn seat owner id number entry j u same mine apart fits =
    let longer : start ++ entries_of (log ++ (number, entry) ∷ []) ≡ (start ++ entries_of log) ++ entry ∷ [] = ap (λ l. start ++ l) (entries_of_push log number entry) ∙ sym (append_assoc start (entries_of log) (entry ∷ [])) in
    record {
      begun = fits.begun;
      seen = subst (λ l. IsPrefix u.seen l) (sym longer) (prefix_more u.seen _ (entry ∷ []) fits.seen);
      heard = subst (λ l. AllByRecursion (λ journal. IsPrefix journal l) u.heard) (sym longer) (all_weaker _ _ (λ journal h. prefix_more journal _ (entry ∷ []) h) u.heard fits.heard);
      lists = owned_other u.lists log owner j number entry (not_theirs u.lists log owner j id number mine apart fits.lists) fits.lists;
      apart = fits.apart;
      holder = λ on. absurd (apart ((fits.holder on).1 ∙ same));
    }

-- The whole journal then.
counted_whole : (start : List Entry) (log : List (ℕ × Entry)) (number : ℕ) (entry : Entry) (seen journal : List Entry) → seen ≡ start ++ entries_of log → journal ≡ seen ++ entry ∷ []
    → journal ≡ start ++ entries_of (log ++ (number, entry) ∷ [])
counted_whole start log number entry seen journal whole is =
    is ∙ ap (λ l. l ++ entry ∷ []) whole ∙ append_assoc start (entries_of log) (entry ∷ []) ∙ ap (λ l. start ++ l) (sym (entries_of_push log number entry))

-- What the seat itself knows then.
mine_count : (start : List Entry) (log : List (ℕ × Entry)) (turn seat : ℕ) (owner : ℕ → ℕ) (id : ℕ) (entry : Entry) (v : Known) (journal : List Entry) → v.turn ≡ true → journal ≡ v.seen ++ entry ∷ []
    → Fits start log turn seat owner id v → Fits start (log ++ (first_number v.lists, entry) ∷ []) 1 id owner id (counted v journal)
mine_count start log turn seat owner id entry v journal on is fits =
    let hold = fits.holder on in
    let number : ℕ = first_number v.lists in
    let longer : start ++ entries_of (log ++ (number, entry) ∷ []) ≡ (start ++ entries_of log) ++ entry ∷ [] = ap (λ l. start ++ l) (entries_of_push log number entry) ∙ sym (append_assoc start (entries_of log) (entry ∷ [])) in
    let whole : journal ≡ start ++ entries_of (log ++ (number, entry) ∷ []) = is ∙ ap (λ l. l ++ entry ∷ []) hold.2 ∙ sym longer in
    let new : drop (length v.seen) journal ≡ entry ∷ [] = ap (λ l. drop (length v.seen) l) is ∙ drop_at v.seen (entry ∷ []) (length v.seen) refl in
    record {
      begun = λ opening is. (entries_of (log ++ (number, entry) ∷ []), sym whole);
      seen = prefix_same journal _ whole;
      heard = subst (λ l. AllByRecursion (λ journal. IsPrefix journal l) v.heard) (sym longer) (all_weaker _ _ (λ journal h. prefix_more journal _ (entry ∷ []) h) v.heard fits.heard);
      lists = subst (λ l. AllByRecursion (IsOwned (log ++ (number, entry) ∷ []) owner id) (onto_first l v.lists)) (sym new) (owned_first v.lists log owner id entry hold.3 fits.apart fits.lists);
      apart = subst AreApart (sym (numbers_onto_first (drop (length v.seen) journal) v.lists)) fits.apart;
      holder = λ _. (refl, refl, whole, subst (λ n. 1 ≤ n) (sym (length_onto_first (drop (length v.seen) journal) v.lists)) hold.3);
    }

-- The count of an entry.
pub count_moves : (key : Opening) (id : ℕ) (v : Known) (craft : Aircraft) (entry : Entry) → v.turn ≡ true → craft.journal ≡ v.seen ++ entry ∷ [] → length craft.journal < 2 ^ 64
    → Allows (IsOneJournal key) 1 id (v, (0, Some craft) ∷ []) 0 (λ n. (n + 1) % 2 ^ 64) (Counts (step 1 0 1 0 none) (v, (0, Some craft) ∷ []))
count_moves key id v craft entry on is fits s h size at below =
    let start : List Entry = key.craft.value.journal in
    let mine = h.each id v at in
    let hold = mine.holder on in
    let number : ℕ = first_number v.lists in
    let log : List (ℕ × Entry) = h.log ++ (number, entry) ∷ [] in
    let w : Known = counted v craft.journal in
    let new : drop (length v.seen) craft.journal ≡ entry ∷ [] = ap (λ l. drop (length v.seen) l) is ∙ drop_at v.seen (entry ∷ []) (length v.seen) refl in
    let longer_log : length log ≡ length h.log + 1 = length-append h.log ((number, entry) ∷ []) in
    let len : length craft.journal ≡ length start + length h.log + 1 = omega (arith, ap length is, length-append v.seen (entry ∷ []), ap length hold.2, length-append start (entries_of h.log), length_entries_of h.log) in
    let more : length start + length h.log + 1 ≡ length start + length log = omega arith in (
      w,
      keeps,
      tt,
      record {
        log = log;
        turn = 1;
        seat = id;
        owner = h.owner;
        words = counted_words s.words _ h.turn (length start + length log) h.words more (omega arith) ∙ ap (λ (t : ℕ). (length start + length log) ∷ t ∷ []) hold.0;
        each = each_set (Fits start log 1 id h.owner) s.views id w
            (λ j u apart there. others_count start h.log h.turn h.seat h.owner id number entry j u (sym hold.1) (first_owned v.lists h.log h.owner id hold.3 mine.lists) apart (h.each j u there))
            (mine_count start h.log h.turn h.seat h.owner id entry v craft.journal on is mine);
        reached = (
          id,
          w,
          set_here s.views id w (within s.views id v at),
          counted_whole start h.log number entry v.seen craft.journal hold.2 is,
          subst (λ n. 1 ≤ n) (sym (length_onto_first (drop (length v.seen) craft.journal) v.lists)) hold.3,
        );
        home = λ e. absurd (omega arith);
        holder = λ _. (w, set_here s.views id w (within s.views id v at), on);
        lists = total_kept lists_known s.views id v w key.count at (length_onto_first (drop (length v.seen) craft.journal) v.lists) h.lists;
        entries = omega (arith, total_set entries_known s.views id v w at, entries_onto_first (drop (length v.seen) craft.journal) v.lists hold.3, ap length new, h.entries, longer_log);
      },
      refl,
    )

off : false ≡ true → ⊥
off e = true≢false (sym e)

-- The end of the turn.
pub free_moves : (key : Opening) (id : ℕ) (v : Known) (craft : Aircraft) → v.turn ≡ true → craft.journal ≡ v.seen → craft.setting ≡ key.craft.value.setting
    → Allows (IsOneJournal key) 1 id (v, (0, Some craft) ∷ []) 1 (λ _. 0) (λ _. Frees (step 1 1 0 0 none) (v, (0, Some craft) ∷ []) 0)
free_moves key id v craft on is setting s h size at below =
    let start : List Entry = key.craft.value.journal in
    let mine = h.each id v at in
    let hold = mine.holder on in
    let w : Known = freed v in (
      w,
      gives,
      tt,
      record {
        log = h.log;
        turn = 0;
        seat = id;
        owner = h.owner;
        words = freed_words s.words _ h.turn h.words;
        each = each_set (Fits start h.log 0 id h.owner) s.views id w
            (λ j u apart there. let fits = h.each j u there in record { begun = fits.begun; seen = fits.seen; heard = fits.heard; lists = fits.lists; apart = fits.apart; holder = λ o. absurd (apart ((fits.holder o).1 ∙ sym hold.1)) })
            (record { begun = mine.begun; seen = mine.seen; heard = mine.heard; lists = mine.lists; apart = mine.apart; holder = λ o. absurd (off o) });
        reached = (id, w, set_here s.views id w (within s.views id v at), hold.2, hold.3);
        home = λ _. (craft, set_here s.homes 0 (some (Some craft)) (omega arith), is ∙ hold.2, setting);
        holder = λ busy. absurd (busy refl);
        lists = total_kept lists_known s.views id v w key.count at refl h.lists;
        entries = total_kept entries_known s.views id v w (length h.log) at refl h.entries;
      },
      refl,
    )

-- What was heard begins what was seen, where it is no longer.
begun : (seen journal : List Entry) (heard : List (List Entry)) → IsPrefix seen journal → AllByRecursion (λ l. IsPrefix l journal) heard → AllByRecursion (λ l. length l ≤ length seen → IsPrefix l seen) heard
begun seen journal heard whole all = all_weaker _ _ (λ l h le. prefix_shorter l seen journal h whole le) heard all

-- A look.
pub look_moves : (key : Opening) (id : ℕ) (v : Known) → Allows (IsOneJournal key) 1 id (v, []) 0 (λ n. n) (Looks (step 1 0 0 0 none) (v, []))
look_moves key id v s h size at below =
    let mine = h.each id v at in (
      v,
      keeps,
      tt,
      subst (IsOneJournal key) (λ i. record { words = sym (same_words s.words 0) i; homes = s.homes; views = sym (set_again s.views id v at) i }) h,
      (refl, begun v.seen _ v.heard mine.seen mine.heard),
    )
