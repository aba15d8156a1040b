-- One seat takes in all passes.
use Rattle.std.proofs.Common.{◌≡◌, List, [], ◌∷◌, ◌++◌, length, map, All, refl, ap, sym, ◌∙◌, subst, arith, append_assoc}
use Rattle.std.proofs.lemmas.List.{map_push}
use Rattle.std.proofs.lemmas.List.Elements.{All-push, All-nil}
use mathlib.Core.List.{IsPrefix}
use Rattle.aircraft_core.specs.declared.entry.Entry.{Entry}
use Rattle.aircraft_core.specs.Aircraft.{Aircraft}
use Rattle.link_threads.specs.declared.known.Held.{Held}
use Rattle.link_threads.specs.declared.known.Known.{Known}
use Rattle.link_threads.specs.declared.known.Opening.{Opening}
use Rattle.link_threads.specs.Passes.{SharedState, PassState, IsLeftBy}
use Rattle.link_threads.specs.Interleavings.{Interleaves}
use Rattle.link_threads.specs.Turns.{entries_held, joined}
use Rattle.link_threads.specs.Seats.{Begin, HasTakenIn, HasGathered, IsLeft}
use Rattle.link_threads.proofs.Views.{entries_held_append, all_front}

-- The first pass is taken in.
pub gathered_first : (passes left : List PassState) (pass : PassState) (view : Known) → passes ≡ left ++ pass ∷ [] → entries_held view.lists ≡ pass.mine ∷ [] → view.seen ≡ pass.seen → HasGathered passes left view
gathered_first passes left pass view is lists seen = record {
  lists = ap (map (λ (p : PassState). p.mine)) is ∙ map_push (λ (p : PassState). p.mine) left pass ∙ ap (λ l. map (λ (p : PassState). p.mine) left ++ l) (sym lists);
  seen = λ journal begin all. subst (All (λ (p : PassState). IsPrefix p.seen journal)) (sym is)
      (All-push (λ (p : PassState). IsPrefix p.seen journal) left pass all (subst (λ l. IsPrefix l journal) seen begin.0));
}

-- One more is taken in.
pub gathered_more : (passes before left : List PassState) (pass : PassState) (view now : Known) → before ≡ left ++ pass ∷ [] → HasTakenIn view pass now → HasGathered passes before view → HasGathered passes left now
gathered_more passes before left pass view now is taken h = record {
  lists =
      h.lists ∙ ap (λ l. map (λ (p : PassState). p.mine) l ++ entries_held view.lists) is
      ∙ ap (λ l. l ++ entries_held view.lists) (map_push (λ (p : PassState). p.mine) left pass)
      ∙ append_assoc (map (λ (p : PassState). p.mine) left) (pass.mine ∷ []) (entries_held view.lists)
      ∙ ap (λ l. map (λ (p : PassState). p.mine) left ++ l) (sym taken.lists);
  seen = λ journal begin all.
      let both = taken.seen journal begin in
      h.seen journal both.1 (subst (All (λ (p : PassState). IsPrefix p.seen journal)) (sym is) (All-push (λ (p : PassState). IsPrefix p.seen journal) left pass all both.0));
}

-- A seat that has taken in another.
pub takes_in : (view other now : Known) (pass : PassState) → now ≡ joined view other → entries_held other.lists ≡ pass.mine ∷ [] → other.seen ≡ pass.seen → HasTakenIn view pass now
takes_in view other now pass is lists seen = record {
  lists = ap (λ (k : Known). entries_held k.lists) is ∙ entries_held_append other.lists view.lists ∙ ap (λ l. l ++ entries_held view.lists) lists;
  seen = λ journal begin.
      let b : Begin (joined view other) journal = subst (λ (k : Known). Begin k journal) is begin in
      (subst (λ l. IsPrefix l journal) seen b.1.1.0, (b.1.0, all_front (λ (l : List Entry). IsPrefix l journal) view.heard other.heard b.1.1.1));
}

-- What is left by all passes.
pub left_by : (shared : SharedState) (key : Opening) (passes : List PassState) (view : Known) (craft : Aircraft) → shared.setting ≡ key.craft.value.setting → shared.start ≡ key.craft.value.journal
    → HasGathered passes [] view → IsLeft key view craft → IsLeftBy shared passes craft
left_by shared key passes view craft setting start gathered left = record {
  setting = left.setting ∙ sym setting;
  entered = left.entered;
  journal = left.journal ∙ ap (λ l. l ++ left.entered) (sym start);
  interleaved = subst (λ l. Interleaves l left.entered) (sym gathered.lists) left.interleaved;
  seen = gathered.seen craft.journal left.begun (All-nil (λ (p : PassState). IsPrefix p.seen craft.journal));
}

-- The seat has as many lists as there are passes.
length_held : (lists : List Held) → length (entries_held lists) ≡ length lists
length_held [] = refl
length_held (held ∷ lists) = omega (arith, length_held lists)

length_mine : (passes : List PassState) → length (map (λ (p : PassState). p.mine) passes) ≡ length passes
length_mine [] = refl
length_mine (pass ∷ passes) = omega (arith, length_mine passes)

pub gathered_length : (passes : List PassState) (view : Known) → HasGathered passes [] view → length view.lists ≡ length passes
gathered_length passes view h = omega (arith, length_held view.lists, length_mine passes, ap length h.lists)
