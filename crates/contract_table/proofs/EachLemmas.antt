-- A loop that writes each element of a list in turn: what is done, and what is left.
use Rattle.std.proofs.Common.{◌≡◌, ℕ, ◌+◌, ◌<◌, ◌≤◌, List, [], ◌∷◌, ◌++◌, flat_map, length, get_or, set, take, drop, ap, sym, ◌∙◌, subst, arith, add-zero}
use Rattle.std.specs.List.{AllZip}
use Rattle.std.proofs.lemmas.Grind.{flat_map-append}
use Rattle.std.proofs.lemmas.List.{append_assoc, append-nil, get_or-drop, take_more, drop_more, take_more_set, drop-set-lt, take_all}
use Rattle.std.proofs.lemmas.List.Elements.{AllZip-push}

module _ {X : Type 0} (old now : List X) (i : ℕ) (rest : drop i now ≡ drop i old) where
  -- What is left is as it was.
  pub same_at : (d : X) → get_or now i d ≡ get_or old i d
  same_at d =
      ap (λ k. get_or now k d) (sym (add-zero i)) ∙ sym (get_or-drop i now 0 d)
      ∙ ap (λ xs. get_or xs 0 d) rest ∙ get_or-drop i old 0 d ∙ ap (λ k. get_or old k d) (add-zero i)

  pub rest_more : (x : X) → i < length old → i < length now → drop (i + 1) (set now i x) ≡ drop (i + 1) old
  rest_more x in_old in_now =
      drop-set-lt (i + 1) now i x (omega arith) ∙ tail (get_or now i x) (get_or old i x) (sym (drop_more now i x in_now) ∙ rest ∙ drop_more old i x in_old)
    where
      tail : (a b : X) → a ∷ drop (i + 1) now ≡ b ∷ drop (i + 1) old → drop (i + 1) now ≡ drop (i + 1) old
      tail a b same = cc

-- One more element is done.
pub done_more : {X : Type 0} (R : X → X → Type 0) (old now : List X) (i : ℕ) (x d : X) → i < length old → i < length now
    → AllZip R (take i old) (take i now) → R (get_or old i d) x
    → AllZip R (take (i + 1) old) (take (i + 1) (set now i x))
done_more R old now i x d in_old in_now done here =
    subst (λ ys. AllZip R (take (i + 1) old) ys) (sym (take_more_set now i x in_now))
    (subst (λ xs. AllZip R xs (take i now ++ x ∷ [])) (sym (take_more old i d in_old)) (AllZip-push R (take i old) (take i now) (get_or old i d) x done here))

-- What one more element gives is joined.
pub given_more : {X A : Type 0} (f : X → List A) (old : List X) (i : ℕ) (d : X) (first before after : List A) → i < length old
    → before ≡ first ++ flat_map f (take i old) → after ≡ before ++ f (get_or old i d)
    → after ≡ first ++ flat_map f (take (i + 1) old)
given_more f old i d first before after in_old so_far here =
    here
    ∙ ap (λ items. items ++ f (get_or old i d)) so_far
    ∙ append_assoc first (flat_map f (take i old)) (f (get_or old i d))
    ∙ ap (λ items. first ++ (flat_map f (take i old) ++ items)) (sym (append-nil (f (get_or old i d))))
    ∙ ap (λ items. first ++ items) (sym (flat_map-append f (take i old) (get_or old i d ∷ [])))
    ∙ ap (λ xs. first ++ flat_map f xs) (sym (take_more old i d in_old))

-- At the end all are done.
pub all_done : {X : Type 0} (R : X → X → Type 0) (old now : List X) (i : ℕ) → length old ≤ i → length now ≤ i
    → AllZip R (take i old) (take i now) → AllZip R old now
all_done R old now i out_old out_now done =
    subst (λ ys. AllZip R old ys) (take_all i now out_now) (subst (λ xs. AllZip R xs (take i now)) (take_all i old out_old) done)

pub all_given : {X A : Type 0} (f : X → List A) (old : List X) (i : ℕ) → length old ≤ i → flat_map f (take i old) ≡ flat_map f old
all_given f old i out = ap (flat_map f) (take_all i old out)
