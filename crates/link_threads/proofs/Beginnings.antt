-- Lists that begin others.
use Rattle.std.proofs.Common.{◌≡◌, ◌≤◌, List, [], ◌∷◌, ◌++◌, length, refl, ap, sym, ◌∙◌, arith, append_assoc, append-nil, length-append}
use mathlib.Core.List.{IsPrefix}

module _ {A : Type 0} where
  -- Each list begins itself.
  pub prefix_same : (xs ys : List A) → xs ≡ ys → IsPrefix xs ys
  prefix_same xs ys same = ([], append-nil xs ∙ same)

  pub prefix_trans : (xs ys zs : List A) → IsPrefix xs ys → IsPrefix ys zs → IsPrefix xs zs
  prefix_trans xs ys zs p q = (p.0 ++ q.0, sym (append_assoc xs p.0 q.0) ∙ (ap (λ w. w ++ q.0) p.1 ∙ q.1))

  -- A list that begins one begins what extends it.
  pub prefix_more : (xs ys more : List A) → IsPrefix xs ys → IsPrefix xs (ys ++ more)
  prefix_more xs ys more p = prefix_trans xs ys (ys ++ more) p (more, refl)

  -- Of two beginnings of one list the shorter begins the longer.
  pub prefix_shorter : (xs ys zs : List A) → IsPrefix xs zs → IsPrefix ys zs → length xs ≤ length ys → IsPrefix xs ys
  prefix_shorter [] ys zs p q le = (ys, refl)
  prefix_shorter (x ∷ xs) [] zs p q le = absurd (omega arith)
  prefix_shorter (x ∷ xs) (y ∷ ys) [] p q le = absurd (cc (p.1))
  prefix_shorter (x ∷ xs) (y ∷ ys) (z ∷ zs) p q le =
      let heads : x ≡ y = cc (p.1, q.1) in
      let shorter = prefix_shorter xs ys zs (p.0, cc (p.1)) (q.0, cc (q.1)) (omega arith) in
      (shorter.0, cc (heads, shorter.1))

  -- A beginning that is as long is the whole list.
  pub prefix_whole : (xs zs : List A) → IsPrefix xs zs → length zs ≤ length xs → xs ≡ zs
  prefix_whole xs zs p le = ended p.0 (omega (arith, length-append xs p.0, ap length p.1, le)) ∙ p.1
    where
      ended : (rest : List A) → length rest ≡ 0 → xs ≡ xs ++ rest
      ended [] none = sym (append-nil xs)
      ended (x ∷ rest) none = absurd (omega arith)
